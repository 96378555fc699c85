-- Faults of the form stay where more stands behind them, and none stands before them.
use Rattle.std.proofs.Common.{◌≡◌, ℕ, zero, suc, ◌+◌, ◌<◌, ◌≤◌, Bool, true, false, List, [], ◌∷◌, ◌++◌, length, Option, Some, None, Result, Ok, Err, refl, sym, ap, ◌∙◌, subst, arith, append-nil, Contains, inl, inr, if◌then◌else◌}
use Rattle.mls_lattice.specs.Policy.{Policy}
use Rattle.mls_lattice.specs.Reading.{◌>>=◌}
use Rattle.mls_scheme.specs.Scheme.{Schemes}
use Rattle.mls_tokens.specs.declared.fault.TokenCause.TheVariants.{Expected}
use Rattle.mls_tokens.specs.declared.token.Placed.{Placed}
use Rattle.mls_tokens.specs.Scanning.{tokens_at, without_places}
use Rattle.mls_tokens.specs.Passing.{left}
use Rattle.mls_tokens.proofs.TokensLemmas.{texts_once}
use Rattle.mls_translang.specs.declared.event.Event.{Event}
use Rattle.mls_translang.specs.Tells.{TellsEach}
use Rattle.mls_translang.specs.Tx.{Tx}
use Rattle.mls_parser.specs.declared.fault.PlacedFault.{PlacedFault}
use Rattle.mls_parser.specs.declared.fault.TextCause.{TextCause}
use Rattle.mls_parser.specs.declared.fault.TextCause.TheVariants as texts
use Rattle.mls_parser.specs.Fault.{least, in_text}
use Rattle.mls_parser.specs.Laws.{Under}
use Rattle.mls_parser.specs.Noted.{State, Read}
use Rattle.mls_parser.specs.Parsing.{answer, judged, noted, parsed, placed_in}
use Rattle.mls_parser.specs.ReadTx.{transactions_at, tx_of}
use Rattle.mls_parser.proofs.LawLemmas.{never_told}
use Rattle.mls_parser.proofs.LeastLemmas.{answered_least, refused_least}
use Rattle.mls_script.specs.declared.fault.ScriptCause.{ScriptCause}
use Rattle.mls_script.specs.declared.fault.ScriptCause.TheVariants as scripts
use Rattle.mls_script.specs.Fault.{line_fault, script_cause, on_line}
use Rattle.mls_script.specs.Reading.{placed_on, told_at, line_at}
use Rattle.mls_faults.specs.Faults.{BeginsWith, AreBefore, is_of_names, IsIllFormed, FaultsOfFormStay, FaultsOfFormTellNone, FaultsOfFormComeFirst, IsIllFormedLine, FaultsOfLinesStay, FaultsOfLinesComeFirst}
use Rattle.mls_faults.proofs.LayoutLemmas.{laid_as}
use Rattle.mls_faults.proofs.PlaceLemmas.{Rise, all_rise, all_below, rise_behind, tokens_rise}
use Rattle.mls_faults.proofs.ReadsLemmas.{DomainOf, EndsFrom, AreOfNames, NotesNames, Two, one, two, Agree, Reads}
use Rattle.mls_faults.proofs.ScriptReads.{reads_told}
use Rattle.mls_faults.proofs.TxReads.{reads_transactions}

one_of : (fs : List PlacedFault) (f : PlacedFault) → AreOfNames fs → Contains fs f → is_of_names f.cause ≡ true
one_of [] f h (k, lt, e) = absurd (omega (arith, lt))
one_of (g ∷ gs) f h (zero, lt, e) = subst (λ (x : PlacedFault). is_of_names x.cause ≡ true) e h.0
one_of (g ∷ gs) f h (suc k, lt, e) = one_of gs f h.1 (k, omega (arith, lt), e)

same_fault : {X : Type 0} (r : Read X) (f g : PlacedFault) → r ≡ Err f → r ≡ Err g → f ≡ g
same_fault r f g a b = cc

-- no tokens, and nothing behind them
nothing : Two
nothing = record {
  first = [];
  second = [];
  stop = record { at = 0; cause = Expected };
  other = record { at = 0; cause = Expected };
  bound = 0;
  from = record { placed = tt; stop = omega arith };
}

-- ---- what is read of the tokens of texts

module _ {X : Type 0} (r : State → Read X) (reads : (k : Two) → Reads k r) where
  abbrev read_of : List ℕ → Read X
  read_of bytes = r ([], tokens_at bytes)

  names_read : (bytes : List ℕ) → NotesNames (read_of bytes)
  names_read bytes = (reads nothing).names ([], tokens_at bytes) tt

  -- of tokens that stand in a text
  read_as : (bytes : List ℕ) (ps : List Placed) → (tokens_at bytes).placed ≡ ps → read_of bytes
      ≡ r ([], left ps (tokens_at bytes).stop)
  read_as bytes ps is = ap (λ l. r ([], left l (tokens_at bytes).stop)) is

  stays : (bytes other : List ℕ) (ps : List Placed) (p : Placed) (f : PlacedFault) → read_of bytes ≡ Err f
      → f.at ≤ p.at → BeginsWith (ps ++ p ∷ []) bytes → BeginsWith (ps ++ p ∷ []) other → read_of other ≡ Err f
  stays bytes other ps p f e before begins also =
      let us = ps ++ p ∷ [] in
      let stop = (tokens_at bytes).stop in
      let rise : Rise 0 (us ++ begins.0) stop.at = subst (λ l. Rise 0 l stop.at) begins.1 (tokens_rise bytes) in
      let behind = all_rise (suc p.at) begins.0 stop.at (rise_behind 0 ps p begins.0 stop.at rise) in
      let k : Two = record {
        first = begins.0;
        second = also.0;
        stop = stop;
        other = (tokens_at other).stop;
        bound = suc p.at;
        from = record { placed = behind.0; stop = behind.1 };
      } in
      read_as other (us ++ also.0) also.1 ∙ by_case k us (sym (read_as bytes (us ++ begins.0) begins.1) ∙ e)
      (omega (arith, before)) ((reads k).local [] us)
    where
      by_case : (k : Two) (us : List Placed) → r (one k [] us) ≡ Err f → f.at < k.bound
          → Agree k us (r (one k [] us)) (r (two k [] us)) → r (two k [] us) ≡ Err f
      by_case k us here less (inl same) = same.second
          ∙ ap (λ x. Err x) (same_fault (r (one k [] us)) same.fault f same.first here)
      by_case k us here less (inr (inl g)) = absurd (let a = g.first in cc)
      by_case k us here less (inr (inr late)) = absurd (let e : k.bound ≤ f.at =
          subst (λ (z : Read X). EndsFrom k.bound z) here late in omega (arith, e, less))

  ends : (bytes other : List ℕ) (f g : PlacedFault) → read_of bytes ≡ Err f → read_of other ≡ Err g
      → BeginsWith (tokens_at other).placed bytes → AreBefore f.at (tokens_at other).placed
      → AreBefore g.at (tokens_at other).placed
  ends bytes other f g e d begins all =
      let us = (tokens_at other).placed in
      let stop = (tokens_at other).stop in
      let k : Two = record {
        first = [];
        second = begins.0;
        stop = stop;
        other = (tokens_at bytes).stop;
        bound = stop.at;
        from = record { placed = tt; stop = omega arith };
      } in
      by_case k us (λ n le. all_below 0 us stop.at n le (tokens_rise other)) all
      (sym (read_as other (us ++ []) (sym (append-nil us))) ∙ d)
      (sym (read_as bytes (us ++ begins.0) begins.1) ∙ e) ((reads k).local [] us)
    where
      by_case : (k : Two) (us : List Placed) → ((n : ℕ) → k.bound ≤ n → AreBefore n us) → AreBefore f.at us
          → r (one k [] us) ≡ Err g → r (two k [] us) ≡ Err f → Agree k us (r (one k [] us)) (r (two k [] us))
          → AreBefore g.at us
      by_case k us below all a b (inl same) =
          let is : f ≡ g = same_fault (r (two k [] us)) f same.fault b same.second
          ∙ same_fault (r (one k [] us)) same.fault g same.first a in
          subst (λ (x : PlacedFault). AreBefore x.at us) is all
      by_case k us below all a b (inr (inl go)) = absurd (let x = go.first in cc)
      by_case k us below all a b (inr (inr late)) = below g.at (subst (λ (z : Read X). EndsFrom k.bound z) a late)

-- ---- texts of transactions

-- a transaction as it is read
abbrev Draft : Type 0
Draft = DomainOf tx_of

module _ (policy : Policy) (schemes : Schemes) where
  reads_texts : (k : Two) → Reads k (transactions_at policy schemes)
  reads_texts k = reads_transactions k policy schemes

  -- a fault of the form is that of the reader
  by_form : (bytes : List ℕ) (f : PlacedFault) (r : Read (List Draft)) → noted policy schemes bytes ≡ r
      → IsIllFormed policy schemes bytes f → r ≡ Err f
  unfolding parsed
  by_form bytes f (Err g) is h =
      let same : Path (Result (List Tx) PlacedFault) (Err g) (Err f) = ap judged (sym is) ∙ h.refused in cc
  by_form bytes f (Ok x) is h =
      let all : AreOfNames x.1.0 = subst (λ (r : Read (List Draft)). NotesNames r) is
      (names_read (transactions_at policy schemes) reads_texts bytes) in
      let least = refused_least policy schemes bytes x is f h.refused in
      absurd (let yes = one_of x.1.0 f all least.one in let no = h.form in cc)

  form_is : (bytes : List ℕ) (f : PlacedFault) → IsIllFormed policy schemes bytes f → noted policy schemes bytes ≡ Err f
  form_is bytes f h = by_form bytes f (noted policy schemes bytes) refl h

  is_form : (bytes : List ℕ) (f : PlacedFault) → is_of_names f.cause ≡ false → noted policy schemes bytes ≡ Err f
      → IsIllFormed policy schemes bytes f
  unfolding parsed
  is_form bytes f form e = record { refused = ap judged e; form = form }

pub faults_stay : Under FaultsOfFormStay
faults_stay policy schemes p s bytes other ps last f h before begins also =
    let again = is_form policy schemes other f h.form (stays (transactions_at policy schemes)
    (reads_texts policy schemes) bytes other ps last f (form_is policy schemes bytes f h) before begins also) in
    (again, never_told policy schemes p s other (in_text other f) (ap (placed_in other) again.refused))

pub faults_tell_none : Under FaultsOfFormTellNone
faults_tell_none policy schemes p s bytes other ps last us f h before begins tokens txs told =
    let ts = without_places (ps ++ last ∷ []) ++ us in
    let same : ts ≡ told.tokens = texts_once other ts told.tokens tokens told.text in
    let as' = laid_as bytes other ps last us begins tokens in
    (faults_stay policy schemes p s bytes as'.text ps last f h before begins as'.begins).1 txs (record {
      tokens = ts;
      text = as'.tokens;
      told = subst (TellsEach policy schemes txs) (sym same) told.told;
      each = told.each;
      read = told.read;
    })

pub faults_come_first : Under FaultsOfFormComeFirst
faults_come_first policy schemes p s bytes other f g h m begins all =
    ends (transactions_at policy schemes) (reads_texts policy schemes) bytes other f g
    (form_is policy schemes bytes f h) (form_is policy schemes other g m) begins all

-- ---- lines

-- a cause of a fault of names or kinds, or of a line with no end
abbrev is_no_form : ScriptCause → Bool
is_no_form scripts.UnknownName = true
is_no_form scripts.Kind = true
is_no_form scripts.Repeated = true
is_no_form scripts.Unterminated = true
is_no_form _ = false

as_no_form : (c : TextCause) → is_of_names c ≡ true → is_no_form (script_cause c) ≡ true
as_no_form texts.UnknownName h = refl
as_no_form texts.Kind h = refl
as_no_form texts.Repeated h = refl
as_no_form texts.LabelOrder h = refl
as_no_form _ h = absurd cc

as_form : (c : TextCause) → is_of_names c ≡ false → is_no_form (script_cause c) ≡ false
as_form texts.Token h = refl
as_form texts.Expected h = refl
as_form texts.Depth h = refl
as_form texts.TooLong h = refl
as_form texts.Memory h = refl
as_form _ h = absurd cc

module _ (policy : Policy) (schemes : Schemes) where
  reads_lines : (k : Two) → Reads k (told_at policy schemes)
  reads_lines k = reads_told k policy schemes

  abbrev told : List ℕ → Read (Option Event)
  told line = told_at policy schemes ([], tokens_at line)

  -- the fault of the reader
  record IsOfReader (line : List ℕ) (f : PlacedFault) : Type 0 where
    fault : PlacedFault
    read : told line ≡ Err fault
    is : on_line fault ≡ on_line f

  module _ (line : List ℕ) (f : PlacedFault) (form : is_of_names f.cause ≡ false) where
    by_least : (x : Option Event × State) → AreOfNames x.1.0 → (o : Option PlacedFault) → least x.1.0 ≡ o
        → placed_on (answer o x.0) ≡ Err (on_line f) → ⊥
    by_least x all None is e = cc
    by_least x all (Some g) is e =
        let same : on_line g ≡ on_line f = cc in
        let a : answer (least x.1.0) x.0 ≡ Err g = ap (λ o. answer o x.0) is in
        let yes = as_no_form g.cause (one_of x.1.0 g all (answered_least x.1.0 x.0 g a).one) in
        let no = as_form f.cause form in
        let causes = ap (λ z. is_no_form z.cause) same in cc

    by_end : (ended : Bool) (x : Option Event × State) → AreOfNames x.1.0
        → (if ended then placed_on (answer (least x.1.0) x.0) else Err
        (line_fault (length line + 1) scripts.Unterminated))
        ≡ Err (on_line f) → ⊥
    by_end true x all e = by_least x all (least x.1.0) refl e
    by_end false x all e =
        let same : line_fault (length line + 1) scripts.Unterminated ≡ on_line f = cc in
        let no = as_form f.cause form in
        let causes = ap (λ z. is_no_form z.cause) same in cc

    by_reader : (ended : Bool) (r : Read (Option Event)) → told line ≡ r → NotesNames r
        → (placed_on r >>= λ x. if ended then placed_on (answer (least x.1.0) x.0)
        else Err (line_fault (length line + 1) scripts.Unterminated)) ≡ Err (on_line f) → IsOfReader line f
    by_reader ended (Err g) is all e =
        let same : on_line g ≡ on_line f = cc in record { fault = g; read = is; is = same }
    by_reader ended (Ok x) is all e = absurd (by_end ended x all e)

  of_reader : (line : List ℕ) (ended : Bool) (f : PlacedFault) → IsIllFormedLine policy schemes line ended f
      → IsOfReader line f
  unfolding line_at
  of_reader line ended f h = by_reader line f h.form ended (told line) refl
      (names_read (told_at policy schemes) reads_lines line) h.refused

  is_line : (line : List ℕ) (ended : Bool) (f : PlacedFault) → is_of_names f.cause ≡ false → IsOfReader line f
      → IsIllFormedLine policy schemes line ended f
  unfolding line_at
  is_line line ended f form h = record {
    refused = ap (λ (r : Read (Option Event)). placed_on r >>= λ x. if ended then placed_on (answer (least x.1.0) x.0)
        else Err (line_fault (length line + 1) scripts.Unterminated)) h.read ∙ ap (λ x. Err x) h.is;
    form = form;
  }

pub lines_stay : (policy : Policy) (schemes : Schemes) → FaultsOfLinesStay policy schemes
lines_stay policy schemes line other ended also ps p f h before begins again =
    let r = of_reader policy schemes line ended f h in
    let at : r.fault.at ≡ f.at = ap (λ z. z.at) r.is in
    is_line policy schemes other also f h.form (record {
      fault = r.fault;
      read = stays (told_at policy schemes) (reads_lines policy schemes) line other ps p r.fault r.read
          (omega (arith, at, before)) begins again;
      is = r.is;
    })

pub lines_come_first : (policy : Policy) (schemes : Schemes) → FaultsOfLinesComeFirst policy schemes
lines_come_first policy schemes line other ended also f g h m begins all =
    let r = of_reader policy schemes line ended f h in
    let q = of_reader policy schemes other also g m in
    let us = (tokens_at other).placed in
    let at : f.at ≡ r.fault.at = sym (ap (λ z. z.at) r.is) in
    let end : q.fault.at ≡ g.at = ap (λ z. z.at) q.is in
    subst (λ n. AreBefore n us) end (ends (told_at policy schemes) (reads_lines policy schemes) line other r.fault
    q.fault r.read q.read begins (subst (λ n. AreBefore n us) at all))
