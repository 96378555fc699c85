-- What becomes of a line of a desk, and that it tells one event at most.
use Rattle.std.proofs.Common.{◌≡◌, ◌≢◌, ℕ, suc, ◌+◌, ◌<◌, ◌≤◌, ◌==◌, Bool, true, false, true≢false, List, [], ◌∷◌, ◌++◌, length, Option, Some, None, Result, Ok, Err, cond, nat_eq, eqb-true, ◌⊎◌, refl, sym, ap, ◌∙◌, subst, inl, inr, arith, flat_map, filter_map}
use Rattle.std.specs.List.{list_any, cons_option}
use Rattle.std.specs.Io.KnownBytes.{Appends, IsAtEnd}
use Rattle.mls_lattice.specs.Policy.{Policy}
use Rattle.mls_scheme.specs.Scheme.{Schemes}
use Rattle.mls_translang.specs.declared.event.Event.{Event}
use Rattle.mls_script.specs.declared.fault.ScriptFault.{ScriptFault}
use Rattle.mls_script.specs.Reading.{script_at}
use Rattle.mls_script.specs.Script.{Line, ReadsScript}
use Rattle.mls_script.proofs.LawLemmas.{script_found}
use Rattle.mls_tokens.specs.Typing.{HasNoFeed, IsNext}
use Rattle.mls_runs.specs.declared.shell_session.Fate.{Fate}
use Rattle.mls_runs.specs.declared.shell_session.Fate.TheVariants as fates
use Rattle.mls_runs.specs.Typed.{Becomes}
use Rattle.mls_runs.specs.Shell.{events_of, IsShellTurn, whole, long, cut, IsCut, IsLineRead}
use Rattle.mls_runs.proofs.TypedLemmas.{read_line, read_in_vain}
use Rattle.mls_runs.specs.Desk.{opens_other, other_name, IsDeskFate, over, said, other, refused}
use Rattle.mls_runs.specs.Reading.{fate_read, fate_of}

-- ---- what becomes of a line is found

empty : (line : List ℕ) → nat_eq (length line) 0 ≡ true → line ≡ []
empty [] h = refl
empty (x ∷ xs) h = absurd (let e = eqb-true _ _ h in omega arith)

module _ (policy : Policy) (schemes : Schemes) (line : List ℕ) where
  events_are : line ≢ [] → (events : List Event) → ReadsScript policy schemes line events → (b : Bool)
      → list_any opens_other events ≡ b
      → IsDeskFate policy schemes line (cond b (fates.Refused (other_name line)) (fates.Said events))
  events_are some events reads true h = other events some reads h refl
  events_are some events reads false h = said events some reads h refl

  read_is : line ≢ [] → (r : Result (List Event) ScriptFault) → script_at policy schemes line ≡ r
      → IsDeskFate policy schemes line (fate_read line r)
  read_is some (Ok events) e = events_are some events (script_found policy schemes line events e)
      (list_any opens_other events) refl
  read_is some (Err fault) e = refused fault some e refl

  over_is : (b : Bool) → nat_eq (length line) 0 ≡ b → (rest : Fate) → (line ≢ [] → IsDeskFate policy schemes line rest)
      → IsDeskFate policy schemes line (cond b fates.Over rest)
  over_is true e rest f = over (empty line e) refl
  over_is false e rest f = f (λ h. true≢false (sym (ap (λ l. nat_eq (length l) 0) h) ∙ e))

  pub fate_is : IsDeskFate policy schemes line (fate_of policy schemes line)
  fate_is =
      let r = script_at policy schemes line in
      over_is (nat_eq (length line) 0) refl (fate_read line r) (λ some. read_is some r refl)

  over_is_empty : (fate : Fate) → IsDeskFate policy schemes line fate → fate ≡ fates.Over → line ≡ []
  over_is_empty fate (over e f) h = e
  over_is_empty fate (said events c r n f) h = absurd (let bad : fates.Said events ≡ fates.Over = sym f ∙ h in cc)
  over_is_empty fate (other events c r n f) h = absurd (let bad : fates.Refused (other_name line) ≡ fates.Over =
      sym f ∙ h in cc)
  over_is_empty fate (refused fault c r f) h = absurd (let bad : fates.Refused fault ≡ fates.Over = sym f ∙ h in cc)

  was_read : (fate : Fate) → IsDeskFate policy schemes line fate → fate ≡ fates.Unreadable → ⊥
  was_read fate (over e f) h = let bad : fates.Over ≡ fates.Unreadable = sym f ∙ h in absurd cc
  was_read fate (said events c r n f) h = let bad : fates.Said events ≡ fates.Unreadable = sym f ∙ h in absurd cc
  was_read fate (other events c r n f) h = let bad : fates.Refused (other_name line) ≡ fates.Unreadable = sym f ∙ h
      in absurd cc
  was_read fate (refused fault c r f) h = let bad : fates.Refused fault ≡ fates.Unreadable = sym f ∙ h in absurd cc

  pub read_whole : (echo : List ℕ → List ℕ) (before after was is : Option (List ℕ)) (Broken : Type 0)
      (n : IsNext before after line) → length n.text < 1048576 → Appends was is (echo line) → (fate : Fate)
      → Becomes (fate_of policy schemes line) fate
      → IsLineRead echo (IsDeskFate policy schemes) before after was is Broken fate
  read_whole echo before after was is Broken n short w fate (inl e) =
      let found = subst (IsDeskFate policy schemes line) (sym e) fate_is in
      read_line echo (IsDeskFate policy schemes) before after was is Broken line n short w fate found
      (over_is_empty fate found) (was_read fate found)
  read_whole echo before after was is Broken n short w fate (inr e) =
      read_in_vain echo (IsDeskFate policy schemes) before after was is Broken line n w fate e

-- ---- a line tells one event at most

abbrev one_if : Bool → ℕ
one_if true = 1
one_if false = 0

abbrev feeds : List ℕ → ℕ
feeds [] = 0
feeds (b ∷ bs) = one_if (b == 10) + feeds bs

feeds-append : (xs ys : List ℕ) → feeds (xs ++ ys) ≡ feeds xs + feeds ys
feeds-append [] ys = let e : feeds ys ≡ 0 + feeds ys = omega arith in e
feeds-append (x ∷ xs) ys = by_rest (one_if (x == 10)) (feeds xs) (feeds ys) (feeds (xs ++ ys)) (feeds-append xs ys)
  where
    by_rest : (a b c t : ℕ) → t ≡ b + c → a + t ≡ (a + b) + c
    by_rest a b c t h = omega (arith, h)

no_feed : (b : ℕ) (is : Bool) → (b == 10) ≡ is → b ≢ 10 → one_if is ≡ 0
no_feed b true h n = absurd (n (eqb-true b 10 h))
no_feed b false h n = refl

feeds-none : (xs : List ℕ) → HasNoFeed xs → feeds xs ≡ 0
feeds-none [] h = refl
feeds-none (x ∷ xs) h = by_both (one_if (x == 10)) (feeds xs) (no_feed x (x == 10) refl h.0) (feeds-none xs h.1)
  where
    by_both : (a b : ℕ) → a ≡ 0 → b ≡ 0 → a + b ≡ 0
    by_both a b h k = omega (arith, h, k)

-- as many as lines at least
feeds-lines : (lines : List Line) → length lines ≤ feeds (flat_map (λ (line : Line). line.text ++ 10 ∷ []) lines)
feeds-lines [] = omega arith
feeds-lines (l ∷ ls) =
    let rest = flat_map (λ (line : Line). line.text ++ 10 ∷ []) ls in
    let more = feeds-lines ls in
    let front = feeds-append l.text (10 ∷ []) in
    let all = feeds-append (l.text ++ 10 ∷ []) rest in
    more_by (length ls) (feeds l.text) (feeds rest) (feeds (l.text ++ 10 ∷ []))
    (feeds ((l.text ++ 10 ∷ []) ++ rest)) more front all
  where
    more_by : (n a r f t : ℕ) → n ≤ r → f ≡ a + 1 → t ≡ f + r → suc n ≤ t
    more_by n a r f t h k l = omega (arith, h, k, l)

none_more : {A : Type 0} (o : Option A) (rest : List A) (n : ℕ) → length rest ≤ n → length (cons_option o rest) ≤ suc n
none_more None rest n h = omega (arith, h)
none_more (Some a) rest n h = omega (arith, h)

fewer : {X A : Type 0} (f : X → Option A) (xs : List X) → length (filter_map f xs) ≤ length xs
fewer f [] = omega arith
fewer f (x ∷ xs) = none_more (f x) (filter_map f xs) (length xs) (fewer f xs)

one_feed : (before after : Option (List ℕ)) (line : List ℕ) → IsNext before after line → feeds line ≤ 1
one_feed before after line n = by_end n.whole
  where
    none : feeds n.text ≡ 0
    none = feeds-none n.text n.one

    with_feed : (a t : ℕ) → a ≡ 0 → t ≡ a + 1 → t ≤ 1
    with_feed a t h k = omega (arith, h, k)

    without : (a t : ℕ) → a ≡ 0 → t ≡ a → t ≤ 1
    without a t h k = omega (arith, h, k)

    by_end : (line ≡ n.text ++ 10 ∷ []) ⊎ ((line ≡ n.text) × IsAtEnd after) → feeds line ≤ 1
    by_end (inl h) = with_feed (feeds n.text) (feeds line) none (ap feeds h ∙ feeds-append n.text (10 ∷ []))
    by_end (inr h) = without (feeds n.text) (feeds line) none (ap feeds h.0)

one_told : (policy : Policy) (schemes : Schemes) (line : List ℕ) (events : List Event) → feeds line ≤ 1
    → ReadsScript policy schemes line events → length events ≤ 1
one_told policy schemes line events few r =
    least (length events) (length (filter_map (λ (line : Line). line.event) r.lines)) (length r.lines)
    (feeds (flat_map (λ (line : Line). line.text ++ 10 ∷ []) r.lines)) (feeds line)
    (ap length r.told) (fewer (λ (line : Line). line.event) r.lines) (feeds-lines r.lines) (ap feeds r.text) few
  where
    least : (n m l f t : ℕ) → n ≡ m → m ≤ l → l ≤ f → t ≡ f → t ≤ 1 → n ≤ 1
    least n m l f t a b c d e = omega (arith, a, b, c, d, e)

fate_one : (policy : Policy) (schemes : Schemes) (line : List ℕ) (fate : Fate) → feeds line ≤ 1
    → IsDeskFate policy schemes line fate → length (events_of fate) ≤ 1
fate_one policy schemes line fate few (over e f) = subst (λ (x : Fate). length (events_of x) ≤ 1) (sym f) (omega arith)
fate_one policy schemes line fate few (said events c r n f) = subst (λ (x : Fate). length (events_of x) ≤ 1) (sym f)
    (one_told policy schemes line events few r)
fate_one policy schemes line fate few (other events c r n f) = subst (λ (x : Fate). length (events_of x) ≤ 1) (sym f)
    (omega arith)
fate_one policy schemes line fate few (refused fault c r f) = subst (λ (x : Fate). length (events_of x) ≤ 1) (sym f)
    (omega arith)

cut_one : (fate : Fate) → IsCut fate → length (events_of fate) ≤ 1
cut_one fates.Unreadable h = omega arith
cut_one (fates.Lost cause) h = omega arith
cut_one _ h = absurd h

-- of a line that is read one event is told at most
pub one_event : (echo : List ℕ → List ℕ) (policy : Policy) (schemes : Schemes) (before after was is : Option (List ℕ))
    (Broken : Type 0) (fate : Fate)
    → IsLineRead echo (IsDeskFate policy schemes) before after was is Broken fate → length (events_of fate) ≤ 1
one_event echo policy schemes before after was is Broken fate h = subst (λ (x : Fate). length (events_of x) ≤ 1) h.same
    (of_turn h.is_turn)
  where
    of_turn : IsShellTurn echo (IsDeskFate policy schemes) before after h.turn → length (events_of h.turn.fate) ≤ 1
    of_turn (whole n s e f) = fate_one policy schemes h.turn.line h.turn.fate (one_feed before after h.turn.line n) f
    of_turn (long l e f) = subst (λ (x : Fate). length (events_of x) ≤ 1) (sym f) (omega arith)
    of_turn (cut line rest r e c) = cut_one h.turn.fate c
