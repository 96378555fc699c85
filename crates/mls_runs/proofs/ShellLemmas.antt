-- Shells: events, lines and what is told of them, one after another.
use Rattle.std.proofs.Common.{◌≡◌, ℕ, zero, suc, ◌+◌, ◌-◌, ◌≤◌, Bool, true, false, true≢false, cond, not, ◌||◌, List, [], ◌∷◌, ◌++◌, length, take, drop, Option, Result, Ok, Err, IfOk, ◌⊎◌, inl, inr, refl, sym, ap, ◌∙◌, subst, append_assoc, append-nil, arith, filter, flat_map, length-append, take-append-drop}
use Rattle.std.specs.List.{AllByRecursion, list_any}
use Rattle.std.specs.Io.KnownBytes.{Appends}
use Rattle.std.proofs.KnownBytes.{Appends-nil, Appends-trans}
use Rattle.std.proofs.lemmas.Grind.{flat_map-append}
use Rattle.std.proofs.lemmas.List.Elements.{filter-append}
use Rattle.std.proofs.lemmas.List.Folds.{list_any-append}
use Rattle.std.proofs.Math.Seq.{take-append-add, take-append_seam}
use Rattle.mls_translang.specs.declared.event.Event.{Event}
use Rattle.mls_machine.specs.declared.form.Form.{Form}
use Rattle.mls_machine.specs.declared.form.Audience.{Audience}
use Rattle.mls_certcheck.specs.Site.{Site, site_labels}
use Rattle.mls_machine.specs.Machine.{World, step, end_of}
use Rattle.mls_machine.specs.Output.{reply_lines_in, run_lines, printed}
use Rattle.mls_machine.specs.Observation.{heard, run_shows}
use Rattle.mls_machine.proofs.LineLemmas.{printed-append, nothing_heard}
use Rattle.mls_translang.specs.declared.run_fault.RunFault.{RunFault}
use Rattle.mls_sessions.specs.Run.{are_done, IsWhole, IsStopped, IsFaultOf, printed_to, world_after}
use Rattle.mls_host.specs.declared.errors.Errors.{Errors}
use Rattle.mls_host.specs.declared.telling.Tally.{Tally}
use Rattle.mls_host.specs.Hosting.{IsTold}
use Rattle.mls_host.proofs.HostingLemmas.{told_more}
use Rattle.mls_runs.specs.declared.shell_session.ShellSession.{ShellSession}
use Rattle.mls_runs.specs.declared.shell_session.Fate.{Fate}
use Rattle.mls_runs.specs.declared.shell_session.Fate.TheVariants as fates
use Rattle.mls_runs.specs.declared.tally.Verdict.{Verdict}
use Rattle.mls_runs.specs.declared.tally.Verdict.TheVariants as verdicts
use Rattle.mls_runs.specs.Tally.{tally_with}
use Rattle.mls_runs.specs.Explaining.{Explaining, IsExplained, IsTextOf}
use Rattle.mls_runs.specs.Shell.{Turn, MayTell, IsShellTurn, IsShellFate, whole, long, cut, events_of, events_in, opening, audience_at, is_open, is_last, is_failed, verdict_of, says, is_refused, is_misunderstood, tally, prompt_of, told_of, told_from, AreTold, PipesAreToldNoMore, answers, dialogue, after_opening, transcript, shown_to, AreTurns, verdicts_in, tally_of, IsSilent, IsAnswered}

-- ---- events

module _ (site : Site) where
  pub end_of-append : (w : World) (es fs : List Event) → end_of site w (es ++ fs) ≡ end_of site (end_of site w es) fs
  unfolding end_of
  end_of-append w [] fs = refl
  end_of-append w (e ∷ es) fs = end_of-append (step site w e).world es fs

  run_lines-append : (form : Form) (w : World) (es fs : List Event) → run_lines form site w (es ++ fs)
      ≡ run_lines form site w es ++ run_lines form site (end_of site w es) fs
  unfolding end_of run_lines
  run_lines-append form w [] fs = refl
  run_lines-append form w (e ∷ es) fs =
      let first = reply_lines_in form site e (step site w e).reply in
      ap (λ l. first ++ l) (run_lines-append form (step site w e).world es fs) ∙ sym (append_assoc first _ _)

  module _ (audience : Audience) where
    -- what is printed of events
    abbrev prints : World → List Event → List ℕ
    prints w es = run_shows site audience w es

    pub prints-append : (w : World) (es fs : List Event) → prints w (es ++ fs) ≡ prints w es
        ++ prints (end_of site w es) fs
    prints-append w es fs =
        ap (λ l. printed (heard (site_labels site) audience.reader l)) (run_lines-append audience.form w es fs)
        ∙ printed-append (site_labels site) audience.reader (run_lines audience.form site w es)
        (run_lines audience.form site (end_of site w es) fs)

    -- the first events, and the others
    prints-split : (w : World) (es : List Event) (n : ℕ) → printed_to site audience w es n
        ++ prints (end_of site w (take n es)) (drop n es) ≡ prints w es
    prints-split w es n = sym (prints-append w (take n es) (drop n es)) ∙ ap (prints w) (take-append-drop n es)

    -- whether all are answered or not, a first part of what they print is written
    pub first_part : (w : World) (es : List Event) (was is : Option (List ℕ)) (new : World)
        (end : Result (Unit {0}) RunFault) → IsAnswered site audience w es was is new end
        → (part rest : List ℕ) × Appends was is part × (part ++ rest ≡ prints w es)
    first_part w es was is new (Ok u) h = (prints w es, [], h.whole.bytes, append-nil (prints w es))
    first_part w es was is new (Err f) h =
        let k = h.stopped in
        let front = printed_to site audience w es (f.event - 1) ++ k.part in
        let tail = prints (end_of site w (take f.event es)) (drop f.event es) in (
          front,
          k.rest ++ tail,
          k.bytes,
          sym (append_assoc front k.rest tail) ∙ ap (λ l. l ++ tail) k.reply
              ∙ prints-split w es f.event,
        )

    pub prints-none : (w : World) → prints w [] ≡ []
    unfolding run_lines
    prints-none w = nothing_heard (site_labels site) audience.reader

    pub nothing_done : (w : World) (a : Option (List ℕ)) → IsWhole site audience w [] a a w
    unfolding end_of
    nothing_done w a = record { bytes = subst (Appends a a) (sym (prints-none w)) (Appends-nil a); world = refl }

    -- events that are answered behind others
    module _ (w : World) (es fs : List Event) (a b c : Option (List ℕ)) (first : Appends a b (prints w es))
        (new : World) where
      pub whole_more : IsWhole site audience (end_of site w es) fs b c new → IsWhole site audience w (es ++ fs) a c new
      whole_more h = record {
        bytes = subst (Appends a c) (sym (prints-append w es fs)) (Appends-trans a b c (prints w es)
            (prints (end_of site w es) fs) first h.bytes);
        world = h.world ∙ sym (end_of-append w es fs);
      }

      to_more : (n : ℕ) → printed_to site audience w (es ++ fs) (length es + n) ≡ prints w es
          ++ printed_to site audience (end_of site w es) fs n
      to_more n = ap (prints w) (take-append-add es fs n) ∙ prints-append w es (take n fs)

      at_more : (n : ℕ) → world_after site (end_of site w es) fs n ≡ world_after site w (es ++ fs) (length es + n)
      at_more n = sym (ap (end_of site w) (take-append-add es fs n) ∙ end_of-append w es (take n fs))

      module _ (f : RunFault) (is : IsFaultOf fs f) where
        less : length es + (f.event - 1) ≡ (length es + f.event) - 1
        less = let some = is.first in omega arith

        left : (done : Bool) → new ≡ world_after site (end_of site w es) fs (cond done f.event (f.event - 1))
            → new ≡ world_after site w (es ++ fs) (cond done (length es + f.event) ((length es + f.event) - 1))
        left true h = h ∙ at_more f.event
        left false h = h ∙ at_more (f.event - 1) ∙ ap (world_after site w (es ++ fs)) less

        pub stopped_more : IsStopped site audience (end_of site w es) fs b c new f
            → IsStopped site audience w (es ++ fs) a c new (record {
              event = length es + f.event;
              cause = f.cause;
              done = f.done;
            })
        stopped_more h =
            let inner = printed_to site audience (end_of site w es) fs (f.event - 1) in
            let front : printed_to site audience w (es ++ fs) ((length es + f.event) - 1) ++ h.part ≡ prints w es
            ++ (inner ++ h.part) =
            ap (λ n. printed_to site audience w (es ++ fs) n ++ h.part) (sym less) ∙ ap (λ l. l ++ h.part)
            (to_more (f.event - 1)) ∙ append_assoc (prints w es) inner h.part in
            record {
              part = h.part;
              rest = h.rest;
              bytes = subst (Appends a c) (sym front) (Appends-trans a b c (prints w es)
                  (inner ++ h.part) first h.bytes);
              reply = ap (λ l. l ++ h.rest) front ∙ append_assoc (prints w es) (inner ++ h.part) h.rest
                  ∙ ap (λ l. prints w es ++ l) h.reply ∙ sym (to_more f.event);
              none = h.none;
              world = left f.done h.world;
            }

        pub fault_more : IsFaultOf (es ++ fs) (record { event = length es + f.event; cause = f.cause; done = f.done })
        fault_more = record {
          first = let some = is.first in omega arith;
          last = let most = is.last in subst (λ n. length es + f.event ≤ n) (sym (length-append es fs)) (omega arith);
          write = is.write;
        }

-- ---- lists

flat-snoc : {X A : Type 0} (f : X → List A) (xs : List X) (x : X) → flat_map f (xs ++ x ∷ []) ≡ flat_map f xs ++ f x
flat-snoc f xs x = flat_map-append f xs (x ∷ []) ∙ ap (λ l. flat_map f xs ++ l) (append-nil (f x))

or_false : (b : Bool) → (b || false) ≡ b
or_false true = refl
or_false false = refl

pub any-snoc : {X : Type 0} (p : X → Bool) (xs : List X) (x : X) → list_any p (xs ++ x ∷ []) ≡ (list_any p xs || p x)
any-snoc p xs x = list_any-append p xs (x ∷ []) ∙ ap (λ b. list_any p xs || b) (or_false (p x))

pub length-snoc : {X : Type 0} (xs : List X) (x : X) → length (xs ++ x ∷ []) ≡ length xs + 1
length-snoc xs x = length-append xs (x ∷ [])

take_all : {X : Type 0} (xs : List X) → take (length xs) xs ≡ xs
take_all [] = refl
take_all (x ∷ xs) = ap (λ l. x ∷ l) (take_all xs)

pub or_none : (a b : Bool) → (a || b) ≡ false → (a ≡ false) × (b ≡ false)
or_none true b h = absurd (true≢false h)
or_none false b h = (refl, h)

nil_front : (xs ys : List ℕ) → xs ++ ys ≡ [] → xs ≡ []
nil_front [] ys h = refl
nil_front (x ∷ xs) ys h = absurd cc

-- ---- turns

pub events-snoc : (ts : List Turn) (t : Turn) → events_in (ts ++ t ∷ []) ≡ events_in ts ++ events_of t.fate
events-snoc ts t = flat-snoc (λ (t : Turn). events_of t.fate) ts t

module _ (x : Explaining) (site : Site) (session : ShellSession) where
  pub told-snoc : (w : World) (n : ℕ) (ts : List Turn) (t : Turn) (text more : List ℕ) → (session.is_watched ≡ false
      → more ≡ []) → (more ≡ []) ⊎ MayTell x site session (end_of site w (events_in ts)) t more
      → AreTold x site session w n ts text → AreTold x site session w n (ts ++ t ∷ [])
      (text ++ (prompt_of session ++ (told_of session (n + length ts) t.fate ++ more)))
  unfolding AreTold end_of
  told-snoc w n [] t text more none may h = record {
    more = more;
    none = none;
    may = may;
    leads = ([], ap (λ l. l ++ here (n + 0)) h ∙ ap here same ∙ sym (append-nil (here n)), refl);
  }
    where
      here : ℕ → List ℕ
      here k = prompt_of session ++ (told_of session k t.fate ++ more)

      same : n + 0 ≡ n
      same = omega arith
  told-snoc w n (a ∷ ts) t text more none may h =
      let (rest, is, are) = h.leads in
      let v = end_of site w (events_of a.fate) in
      let moved = subst (λ u. (more ≡ []) ⊎ MayTell x site session u t more) (end_of-append site w (events_of a.fate)
      (events_in ts)) may in
      record {
        more = h.more;
        none = h.none;
        may = h.may;
        leads = (
          rest ++ here (n + suc (length ts)),
          ap (λ l. l ++ here (n + suc (length ts))) is ∙ append_assoc (prompt_of session ++ (told_of session n a.fate
              ++ h.more)) rest (here (n + suc (length ts))),
          subst (λ (k : ℕ). AreTold x site session v (n + 1) (ts ++ t ∷ []) (rest ++ here k)) same
              (told-snoc v (n + 1) ts t rest more none moved are),
        );
      }
    where
      here : ℕ → List ℕ
      here k = prompt_of session ++ (told_of session k t.fate ++ more)

      same : n + 1 + length ts ≡ n + suc (length ts)
      same = omega arith

pub pipes_told : (x : Explaining) → PipesAreToldNoMore x
unfolding told_from AreTold
pipes_told x site session w n [] text off h = h
pipes_told x site session w n (t ∷ ts) text off h =
    let (rest, is, are) = h.leads in
    is ∙ ap (λ more. (prompt_of session ++ (told_of session n t.fate ++ more)) ++ rest) (h.none off)
    ∙ ap (λ own. (prompt_of session ++ own) ++ rest) (append-nil (told_of session n t.fate))
    ∙ ap (λ more. (prompt_of session ++ told_of session n t.fate) ++ more) (pipes_told x site session
    (end_of site w (events_of t.fate)) (n + 1) ts rest off are)

-- ---- more that is told

-- the text that there is may be told
pub explained_as : {S F : Type 0} (bytes : S → List ℕ) (r : Result S F) (b : Bool) (Says May Then : List ℕ → Type 0)
    → ((text : List ℕ) → Says text → May text) → IfOk r (λ text. Says (bytes text))
    → IsExplained b (IsTextOf bytes r) Then → IsExplained b May Then
explained_as {S} {F} bytes r b Says May Then f h k = record {
  more = k.more;
  none = k.none;
  may = told r h k.may;
  leads = k.leads;
}
  where
    told : (r : Result S F) → IfOk r (λ text. Says (bytes text)) → (k.more ≡ []) ⊎ IsTextOf bytes r k.more
        → (k.more ≡ []) ⊎ May k.more
    told r h (inl none) = inl none
    told (Ok text) h (inr same) = inr (subst May (sym same) (f (bytes text) h))
    told (Err fault) h (inr same) = absurd same

module _ {E : Type 0} (contents : E → Option (List ℕ)) (session : ShellSession) (a b : Errors E) (text : List ℕ)
    (May : List ℕ → Type 0) (h : IsTold contents a b text) where
  pub said_more : (c : Errors E) → IsExplained session.is_watched May (IsTold contents b c)
      → IsExplained session.is_watched May (λ more. IsTold contents a c (text ++ more))
  said_more c k = record {
    more = k.more;
    none = k.none;
    may = k.may;
    leads =
        told_more contents a b c text k.more h k.leads;
  }

  pub said_once : IsExplained session.is_watched May (λ more. IsTold contents a b (text ++ more))
  said_once = record {
    more = [];
    none = λ off. refl;
    may = inl refl;
    leads = subst (IsTold contents a b)
        (sym (append-nil text)) h;
  }

-- ---- last lines, and those that were not read

failed_is_last : (fate : Fate) → is_last fate ≡ false → is_failed fate ≡ false
failed_is_last fates.Unreadable h = h
failed_is_last _ h = refl

failed_is : (fate : Fate) → is_failed fate ≡ true → fate ≡ fates.Unreadable
failed_is fates.Unreadable h = refl
failed_is _ h = absurd (true≢false (sym h))

pub none_failed : (ts : List Turn) → list_any (λ (t : Turn). is_last t.fate) ts ≡ false
    → list_any (λ (t : Turn). is_failed t.fate) ts ≡ false
none_failed [] h = refl
none_failed (t ∷ ts) h =
    let none = or_none (is_last t.fate) (list_any (λ (t : Turn). is_last t.fate) ts) h in
    ap (λ b. b || list_any (λ (t : Turn). is_failed t.fate) ts) (failed_is_last t.fate none.0) ∙ none_failed ts none.1

-- of lines of which none but one behind them was not read
pub failed_there : (ts : List Turn) (t : Turn) → list_any (λ (t : Turn). is_last t.fate) ts ≡ false
    → list_any (λ (t : Turn). is_failed t.fate) (ts ++ t ∷ []) ≡ true → t.fate ≡ fates.Unreadable
failed_there ts t none h =
    failed_is t.fate (sym (any-snoc (λ (t : Turn). is_failed t.fate) ts t ∙ ap (λ b. b || is_failed t.fate)
    (none_failed ts none)) ∙ h)

-- ---- what is counted of lines

count-snoc : {X : Type 0} (p : X → Bool) (xs : List X) (x : X) → length (filter p (xs ++ x ∷ []))
    ≡ length (filter p xs) + length (filter p (x ∷ []))
count-snoc p xs x = ap length (filter-append p xs (x ∷ [])) ∙ length-append (filter p xs) (filter p (x ∷ []))

plus_none : (n : ℕ) → n + 0 ≡ n
plus_none n = omega arith

one_more : (t : Tally) (v : Verdict)
    → record {
      lines = t.lines + length (filter says (v ∷ []));
      refused = t.refused + length
          (filter is_refused (v ∷ []));
      misunderstood = t.misunderstood + length (filter is_misunderstood (v ∷ []));
    }
    ≡ tally_with t v
one_more t verdicts.Silent = λ i. record {
  lines = plus_none t.lines i;
  refused = plus_none t.refused i;
  misunderstood =
      plus_none t.misunderstood i;
}
one_more t verdicts.Done = λ i. record {
  lines = t.lines + 1;
  refused = plus_none t.refused i;
  misunderstood =
      plus_none t.misunderstood i;
}
one_more t verdicts.Refused = λ i. record {
  lines = t.lines + 1;
  refused = t.refused + 1;
  misunderstood =
      plus_none t.misunderstood i;
}
one_more t verdicts.Misunderstood = λ i. record {
  lines = t.lines + 1;
  refused = plus_none t.refused i;
  misunderstood =
      t.misunderstood + 1;
}

counted : (vs : List Verdict) (v : Verdict) → tally (vs ++ v ∷ []) ≡ tally_with (tally vs) v
counted vs v = (λ i. record {
  lines = count-snoc says vs v i;
  refused = count-snoc is_refused vs v i;
  misunderstood =
      count-snoc is_misunderstood vs v i;
}) ∙ one_more (tally vs) v

-- each count is one of so many lines
pub record AreFew (t : Tally) (n : ℕ) : Type 0 where
  pub lines : t.lines ≤ n
  pub refused : t.refused ≤ n
  pub misunderstood : t.misunderstood ≤ n

at_most : {a b : ℕ} → a ≤ b → a ≤ b + 1
at_most k = omega arith

one_each : {a b : ℕ} → a ≤ b → a + 1 ≤ b + 1
one_each k = omega arith

pub few_more : (t : Tally) (n : ℕ) (v : Verdict) → AreFew t n → AreFew (tally_with t v) (n + 1)
few_more t n verdicts.Silent h = record {
  lines = at_most h.lines;
  refused = at_most h.refused;
  misunderstood =
      at_most h.misunderstood;
}
few_more t n verdicts.Done h = record {
  lines = one_each h.lines;
  refused = at_most h.refused;
  misunderstood =
      at_most h.misunderstood;
}
few_more t n verdicts.Refused h = record {
  lines = one_each h.lines;
  refused = one_each h.refused;
  misunderstood =
      at_most h.misunderstood;
}
few_more t n verdicts.Misunderstood h = record {
  lines = one_each h.lines;
  refused = at_most h.refused;
  misunderstood =
      one_each h.misunderstood;
}

module _ (site : Site) (session : ShellSession) where
  answers-append : (w : World) (es fs : List Event) → answers site session w (es ++ fs) ≡ answers site session w es
      ++ answers site session (end_of site w es) fs
  answers-append w es fs = prints-append site (audience_at session) w es fs

  dialogue-snoc : (w : World) (ts : List Turn) (t : Turn)
      → dialogue site session w (ts ++ t ∷ []) ≡ dialogue site session w ts
      ++ (t.shown ++ answers site session (end_of site w (events_in ts)) (events_of t.fate))
  unfolding dialogue end_of
  dialogue-snoc w [] t = append-nil (t.shown ++ answers site session w (events_of t.fate))
  dialogue-snoc w (x ∷ ts) t =
      let here = x.shown ++ answers site session w (events_of x.fate) in
      let v = end_of site w (events_of x.fate) in
      ap (λ l. here ++ l) (dialogue-snoc v ts t
      ∙ ap (λ u. dialogue site session v ts ++ (t.shown ++ answers site session u (events_of t.fate)))
      (sym (end_of-append site w (events_of x.fate) (events_in ts))))
      ∙ sym (append_assoc here _ _)

  verdicts-snoc : (w : World) (ts : List Turn) (t : Turn)
      → verdicts_in site session w (ts ++ t ∷ []) ≡ verdicts_in site session w ts ++ verdict_of
      (are_done site (end_of site w (events_in ts)) (events_of t.fate)) t.fate ∷ []
  unfolding verdicts_in end_of
  verdicts-snoc w [] t = refl
  verdicts-snoc w (x ∷ ts) t =
      let v = end_of site w (events_of x.fate) in
      ap (λ vs. verdict_of (are_done site w (events_of x.fate)) x.fate ∷ vs) (verdicts-snoc v ts t
      ∙ ap (λ u. verdicts_in site session v ts ++ verdict_of (are_done site u (events_of t.fate)) t.fate ∷ [])
      (sym (end_of-append site w (events_of x.fate) (events_in ts))))

  -- ---- from the opening on

  module _ (w : World) where
    abbrev first : World
    first = after_opening site session w

    pub world_is : (ts : List Turn) → end_of site w (opening session ∷ events_in ts) ≡ end_of site first (events_in ts)
    world_is ts = end_of-append site w (opening session ∷ []) (events_in ts)

    pub world-snoc : (ts : List Turn) (t : Turn) → end_of site (end_of site w (opening session ∷ events_in ts))
        (events_of t.fate) ≡ end_of site w (opening session ∷ events_in (ts ++ t ∷ []))
    world-snoc ts t = sym (ap (λ es. end_of site w (opening session ∷ es)) (events-snoc ts t) ∙ end_of-append site w
        (opening session ∷ events_in ts) (events_of t.fate))

    pub transcript-snoc : (ts : List Turn) (t : Turn)
        → transcript site session w (ts ++ t ∷ []) ≡ transcript site session w ts
        ++ (t.shown ++ answers site session (end_of site w (opening session ∷ events_in ts)) (events_of t.fate))
    transcript-snoc ts t =
        let opened = answers site session w (opening session ∷ []) in
        ap (λ l. opened ++ l) (dialogue-snoc first ts t ∙ ap (λ u. dialogue site session first ts
        ++ (t.shown ++ answers site session u (events_of t.fate))) (sym (world_is ts)))
        ∙ sym (append_assoc opened (dialogue site session first ts) _)

    -- ---- what is shown before a line, and by it

    pub shown_before : (ts : List Turn) (t : Turn) (line : ℕ) → line ≡ length (ts ++ t ∷ [])
        → shown_to site session w (ts ++ t ∷ []) line ≡ transcript site session w ts
    shown_before ts t line e =
        ap (shown_to site session w (ts ++ t ∷ [])) (e ∙ more) ∙ ap (transcript site session w)
        (take-append_seam ts (t ∷ []))
      where
        more : length (ts ++ t ∷ []) ≡ suc (length ts)
        more = let m = length-snoc ts t in omega arith

    pub shown_behind : (ts : List Turn) (line : ℕ) → line ≡ length ts → shown_to site session w ts (suc line)
        ≡ transcript site session w ts
    shown_behind ts line e = ap (λ n. transcript site session w (take n ts)) e ∙ ap (transcript site session w)
        (take_all ts)

    dialogue_front : (v : World) (n : ℕ) (ts : List Turn) → (more : List ℕ) × (dialogue site session v (take n ts)
        ++ more ≡ dialogue site session v ts)
    unfolding dialogue
    dialogue_front v zero ts = (dialogue site session v ts, refl)
    dialogue_front v (suc n) [] = ([], refl)
    dialogue_front v (suc n) (t ∷ ts) =
        let here = t.shown ++ answers site session v (events_of t.fate) in
        let left = dialogue_front (end_of site v (events_of t.fate)) n ts in
        (left.0, append_assoc here _ left.0 ∙ ap (λ l. here ++ l) left.1)

    -- what is shown from a line on
    pub shown_from : (ts : List Turn) (n : ℕ) → (more : List ℕ) × (shown_to site session w ts n ++ more
        ≡ transcript site session w ts)
    shown_from ts zero = (transcript site session w ts, refl)
    shown_from ts (suc n) =
        let opened = answers site session w (opening session ∷ []) in
        let left = dialogue_front first n ts in
        (left.0, append_assoc opened _ left.0 ∙ ap (λ l. opened ++ l) left.1)

    -- ---- a line more

    module _ (echo : List ℕ → List ℕ) where
      turns-snoc-at : (v : World) (a b c : Option (List ℕ)) (ts : List Turn) (t : Turn)
          → AreTurns echo site session v a b ts → list_any (λ (t : Turn). is_last t.fate) ts ≡ false
          → is_open session (end_of site v (events_in ts)) ≡ true
          → IsShellTurn echo (IsShellFate site.policy site.schemes session) b c t → AreTurns echo site session v a c
          (ts ++ t ∷ [])
      unfolding AreTurns end_of
      turns-snoc-at v a b c [] t h l o n = (
        c,
        o,
        subst (λ x. IsShellTurn echo (IsShellFate site.policy site.schemes session) x c t) (sym h) n,
        (λ e. absurd (e refl)),
        refl,
      )
      turns-snoc-at v a b c (x ∷ ts) t h l o n =
          let (left, opened, turn, on, more) = h in
          let none = or_none (is_last x.fate) (list_any (λ (t : Turn). is_last t.fate) ts) l in (
            left,
            opened,
            turn,
            (λ e. none.0),
            turns-snoc-at (end_of site v (events_of x.fate)) left b c ts t more none.1
                (subst (λ u. is_open session u ≡ true) (end_of-append site v (events_of x.fate) (events_in ts)) o) n,
          )

      pub turns-snoc : (a b c : Option (List ℕ)) (ts : List Turn) (t : Turn) → AreTurns echo site session first a b ts
          → list_any (λ (t : Turn). is_last t.fate) ts ≡ false
          → is_open session (end_of site w (opening session ∷ events_in ts)) ≡ true
          → IsShellTurn echo (IsShellFate site.policy site.schemes session) b c t
          → AreTurns echo site session first a c (ts ++ t ∷ [])
      turns-snoc a b c ts t h l o n = turns-snoc-at first a b c ts t h l (subst (λ u. is_open session u ≡ true)
          (world_is ts) o) n

    pub tally-snoc : (ts : List Turn) (t : Turn)
        → tally_of site session w (ts ++ t ∷ []) ≡ tally_with (tally_of site session w ts)
        (verdict_of (are_done site (end_of site w (opening session ∷ events_in ts)) (events_of t.fate)) t.fate)
    tally-snoc ts t =
        ap tally (verdicts-snoc first ts t ∙ ap (λ u. verdicts_in site session first ts ++ verdict_of
        (are_done site u (events_of t.fate)) t.fate ∷ []) (sym (world_is ts)))
        ∙ counted (verdicts_in site session first ts) _

  -- ---- where nothing is shown

  quiet : (w : World) (ts : List Turn) → AllByRecursion (λ (t : Turn). t.shown ≡ []) ts → dialogue site session w ts
      ≡ answers site session w (events_in ts)
  unfolding dialogue
  quiet w [] h = sym (prints-none site (audience_at session) w)
  quiet w (x ∷ ts) h =
      let v = end_of site w (events_of x.fate) in
      ap (λ l. (l ++ answers site session w (events_of x.fate)) ++ dialogue site session v ts) h.0
      ∙ ap (λ l. answers site session w (events_of x.fate) ++ l) (quiet v ts h.1)
      ∙ sym (answers-append w (events_of x.fate) (events_in ts))

  pub silent_turn : (echo : List ℕ → List ℕ) (IsFateOf : List ℕ → Fate → Type 0) (a b : Option (List ℕ)) (t : Turn)
      → IsSilent echo → IsShellTurn echo IsFateOf a b t → t.shown ≡ []
  silent_turn echo IsFateOf a b t silent (whole n s e f) = e ∙ silent t.line
  silent_turn echo IsFateOf a b t silent (long l e f) = e
  silent_turn echo IsFateOf a b t silent (cut line rest r e c) = nil_front t.shown rest (e ∙ silent line)

  quiet_turns : (echo : List ℕ → List ℕ) → IsSilent echo → (w : World) (a b : Option (List ℕ)) (ts : List Turn)
      → AreTurns echo site session w a b ts → AllByRecursion (λ (t : Turn). t.shown ≡ []) ts
  unfolding AreTurns
  quiet_turns echo silent w a b [] h = tt
  quiet_turns echo silent w a b (t ∷ ts) h =
      let (left, opened, turn, on, more) = h in (
        silent_turn echo (IsShellFate site.policy site.schemes session) a left t silent turn,
        quiet_turns echo silent (end_of site w (events_of t.fate)) left b ts more,
      )

  -- the lines are those of a run
  pub silent_lines : (echo : List ℕ → List ℕ) (w : World) (a b : Option (List ℕ)) (ts : List Turn) → IsSilent echo
      → AreTurns echo site session (after_opening site session w) a b ts
      → transcript site session w ts ≡ answers site session w (opening session ∷ events_in ts)
  silent_lines echo w a b ts silent lines =
      ap (λ l. answers site session w (opening session ∷ []) ++ l) (quiet (after_opening site session w) ts
      (quiet_turns echo silent (after_opening site session w) a b ts lines))
      ∙ sym (answers-append w (opening session ∷ []) (events_in ts))
