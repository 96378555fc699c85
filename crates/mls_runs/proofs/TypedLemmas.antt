-- What becomes of a typed line.
use Rattle.std.proofs.Common.{◌≡◌, ◌≢◌, ℕ, ◌<◌, Bool, true, false, true≢false, List, [], ◌∷◌, ◌++◌, length, Option, Result, Ok, Err, cond, nat_eq, eqb-true, codes, ◌⊎◌, refl, sym, ap, ◌∙◌, subst, inl, inr, append-nil, arith, bytes_eq}
use Rattle.std.specs.List.{list_all}
use Rattle.std.proofs.lemmas.Slice.Eq.{bytes_eq-Decides}
use Rattle.std.specs.Io.KnownBytes.{Appends, IsAtEnd}
use Rattle.mls_lattice.specs.Policy.{Policy, IsPolicy}
use Rattle.mls_scheme.specs.Scheme.{Schemes, AreSchemes}
use Rattle.mls_translang.specs.declared.event.Event.{Event}
use Rattle.mls_script.specs.declared.fault.ScriptFault.{ScriptFault}
use Rattle.mls_script.specs.Reading.{script_at}
use Rattle.mls_script.specs.Script.{ReadsScript}
use Rattle.mls_script.proofs.LawLemmas.{script_found}
use Rattle.mls_script.proofs.TellingLemmas.{script_again}
use Rattle.mls_translang.specs.declared.run_fault.RunCause.{RunCause}
use Rattle.mls_translang.specs.declared.run_fault.RunCause.TheVariants.{Memory}
use Rattle.mls_tokens.specs.Typing.{IsNext, IsLong, IsLost}
use Rattle.mls_runs.specs.declared.shell_session.ShellSession.{ShellSession}
use Rattle.mls_runs.specs.declared.shell_session.Fate.{Fate}
use Rattle.mls_runs.specs.declared.shell_session.Fate.TheVariants as fates
use Rattle.mls_runs.specs.Explaining.{heard_of}
use Rattle.mls_runs.specs.Typed.{fate_of_fault, fate_read, fate_of, Becomes}
use Rattle.mls_runs.specs.Shell.{prefix_of, is_own, is_asked, meant, IsCommand, IsShellFate, over, help, asked, said, blank, refused, is_lost, IsCut, whole, long, cut, IsLineRead}

pub lost_read : (cause : RunCause) → fates.Lost cause ≡ fates.Unreadable → ⊥
lost_read cause h = absurd cc

no_line : (text : List ℕ) → [] ≡ text ++ 10 ∷ [] → ⊥
no_line [] h = absurd cc
no_line (x ∷ xs) h = absurd cc

-- what is told of events is no end, and was read
some_events : (b : Bool) (events : List Event) (fault : ScriptFault) → cond b (fates.Said events) (fates.Refused fault)
    ≡ fates.Over → ⊥
some_events true events fault h = absurd cc
some_events false events fault h = absurd cc

read_events : (b : Bool) (events : List Event) (fault : ScriptFault) → cond b (fates.Said events) (fates.Refused fault)
    ≡ fates.Unreadable → ⊥
read_events true events fault h = absurd cc
read_events false events fault h = absurd cc

heard_events : (b : Bool) (events : List Event) (fault : ScriptFault) (line : List ℕ)
    → heard_of (cond b (fates.Said events) (fates.Refused fault)) line ≡ line
heard_events true events fault line = refl
heard_events false events fault line = refl

empty : (line : List ℕ) → nat_eq (length line) 0 ≡ true → line ≡ []
empty [] h = refl
empty (x ∷ xs) h = absurd (let e = eqb-true _ _ h in omega arith)

-- ---- a line is read, whatever is to become of it

module _ (echo : List ℕ → List ℕ) (IsFateOf : List ℕ → Fate → Type 0) (before after was is : Option (List ℕ))
    (Broken : Type 0) where
  at_end : (line : List ℕ) → IsNext before after line → line ≡ [] → IsAtEnd after
  at_end line n e = ends n.whole
    where
      ends : (line ≡ n.text ++ 10 ∷ []) ⊎ ((line ≡ n.text) × IsAtEnd after) → IsAtEnd after
      ends (inl h) = absurd (no_line n.text (sym e ∙ h))
      ends (inr h) = h.1

  -- it is understood
  pub read_line : (line : List ℕ) (n : IsNext before after line) → length n.text < 1048576 → Appends was is (echo line)
      → (fate : Fate) → IsFateOf line fate → (fate ≡ fates.Over → line ≡ []) → (fate ≡ fates.Unreadable → ⊥)
      → IsLineRead echo IsFateOf before after was is Broken fate
  read_line line n short w fate is none read = record {
    turn = record { line = line; shown = echo line; fate = fate };
    is_turn = whole n short refl is;
    same = refl;
    shown = w;
    over = λ o. at_end line n (none o);
    broken = λ u. absurd (read u);
  }

  -- there is no memory to understand it
  pub read_in_vain : (line : List ℕ) → IsNext before after line → Appends was is (echo line) → (fate : Fate)
      → fate ≡ fates.Lost Memory → IsLineRead echo IsFateOf before after was is Broken fate
  read_in_vain line n w fate e = record {
    turn = record { line = line; shown = echo line; fate = fate };
    is_turn = cut line [] n.read (append-nil (echo line)) (subst IsCut (sym e) (λ is. cc));
    same = refl;
    shown = w;
    over = λ o. let bad : fates.Lost Memory ≡ fates.Over = sym e ∙ o in absurd cc;
    broken = λ u. let bad : fates.Lost Memory ≡ fates.Unreadable = sym e ∙ u in absurd cc;
  }

  pub read_long : (line : List ℕ) → IsLong before after line → Appends was is []
      → IsLineRead echo IsFateOf before after was is Broken fates.TooLong
  read_long line l w = record {
    turn = record { line = line; shown = []; fate = fates.TooLong };
    is_turn = long l refl refl;
    same = refl;
    shown = w;
    over = λ o. let bad : fates.TooLong ≡ fates.Over = o in absurd cc;
    broken = λ u. let bad : fates.TooLong ≡ fates.Unreadable = u in absurd cc;
  }

  pub read_lost : (fate : Fate) → IsCut fate → (fate ≡ fates.Unreadable → Broken) → IsLost echo before after was is
      → IsLineRead echo IsFateOf before after was is Broken fate
  read_lost fate c b l = record {
    turn = record { line = l.bytes; shown = l.shown; fate = fate };
    is_turn = cut l.line l.rest l.read l.part c;
    same = refl;
    shown = l.written;
    over = λ o. absurd (subst IsCut o c);
    broken = b;
  }

module _ (policy : Policy) (schemes : Schemes) (session : ShellSession) where
  -- ---- what becomes of a line is found

  module _ (is_policy : IsPolicy policy) (are_schemes : AreSchemes schemes) (line : List ℕ) where
    none_other : (bytes : List ℕ) (events : List Event) (r : Result (List Event) ScriptFault)
        → script_at policy schemes bytes ≡ r → ReadsScript policy schemes bytes events → Ok events ≡ r
    none_other bytes events r e h = sym (script_again policy schemes is_policy are_schemes bytes events h) ∙ e

    fault_is : (fault : ScriptFault) → IsCommand session line → script_at policy schemes (prefix_of session
        ++ meant session line) ≡ Err fault → (alone : Result (List Event) ScriptFault)
        → script_at policy schemes (meant session line) ≡ alone → IsShellFate policy schemes session line
        (fate_of_fault fault alone)
    fault_is fault command e (Ok []) a =
        blank command (λ events h. let bad = none_other (prefix_of session ++ meant session line) events (Err fault) e h
        in absurd cc) (script_found policy schemes (meant session line) [] a) refl
    fault_is fault command e (Ok (x ∷ xs)) a = refused fault command e (λ h. let bad =
        none_other (meant session line) [] (Ok (x ∷ xs)) a h in absurd cc) refl
    fault_is fault command e (Err other) a = refused fault command e (λ h. let bad = none_other (meant session line) []
        (Err other) a h in absurd cc) refl

    read_is : IsCommand session line → (r : Result (List Event) ScriptFault)
        → script_at policy schemes (prefix_of session ++ meant session line) ≡ r
        → IsShellFate policy schemes session line (fate_read policy schemes session (meant session line) r)
    read_is command (Ok events) e = said events command (script_found policy schemes (prefix_of session
        ++ meant session line) events e) refl
    read_is command (Err fault) e = fault_is fault command e (script_at policy schemes (meant session line)) refl

    asked_is : (b : Bool) → is_asked session line ≡ b → (rest : Fate) → (is_asked session line ≡ false
        → IsShellFate policy schemes session line rest) → IsShellFate policy schemes session line
        (cond b fates.Asked rest)
    asked_is true e rest f = asked e refl
    asked_is false e rest f = f e

    help_is : (b : Bool) → bytes_eq line (codes "help\n") ≡ b → (rest : Fate)
        → (line ≢ codes "help\n" → IsShellFate policy schemes session line rest)
        → IsShellFate policy schemes session line (cond b fates.Help rest)
    help_is true e rest f = help ((bytes_eq-Decides line (codes "help\n")).0 e) refl
    help_is false e rest f = f (λ h. true≢false (sym ((bytes_eq-Decides line (codes "help\n")).1 h) ∙ e))

    over_is : (b : Bool) → nat_eq (length line) 0 ≡ b → (rest : Fate)
        → (line ≢ [] → IsShellFate policy schemes session line rest) → IsShellFate policy schemes session line
        (cond b fates.Over rest)
    over_is true e rest f = over (empty line e) refl
    over_is false e rest f = f (λ h. true≢false (sym (ap (λ l. nat_eq (length l) 0) h) ∙ e))

    pub fate_is : IsShellFate policy schemes session line (fate_of policy schemes session line)
    fate_is =
        let r = script_at policy schemes (prefix_of session ++ meant session line) in
        let read = fate_read policy schemes session (meant session line) r in
        let more = cond (is_asked session line) fates.Asked read in
        over_is (nat_eq (length line) 0) refl (cond (bytes_eq line (codes "help\n")) fates.Help more)
        (λ some. help_is (bytes_eq line (codes "help\n")) refl more (λ other. asked_is (is_asked session line) refl read
        (λ none. read_is (some, other, none) r refl)))

  over_is_empty : (line : List ℕ) (fate : Fate) → IsShellFate policy schemes session line fate → fate ≡ fates.Over
      → line ≡ []
  over_is_empty line fate (over e f) h = e
  over_is_empty line fate (help e f) h = absurd (let bad : fates.Help ≡ fates.Over = sym f ∙ h in cc)
  over_is_empty line fate (asked e f) h = absurd (let bad : fates.Asked ≡ fates.Over = sym f ∙ h in cc)
  over_is_empty line fate (said events c r f) h = absurd (some_events (list_all (is_own session) events) events _
      (sym f ∙ h))
  over_is_empty line fate (blank c n r f) h = absurd (let bad : fates.Blank ≡ fates.Over = sym f ∙ h in cc)
  over_is_empty line fate (refused fault c r n f) h = absurd (let bad : fates.Refused fault ≡ fates.Over = sym f ∙ h
      in cc)

  was_read : (line : List ℕ) (fate : Fate) → IsShellFate policy schemes session line fate → fate ≡ fates.Unreadable → ⊥
  was_read line fate (over e f) h = let bad : fates.Over ≡ fates.Unreadable = sym f ∙ h in absurd cc
  was_read line fate (help e f) h = let bad : fates.Help ≡ fates.Unreadable = sym f ∙ h in absurd cc
  was_read line fate (asked e f) h = let bad : fates.Asked ≡ fates.Unreadable = sym f ∙ h in absurd cc
  was_read line fate (said events c r f) h = read_events (list_all (is_own session) events) events _ (sym f ∙ h)
  was_read line fate (blank c n r f) h = let bad : fates.Blank ≡ fates.Unreadable = sym f ∙ h in absurd cc
  was_read line fate (refused fault c r n f) h = let bad : fates.Refused fault ≡ fates.Unreadable = sym f ∙ h
      in absurd cc

  -- it is known whole
  heard_all : (line : List ℕ) (fate : Fate) → IsShellFate policy schemes session line fate → heard_of fate line ≡ line
  heard_all line fate (over e f) = ap (λ x. heard_of x line) f
  heard_all line fate (help e f) = ap (λ x. heard_of x line) f
  heard_all line fate (asked e f) = ap (λ x. heard_of x line) f
  heard_all line fate (said events c r f) = ap (λ x. heard_of x line) f ∙ heard_events
      (list_all (is_own session) events) events _ line
  heard_all line fate (blank c n r f) = ap (λ x. heard_of x line) f
  heard_all line fate (refused fault c r n f) = ap (λ x. heard_of x line) f

  module _ (echo : List ℕ → List ℕ) (before after was is_now : Option (List ℕ)) (Broken : Type 0) where
    pub read_whole : IsPolicy policy → AreSchemes schemes → (line : List ℕ) (n : IsNext before after line)
        → length n.text < 1048576 → Appends was is_now (echo line) → (fate : Fate)
        → Becomes (fate_of policy schemes session line) fate
        → IsLineRead echo (IsShellFate policy schemes session) before after was is_now Broken fate
    read_whole is_policy are_schemes line n short w fate (inl e) =
        let is = subst (IsShellFate policy schemes session line) (sym e) (fate_is is_policy are_schemes line) in
        read_line echo (IsShellFate policy schemes session) before after was is_now Broken line n short w fate is
        (over_is_empty line fate is) (was_read line fate is)
    read_whole is_policy are_schemes line n short w fate (inr e) =
        read_in_vain echo (IsShellFate policy schemes session) before after was is_now Broken line n w fate e

    -- all its bytes are known, where there was memory to understand it
    pub known_whole : (is_policy : IsPolicy policy) (are_schemes : AreSchemes schemes) (line : List ℕ)
        (n : IsNext before after line) (short : length n.text < 1048576) (w : Appends was is_now (echo line))
        (fate : Fate)
        (b : Becomes (fate_of policy schemes session line) fate) → is_lost fate ≡ false
        → line ≡ heard_of fate (read_whole is_policy are_schemes line n short w fate b).turn.line
    unfolding read_whole read_line
    known_whole is_policy are_schemes line n short w fate (inl e) found =
        sym (heard_all line fate (subst (IsShellFate policy schemes session line) (sym e)
        (fate_is is_policy are_schemes line)))
    known_whole is_policy are_schemes line n short w fate (inr e) found =
        absurd (true≢false (sym (ap is_lost e) ∙ found))
