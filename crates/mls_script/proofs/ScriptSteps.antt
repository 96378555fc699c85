-- A script line by line.
use Rattle.std.proofs.Common.{◌≡◌, ◌≢◌, ℕ, ◌<◌, ◌≤◌, ◌+◌, Bool, true, false, IsTrue, List, [], ◌∷◌, ◌++◌, length, Option, Ok, Err, refl, sym, ap, ◌∙◌, subst, arith, append_assoc, length-append, IsFalse, option_to_list, ne_eqb, append-nil}
use Rattle.std.specs.List.{AllByRecursion}
use Rattle.mls_lattice.specs.Policy.{Policy}
use Rattle.mls_lattice.specs.Reading.{◌>>=◌}
use Rattle.mls_scheme.specs.Scheme.{Schemes}
use Rattle.mls_translang.specs.declared.event.Event.{Event}
use Rattle.mls_script.specs.declared.fault.LineFault.{LineFault}
use Rattle.mls_script.specs.Fault.{in_line}
use Rattle.mls_script.specs.Reading.{line_at, lines_at, in_script, split_lines, script_at}

-- ---- lines

pub split_ended : (front line after : List ℕ) → AllByRecursion (λ b. b ≢ 10) line
    → split_lines front (line ++ 10 ∷ after) ≡ (front ++ line, true) ∷ split_lines [] after
split_ended [] [] after one = refl
split_ended (f ∷ front) [] after one = ap (λ x. (x, true) ∷ split_lines [] after) (sym (append-nil (f ∷ front)))
split_ended [] (b ∷ bs) after one = rw (ne_eqb b 10 one.0) (split_ended (b ∷ []) bs after one.1)
split_ended (f ∷ front) (b ∷ bs) after one = rw (ne_eqb b 10 one.0) (split_ended ((f ∷ front) ++ b ∷ []) bs after one.1
    ∙ ap (λ x. (x, true) ∷ split_lines [] after) (append_assoc (f ∷ front) (b ∷ []) bs))

split_some : (f : ℕ) (front line : List ℕ) → AllByRecursion (λ b. b ≢ 10) line → split_lines (f ∷ front) line
    ≡ ((f ∷ front) ++ line, false) ∷ []
split_some f front [] one = ap (λ x. (x, false) ∷ []) (sym (append-nil (f ∷ front)))
split_some f front (b ∷ bs) one = rw (ne_eqb b 10 one.0) (split_some f (front ++ b ∷ []) bs one.1
    ∙ ap (λ x. (x, false) ∷ []) (append_assoc (f ∷ front) (b ∷ []) bs))

split_last : (line : List ℕ) → 0 < length line → AllByRecursion (λ b. b ≢ 10) line → split_lines [] line ≡ (line, false)
    ∷ []
split_last [] some one = absurd (omega arith)
split_last (b ∷ bs) some one = rw (ne_eqb b 10 one.0) (split_some b [] bs one.1)

-- ---- what is read

module _ (policy : Policy) (schemes : Schemes) (bytes : List ℕ) where
  -- the rest, read behind these events and lines, is the whole
  pub record ReadSoFar (number : ℕ) (events : List Event) (rest : List ℕ) : Type 0 where
    pub same : script_at policy schemes bytes ≡ lines_at policy schemes (number + 1) events (split_lines [] rest)
    pub few : number + length rest ≤ length bytes

  pub read_none : ReadSoFar 0 [] bytes
  unfolding script_at
  read_none = record { same = refl; few = omega arith }

  pub read_all : (number : ℕ) (events : List Event) (rest : List ℕ) → ReadSoFar number events rest → length rest ≤ 0
      → script_at policy schemes bytes ≡ Ok events
  read_all number events [] h none = h.same
  read_all number events (b ∷ bs) h none = absurd (omega arith)

  module _ (number : ℕ) (events : List Event) (rest line after : List ℕ) (ended : Bool)
      (h : ReadSoFar number events rest) (some : 0 < length rest)
      (is_ended : IsTrue ended → rest ≡ line ++ 10 ∷ after) (is_last : IsFalse ended → (rest ≡ line) × (after ≡ []))
      (one : AllByRecursion (λ b. b ≢ 10) line) where
    split_rest : split_lines [] rest ≡ (line, ended) ∷ split_lines [] after
    split_rest = go ended is_ended is_last
      where
        go : (b : Bool) → (IsTrue b → rest ≡ line ++ 10 ∷ after) → (IsFalse b → (rest ≡ line) × (after ≡ []))
            → split_lines [] rest ≡ (line, b) ∷ split_lines [] after
        go true e l = ap (split_lines []) (e refl) ∙ split_ended [] line after one
        go false e l =
            let at_end = l refl in
            ap (split_lines []) (at_end.0) ∙ split_last line (subst (λ x. 0 < length x) at_end.0 some) one
            ∙ ap (λ x. (line, false) ∷ split_lines [] x) (sym at_end.1)

    onward : script_at policy schemes bytes ≡ (in_script (number + 1) (line_at policy schemes line ended) >>=
        λ e. lines_at policy schemes (number + 1 + 1) (events ++ option_to_list e) (split_lines [] after))
    onward = h.same ∙ ap (lines_at policy schemes (number + 1) events) split_rest

    pub shorter : length after < length rest
    shorter = go ended is_ended is_last
      where
        go : (b : Bool) → (IsTrue b → rest ≡ line ++ 10 ∷ after) → (IsFalse b → (rest ≡ line) × (after ≡ []))
            → length after < length rest
        go true e l = omega (arith, ap length (e refl), length-append line (10 ∷ after))
        go false e l = omega (arith, ap length ((l refl).1), some)

    pub read_fault : (e : LineFault) → line_at policy schemes line ended ≡ Err e → script_at policy schemes bytes
        ≡ Err (in_line (number + 1) e)
    read_fault e is = onward ∙ ap (λ r. in_script (number + 1) r >>= λ e. lines_at policy schemes (number + 1 + 1)
        (events ++ option_to_list e) (split_lines [] after)) is

    pub read_more : (o : Option Event) → line_at policy schemes line ended ≡ Ok o
        → ReadSoFar (number + 1) (events ++ option_to_list o) after
    read_more o is = record {
      same = onward ∙ ap (λ r. in_script (number + 1) r >>= λ e. lines_at policy schemes (number + 1 + 1)
          (events ++ option_to_list e) (split_lines [] after)) is;
      few = omega (arith, h.few, shorter);
    }

pub ruleset script_steps = (read_none, read_all, shorter, read_fault, read_more)
