-- What a reader is shown of an audit list that is turned.
use Rattle.std.proofs.Common.{◌≡◌, ℕ, true, false, cond, List, [], ◌∷◌, Some, refl, ap, sym}
use Rattle.mls_lattice.specs.Labels.{below}
use Rattle.mls_lattice.specs.Policy.{Policy, labels_of}
use Rattle.mls_audit.specs.declared.entry.Entry.{Entry}
use Rattle.mls_audit.specs.Entry.{label_of, visible}
use Rattle.mls_machine.specs.Output.{Line, printed}
use Rattle.mls_machine.specs.Observation.{out}
use Rattle.mls_machine.specs.Turning.{turn_line, turn_lines}
use Rattle.mls_sessions.specs.Turning.{turned_text}

module _ (p : Policy) (c : ℕ) where
  seen_lines : (es : List Entry) → out (labels_of p) c (turn_lines p es) ≡ turn_lines p (visible (labels_of p) c es)
  seen_lines [] = refl
  seen_lines (e ∷ es) =
      elim (below (labels_of p) (label_of e) c) as (λ b. cond b (turn_line p e ∷ out (labels_of p) c (turn_lines p es))
      (out (labels_of p) c (turn_lines p es)) ≡ turn_lines p (cond b (e ∷ visible (labels_of p) c es)
      (visible (labels_of p) c es))) [
        | true ↦ ap (λ (ls : List Line). turn_line p e ∷ ls) (seen_lines es)
        | false ↦ seen_lines es
      ]

  pub seen_text : (es : List Entry) → printed (turn_lines p (visible (labels_of p) c es)) ≡ turned_text p (Some c) es
  seen_text es = ap printed (sym (seen_lines es))
