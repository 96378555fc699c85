-- The lines of an audit list that is turned.
use Rattle.std.proofs.Common.{◌≡◌, List, [], ◌∷◌, ◌++◌, refl, ap, codes, flat_map}
use Rattle.mls_lattice.specs.Policy.{Policy}
use Rattle.mls_audit.specs.declared.entry.Entry.{Entry}
use Rattle.mls_machine.specs.Output.{printed}
use Rattle.mls_machine.specs.Turning.{turn_line, turn_lines}

pub lines_printed : (p : Policy) (es : List Entry) → flat_map (λ e. (turn_line p e).text ++ codes "\n") es
    ≡ printed (turn_lines p es)
lines_printed p [] = refl
lines_printed p (e ∷ es) = ap (λ x. ((turn_line p e).text ++ codes "\n") ++ x) (lines_printed p es)
