use Rattle.std.proofs.Common.{◌≡◌, map, take}
use Rattle.mls_filterview.proofs.splitting.classes_of.Given as goal

abbrev pub invariant-loop-element : goal.invariant-loop-element
invariant-loop-element l = l.classes.items ≡ map (λ e. e.class) (take l.element-index l.elements)
