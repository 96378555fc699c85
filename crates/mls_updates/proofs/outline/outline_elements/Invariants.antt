use Rattle.std.proofs.Common.{◌≡◌, ◌++◌, drop}
use Rattle.mls_updates.specs.Steps.{outline}
use Rattle.mls_updates.proofs.outline.outline_elements.Given as goal

abbrev pub invariant-loop-attr : goal.invariant-loop-attr
invariant-loop-attr l = l.elements.items ++ outline l.w l.sets l.attr (drop l.attr l.pattern)
    ≡ outline l.w l.sets 0 l.pattern
