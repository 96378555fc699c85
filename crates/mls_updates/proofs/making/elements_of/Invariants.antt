use Rattle.std.proofs.Common.{◌≡◌, ◌++◌, drop}
use Rattle.std.specs.FinMap.{get}
use Rattle.mls_filterview.specs.Assembly.{elements_from, value_held}
use Rattle.mls_updates.specs.States.{tables_of}
use Rattle.mls_updates.proofs.making.elements_of.Given as goal

abbrev pub invariant-loop-attr : goal.invariant-loop-attr
invariant-loop-attr l =
    let held = value_held (get (tables_of l.tables l.relation)) l.place.class l.cells in
    l.elements.items ++ elements_from held l.place l.attr (drop l.attr l.pattern)
    ≡ elements_from held l.place 0 l.pattern
