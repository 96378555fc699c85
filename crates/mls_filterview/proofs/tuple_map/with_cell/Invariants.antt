use Rattle.std.proofs.Common.{◌≡◌, ◌++◌, List, map}
use Rattle.std.specs.BTreeMap.{IsOrdered}
use Rattle.mls_scheme.specs.declared.tuple.Element.{Element}
use Rattle.mls_scheme.specs.declared.place.Place.{Place}
use Rattle.mls_scheme.specs.Table.{place_cmp}
use Rattle.mls_filterview.specs.Fragment.{set_in}
use Rattle.mls_filterview.proofs.tuple_map.with_cell.Given as goal

abbrev pub invariant-loop-tuple : goal.invariant-loop-tuple
invariant-loop-tuple l =
    let set : Place × List Element → Place × List Element = λ e. (e.0, set_in l.place l.attr l.value e.0 e.1) in
    record {
      entries : l.changed.entries ++ map set l.tuple-iterator.rest.items ≡ map set l.fn.tuples.entries;
      ordered : IsOrdered place_cmp l.changed;
    }
