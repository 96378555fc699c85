-- Inner: no public contract names these. Tuples of relations, whole.
use Rattle.std.specs.Prelude.{List}
use Rattle.mls_scheme.specs.declared.tuple.Element.{Element}
use Rattle.mls_scheme.specs.declared.place.Place.{Place}
use Rattle.mls_updates.specs.declared.new_tuple.NewTuple.{NewTuple}

-- the place of a tuple, and its elements
abbrev pub entry_of : NewTuple → Place × List Element
entry_of r = (r.place, r.elements)
