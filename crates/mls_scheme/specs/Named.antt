-- Lists of things that are found by name.
use Rattle.std.specs.Prelude.{Bool, List, String, string_bytes, bytes_eq}
use Rattle.std.specs.List.{list_any}
use Rattle.mls_lattice.specs.Policy.{Name}

abbrev pub item_of : {Z T : Type 0} → String Z × T → Name × T
item_of e = (string_bytes e.0, e.1)

-- whether a name is taken
abbrev pub has_name : {T : Type 0} → List (Name × T) → Name → Bool
has_name xs name = list_any (λ x. bytes_eq x.0 name) xs
