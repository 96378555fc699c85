-- Inner: no public contract names these. What a reader may see of a level and of an item.
use Rattle.std.specs.Prelude.{ℕ, Bool, true, List, [], ◌∷◌, Option, Some, None}
use Rattle.mls_lattice.specs.Labels.{Labels, below}
use Rattle.mls_lattice.specs.Policy.{Policy, labels_of}
use Rattle.mls_certcheck.specs.Meaning.{Item}
use Rattle.mls_translang.specs.declared.event.Event.{Event}
use Rattle.mls_machine.specs.Output.{item_line, printed}
use Rattle.mls_machine.specs.Observation.{out}

-- the bytes of its line, or nothing where the reader doesn't dominate its label
unfoldable pub seen_item : Policy → Event → ℕ → List ℕ → Item → List ℕ
seen_item p e reader deed item = printed (out (labels_of p) reader (item_line p e deed item ∷ []))

-- whether the reader dominates a level, or there is none
abbrev pub hears : Labels → Option ℕ → ℕ → Bool
hears ls None level = true
hears ls (Some c) level = below ls level c
