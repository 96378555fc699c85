-- The table of a relation: a finite map from places to elements.
use Rattle.std.specs.Prelude.{◌≡◌, ℕ, List, Some, map}
use Rattle.std.specs.Ordering.{nat_cmp, on, then_cmp}
use Rattle.std.specs.declared.cmp.Ordering.{Ordering}
use Rattle.std.specs.Cmp.Lexicographic.{slice_cmp}
use Rattle.std.specs.FinMap.{FinMap, get, entries, from_sorted}
use Rattle.mls_scheme.specs.declared.place.Place.{Place}
use Rattle.mls_scheme.specs.declared.tuple.Element.{Element}
use Rattle.mls_scheme.specs.declared.tuple.Tuple.{Tuple}
use Rattle.mls_scheme.specs.Value.{value_cmp}

-- by key, key class number and class number
unfoldable pub place_cmp : Place → Place → Ordering
place_cmp = then_cmp (on (λ p. p.key) (slice_cmp value_cmp)) (then_cmp (on (λ p. p.key_class) nat_cmp)
    (on (λ p. p.class) nat_cmp))

-- what a relation holds: at most one tuple for each entity and class
abbrev pub Table : Type 0
Table = FinMap place_cmp (List Element)

-- a table for each relation, by its number
abbrev pub Database : Type 0
Database = ℕ → Table

abbrev pub tuple_at : Place → List Element → Tuple
tuple_at p es = record { key = p.key; key_class = p.key_class; elements = es }

-- the place of a tuple of a class
abbrev pub place_of : ℕ → Tuple → Place
place_of class t = record { key = t.key; key_class = t.key_class; class = class }

-- the tuple stands in the table, with this class
abbrev pub Has : Table → ℕ → Tuple → Type 0
Has T class t = get T (place_of class t) ≡ Some t.elements

-- the tuple stands in the table
abbrev pub IsIn : Table → Tuple → Type 0
IsIn T t = (class : ℕ) × Has T class t

-- a table with each tuple changed, each in its place
unfoldable pub change : (Place → List Element → List Element) → Table → Table
change f T = from_sorted (map (λ e. (e.0, f e.0 e.1)) (entries T))
