-- What a level sees of a relation (Jajodia and Sandhu 1991).
use Rattle.std.specs.Prelude.{◌≡◌, ℕ, true, if◌then◌else◌, List, [], ◌∷◌, map, Some, None, ◌⊎◌, IsTrue, filter}
use Rattle.std.specs.List.{AllByRecursion}
use Rattle.std.specs.FinMap.{get, entries, retain_keys, is_sorted}
use Rattle.mls_lattice.specs.Labels.{Labels, below}
use Rattle.mls_scheme.specs.declared.tuple.Element.{Element}
use Rattle.mls_scheme.specs.declared.tuple.Tuple.{Tuple}
use Rattle.mls_scheme.specs.Table.{place_cmp, Table, tuple_at}
use Rattle.mls_scheme.specs.declared.place.Place.{Place}
use Rattle.mls_filterview.specs.Subsumption.{IsMax, is_max_among}

-- what c sees of an element: null at the key class where c does not dominate its class
abbrev pub hide : Labels → ℕ → ℕ → Element → Element
hide ls c key_class e = if below ls e.class c then e else record { value = None; class = key_class }

-- what c sees of a tuple
abbrev pub filtered : Labels → ℕ → Tuple → Tuple
filtered ls c t = record { key = t.key; key_class = t.key_class; elements = map (hide ls c t.key_class) t.elements }

-- t is what c sees of some tuple of X whose key class it dominates
abbrev pub Filter : Labels → (Tuple → Type 0) → ℕ → Tuple → Type 0
Filter ls X c t = (s : Tuple) × X s × (below ls s.key_class c ≡ true) × (t ≡ filtered ls c s)

-- t stands in the view of X at c
abbrev pub View : Labels → (Tuple → Type 0) → ℕ → Tuple → Type 0
View ls X c = IsMax (Filter ls X c)

-- the tuples of a class that c dominates
unfoldable pub low : Labels → ℕ → Table → Table
low ls c T = retain_keys T (λ p. below ls p.class c)

-- the view at c of a table of the stored form, in the order of places
unfoldable pub rows : Labels → ℕ → Table → List Tuple
rows ls c T = let es = entries (low ls c T) in map (λ e. tuple_at e.0 e.1) (filter (is_max_among es) es)

-- x stands in the list
abbrev pub IsAmong : {A : Type 0} → A → List A → Type 0
IsAmong x [] = ⊥
IsAmong x (y ∷ ys) = (x ≡ y) ⊎ IsAmong x ys

-- the tuples stand in the table, each at another place, in the order of places
abbrev pub AreInOrder : Table → List Tuple → Type 0
AreInOrder T ts = (es : List (Place × List Element)) × (ts ≡ map (λ e. tuple_at e.0 e.1) es)
    × IsTrue (is_sorted place_cmp es) × AllByRecursion (λ e. get T e.0 ≡ Some e.1) es
