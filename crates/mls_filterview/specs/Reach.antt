-- The tuples that a level may see, in an order in which each stands behind those that it is derived from.
-- Labels go by how many they dominate, since a policy may declare one before those below it.
use Rattle.std.specs.Prelude.{ℕ, zero, suc, nat_eq, List, [], ◌∷◌, ◌++◌, map, length, filter, flat_map}
use Rattle.std.specs.FinMap.{entries}
use Rattle.mls_lattice.specs.Labels.{Labels, below}
use Rattle.mls_scheme.specs.declared.tuple.Element.{Element}
use Rattle.mls_scheme.specs.declared.tuple.Tuple.{Tuple}
use Rattle.mls_scheme.specs.declared.place.Place.{Place}
use Rattle.mls_scheme.specs.Table.{Table, tuple_at}
use Rattle.mls_filterview.specs.View.{low}

-- the numbers below n
abbrev pub numbers : ℕ → List ℕ
numbers zero = []
numbers (suc n) = numbers n ++ n ∷ []

-- how many of the declared labels m dominates
abbrev pub reach : Labels → ℕ → ℕ
reach ls m = length (filter (λ k. below ls k m) (numbers (length ls)))

-- those that dominate r, by number
abbrev pub of_reach : Labels → ℕ → List ℕ
of_reach ls r = filter (λ m. nat_eq (reach ls m) r) (numbers (length ls))

-- the declared labels: those that dominate the fewest first
abbrev pub upward : Labels → List ℕ
upward ls = flat_map (of_reach ls) (numbers (suc (length ls)))

-- the tuples of a class among entries, by place
abbrev pub of_class : List (Place × List Element) → ℕ → List Tuple
of_class es m = map (λ e. tuple_at e.0 e.1) (filter (λ e. nat_eq e.0.class m) es)

-- the tuples of the classes that c dominates, class by class in this order
unfoldable pub low_tuples : Labels → ℕ → Table → List Tuple
low_tuples ls c T = flat_map (of_class (entries (low ls c T))) (upward ls)
