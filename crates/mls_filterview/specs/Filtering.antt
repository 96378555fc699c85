-- The view of a list of tuples, step by step.
use Rattle.std.specs.Prelude.{ℕ, ⊤, Bool, if◌then◌else◌, List, [], ◌∷◌, map, filter}
use Rattle.std.specs.Ordering.{nat_cmp, on, then_cmp}
use Rattle.std.specs.Option.{option_cmp}
use Rattle.std.specs.Cmp.Lexicographic.{slice_cmp}
use Rattle.std.specs.declared.cmp.Ordering.{Ordering}
use Rattle.mls_lattice.specs.Labels.{Labels, below}
use Rattle.mls_scheme.specs.declared.tuple.Element.{Element}
use Rattle.mls_scheme.specs.declared.tuple.Tuple.{Tuple}
use Rattle.mls_scheme.specs.declared.place.Place.{Place}
use Rattle.mls_scheme.specs.Value.{value_cmp}
use Rattle.mls_scheme.specs.Table.{place_cmp, place_of}
use Rattle.mls_filterview.specs.Subsumption.{subsumes_entry}
use Rattle.mls_filterview.specs.View.{filtered, IsAmong}

-- no element stands in the list twice
unfoldable pub EachOnce : {A : Type 0} → List A → Type 0
EachOnce [] = ⊤
EachOnce (x ∷ xs) = (IsAmong x xs → ⊥) × EachOnce xs

-- what c sees of the tuples whose key class it dominates
abbrev pub seen : Labels → ℕ → List Tuple → List Tuple
seen ls c ts = map (filtered ls c) (filter (λ t. below ls t.key_class c) ts)

-- whether the first tuple subsumes the second
abbrev pub subsumes_tuple : Tuple → Tuple → Bool
subsumes_tuple s t = subsumes_entry (place_of 0 s, s.elements) (place_of 0 t, t.elements)

-- from a class up to each class of elements, in turn, that dominates the class reached
abbrev pub greatest_from : Labels → ℕ → List Element → ℕ
greatest_from ls m [] = m
greatest_from ls m (e ∷ es) = greatest_from ls (if below ls m e.class then e.class else m) es

-- the number of the greatest of the classes of a tuple, where there is one: it is then the number of the tuple's class
unfoldable pub class_number : Labels → Tuple → ℕ
class_number ls t = greatest_from ls t.key_class t.elements

-- the place of a tuple, and its elements
abbrev pub row_of : Labels → Tuple → Place × List Element
row_of ls t = (place_of (class_number ls t) t, t.elements)

-- null before values, and by class
abbrev pub element_cmp : Element → Element → Ordering
element_cmp = then_cmp (on (λ e. e.value) (option_cmp value_cmp)) (on (λ e. e.class) nat_cmp)

-- by place, and at one place by elements
abbrev pub row_cmp : Place × List Element → Place × List Element → Ordering
row_cmp = then_cmp (on (λ r. r.0) place_cmp) (on (λ r. r.1) (slice_cmp element_cmp))
