-- What a query finds among the rows of a view.
use Rattle.std.specs.Prelude.{ℕ, Bool, true, not, ◌&&◌, if◌then◌else◌, List, [], ◌∷◌, take, Option, Some, None, filter}
use Rattle.std.specs.List.{list_any}
use Rattle.std.specs.Ordering.{eq_by_cmp}
use Rattle.std.specs.Cmp.Lexicographic.{slice_cmp}
use Rattle.mls_lattice.specs.Lattice.{Pair, ◌⊑◌, same_pair}
use Rattle.mls_lattice.specs.Labels.{Labels, label_of}
use Rattle.mls_scheme.specs.declared.value.Value.{Value}
use Rattle.mls_scheme.specs.declared.tuple.Tuple.{Tuple}
use Rattle.mls_scheme.specs.Value.{value_cmp}
use Rattle.mls_scheme.specs.Tuple.{tuple_class}
use Rattle.mls_translang.specs.Tree.{Expr}
use Rattle.mls_translang.specs.Expressions.{Environment, holds_in}
use Rattle.mls_translang.specs.declared.query.Comparison.{Comparison}
use Rattle.mls_translang.specs.declared.query.Comparison.TheVariants as compared
use Rattle.mls_translang.specs.declared.query.ClassTest.{ClassTest}
use Rattle.mls_translang.specs.declared.query.Query.{Query}

-- ---- the highest of each key

-- q dominates p, and is another
abbrev pub is_strictly_below : Pair → Pair → Bool
is_strictly_below p q = p ⊑ q && not (q ⊑ p)

abbrev pub is_key : List Value → List Value → Bool
is_key = eq_by_cmp (slice_cmp value_cmp)

-- s has the key of t, and its class dominates that of t and is another
abbrev pub is_above : Labels → Tuple → Tuple → Bool
is_above ls s t = is_key s.key t.key && is_strictly_below (tuple_class ls t) (tuple_class ls s)

-- those above which none of them stands
abbrev pub tops : Labels → List Tuple → List Tuple
tops ls ts = filter (λ t. not (list_any (λ s. is_above ls s t) ts)) ts

abbrev pub highest_of : Labels → Bool → List Tuple → List Tuple
highest_of ls highest ts = if highest then tops ls ts else ts

-- ---- classes

-- a class stands so to a label: where none dominates the other, only Unequal holds
abbrev pub stands : Comparison → Pair → Pair → Bool
stands compared.Equal class label = same_pair class label
stands compared.Unequal class label = not (same_pair class label)
stands compared.Less class label = is_strictly_below class label
stands compared.AtMost class label = class ⊑ label
stands compared.Greater class label = is_strictly_below label class
stands compared.AtLeast class label = label ⊑ class

-- the class of a row, as the view shows it, passes the test, if there is one; a number of no label counts as
-- the bottom, in the code too, so nothing is asked of a store that is not clean
abbrev pub has_class : Labels → Option ClassTest → Tuple → Bool
has_class ls None t = true
has_class ls (Some c) t = stands c.comparison (tuple_class ls t) (label_of ls c.label)

-- ---- conditions

-- what a condition reads: nothing but the attributes of one row
abbrev pub reading : Tuple → Environment
reading t = record { args = []; rows = t ∷ []; vars = λ i. None }

abbrev pub passes : Expr → Tuple → Bool
passes test t = holds_in (reading t) test

-- a row passes the condition, if there is one
abbrev pub meets : Option Expr → Tuple → Bool
meets None t = true
meets (Some test) t = passes test t

-- both tests of a row by itself
abbrev pub is_wanted : Labels → Query → Tuple → Bool
is_wanted ls q t = has_class ls q.class t && meets q.test t

-- ---- queries

-- the first n, if a number is given
abbrev pub first_of : {A : Type 0} → Option ℕ → List A → List A
first_of None xs = xs
first_of (Some n) xs = take n xs

-- what a query finds among the rows of a view: the highest, of these those of the class, of these those that pass the
-- condition, and of these the first
abbrev pub found : Labels → Query → List Tuple → List Tuple
found ls q ts = first_of q.first (filter (meets q.test) (filter (has_class ls q.class) (highest_of ls q.highest ts)))
