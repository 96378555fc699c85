-- Class numbers and the order of dumps, without the climb and the counting by which they are found.
use Rattle.std.specs.Prelude.{◌≡◌, ℕ, true, ◌⊎◌}
use Rattle.std.specs.List.Sorted.{IsStrictlySortedBy}
use Rattle.std.specs.Ordering.{nat_cmp, on, then_cmp}
use Rattle.std.specs.declared.cmp.Ordering.{Ordering}
use Rattle.mls_lattice.specs.Labels.{Labels, AreDistinct, below}
use Rattle.mls_scheme.specs.declared.tuple.Tuple.{Tuple}
use Rattle.mls_scheme.specs.Table.{place_cmp, Table, place_of}
use Rattle.mls_filterview.specs.Rules.{OccursIn}
use Rattle.mls_filterview.specs.Stored.{IsStored}
use Rattle.mls_filterview.specs.Filtering.{class_number}
use Rattle.mls_filterview.specs.Reach.{reach, low_tuples}

-- a class is the greatest of a tuple: one of its classes, that dominates each of them
abbrev pub IsGreatest : Labels → Tuple → ℕ → Type 0
IsGreatest ls t m = OccursIn t m × ((k : ℕ) → OccursIn t k → below ls k m ≡ true)

-- so is the class number of a tuple whose classes are comparable
abbrev pub ClassNumbersAreGreatest : Type 0
ClassNumbersAreGreatest =
    (ls : Labels) (t : Tuple)
    → ((a b : ℕ) → OccursIn t a → OccursIn t b → (below ls a b ≡ true) ⊎ (below ls b a ≡ true))
    → IsGreatest ls t (class_number ls t)

-- by how many labels the class dominates, then by the class, and then by place
abbrev pub upward_cmp : Labels → Tuple → Tuple → Ordering
upward_cmp ls =
    then_cmp (on (λ t. reach ls (class_number ls t)) nat_cmp)
    (then_cmp (on (class_number ls) nat_cmp) (on (λ t. place_of (class_number ls t) t) place_cmp))

-- the tuples of a dump stand in this order
abbrev pub DumpsComeUpward : Type 0
DumpsComeUpward =
    (ls : Labels) → AreDistinct ls → (n c : ℕ) (T : Table) → IsStored ls n T
    → IsStrictlySortedBy (upward_cmp ls) (low_tuples ls c T)
