-- What a reader knows of the rows that it has met: the set of their keys, which tells of a key whether it is new.
use Rattle.std.specs.Prelude.{◌≡◌, ℕ, Bool, List, bytes_eq}
use Rattle.std.specs.Ordering.{nat_cmp, ordering_then}
use Rattle.std.specs.List.{list_any}
use Rattle.std.specs.BTreeSet.{BTreeSet, contains}
use Rattle.std.specs.Cmp.Lexicographic.{slice_cmp}
use Rattle.std.specs.declared.cmp.Ordering.{Ordering}
use Rattle.mls_lattice.specs.declared.tables.Right.{Right}
use Rattle.mls_lattice.specs.Policy.{Name, is_entry}

-- a key is in the set where a row has it
abbrev pub Knows : {K X : Type 0} → (K → K → Ordering) → (K → X → Bool) → BTreeSet K → List X → Type 0
Knows {K} cmp has known rows = (k : K) → contains cmp known k ≡ list_any (has k) rows

abbrev pub KnowsNames : BTreeSet Name → List Name → Type 0
KnowsNames = Knows (slice_cmp nat_cmp) bytes_eq

-- by user, and then by object
abbrev pub pair_cmp : ℕ × Name → ℕ × Name → Ordering
pair_cmp p q = ordering_then (nat_cmp p.0 q.0) (slice_cmp nat_cmp p.1 q.1)

abbrev pub KnowsRights : BTreeSet (ℕ × Name) → List Right → Type 0
KnowsRights = Knows pair_cmp (λ p. is_entry p.0 p.1)
