-- The laws of queries.
use Rattle.std.specs.Prelude.{◌≡◌, ℕ, true, false, List, None, ◌↔◌}
use Rattle.mls_lattice.specs.Labels.{Labels, below, AreDistinct}
use Rattle.mls_scheme.specs.declared.value.Value.{Value}
use Rattle.mls_scheme.specs.declared.tuple.Tuple.{Tuple}
use Rattle.mls_scheme.specs.Table.{Table, IsIn}
use Rattle.mls_filterview.specs.View.{View, rows, IsAmong}
use Rattle.mls_filterview.specs.Stored.{IsStored}
use Rattle.mls_translang.specs.declared.query.Query.{Query}
use Rattle.mls_queries.specs.Query.{is_above, has_class, meets, first_of, found}
use Rattle.mls_queries.specs.Demanded.{of_key}

-- what a query finds at a level depends on the view there alone
abbrev pub QueriesUseTheView : Type 0
QueriesUseTheView =
    (ls : Labels) → AreDistinct ls → (n : ℕ) (S T : Table) → IsStored ls n S → IsStored ls n T
    → (c label : ℕ) → below ls label c ≡ true → ((t : Tuple) → View ls (IsIn S) c t ↔ View ls (IsIn T) c t)
    → (q : Query) → found ls q (rows ls label S) ≡ found ls q (rows ls label T)

-- t is one of the rows that a query asks for: none of them stands above it where the highest are asked for, its class
-- passes, and the condition holds of it
pub record IsAskedFor (ls : Labels) (q : Query) (Row : Tuple → Type 0) (t : Tuple) : Type 0 where
  pub row : Row t
  pub highest : q.highest ≡ true → (s : Tuple) → Row s → is_above ls s t ≡ false
  pub class : has_class ls q.class t ≡ true
  pub test : meets q.test t ≡ true

-- the same query, for all such rows
abbrev pub for_all : Query → Query
for_all q = record { highest = q.highest; class = q.class; test = q.test; first = None }

-- what is found are just the rows of the view that are asked for, and the first of these where so many are
abbrev pub RowsThatPassAreOfTheView : Type 0
RowsThatPassAreOfTheView =
    (ls : Labels) → AreDistinct ls → (n : ℕ) (T : Table) → IsStored ls n T → (c : ℕ) (q : Query)
    → ((t : Tuple) → IsAmong t (found ls (for_all q) (rows ls c T)) ↔ IsAskedFor ls q (View ls (IsIn T) c) t)
    × (found ls q (rows ls c T) ≡ first_of q.first (found ls (for_all q) (rows ls c T)))

-- what a query finds whose condition holds of rows of one key alone is found among the tuples of that key
abbrev pub KeysAreLookedUp : Type 0
KeysAreLookedUp =
    (ls : Labels) (T : Table) (c : ℕ) (q : Query) (key : List Value)
    → ((t : Tuple) → IsAmong t (rows ls c T) → meets q.test t ≡ true → t.key ≡ key)
    → found ls q (rows ls c T) ≡ found ls q (rows ls c (of_key key T))
