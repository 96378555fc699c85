-- What a transaction must not tell.
use Rattle.std.specs.Prelude.{◌≡◌, ℕ, ◌<◌, true, false, List, [], ◌∷◌, map, length, Option, None, ◌⊎◌, ◌↔◌}
use Rattle.std.specs.Prelude.{slice_index_or, filter}
use Rattle.mls_lattice.specs.Labels.{Labels, below}
use Rattle.mls_lattice.specs.Policy.{Policy, labels_of}
use Rattle.mls_scheme.specs.declared.value.Value.{Value}
use Rattle.mls_scheme.specs.declared.tuple.Tuple.{Tuple}
use Rattle.mls_scheme.specs.Table.{Database, IsIn}
use Rattle.mls_scheme.specs.Scheme.{Schemes, scheme_of}
use Rattle.mls_filterview.specs.View.{View}
use Rattle.mls_filterview.specs.Stored.{IsStored}
use Rattle.mls_translang.specs.Tx.{Tx}
use Rattle.mls_translang.specs.Fits.{IsReadUnder}
use Rattle.mls_certcheck.specs.Meaning.{Item, Progress, run_tx}

-- each relation of a database is of the stored form; kinds and intervals play no part
abbrev pub AreStored : Labels → Schemes → Database → Type 0
AreStored ls schemes db = (relation : ℕ) → IsStored ls (length (scheme_of schemes relation).others) (db relation)

-- ---- what a level sees

-- the items whose labels c dominates, in order
abbrev pub seen_items : Labels → ℕ → List Item → List Item
seen_items ls c items = filter (λ i. below ls i.0 c) items

-- the view at c of each relation is the same
abbrev pub SameViews : Labels → ℕ → Database → Database → Type 0
SameViews ls c d e = (relation : ℕ) (t : Tuple) → View ls (IsIn (d relation)) c t ↔ View ls (IsIn (e relation)) c t

-- the labels of the parameters, in order
abbrev pub param_labels : Tx → List ℕ
param_labels tx = map (λ p. p.1.label) tx.params

-- an argument for each parameter, and the same ones at the parameters whose labels c dominates
pub record SameArgs (ls : Labels) (c : ℕ) (labels : List ℕ) (args brgs : List (Option Value)) : Type 0 where
  pub count : length args ≡ length labels
  pub count' : length brgs ≡ length labels
  pub each : (i : ℕ) → i < length labels → below ls (slice_index_or labels i 0) c ≡ true → slice_index_or args i None
      ≡ slice_index_or brgs i None

-- ---- two runs, and one

-- at some place, before which the lists are equal, both have an item, of one label and of different values
abbrev pub Split : List Item → List Item → Type 0
Split [] ys = ⊥
Split (x ∷ xs) [] = ⊥
Split (x ∷ xs) (y ∷ ys) = ((x.0 ≡ y.0) × (x.1 ≡ y.1 → ⊥)) ⊎ ((x ≡ y) × Split xs ys)

-- c sees the same of both
pub record Alike (ls : Labels) (c : ℕ) (s t : Progress) : Type 0 where
  pub released : seen_items ls c s.released ≡ seen_items ls c t.released
  pub emitted : seen_items ls c s.emitted ≡ seen_items ls c t.emitted
  pub views : SameViews ls c s.db t.db

-- c sees nothing of a run from a database
pub record IsSilent (ls : Labels) (c : ℕ) (db : Database) (s : Progress) : Type 0 where
  pub released : seen_items ls c s.released ≡ []
  pub emitted : seen_items ls c s.emitted ≡ []
  pub views : SameViews ls c s.db db

-- c is not above all that the transaction reads, and what the runs release to it tells them apart
abbrev pub ReleasesTell : Labels → ℕ → Tx → Progress → Progress → Type 0
ReleasesTell ls c tx s t = (below ls tx.hi c ≡ false) × Split (seen_items ls c s.released) (seen_items ls c t.released)

-- to any level two runs look alike that began alike, but for values that are released to it; and a level that does not
-- dominate that of the call sees nothing of it
pub record Secure (policy : Policy) (tx : Tx) : Type 0 where
  pub two_runs : (c : ℕ) (schemes : Schemes) (d e : Database) (args brgs : List (Option Value))
      → IsReadUnder policy schemes tx
      → AreStored (labels_of policy) schemes d → AreStored (labels_of policy) schemes e
      → SameViews (labels_of policy) c d e → SameArgs (labels_of policy) c (param_labels tx) args brgs
      → ReleasesTell (labels_of policy) c tx (run_tx (labels_of policy) schemes tx args d)
      (run_tx (labels_of policy) schemes tx brgs e)
      ⊎ Alike (labels_of policy) c (run_tx (labels_of policy) schemes tx args d)
      (run_tx (labels_of policy) schemes tx brgs e)
  pub one_run : (c : ℕ) (schemes : Schemes) (d : Database) (args : List (Option Value)) → IsReadUnder policy schemes tx
      → AreStored (labels_of policy) schemes d → below (labels_of policy) tx.lo c ≡ false
      → IsSilent (labels_of policy) c d (run_tx (labels_of policy) schemes tx args d)
