-- What releases can tell a level that it may not read, under a certificate.
use Rattle.std.specs.Prelude.{◌≡◌, ℕ, true, List, Option, ◌⊎◌}
use Rattle.mls_lattice.specs.Labels.{below, AreDistinct}
use Rattle.mls_lattice.specs.Policy.{Policy, labels_of}
use Rattle.mls_scheme.specs.declared.value.Value.{Value}
use Rattle.mls_scheme.specs.Table.{Database}
use Rattle.mls_scheme.specs.Scheme.{Schemes}
use Rattle.mls_translang.specs.Tx.{Tx}
use Rattle.mls_translang.specs.Fits.{IsReadUnder}
use Rattle.mls_certcheck.specs.Meaning.{run_tx}
use Rattle.mls_certcheck.specs.Secure.{AreStored, SameViews, SameArgs, param_labels, seen_items, Split, Alike}
use Rattle.mls_certcheck.specs.declared.cert.Certificate.{Certificate}
use Rattle.mls_certcheck.specs.CanTell.{CanTell}
use Rattle.mls_certcheck.specs.Rules.{Rules, claim}

-- to any level two runs look alike that began alike, but for values that are released to it and that are made of what
-- it may not read; what else the transaction reads plays no part
pub record Sharp (policy : Policy) (tx : Tx) (cert : Certificate) : Type 0 where
  pub two_runs : (c : ℕ) (schemes : Schemes) (d e : Database) (args brgs : List (Option Value))
      → IsReadUnder policy schemes tx
      → AreStored (labels_of policy) schemes d → AreStored (labels_of policy) schemes e
      → SameViews (labels_of policy) c d e → SameArgs (labels_of policy) c (param_labels tx) args brgs
      → (CanTell (claim policy tx cert) c
      × Split (seen_items (labels_of policy) c (run_tx (labels_of policy) schemes tx args d).released)
      (seen_items (labels_of policy) c (run_tx (labels_of policy) schemes tx brgs e).released))
      ⊎ Alike (labels_of policy) c (run_tx (labels_of policy) schemes tx args d)
      (run_tx (labels_of policy) schemes tx brgs e)

abbrev pub RulesMakeSharp : Type 0
RulesMakeSharp =
    (policy : Policy) → AreDistinct (labels_of policy) → (tx : Tx) (cert : Certificate)
    → Rules (claim policy tx cert) → Sharp policy tx cert

-- a level that dominates all that a transaction reads is told nothing by it
abbrev pub CeilingsTellNothing : Type 0
CeilingsTellNothing =
    (policy : Policy) (tx : Tx) (cert : Certificate) → Rules (claim policy tx cert)
    → (c : ℕ) → below (labels_of policy) tx.hi c ≡ true → CanTell (claim policy tx cert) c → ⊥
