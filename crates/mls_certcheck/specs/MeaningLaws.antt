-- The laws of calls.
use Rattle.std.specs.Prelude.{◌≡◌, true, List, Option}
use Rattle.std.specs.List.{AllByRecursion, AllZip}
use Rattle.mls_lattice.specs.Labels.{below, AreDistinct}
use Rattle.mls_lattice.specs.Policy.{Policy, labels_of}
use Rattle.mls_scheme.specs.declared.value.Kind.{Kind}
use Rattle.mls_scheme.specs.declared.value.Value.{Value}
use Rattle.mls_scheme.specs.Value.{fits_kind}
use Rattle.mls_scheme.specs.Table.{Database}
use Rattle.mls_scheme.specs.Scheme.{Schemes}
use Rattle.mls_filterview.specs.Stored.{AreContent}
use Rattle.mls_translang.specs.Tx.{Tx}
use Rattle.mls_translang.specs.Fits.{IsLabel, IsReadUnder}
use Rattle.mls_certcheck.specs.Meaning.{Item, run_tx}
use Rattle.mls_certcheck.specs.Secure.{AreStored}
use Rattle.mls_certcheck.specs.Throughout.{Throughout}

-- an argument for each parameter, of its kind or null
abbrev pub ArgsFit : Tx → List (Option Value) → Type 0
ArgsFit tx args = AllZip (λ p v. fits_kind v p.1.kind ≡ true) tx.params args

-- a declared label, and a value of some kind or null
pub record IsItem (policy : Policy) (i : Item) : Type 0 where
  pub label : IsLabel policy i.0
  pub kind : (k : Kind) × (fits_kind i.1 k ≡ true)

-- a call keeps the stored form
abbrev pub CallsKeepForm : Type 0
CallsKeepForm =
    (policy : Policy) → AreDistinct (labels_of policy) → (schemes : Schemes) (tx : Tx) → IsReadUnder policy schemes tx
    → (args : List (Option Value)) (db : Database) → AreStored (labels_of policy) schemes db
    → AreStored (labels_of policy) schemes (run_tx (labels_of policy) schemes tx args db).db

-- and so is each database on the way of it
abbrev pub CallsKeepFormThroughout : Type 0
CallsKeepFormThroughout =
    (policy : Policy) → AreDistinct (labels_of policy) → (schemes : Schemes) (tx : Tx) → IsReadUnder policy schemes tx
    → (args : List (Option Value)) (db : Database) → AreStored (labels_of policy) schemes db
    → Throughout (labels_of policy) schemes tx args db (AreStored (labels_of policy) schemes)

-- a call with arguments that fit keeps the whole stored form, kinds and intervals too
abbrev pub CallsKeepContent : Type 0
CallsKeepContent =
    (policy : Policy) → AreDistinct (labels_of policy) → (schemes : Schemes) (tx : Tx) → IsReadUnder policy schemes tx
    → (args : List (Option Value)) → ArgsFit tx args → (db : Database) → AreContent (labels_of policy) schemes db
    → AreContent (labels_of policy) schemes (run_tx (labels_of policy) schemes tx args db).db

-- what a call emits and releases has declared labels and values of kinds, and nothing is released above the highest
-- label of what it reads
abbrev pub CallsGiveItems : Type 0
CallsGiveItems =
    (policy : Policy) → AreDistinct (labels_of policy) → (schemes : Schemes) (tx : Tx) → IsReadUnder policy schemes tx
    → (args : List (Option Value)) → ArgsFit tx args → (db : Database) → AreContent (labels_of policy) schemes db
    → AllByRecursion (IsItem policy) (run_tx (labels_of policy) schemes tx args db).emitted
    × AllByRecursion (λ i. IsItem policy i × (below (labels_of policy) i.0 tx.hi ≡ true))
    (run_tx (labels_of policy) schemes tx args db).released
