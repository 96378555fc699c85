-- What evaluations promise.
use Rattle.std.specs.Prelude.{◌≡◌, true, List, length, Option, Result, IfOk, OnOk}
use Rattle.std.specs.List.{AllByRecursion}
use Rattle.mls_lattice.specs.Policy.{Policy, labels_of}
use Rattle.mls_scheme.specs.declared.value.Value.{Value}
use Rattle.mls_scheme.specs.Scheme.{Schemes, AreUnder}
use Rattle.mls_scheme.specs.Table.{Database}
use Rattle.mls_filterview.specs.declared.base.BaseFault.{BaseFault}
use Rattle.mls_filterview.specs.Content.{Seen, State}
use Rattle.mls_filterview.specs.Stored.{AreContent}
use Rattle.mls_translang.specs.Tx.{Tx}
use Rattle.mls_translang.specs.Fits.{IsReadUnder}
use Rattle.mls_certcheck.specs.declared.run.Run.{Run}
use Rattle.mls_certcheck.specs.Meaning.{Progress, run_tx}
use Rattle.mls_certcheck.specs.MeaningLaws.{IsItem, ArgsFit}
use Rattle.mls_queries.specs.Views.{Kept, AreViews}

-- another database: the audit list, the content at the last commit and whether a change is begun stay
abbrev pub with_database : State → Database → State
with_database s db = record s { now = record { db = db; audit = s.now.audit } }

-- a call gave all that a run emitted and released, and left this state
pub record IsEvaluated (p : Progress) (left new : State) (r : Run) : Type 0 where
  pub emitted : r.emitted ≡ p.emitted
  pub released : r.released ≡ p.released
  pub state : new ≡ left

-- all that a call gave has declared labels and values of kinds
pub record HasItems (policy : Policy) (r : Run) : Type 0 where
  pub emitted : AllByRecursion (IsItem policy) r.emitted
  pub released : AllByRecursion (IsItem policy) r.released

-- ---- calls of a transaction with these arguments

module _ {Self : Type 0} (seen : Self → Seen) (policy : Policy) (schemes : Schemes) (tx : Tx) (given : List
    (Option Value)) where
  -- what may be called: a transaction that was read for these schemes, an argument for each parameter, content of the
  -- stored form
  pub record MayCall (base : Self) : Type 0 where
    pub under : AreUnder (length policy.labels) schemes
    pub read : IsReadUnder policy schemes tx
    pub args : ArgsFit tx given
    pub content : (seen base).is_clean → AreContent (labels_of policy) schemes (seen base).state.now.db

  -- inside a change, with views that are kept
  pub record MayCallInside (kept : Kept) (base : Self) : Type 0 where
    pub call : MayCall base
    pub begun : (seen base).state.begun ≡ true
    pub views : AreViews policy seen base kept

  -- what a call does, and then finish: what is emitted, released and left is what the transaction means
  pub record IsCalled (finish : State → State) (old new : Self) (result : Result Run BaseFault) : Type 0 where
    pub items : IfOk result (HasItems policy)
    pub done : (seen new).is_clean → let run = run_tx (labels_of policy) schemes tx given
        (seen old).state.now.db in IfOk result (IsEvaluated run (finish (with_database (seen old).state run.db))
        (seen new).state)
    pub content : (seen new).is_clean → OnOk result (AreContent (labels_of policy) schemes (seen new).state.now.db)
