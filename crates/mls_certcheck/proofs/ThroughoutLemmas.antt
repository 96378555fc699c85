-- What the stored form implies holds throughout a call.
use Rattle.std.proofs.Common.{ℕ, List, [], ◌∷◌, Option}
use Rattle.mls_lattice.specs.Labels.{AreDistinct}
use Rattle.mls_lattice.specs.Policy.{Policy, labels_of}
use Rattle.mls_scheme.specs.declared.value.Value.{Value}
use Rattle.mls_scheme.specs.declared.tuple.Tuple.{Tuple}
use Rattle.mls_scheme.specs.Table.{Database}
use Rattle.mls_scheme.specs.Scheme.{Schemes}
use Rattle.mls_filterview.specs.View.{rows}
use Rattle.mls_translang.specs.Tree.{Block, End, Do, If, For}
use Rattle.mls_translang.specs.Tx.{Tx, scope_of}
use Rattle.mls_translang.specs.Scope.{Scope, in_loop}
use Rattle.mls_translang.specs.Fits.{BlockFits, IsReadUnder}
use Rattle.mls_translang.specs.Expressions.{holds_in}
use Rattle.mls_certcheck.specs.Meaning.{Progress, start, environment, perform, run_block}
use Rattle.mls_certcheck.specs.Secure.{AreStored}
use Rattle.mls_certcheck.specs.Throughout.{EachTurn, ThroughoutBlock, Throughout}
use Rattle.mls_certcheck.specs.MeaningLaws.{CallsKeepFormThroughout}
use Rattle.mls_certcheck.proofs.KeepingLemmas.{cond_kept, for_each_kept, perform_stored, block_stored}

each_turn : (P : Progress → Type 0) (turn : Tuple → Progress → Progress) (Holds : Tuple → Progress → Type 0)
    → ((row : Tuple) (s : Progress) → P s → Holds row s) → ((row : Tuple) (s : Progress) → P s → P (turn row s))
    → (rs : List Tuple) (s : Progress) → P s → EachTurn turn Holds rs s
each_turn P turn Holds holds keeps [] s h = tt
each_turn P turn Holds holds keeps (row ∷ rest) s h = (
  holds row s h,
  each_turn P turn Holds holds keeps rest
      (turn row s) (keeps row s h),
)

module _ (policy : Policy) (schemes : Schemes) (hi : ℕ) (distinct : AreDistinct (labels_of policy))
    (args : List (Option Value))
    (Holds : Database → Type 0) (implied : (db : Database) → AreStored (labels_of policy) schemes db → Holds db) where
  block_throughout : (scope : Scope) (block : Block) → BlockFits policy schemes hi scope block
      → (around : List Tuple) (s : Progress)
      → AreStored (labels_of policy) schemes s.db → ThroughoutBlock (labels_of policy) schemes args Holds block around s
  unfolding ThroughoutBlock
  block_throughout scope End f around s h = tt
  block_throughout scope (Do stmt rest) f around s h =
      let k = perform_stored policy schemes hi distinct args scope around stmt s f.0 h in
      (implied _ k, block_throughout scope rest f.1 around (perform (labels_of policy) schemes args around stmt s) k)
  block_throughout scope (If guard one other rest) f around s h = (
    λ _. block_throughout scope one f.1 around s h,
    λ _. block_throughout scope other f.2 around s h,
    block_throughout scope rest f.3 around _
        (cond_kept (λ t. AreStored (labels_of policy) schemes t.db) (holds_in (environment args around s) guard)
        (run_block (labels_of policy) schemes args one around s)
        (run_block (labels_of policy) schemes args other around s)
        (block_stored policy schemes hi distinct args scope one f.1 around s h)
        (block_stored policy schemes hi distinct args scope other f.2 around s h)),
  )
  block_throughout scope (For name relation label body rest) f around s h =
      let keeps = λ (row : Tuple) (t : Progress)
      (k : AreStored (labels_of policy) schemes t.db). block_stored policy schemes hi distinct args
      (in_loop scope name relation) body f.2 (row ∷ around) t k in (
        each_turn (λ t. AreStored (labels_of policy) schemes t.db)
            (λ row t. run_block (labels_of policy) schemes args body (row ∷ around) t)
            (λ row t. ThroughoutBlock (labels_of policy) schemes args Holds body (row ∷ around) t)
            (λ row t k. block_throughout (in_loop scope name relation) body f.2 (row ∷ around) t k) keeps
            (rows (labels_of policy) label (s.db relation)) s h,
        block_throughout scope rest f.3 around _
            (for_each_kept (λ t. AreStored (labels_of policy) schemes t.db)
            (λ row t. run_block (labels_of policy) schemes args body (row ∷ around) t)
            keeps (rows (labels_of policy) label (s.db relation)) s h),
      )

-- so of a whole call
pub form_throughout : (policy : Policy) → AreDistinct (labels_of policy) → (schemes : Schemes) (tx : Tx)
    → IsReadUnder policy schemes tx
    → (args : List (Option Value)) (db : Database) → AreStored (labels_of policy) schemes db
    → (Holds : Database → Type 0) → ((d : Database) → AreStored (labels_of policy) schemes d → Holds d)
    → Throughout (labels_of policy) schemes tx args db Holds
form_throughout policy distinct schemes tx read args db stored Holds implied =
    block_throughout policy schemes tx.hi distinct args Holds implied (scope_of tx) tx.body read.fits []
    (start db) stored

pub keep_form_throughout : CallsKeepFormThroughout
keep_form_throughout policy distinct schemes tx read args db stored =
    form_throughout policy distinct schemes tx read args db stored (AreStored (labels_of policy) schemes) (λ d h. h)
