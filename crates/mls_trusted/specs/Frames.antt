-- What a call holds while it runs, and what each part of it does to a base.
use Rattle.std.specs.Prelude.{◌≡◌, ℕ, ◌<◌, true, List, ◌∷◌, length, Option, None, reverse, slice_index_or}
use Rattle.std.specs.List.{AllByRecursion}
use Rattle.mls_lattice.specs.Labels.{Labels, below}
use Rattle.mls_lattice.specs.Policy.{labels_of}
use Rattle.mls_scheme.specs.declared.value.Value.{Value}
use Rattle.mls_scheme.specs.declared.tuple.Tuple.{Tuple}
use Rattle.mls_scheme.specs.Table.{Database}
use Rattle.mls_scheme.specs.Scheme.{scheme_of, AreUnder}
use Rattle.mls_filterview.specs.Content.{Seen}
use Rattle.mls_filterview.specs.View.{rows}
use Rattle.mls_filterview.specs.Stored.{AreContent}
use Rattle.mls_translang.specs.declared.row.LoopRow.{LoopRow}
use Rattle.mls_translang.specs.Tree.{Block}
use Rattle.mls_translang.specs.Scope.{Scope}
use Rattle.mls_translang.specs.Tx.{scope_of, BlockIsOwn}
use Rattle.mls_translang.specs.Kinds.{BlockKinds}
use Rattle.mls_translang.specs.Fits.{IsLabel, BlockFits}
use Rattle.mls_translang.specs.Expressions.{Environment}
use Rattle.mls_certcheck.specs.Meaning.{Variables, Progress, for_each, run_block}
use Rattle.mls_certcheck.specs.Kinds.{RowKinds, VarsFit, AroundFits}
use Rattle.mls_certcheck.specs.MeaningLaws.{IsItem}
use Rattle.mls_queries.specs.Views.{Kept, AreViews}
use Rattle.mls_trusted.specs.declared.call.Call.{Call}
use Rattle.mls_trusted.specs.declared.frame.Frame.{Frame}
use Rattle.mls_trusted.specs.Runs.{with_database}

-- ---- what is held

abbrev pub vars_of : Frame → Variables
vars_of f i = slice_index_or f.vars.items i None

-- the rows of the loops around, the innermost first
abbrev pub around_of : Frame → List Tuple
around_of f = reverse f.rows.items

-- over a database it is how far a run has come
abbrev pub progress_of : Database → Frame → Progress
progress_of db f = record { db = db; vars = vars_of f; emitted = f.emitted.items; released = f.released.items }

-- what expressions read
abbrev pub env_in : List (Option Value) → Frame → Environment
env_in args f = record { args = args; rows = around_of f; vars = vars_of f }

-- the variables of f have changed, and its views
pub record HasVars (given : Variables) (kept : Kept) (f g : Frame) : Type 0 where
  pub vars : vars_of g ≡ given
  pub count : length g.vars.items ≡ length f.vars.items
  pub rows : g.rows ≡ f.rows
  pub emitted : g.emitted ≡ f.emitted
  pub released : g.released ≡ f.released
  pub views : g.views ≡ kept

module _ (call : Call) where
  abbrev pub labels : Labels
  labels = labels_of call.policy.now

  -- a value for each variable, of its kind, and items with labels and kinds
  pub record IsFrame (f : Frame) : Type 0 where
    pub count : length f.vars.items ≡ length call.tx.now.vars
    pub vars : VarsFit (scope_of call.tx.now) (vars_of f)
    pub emitted : AllByRecursion (IsItem call.policy.now) f.emitted.items
    pub released : AllByRecursion (λ i. IsItem call.policy.now i × (below labels i.0 call.tx.now.hi
        ≡ true)) f.released.items

  -- ---- what may be run

  -- the names inside loops over these rows
  abbrev pub inside : List LoopRow → Scope
  inside rows = record { params = call.tx.now.params; vars = call.tx.now.vars; rows = rows }

  -- a block that stands in loops over such rows
  pub record MayRunBlock (around : List Tuple) (block : Block) : Type 0 where
    pub rows : List LoopRow
    pub own : BlockIsOwn (inside rows) block
    pub fits : BlockFits call.policy.now call.schemes.now call.tx.now.hi (inside rows) block
    pub kinds : BlockKinds call.schemes.now (inside rows) block
    pub read : AroundFits call.schemes.now (inside rows) call.args.now around

  -- the body of a loop at any row of its relation
  pub record MayLoop (relation level : ℕ) (around : List Tuple) (body : Block) : Type 0 where
    pub declared : relation < length call.schemes.now
    pub label : IsLabel call.policy.now level
    pub each : (row : Tuple) → RowKinds (scheme_of call.schemes.now relation) row → MayRunBlock (row ∷ around) body

  abbrev pub run_of : Block → List Tuple → Progress → Progress
  run_of = run_block labels call.schemes.now call.args.now

  -- the body of a loop at each of the rows
  abbrev pub rows_of : Block → List Tuple → List Tuple → Progress → Progress
  rows_of body around = for_each (λ row s. run_of body (row ∷ around) s)

  abbrev pub loop_of : ℕ → ℕ → Block → List Tuple → Progress → Progress
  loop_of relation label body around s = rows_of body around (rows labels label (s.db relation)) s

  -- ---- what it does

  -- a part of a run that leaves the database
  pub record IsFrameStep (run : Progress → Progress) (f g : Frame) : Type 0 where
    pub frame : IsFrame g
    pub rows : g.rows.items ≡ f.rows.items
    pub views : g.views ≡ f.views
    pub progress : (db : Database) → progress_of db g ≡ run (progress_of db f)

  module _ {B : Type 0} (seen : B → Seen) where
    -- inside a change over content of the stored form, with views of it
    pub record IsCallReady (base : B) (f : Frame) : Type 0 where
      pub under : AreUnder (length call.policy.now.labels) call.schemes.now
      pub begun : (seen base).state.begun ≡ true
      pub content : (seen base).is_clean → AreContent labels call.schemes.now (seen base).state.now.db
      pub frame : IsFrame f
      pub views : AreViews call.policy.now seen base f.views

    -- a declared label looks at a relation, with views that are kept
    pub record MayLook (relation c : ℕ) (kept : Kept) (base : B) : Type 0 where
      pub label : c < length call.policy.now.labels
      pub declared : relation < length call.schemes.now
      pub content : (seen base).is_clean → AreContent labels call.schemes.now (seen base).state.now.db
      pub views : AreViews call.policy.now seen base kept

    -- a part of a run: all but the database stays
    pub record IsFrameRun (run : Progress → Progress) (old new : B) (f g : Frame) : Type 0 where
      pub ready : IsCallReady new g
      pub rows : g.rows.items ≡ f.rows.items
      pub rest : (seen new).is_clean → (seen new).state ≡ with_database (seen old).state (seen new).state.now.db
      pub progress : (seen new).is_clean → progress_of (seen new).state.now.db g
          ≡ run (progress_of (seen old).state.now.db f)
