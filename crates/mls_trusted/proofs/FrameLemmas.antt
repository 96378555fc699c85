-- Changes of variables and items.
use Rattle.std.proofs.Common.{◌≡◌, true, sym, ◌∙◌, subst}
use Rattle.std.specs.List.{AllByRecursion}
use Rattle.mls_lattice.specs.Labels.{below}
use Rattle.mls_lattice.specs.Policy.{labels_of}
use Rattle.mls_scheme.specs.Table.{Database}
use Rattle.mls_translang.specs.Tx.{scope_of}
use Rattle.mls_certcheck.specs.Kinds.{VarsFit}
use Rattle.mls_certcheck.specs.MeaningLaws.{IsItem}
use Rattle.mls_certcheck.specs.Meaning.{Variables}
use Rattle.mls_translang.specs.Tree.{Block}
use Rattle.mls_certcheck.proofs.KindLemmas.{EnvironmentFits}
use Rattle.mls_queries.specs.Views.{Kept}
use Rattle.mls_trusted.specs.declared.call.Call.{Call}
use Rattle.mls_trusted.specs.declared.frame.Frame.{Frame}
use Rattle.mls_trusted.specs.Frames.{around_of, progress_of, env_in, inside, MayRunBlock, HasVars, IsFrame}

module _ (call : Call) (vars : Variables) (kept : Kept) (f g : Frame) (h : HasVars vars kept f g) where
  -- variables of their kinds, and the rest as it was
  pub vars_frame : IsFrame call f → VarsFit (scope_of call.tx.now) vars → IsFrame call g
  vars_frame i v = record {
    count = h.count ∙ i.count;
    vars = subst (VarsFit (scope_of call.tx.now)) (sym h.vars) v;
    emitted = subst (λ x. AllByRecursion (IsItem call.policy.now) x.items) (sym h.emitted) i.emitted;
    released = subst (λ x. AllByRecursion (λ k. IsItem call.policy.now k
        × (below (labels_of call.policy.now) k.0 call.tx.now.hi ≡ true)) x.items) (sym h.released) i.released;
  }

  pub vars_progress : (db : Database) → progress_of db g ≡ record (progress_of db f) { vars = vars }
  vars_progress db = λ k. record {
    db = db;
    vars = h.vars k;
    emitted = (h.emitted k).items;
    released =
        (h.released k).items;
  }

-- what expressions read in a frame is of its kinds
pub env_fits : (call : Call) (f : Frame) (block : Block) → IsFrame call f → (m : MayRunBlock call (around_of f) block)
    → EnvironmentFits call.policy.now call.schemes.now call.tx.now.hi (inside call m.rows) (env_in call.args.now f)
env_fits call f block i m = record { vars = i.vars; params = m.read.params; rows = m.read.rows }
