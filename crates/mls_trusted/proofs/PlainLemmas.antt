-- Statements that leave the database.
use Rattle.std.proofs.Common.{◌≡◌, ℕ, ◌<◌, true, [], ◌∷◌, ◌++◌, length, Option, refl, sym, ap, ◌∙◌, subst}
use Rattle.std.proofs.SliceLists.{all_by_recursion_push}
use Rattle.std.specs.List.{AllByRecursion}
use Rattle.mls_lattice.specs.Labels.{below}
use Rattle.mls_lattice.specs.Policy.{labels_of}
use Rattle.mls_scheme.specs.declared.value.Kind.{Kind}
use Rattle.mls_scheme.specs.declared.value.Value.{Value}
use Rattle.mls_scheme.specs.Value.{fits_kind}
use Rattle.mls_translang.specs.Tree.{Expr, Assign, Release, Emit, Block, Do, End}
use Rattle.mls_translang.specs.Kinds.{HasKind, Assigns}
use Rattle.mls_translang.specs.Tx.{scope_of}
use Rattle.mls_translang.specs.Expressions.{value_in}
use Rattle.mls_certcheck.specs.Kinds.{VarsFit}
use Rattle.mls_certcheck.specs.MeaningLaws.{IsItem}
use Rattle.mls_certcheck.specs.Meaning.{set_var, perform, run_block}
use Rattle.mls_certcheck.proofs.KindLemmas.{set_kind, value_kind, assigned}
use Rattle.mls_trusted.specs.declared.call.Call.{Call}
use Rattle.mls_trusted.specs.declared.frame.Frame.{Frame}
use Rattle.mls_trusted.specs.Frames.{around_of, vars_of, progress_of, env_in, inside, MayRunBlock, run_of, IsFrame, HasVars, IsFrameStep}
use Rattle.mls_trusted.proofs.FrameLemmas.{vars_frame, vars_progress, env_fits}

module _ (call : Call) (f : Frame) (i : IsFrame call f) (e : Expr) (v : Option Value) (is : v
    ≡ value_in (env_in call.args.now f) e) where
  -- a value of its variable's kind
  given_kind : (block : Block) (m : MayRunBlock call (around_of f) block) (x : ℕ)
      → Assigns call.schemes.now (inside call m.rows) x e → VarsFit (scope_of call.tx.now) (set_var x v (vars_of f))
  given_kind block m x a =
      set_kind (scope_of call.tx.now) x v (vars_of f) i.vars
      (λ k q. subst (λ w. fits_kind w k ≡ true) (sym is) (assigned call.policy.now call.schemes.now call.tx.now.hi
      (inside call m.rows) (env_in call.args.now f) (env_fits call f block i m) x e a k q))

  given_item : (block : Block) (m : MayRunBlock call (around_of f) block) (label : ℕ)
      → label < length call.policy.now.labels → (k : Kind) → HasKind call.schemes.now (inside call m.rows) k e
      → IsItem call.policy.now (label, v)
  given_item block m label l k h = record {
    label = l;
    kind = (
      k,
      subst (λ w. fits_kind w k ≡ true) (sym is) (value_kind call.policy.now call.schemes.now call.tx.now.hi
          (inside call m.rows) (env_in call.args.now f) (env_fits call f block i m) k e h),
    );
  }

  pub assign_step : (x : ℕ) (g : Frame) → MayRunBlock call (around_of f) (Do (Assign x e) End)
      → HasVars (set_var x v (vars_of f)) f.views f g
      → IsFrameStep call (run_of call (Do (Assign x e) End) (around_of f)) f g
  unfolding run_block perform
  assign_step x g m h = record {
    frame = vars_frame call (set_var x v (vars_of f)) f.views f g h i (given_kind (Do (Assign x e) End) m x m.kinds.0);
    rows = ap (λ r. r.items) h.rows;
    views = h.views;
    progress = λ db. vars_progress call (set_var x v (vars_of f)) f.views f g h db
        ∙ (λ k. record (progress_of db f) { vars = set_var x (is k) (vars_of f) });
  }

  pub emit_step : (label : ℕ) (r : Frame) → MayRunBlock call (around_of f) (Do (Emit e label) End) → r.emitted.items
      ≡ f.emitted.items ++ (label, v) ∷ []
      → IsFrameStep call (run_of call (Do (Emit e label) End) (around_of f)) f (record f { emitted = r.emitted })
  unfolding run_block perform
  emit_step label r m more =
      let item = given_item (Do (Emit e label) End) m label m.fits.0.1 m.kinds.0.0 m.kinds.0.1 in
      record {
        frame = record {
          count = i.count;
          vars = i.vars;
          emitted = subst (AllByRecursion (IsItem call.policy.now)) (sym more)
              (all_by_recursion_push (IsItem call.policy.now) f.emitted.items (label, v) i.emitted item);
          released = i.released;
        };
        rows = refl;
        views = refl;
        progress = λ db. (λ k. record (progress_of db f) { emitted = more k })
            ∙ (λ k. record (progress_of db f) { emitted = f.emitted.items ++ (label, is k) ∷ [] });
      }

  pub release_step : (to into : ℕ) (r g : Frame) → MayRunBlock call (around_of f) (Do (Release e to into) End)
      → r.released.items ≡ f.released.items ++ (to, v) ∷ []
      → HasVars (set_var into v (vars_of f)) f.views (record f { released = r.released }) g
      → IsFrameStep call (run_of call (Do (Release e to into) End) (around_of f)) f g
  unfolding run_block perform
  release_step to into r g m more h =
      let block = Do (Release e to into) End in
      let a = m.kinds.0 in
      let item = given_item block m to m.fits.0.1 a.0 a.2 in
      let mid : Frame = record f { released = r.released } in
      let there : IsFrame call mid = record {
        count = i.count;
        vars = i.vars;
        emitted = i.emitted;
        released = subst (AllByRecursion (λ k. IsItem call.policy.now k
            × (below (labels_of call.policy.now) k.0 call.tx.now.hi ≡ true))) (sym more)
            (all_by_recursion_push (λ k. IsItem call.policy.now k
            × (below (labels_of call.policy.now) k.0 call.tx.now.hi ≡ true)) f.released.items (to, v) i.released
            (item, m.fits.0.2));
      } in
      record {
        frame = vars_frame call (set_var into v (vars_of f)) f.views mid g h there (given_kind block m into a);
        rows = ap (λ x. x.items) h.rows;
        views = h.views;
        progress = λ db. vars_progress call (set_var into v (vars_of f)) f.views mid g h db
            ∙ (λ k. record (progress_of db f) { vars = set_var into v (vars_of f); released = more k })
            ∙ (λ k. record (progress_of db f) {
              vars = set_var into (is k) (vars_of f);
              released = f.released.items
                  ++ (to, is k) ∷ [];
            });
      }
