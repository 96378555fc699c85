use Rattle.std.proofs.Common.{◌≡◌, [], sym, ap, ◌∙◌, subst}
use Rattle.std.proofs.lemmas.Result.{IfOk-at_ok}
use Rattle.mls_lattice.specs.Policy.{labels_of}
use Rattle.mls_scheme.specs.Table.{Database}
use Rattle.mls_filterview.specs.Stored.{AreContent}
use Rattle.mls_translang.specs.Tree.{Block}
use Rattle.mls_translang.specs.Tx.{Tx}
use Rattle.mls_translang.specs.Fits.{IsReadUnder}
use Rattle.mls_certcheck.specs.MeaningLaws.{ArgsFit}
use Rattle.mls_certcheck.specs.Meaning.{start, run_tx}
use Rattle.mls_queries.specs.Views.{AreViews}
use Rattle.mls_trusted.specs.declared.call.Call.{Call}
use Rattle.mls_trusted.specs.declared.frame.Frame.{Frame}
use Rattle.mls_trusted.specs.Runs.{with_database, IsEvaluated}
use Rattle.mls_trusted.specs.Frames.{around_of, progress_of, MayRunBlock, run_of, IsFrame, IsFrameRun}
use Rattle.mls_trusted.proofs.EvaluationLemmas.{start_may, gives_items, gives_run}
use Rattle.mls_certcheck.specs.Rules.{Rules, claim}
use Rattle.mls_filterview.specs.Calls.{NoWriteDown}
use Rattle.mls_filterview.proofs.AccessLemmas.{avoids_then, avoids_some}
use Rattle.mls_trusted.specs.Ends.{BlockBetween}
use Rattle.mls_trusted.proofs.EndLemmas.{body_between}
use Rattle.mls_trusted.proofs.evaluation.evaluate_in.Goals as goal

pub run_block-requires-clause-ready : goal.run_block-requires-clause-ready
run_block-requires-clause-ready g c =
    let call : Call = record {
      alloc = c.args.alloc;
      policy = c.args.policy;
      schemes = c.args.schemes;
      tx = c.tx.result;
      args = c.args.args;
    } in
    let is = IfOk-at_ok (λ (x : Frame). x.views ≡ c.take_all.result) c.in_ok-frame.ensures.value c.new.ensures.views in
    let views = subst (AreViews c.args.policy.now g.B.Base.seen c.settle.new.base) (sym (is ∙ c.take_all.ensures.all))
    (subst (λ b. AreViews c.args.policy.now g.B.Base.seen b c.args.views.now)
    (sym c.in_ok-frame.ensures.same) c.requires.views) in
    record {
      under = c.requires.call.under;
      begun = ap (λ b. (g.B.Base.seen b).state.begun) c.in_ok-frame.ensures.same ∙ c.requires.begun;
      content = λ k. subst (λ b. AreContent (labels_of c.args.policy.now) c.args.schemes.now
          (g.B.Base.seen b).state.now.db) (sym c.in_ok-frame.ensures.same)
          (c.requires.call.content (c.in_ok-frame.ensures.call.clean k));
      frame = IfOk-at_ok (IsFrame call) c.in_ok-frame.ensures.value c.new.ensures.frame;
      views = views;
    }

pub run_block-requires-clause-may : goal.run_block-requires-clause-may
run_block-requires-clause-may g c =
    let call : Call = record {
      alloc = c.args.alloc;
      policy = c.args.policy;
      schemes = c.args.schemes;
      tx = c.tx.result;
      args = c.args.args;
    } in
    let f = c.in_ok-frame.frame in
    let none = IfOk-at_ok (λ (x : Frame). x.rows.items ≡ []) c.in_ok-frame.ensures.value c.new.ensures.rows in
    subst (MayRunBlock call (around_of f)) (sym c.body.ensures.body)
    (start_may call c.body.ensures.valid (subst (IsReadUnder c.args.policy.now c.args.schemes.now)
    (sym c.tx.ensures) c.requires.call.read) (subst (λ (x : Tx). ArgsFit x c.args.args.now)
    (sym c.tx.ensures) c.requires.call.args) f none)

pub returns-clause-called : goal.returns-clause-called
returns-clause-called g c =
    let call : Call = record {
      alloc = c.args.alloc;
      policy = c.args.policy;
      schemes = c.args.schemes;
      tx = c.tx.result;
      args = c.args.args;
    } in
    let f = c.in_ok-frame.frame in
    let seen = g.B.Base.seen in
    let ls = labels_of c.args.policy.now in
    record {
      items = gives_items call c.run_block.new.frame c.into_parts-run.result.0 c.into_parts-run.ensures.emitted c.into_parts-run.ensures.released c.in_ok-run_block.ensures.ran.ready.frame;
      done = λ clean.
          let none = IfOk-at_ok (λ (x : Frame). x.rows.items ≡ []) c.in_ok-frame.ensures.value c.new.ensures.rows in
          let first = IfOk-at_ok (λ (x : Frame). (db : Database) → progress_of db x
          ≡ start db) c.in_ok-frame.ensures.value c.new.ensures.start in
          let ran = subst (λ (x : Block). IsFrameRun call seen
          (run_of call x (around_of f)) c.settle.new.base c.run_block.new.base f c.run_block.new.frame) c.body.ensures.body c.in_ok-run_block.ensures.ran in
          let evaluated = gives_run call seen c.settle.new.base c.run_block.new.base f c.run_block.new.frame c.into_parts-run.result.0 first none ran c.into_parts-run.ensures.emitted c.into_parts-run.ensures.released clean in
          subst (λ (x : Tx). let run = run_tx ls c.args.schemes.now x c.args.args.now
          (seen c.args.base.now).state.now.db in IsEvaluated run (with_database (seen c.args.base.now).state run.db)
          (seen c.run_block.new.base).state c.into_parts-run.result.0) c.tx.ensures
          (subst (λ b. let run = run_tx ls c.args.schemes.now c.tx.result.now c.args.args.now (seen b).state.now.db
          in IsEvaluated run (with_database (seen b).state run.db)
          (seen c.run_block.new.base).state c.into_parts-run.result.0) c.in_ok-frame.ensures.same evaluated);
      content = λ clean. c.in_ok-run_block.ensures.ran.ready.content clean;
    }

pub returns-clause-access : goal.returns-clause-access
returns-clause-access g c = λ cert rules.
    let ls = labels_of c.args.policy.now in
    let seen = g.B.Base.seen in
    let here = subst (λ (x : Tx). Rules (claim c.args.policy.now x cert)) (sym c.tx.ensures) rules in
    let tx = c.tx.result.now in
    let between = subst (BlockBetween ls tx.lo tx.hi) (sym c.body.ensures.body)
    (body_between (claim c.args.policy.now tx cert) here) in
    subst (λ (x : Tx). NoWriteDown seen ls x.hi x.lo c.args.base.now c.run_block.new.base) c.tx.ensures
    (avoids_then (avoids_some c.in_ok-frame.ensures.access) (c.in_ok-run_block.ensures.access between))

pub returns-in_err-run_block-clause-access : goal.returns-in_err-run_block-clause-access
returns-in_err-run_block-clause-access g c = λ cert rules.
    let ls = labels_of c.args.policy.now in
    let seen = g.B.Base.seen in
    let here = subst (λ (x : Tx). Rules (claim c.args.policy.now x cert)) (sym c.tx.ensures) rules in
    let tx = c.tx.result.now in
    let between = subst (BlockBetween ls tx.lo tx.hi) (sym c.body.ensures.body)
    (body_between (claim c.args.policy.now tx cert) here) in
    subst (λ (x : Tx). NoWriteDown seen ls x.hi x.lo c.args.base.now c.run_block.new.base) c.tx.ensures
    (avoids_then (avoids_some c.in_ok-frame.ensures.access) (c.in_err-run_block.ensures.access between))

pub returns-in_err-frame-clause-access : goal.returns-in_err-frame-clause-access
returns-in_err-frame-clause-access g c = λ cert rules. avoids_some c.in_err-frame.ensures.access
