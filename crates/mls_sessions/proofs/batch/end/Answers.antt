use Rattle.std.proofs.Common.{◌≡◌, [], cond, OnOk, ap, sym, subst, ◌∙◌}
use Rattle.mls_sessions.specs.Batches.{over}
use Rattle.mls_sessions.proofs.batch.end.Goals as goal

pub returns-then-undone-clause-over : goal.returns-then-undone-clause-over
returns-then-undone-clause-over g c =
    let s = (g.B.Base.seen c.args.base.now).state in
    let t = (g.B.Base.seen c.rollback.new.self).state in
    record {
      change = c.rollback.ensures.change;
      done = λ h. subst (λ u. OnOk c.rollback.result (t ≡ over u s)) (sym c.if-undone.true) (c.rollback.ensures.done h);
    }

pub returns-then-undone-clause-views : goal.returns-then-undone-clause-views
returns-then-undone-clause-views g c =
    c.clear.ensures ∙ sym (ap (λ u. cond u [] c.args.views.now) c.if-undone.true)

pub returns-clause-over : goal.returns-clause-over
returns-clause-over g c =
    let s = (g.B.Base.seen c.args.base.now).state in
    let t = (g.B.Base.seen c.commit.new.self).state in
    record {
      change = c.commit.ensures.change;
      done = λ h. subst (λ u. OnOk c.commit.result (t ≡ over u s)) (sym c.if-undone.false) (c.commit.ensures.done h);
    }

pub returns-clause-views : goal.returns-clause-views
returns-clause-views g c = sym (ap (λ u. cond u [] c.args.views.now) c.if-undone.false)
