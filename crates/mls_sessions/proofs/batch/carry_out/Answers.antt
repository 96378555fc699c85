use Rattle.std.proofs.Common.{[], refl, ap, ◌∙◌}
use Rattle.mls_filterview.specs.Content.{State}
use Rattle.mls_filterview.proofs.AccessLemmas.{avoids_then, avoids_some}
use Rattle.mls_machine.specs.Machine.{did_all}
use Rattle.mls_sessions.specs.Batches.{over}
use Rattle.mls_sessions.specs.Sessions.{site_of_run}
use Rattle.mls_sessions.proofs.BatchLemmas.{ended_from, batch_over}
use Rattle.mls_sessions.proofs.GoingLemmas.{views_over}
use Rattle.mls_sessions.proofs.batch.carry_out.Goals as goal

pub returns-in_err-begin-clause-access : goal.returns-in_err-begin-clause-access
returns-in_err-begin-clause-access g c = avoids_some c.in_err-begin.ensures.access

pub returns-in_err-reply-clause-access : goal.returns-in_err-reply-clause-access
returns-in_err-reply-clause-access g c = avoids_then
    (avoids_some c.in_ok-begin.ensures.access) c.in_err-reply.ensures.access

pub returns-in_err-end-clause-access : goal.returns-in_err-end-clause-access
returns-in_err-end-clause-access g c =
    avoids_then (avoids_then (avoids_some c.in_ok-begin.ensures.access) c.in_ok-reply.ensures.access)
    (avoids_some c.in_err-end.ensures.access)

pub returns-clause-access : goal.returns-clause-access
returns-clause-access g c = avoids_then (avoids_then
    (avoids_some c.in_ok-begin.ensures.access) c.in_ok-reply.ensures.access) (avoids_some c.in_ok-end.ensures.access)

pub returns-clause-done : goal.returns-clause-done
returns-clause-done g c = λ h.
    let seen = g.B.Base.seen in
    let site = site_of_run c.args.site.now in
    let level = c.args.level in
    let batch = c.args.batch.now in
    let s = (seen c.args.base.now).state in
    let b = (seen c.begin.new.self).state in
    let m = (seen c.do_all.new.base).state in
    let t = (seen c.end.new.base).state in
    let reply = c.in_ok-reply.reply in
    let done = c.in_ok-reply.ensures in
    let left = c.in_ok-end.ensures.over in
    let k = left.change.call.clean h in
    let from = c.in_ok-begin.ensures.done (done.step.call.clean k) in
    batch_over site level batch (did_all site level [] batch s.now.db) s m t reply refl
    (done.step.kept k ∙ ap (λ (x : State). x.kept) from)
    (ended_from site level batch s b m.now reply from (done.done k))
    (left.done h ∙ ap (λ u. over u m) c.is_undone.ensures)

pub returns-clause-views : goal.returns-clause-views
returns-clause-views g c =
    let left = c.in_ok-end.ensures in
    views_over g.B.Base.seen c.args.site.now.policy.now c.do_all.new.base c.end.new.base c.is_undone.result
    c.do_all.new.views c.end.new.views left.over.change.call.clean left.over.done c.in_ok-reply.ensures.views left.views
