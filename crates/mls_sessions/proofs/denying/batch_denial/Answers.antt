use Rattle.std.proofs.Common.{sym, ◌∙◌}
use Rattle.mls_machine.specs.Denying.{first_denial, batch_denials}
use Rattle.mls_sessions.specs.Sessions.{site_of_run}
use Rattle.mls_sessions.proofs.BatchLemmas.{denials_past, denials_found, none_denied}
use Rattle.mls_sessions.proofs.EngineLemmas.{none_from}
use Rattle.mls_sessions.proofs.denying.batch_denial.Goals as goal

pub loop-one-preserved : goal.loop-one-preserved
loop-one-preserved c =
    let site = site_of_run c.args.site.now in
    denials_past site c.args.level c.args.batch.now c.loop-one.one-index c.one-item.result c.loop-one-test.true c.one-item.is c.args.user (first_denial (batch_denials site c.args.level c.args.user c.args.batch.now)) c.loop-one.invariant
    (sym c.one_denial.ensures ∙ none_from c.one_denial.result c.in_default.not-Some)

pub returns-in-Some : goal.returns-in-Some
returns-in-Some c =
    let site = site_of_run c.args.site.now in
    denials_found site c.args.level c.args.batch.now c.loop-one.one-index c.one-item.result c.loop-one-test.true c.one-item.is c.args.user (first_denial (batch_denials site c.args.level c.args.user c.args.batch.now)) c.loop-one.invariant
    c.in-Some.denial (sym c.one_denial.ensures ∙ c.in-Some.is)

pub returns : goal.returns
returns c =
    none_denied (site_of_run c.args.site.now) c.args.level c.args.user c.args.batch.now c.loop-one.one-index _
    c.loop-one-test.false c.loop-one.invariant
