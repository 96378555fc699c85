use Rattle.mls_sessions.specs.Sessions.{site_of_run}
use Rattle.mls_sessions.proofs.KeptLemmas.{denied_views}
use Rattle.std.proofs.Common.{subst}
use Rattle.mls_filterview.proofs.AccessLemmas.{avoids_some}
use Rattle.mls_sessions.specs.Turns.{IsEffectOf}
use Rattle.mls_sessions.proofs.AccessLemmas.{write_permitted}
use Rattle.mls_sessions.proofs.change.act.Goals as goal

pub returns-in-Deny-clause-views : goal.returns-in-Deny-clause-views
returns-in-Deny-clause-views g c =
    denied_views g.B.Base.seen (site_of_run c.args.site.now) c.args.event.now c.in-Deny.user c.in-Deny.denial c.args.base.now c.enter.new.base c.args.views.now
    c.enter.result c.enter.ensures.step.call.clean c.enter.ensures.done.done c.requires.found.views

pub returns-in-Deny-clause-access : goal.returns-in-Deny-clause-access
returns-in-Deny-clause-access g c = avoids_some c.enter.ensures.access

pub returns-in-Write-clause-access : goal.returns-in-Write-clause-access
returns-in-Write-clause-access g c =
    let site = site_of_run c.args.site.now in
    let e = c.args.event.now in
    let asked = subst (IsEffectOf site e) c.in-Write.is c.requires.may.asked in
    write_permitted g.B.Base.seen c.args.base.now c.write.new.base site e.level e.command asked c.write.ensures.access
