use Rattle.std.proofs.Common.{rules}
use Rattle.mls_sessions.specs.Sessions.{site_of_run}
use Rattle.mls_sessions.proofs.SessionLemmas.{answer_other, answer_unknown, answer_exceeding, answer_opened}
use Rattle.mls_sessions.proofs.session.open.Goals as goal

pub returns-in_default-clause-done : goal.returns-in_default-clause-done
returns-in_default-clause-done c = answer_other
    (site_of_run c.args.site.now) c.args.event.now c.args.sessions.now.items c.in_default.not-Open

pub returns-in_default-known_user-clause-done : goal.returns-in_default-known_user-clause-done
returns-in_default-known_user-clause-done c =
    answer_unknown (site_of_run c.args.site.now) c.args.event.now c.args.sessions.now.items c.in-Open.name
    (search rules) (search rules)

pub returns-then-not-dominates-clause-done : goal.returns-then-not-dominates-clause-done
returns-then-not-dominates-clause-done c =
    answer_exceeding (site_of_run c.args.site.now) c.args.event.now c.args.sessions.now.items c.in-Open.name
    (search rules)
    c.in-Some.user c.clearance.result (search rules) c.clearance.ensures.same (search rules)

pub returns-clause-done : goal.returns-clause-done
returns-clause-done c =
    answer_opened (site_of_run c.args.site.now) c.args.event.now c.args.sessions.now.items c.in-Open.name (search rules)
    c.in-Some.user c.clearance.result (search rules) c.clearance.ensures.same c.push.new.self.items (search rules)
    (search rules) (search rules)
