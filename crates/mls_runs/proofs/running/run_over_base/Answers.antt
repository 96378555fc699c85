use Rattle.std.proofs.Common.{sym, subst}
use Rattle.mls_certcheck.specs.Site.{Site, site_of}
use Rattle.mls_machine.specs.Observation.{EventsFit}
use Rattle.mls_sessions.specs.World.{world_at}
use Rattle.mls_sessions.specs.Engine.{world_of}
use Rattle.mls_sessions.specs.Sessions.{site_of_run, sessions_of}
use Rattle.mls_runs.specs.Running.{first_world}
use Rattle.mls_runs.proofs.RunningLemmas.{IsEngineRun, run_at}
use Rattle.mls_sessions.proofs.FrameLemmas.{left_behind, given_back}
use Rattle.mls_sessions.specs.Access.{ArePermitted}
use Rattle.mls_runs.proofs.running.run_over_base.Goals as goal

pub run_to-outcome-requires-clause-fits : goal.run_to-outcome-requires-clause-fits
run_to-outcome-requires-clause-fits g c = subst (λ at. EventsFit at c.args.events.now)
    (sym c.new-engine.ensures.site) c.requires.may.fits

pub returns-clause-leaves : goal.returns-clause-leaves
returns-clause-leaves g c =
    left_behind g.B.Base.seen c.args.base c.new-engine.result c.run_to-outcome.new.engine c.finish.result c.run_to-outcome.result
    c.new-engine.ensures.base c.finish.ensures c.run_to-outcome.ensures.continues

pub returns-clause-run : goal.returns-clause-run
returns-clause-run g c = λ clean.
    let at : Site = site_of c.args.policy.now c.args.schemes.now c.args.stored in
    let was = subst (λ b. (g.B.Base.seen b).is_clean) c.finish.ensures clean in
    let new = c.run_to-outcome.new.engine in
    let left = (g.B.Base.seen c.finish.result).state.now in
    let sessions = sessions_of new.sessions.items in
    let back = given_back g.B.Base.seen at c.new-engine.result new c.finish.result c.new-engine.ensures.site c.run_to-outcome.ensures.continues.kept c.finish.ensures in
    run_at at c.args.audience sessions (g.B.Base.seen c.args.base).state.now left c.args.events.now
    (g.W.Write.contents c.args.out.now) (g.W.Write.contents c.run_to-outcome.new.out) c.run_to-outcome.result
    (back.rest.sound clean)
    (subst (λ w. IsEngineRun at c.args.audience (first_world at (g.B.Base.seen c.args.base).state.now) c.args.events.now
    (g.W.Write.contents c.args.out.now) (g.W.Write.contents c.run_to-outcome.new.out) w c.run_to-outcome.result) back.world
    (subst (λ v. IsEngineRun at c.args.audience v c.args.events.now (g.W.Write.contents c.args.out.now)
    (g.W.Write.contents c.run_to-outcome.new.out) (world_at (site_of_run new.site) sessions
    (g.B.Base.seen new.base).state.now) c.run_to-outcome.result) c.new-engine.ensures.world
    (subst (λ s. IsEngineRun s c.args.audience (world_of g.B.Base.seen c.new-engine.result) c.args.events.now
    (g.W.Write.contents c.args.out.now) (g.W.Write.contents c.run_to-outcome.new.out)
    (world_at (site_of_run new.site) sessions
    (g.B.Base.seen new.base).state.now) c.run_to-outcome.result) c.new-engine.ensures.site
    (record {
      ok = c.run_to-outcome.ensures.ok was;
      err = c.run_to-outcome.ensures.err was;
      fault =
          c.run_to-outcome.ensures.fault;
      integrity = c.run_to-outcome.ensures.integrity was;
      secret =
          c.run_to-outcome.ensures.secret was;
    }))))

pub returns-clause-access : goal.returns-clause-access
returns-clause-access g c =
    let at : Site = site_of c.args.policy.now c.args.schemes.now c.args.stored in
    let seen = g.B.Base.seen in
    let es = c.args.events.now in
    subst (λ b. ArePermitted seen at es c.args.base b) (sym c.finish.ensures)
    (subst (λ b. ArePermitted seen at es b c.run_to-outcome.new.engine.base) c.new-engine.ensures.base
    (subst (λ s. ArePermitted seen s es c.new-engine.result.base c.run_to-outcome.new.engine.base) c.new-engine.ensures.site c.run_to-outcome.ensures.access))
