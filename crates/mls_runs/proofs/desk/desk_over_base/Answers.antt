use Rattle.std.proofs.Common.{ap, subst}
use Rattle.mls_lattice.specs.Labels.{AreDistinct}
use Rattle.mls_certcheck.specs.Site.{Site, site_labels, site_of as site_for}
use Rattle.mls_sessions.specs.World.{world_at}
use Rattle.mls_sessions.specs.Sessions.{sessions_of}
use Rattle.mls_host.specs.Hosting.{IsAppended}
use Rattle.mls_runs.specs.Running.{first_world}
use Rattle.mls_runs.specs.Desk.{IsDeskFate}
use Rattle.mls_runs.proofs.DeskLemmas.{service_at}
use Rattle.mls_runs.proofs.DeskEndLemmas.{desk_at}
use Rattle.mls_sessions.proofs.FrameLemmas.{left_behind, given_back}
use Rattle.mls_runs.proofs.AccessLemmas.{lines_given}
use Rattle.mls_runs.proofs.desk.desk_over_base.Goals as goal

pub serve-outcome-requires-clause-policy : goal.serve-outcome-requires-clause-policy
serve-outcome-requires-clause-policy g c = ap (λ (s : Site). s.policy) c.new-engine.ensures.site

pub serve-outcome-requires-clause-schemes : goal.serve-outcome-requires-clause-schemes
serve-outcome-requires-clause-schemes g c = ap (λ (s : Site). s.schemes) c.new-engine.ensures.site

pub returns-clause-leaves : goal.returns-clause-leaves
returns-clause-leaves g c =
    left_behind g.B.Base.seen c.args.base c.new-engine.result c.serve-outcome.new.engine c.finish.result c.serve-outcome.result
    c.new-engine.ensures.base c.finish.ensures c.serve-outcome.ensures.continues

pub returns-clause-desk : goal.returns-clause-desk
returns-clause-desk g c = λ clean.
    let at : Site = site_for c.args.policy.now c.args.schemes.now c.args.stored in
    let was = subst (λ b. (g.B.Base.seen b).is_clean) c.finish.ensures clean in
    let new = c.serve-outcome.new.engine in
    let first = (g.B.Base.seen c.args.base).state.now in
    let left = (g.B.Base.seen c.finish.result).state.now in
    let sessions = sessions_of new.sessions.items in
    let back = given_back g.B.Base.seen at c.new-engine.result new c.finish.result c.new-engine.ensures.site c.serve-outcome.ensures.continues.kept c.finish.ensures in
    let distinct : AreDistinct (site_labels at) =
    subst (λ (s : Site). AreDistinct (site_labels s)) c.new-engine.ensures.site c.new-engine.result.site.distinct in
    let start = c.requires.rest.sound (subst (λ b. (g.B.Base.seen b).is_clean) c.new-engine.ensures.base
    (c.serve-outcome.ensures.continues.clean was)) in
    let before = g.L.TypedLines.remaining c.args.lines.now in
    let after = g.L.TypedLines.remaining c.serve-outcome.new.lines in
    let Broken = g.L.TypedLines.breaks c.serve-outcome.new.lines in
    let Wrote = IsAppended g.W.Write.contents c.args.out.now c.serve-outcome.new.out in
    desk_at g.L.TypedLines.echo at sessions first left before after Broken Wrote c.serve-outcome.result distinct c.requires.may.read c.requires.may.certified start (back.rest.sound clean)
    (service_at g.L.TypedLines.echo before after Broken Wrote c.serve-outcome.result _ at _ (first_world at first) _
    (world_at at sessions left) c.new-engine.ensures.site c.new-engine.ensures.world back.world
    (c.serve-outcome.ensures.service was))

pub returns-clause-access : goal.returns-clause-access
returns-clause-access g c =
    lines_given g.B.Base.seen g.L.TypedLines.echo (IsDeskFate c.args.policy.now c.args.schemes.now)
    _ _ _ _ _ _ _ _ c.new-engine.ensures.site c.new-engine.ensures.base
    c.finish.ensures c.serve-outcome.ensures.access
