use Rattle.std.proofs.Common.{◌∷◌, [], sym, ap, subst}
use Rattle.mls_lattice.specs.Labels.{AreDistinct}
use Rattle.mls_certcheck.specs.Site.{Site, site_labels, site_of as site_for}
use Rattle.mls_machine.specs.Observation.{EventsFit}
use Rattle.mls_sessions.specs.World.{world_at}
use Rattle.mls_sessions.specs.Sessions.{sessions_of}
use Rattle.mls_host.specs.Hosting.{IsTold}
use Rattle.mls_runs.specs.Running.{first_world}
use Rattle.mls_runs.specs.Shell.{opening, IsShellFate}
use Rattle.mls_runs.proofs.ShellEndLemmas.{opening_fits, conversation_at, shell_at}
use Rattle.mls_sessions.proofs.FrameLemmas.{left_behind, given_back}
use Rattle.mls_runs.proofs.AccessLemmas.{lines_given}
use Rattle.mls_runs.proofs.shell.shell_over_base.Goals as goal

pub converse-outcome-requires-clause-policy : goal.converse-outcome-requires-clause-policy
converse-outcome-requires-clause-policy g c = ap (λ (s : Site). s.policy) c.new-engine.ensures.site

pub converse-outcome-requires-clause-schemes : goal.converse-outcome-requires-clause-schemes
converse-outcome-requires-clause-schemes g c = ap (λ (s : Site). s.schemes) c.new-engine.ensures.site

pub converse-outcome-requires-clause-fits : goal.converse-outcome-requires-clause-fits
converse-outcome-requires-clause-fits g c = subst (λ (at : Site). EventsFit at (opening c.args.session.now ∷ []))
    (sym c.new-engine.ensures.site)
    (opening_fits (site_for c.args.policy.now c.args.schemes.now c.args.stored) c.args.session.now c.requires.may.level c.requires.may.user)

pub returns-clause-leaves : goal.returns-clause-leaves
returns-clause-leaves g c =
    left_behind g.B.Base.seen c.args.base c.new-engine.result c.converse-outcome.new.engine c.finish.result c.converse-outcome.result
    c.new-engine.ensures.base c.finish.ensures c.converse-outcome.ensures.continues

pub returns-clause-shell : goal.returns-clause-shell
returns-clause-shell g c = λ clean.
    let at : Site = site_for c.args.policy.now c.args.schemes.now c.args.stored in
    let was = subst (λ b. (g.B.Base.seen b).is_clean) c.finish.ensures clean in
    let new = c.converse-outcome.new.engine in
    let first = (g.B.Base.seen c.args.base).state.now in
    let left = (g.B.Base.seen c.finish.result).state.now in
    let sessions = sessions_of new.sessions.items in
    let back = given_back g.B.Base.seen at c.new-engine.result new c.finish.result c.new-engine.ensures.site c.converse-outcome.ensures.continues.kept c.finish.ensures in
    let distinct : AreDistinct (site_labels at) =
    subst (λ (s : Site). AreDistinct (site_labels s)) c.new-engine.ensures.site c.new-engine.result.site.distinct in
    let start = c.requires.rest.sound (subst (λ b. (g.B.Base.seen b).is_clean) c.new-engine.ensures.base
    (c.converse-outcome.ensures.continues.clean was)) in
    shell_at g.X.Explains.explaining g.L.TypedLines.echo at c.args.session.now sessions first left
    (g.L.TypedLines.remaining c.args.lines.now) (g.L.TypedLines.remaining c.converse-outcome.new.lines)
    (g.W.Write.contents c.args.out.now) (g.W.Write.contents c.converse-outcome.new.out)
    (g.L.TypedLines.breaks c.converse-outcome.new.lines)
    (IsTold g.E.Write.contents c.args.err.now c.converse-outcome.new.err) c.converse-outcome.result distinct c.requires.may.serves.read c.requires.may.serves.certified start (back.rest.sound clean)
    (conversation_at g.X.Explains.explaining g.L.TypedLines.echo c.args.session.now
    (g.L.TypedLines.remaining c.args.lines.now) (g.L.TypedLines.remaining c.converse-outcome.new.lines)
    (g.W.Write.contents c.args.out.now) (g.W.Write.contents c.converse-outcome.new.out)
    (g.L.TypedLines.breaks c.converse-outcome.new.lines)
    (IsTold g.E.Write.contents c.args.err.now c.converse-outcome.new.err) c.converse-outcome.result _ at _
    (first_world at first) _ (world_at at sessions left) c.new-engine.ensures.site c.new-engine.ensures.world back.world (c.converse-outcome.ensures.conversation was))

pub returns-clause-access : goal.returns-clause-access
returns-clause-access g c =
    lines_given g.B.Base.seen g.L.TypedLines.echo
    (IsShellFate c.args.policy.now c.args.schemes.now c.args.session.now)
    _ _ _ _ _ _ _ _ c.new-engine.ensures.site c.new-engine.ensures.base
    c.finish.ensures c.converse-outcome.ensures.access
