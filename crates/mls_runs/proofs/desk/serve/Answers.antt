use Rattle.std.proofs.Common.{[], Ok, false, refl, sym, ap, ◌∙◌, subst}
use Rattle.mls_sessions.specs.Sessions.{site_of_run}
use Rattle.mls_sessions.specs.Engine.{site, world_of, Continues}
use Rattle.mls_host.specs.Ending.{ending_if}
use Rattle.mls_host.specs.Hosting.{IsAppended}
use Rattle.mls_runs.proofs.TalkLemmas.{fits_at}
use Rattle.mls_runs.specs.Desk.{IsDeskFate, IsService}
use Rattle.mls_runs.proofs.ReadingLemmas.{one_event}
use Rattle.mls_runs.proofs.DeskLemmas.{SoFar, Heard, so_far_start, so_far_more, broken, over_last, worn_out, heard_at}
use Rattle.mls_sessions.proofs.FrameLemmas.{carried, goes_nowhere, goes_on, goes_to, worn_frame}
use Rattle.mls_sessions.proofs.AccessLemmas.{permitted_start}
use Rattle.mls_runs.proofs.AccessLemmas.{LinesSoFar, lines_start, lines_more, lines_are, lines_read}
use Rattle.mls_runs.proofs.desk.serve.Goals as goal

pub loop-init : goal.loop-init
loop-init g c = (
  goes_nowhere g.B.Base.seen c.args.engine.now c.requires.ready (Ok tt) tt,
  so_far_start g.B.Base.seen g.L.TypedLines.echo c.args.engine.now (g.L.TypedLines.remaining c.args.lines.now)
      (g.W.Write.contents c.args.out.now) c.requires.ready,
  lines_start g.B.Base.seen (site c.args.engine.now) g.L.TypedLines.echo
      (IsDeskFate c.args.policy.now c.args.schemes.now) (g.L.TypedLines.remaining c.args.lines.now)
      c.args.engine.now.base c.args.engine.now.base
      (permitted_start g.B.Base.seen (site c.args.engine.now) [] c.args.engine.now.base),
)

pub follow-requires-clause-ready : goal.follow-requires-clause-ready
follow-requires-clause-ready g c = c.loop.invariant.1.heard.kept.ready

pub follow-requires-clause-line : goal.follow-requires-clause-line
follow-requires-clause-line g c = record {
  fits = fits_at (site c.loop.engine) (site c.args.engine.now) c.args.policy.now c.args.schemes.now
      (ap site_of_run c.loop.invariant.1.heard.kept.site) c.requires.policy c.requires.schemes _ c.next_fate-fate.ensures.fits;
  one = one_event g.L.TypedLines.echo c.args.policy.now c.args.schemes.now _ _ _ _ _ _ c.next_fate-fate.ensures.read;
}

pub returns-in_err-follow-clause-continues : goal.returns-in_err-follow-clause-continues
returns-in_err-follow-clause-continues g c =
    carried (λ r. Continues g.B.Base.seen c.args.engine.now c.follow.new.engine r) c.from_residual.result c.in_err-follow.field-0.0 c.from_residual.ensures.1
    (goes_to g.B.Base.seen c.args.engine.now c.loop.engine c.follow.new.engine tt c.loop.invariant.0 c.in_err-follow.field-0.0 c.in_err-follow.ensures.continues)

pub returns-in_err-follow-clause-service : goal.returns-in_err-follow-clause-service
returns-in_err-follow-clause-service g c = λ clean.
    let given = g.L.TypedLines.remaining c.args.lines.now in
    let was = g.W.Write.contents c.args.out.now in
    let left = g.L.TypedLines.remaining c.loop.lines in
    let is = g.W.Write.contents c.loop.out in
    let over = g.L.TypedLines.remaining c.next_fate-fate.new.lines in
    let shown = g.W.Write.contents c.next_fate-fate.new.out in
    let Broken = g.L.TypedLines.breaks c.next_fate-fate.new.lines in
    let heard : Heard g.B.Base.seen g.L.TypedLines.echo c.args.engine.now given was c.loop.engine left is c.loop.invariant.1 c.next_fate-fate.result over shown Broken = record {
      read = heard_at g.L.TypedLines.echo (site c.args.engine.now) c.args.policy.now c.args.schemes.now _ _ _ _ _ _ c.requires.policy c.requires.schemes c.next_fate-fate.ensures.read;
      fits = fits_at (site c.args.engine.now) (site c.args.engine.now) c.args.policy.now c.args.schemes.now refl c.requires.policy c.requires.schemes _ c.next_fate-fate.ensures.fits;
    } in
    carried (λ r. IsService g.L.TypedLines.echo (site c.args.engine.now) given over Broken
    (IsAppended g.W.Write.contents c.args.out.now c.follow.new.out) r (world_of g.B.Base.seen c.args.engine.now)
    (world_of g.B.Base.seen c.follow.new.engine))
    c.from_residual.result c.in_err-follow.field-0.0 c.from_residual.ensures.1
    (broken g.B.Base.seen g.L.TypedLines.echo c.args.engine.now given was c.loop.engine left is c.loop.invariant.1 c.next_fate-fate.result over shown Broken heard
    c.follow.new.engine (g.W.Write.contents c.follow.new.out) c.follow.ensures.continues.clean c.follow.ensures.continues.kept c.in_err-follow.field-0.0 clean (c.in_err-follow.ensures.followed clean))

pub returns-then-is_last-clause-continues : goal.returns-then-is_last-clause-continues
returns-then-is_last-clause-continues g c =
    goes_on g.B.Base.seen c.args.engine.now c.loop.engine c.follow.new.engine tt c.loop.invariant.0 tt _ c.in_ok-follow.ensures.continues

pub returns-then-is_last-clause-service : goal.returns-then-is_last-clause-service
returns-then-is_last-clause-service g c = λ clean.
    let given = g.L.TypedLines.remaining c.args.lines.now in
    let was = g.W.Write.contents c.args.out.now in
    let left = g.L.TypedLines.remaining c.loop.lines in
    let is = g.W.Write.contents c.loop.out in
    let over = g.L.TypedLines.remaining c.next_fate-fate.new.lines in
    let shown = g.W.Write.contents c.next_fate-fate.new.out in
    let Broken = g.L.TypedLines.breaks c.next_fate-fate.new.lines in
    let heard : Heard g.B.Base.seen g.L.TypedLines.echo c.args.engine.now given was c.loop.engine left is c.loop.invariant.1 c.next_fate-fate.result over shown Broken = record {
      read = heard_at g.L.TypedLines.echo (site c.args.engine.now) c.args.policy.now c.args.schemes.now _ _ _ _ _ _ c.requires.policy c.requires.schemes c.next_fate-fate.ensures.read;
      fits = fits_at (site c.args.engine.now) (site c.args.engine.now) c.args.policy.now c.args.schemes.now refl c.requires.policy c.requires.schemes _ c.next_fate-fate.ensures.fits;
    } in
    let same = c.ending_if.ensures ∙ ap ending_if c.is_failed.ensures in
    subst (λ e. IsService g.L.TypedLines.echo (site c.args.engine.now) given over Broken
    (IsAppended g.W.Write.contents c.args.out.now c.follow.new.out) (Ok e)
    (world_of g.B.Base.seen c.args.engine.now) (world_of g.B.Base.seen c.follow.new.engine)) (sym same)
    (over_last g.B.Base.seen g.L.TypedLines.echo c.args.engine.now given was c.loop.engine left is c.loop.invariant.1 c.next_fate-fate.result over shown Broken heard
    c.follow.new.engine (g.W.Write.contents c.follow.new.out) c.follow.ensures.continues.clean c.follow.ensures.continues.kept c.in_ok-follow.ensures.found c.in_ok-follow.ensures.followed (sym c.is_last.ensures ∙ c.if-is_last.true) clean)

pub loop-preserved : goal.loop-preserved
loop-preserved g c =
    let given = g.L.TypedLines.remaining c.args.lines.now in
    let was = g.W.Write.contents c.args.out.now in
    let left = g.L.TypedLines.remaining c.loop.lines in
    let is = g.W.Write.contents c.loop.out in
    let over = g.L.TypedLines.remaining c.next_fate-fate.new.lines in
    let shown = g.W.Write.contents c.next_fate-fate.new.out in
    let Broken = g.L.TypedLines.breaks c.next_fate-fate.new.lines in
    let heard : Heard g.B.Base.seen g.L.TypedLines.echo c.args.engine.now given was c.loop.engine left is c.loop.invariant.1 c.next_fate-fate.result over shown Broken = record {
      read = heard_at g.L.TypedLines.echo (site c.args.engine.now) c.args.policy.now c.args.schemes.now _ _ _ _ _ _ c.requires.policy c.requires.schemes c.next_fate-fate.ensures.read;
      fits = fits_at (site c.args.engine.now) (site c.args.engine.now) c.args.policy.now c.args.schemes.now refl c.requires.policy c.requires.schemes _ c.next_fate-fate.ensures.fits;
    } in (
      goes_on g.B.Base.seen c.args.engine.now c.loop.engine c.follow.new.engine tt c.loop.invariant.0 tt tt c.in_ok-follow.ensures.continues,
      subst (λ b. SoFar g.B.Base.seen g.L.TypedLines.echo c.args.engine.now given was c.follow.new.engine over
          (g.W.Write.contents c.follow.new.out) b) (sym c.is_last.ensures ∙ c.if-is_last.false)
          (so_far_more g.B.Base.seen g.L.TypedLines.echo c.args.engine.now given was c.loop.engine left is c.loop.invariant.1 c.next_fate-fate.result over shown Broken heard
          c.follow.new.engine (g.W.Write.contents c.follow.new.out) c.follow.ensures.continues.clean c.follow.ensures.continues.kept c.in_ok-follow.ensures.found c.in_ok-follow.ensures.followed),
      subst (λ b. LinesSoFar g.B.Base.seen (site c.args.engine.now) g.L.TypedLines.echo
          (IsDeskFate c.args.policy.now c.args.schemes.now)
          (g.L.TypedLines.remaining c.args.lines.now) (g.L.TypedLines.remaining c.next_fate-fate.new.lines) b
          c.args.engine.now.base c.follow.new.engine.base) (sym c.is_last.ensures ∙ c.if-is_last.false)
          (lines_more g.B.Base.seen (site c.args.engine.now) g.L.TypedLines.echo
          (IsDeskFate c.args.policy.now c.args.schemes.now) (g.L.TypedLines.remaining c.args.lines.now)
          (g.L.TypedLines.remaining c.loop.lines) (g.L.TypedLines.remaining c.next_fate-fate.new.lines)
          (g.W.Write.contents c.loop.out) (g.W.Write.contents c.next_fate-fate.new.out)
          (g.L.TypedLines.breaks c.next_fate-fate.new.lines) (site c.loop.engine) c.args.engine.now.base c.loop.engine.base
          c.follow.new.engine.base c.next_fate-fate.result (ap site_of_run c.loop.invariant.1.heard.kept.site) c.loop.invariant.2
          c.next_fate-fate.ensures.read c.follow.ensures.access),
    )

pub returns-clause-continues : goal.returns-clause-continues
returns-clause-continues g c = worn_frame g.B.Base.seen c.args.engine.now c.loop.engine tt c.loop.invariant.0 _ refl

pub returns-clause-service : goal.returns-clause-service
returns-clause-service g c = λ clean.
    worn_out g.B.Base.seen g.L.TypedLines.echo c.args.engine.now (g.L.TypedLines.remaining c.args.lines.now)
    (g.W.Write.contents c.args.out.now) c.loop.engine (g.L.TypedLines.remaining c.loop.lines)
    (g.W.Write.contents c.loop.out) c.loop.invariant.1
    (g.L.TypedLines.breaks c.loop.lines) _ refl clean

pub returns-in_err-follow-clause-access : goal.returns-in_err-follow-clause-access
returns-in_err-follow-clause-access g c =
    lines_read g.B.Base.seen (site c.args.engine.now) g.L.TypedLines.echo
    (IsDeskFate c.args.policy.now c.args.schemes.now) (g.L.TypedLines.remaining c.args.lines.now)
    (g.L.TypedLines.remaining c.loop.lines) (g.L.TypedLines.remaining c.next_fate-fate.new.lines)
    (g.W.Write.contents c.loop.out) (g.W.Write.contents c.next_fate-fate.new.out)
    (g.L.TypedLines.breaks c.next_fate-fate.new.lines) (site c.loop.engine) c.args.engine.now.base c.loop.engine.base
    c.follow.new.engine.base c.next_fate-fate.result (ap site_of_run c.loop.invariant.1.heard.kept.site) c.loop.invariant.2
    c.next_fate-fate.ensures.read c.follow.ensures.access

pub returns-then-is_last-clause-access : goal.returns-then-is_last-clause-access
returns-then-is_last-clause-access g c =
    lines_read g.B.Base.seen (site c.args.engine.now) g.L.TypedLines.echo
    (IsDeskFate c.args.policy.now c.args.schemes.now) (g.L.TypedLines.remaining c.args.lines.now)
    (g.L.TypedLines.remaining c.loop.lines) (g.L.TypedLines.remaining c.next_fate-fate.new.lines)
    (g.W.Write.contents c.loop.out) (g.W.Write.contents c.next_fate-fate.new.out)
    (g.L.TypedLines.breaks c.next_fate-fate.new.lines) (site c.loop.engine) c.args.engine.now.base c.loop.engine.base
    c.follow.new.engine.base c.next_fate-fate.result (ap site_of_run c.loop.invariant.1.heard.kept.site) c.loop.invariant.2
    c.next_fate-fate.ensures.read c.follow.ensures.access

pub returns-clause-access : goal.returns-clause-access
returns-clause-access g c =
    lines_are g.B.Base.seen (site c.args.engine.now) g.L.TypedLines.echo
    (IsDeskFate c.args.policy.now c.args.schemes.now) (g.L.TypedLines.remaining c.args.lines.now)
    (g.L.TypedLines.remaining c.loop.lines) false c.args.engine.now.base c.loop.engine.base c.loop.invariant.2
