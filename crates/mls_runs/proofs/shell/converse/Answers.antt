use Rattle.std.proofs.Common.{◌≡◌, ◌+◌, false, ◌||◌, Ok, Err, not, refl, sym, ap, ◌∙◌, subst, rules, is_some}
use Rattle.mls_certcheck.specs.Site.{site_of}
use Rattle.mls_sessions.specs.Sessions.{site_of_run}
use Rattle.mls_sessions.specs.Engine.{site, world_of, Continues}
use Rattle.mls_host.specs.Ending.{ending_if}
use Rattle.mls_host.specs.Hosting.{IsTold}
use Rattle.mls_sessions.specs.Run.{notice_in}
use Rattle.mls_runs.specs.Shell.{audience_at, verdict_of, events_of, is_short, end_told, IsShellFate, IsShellFollowed, IsConversation}
use Rattle.mls_runs.specs.Tally.{tally_with}
use Rattle.mls_runs.proofs.ShellLemmas.{said_more, explained_as}
use Rattle.mls_runs.proofs.TalkLemmas.{SoFar, Line, IsSaid, MayGreet, may_greet, may_tell, policy_at, schemes_at, verdict_noticed, so_far_start, so_far_more, broken, broken_first, over_closed, over_last, worn_out, fits_at, level_at, heard_at}
use Rattle.mls_sessions.proofs.FrameLemmas.{carried, goes_first, goes_well, goes_on, goes_to, worn_frame}
use Rattle.mls_sessions.specs.Access.{ArePermitted}
use Rattle.mls_runs.proofs.AccessLemmas.{LinesSoFar, opening_permits_nothing, lines_start, lines_more, lines_are, lines_read}
use Rattle.mls_runs.proofs.shell.converse.Goals as goal

pub returns-in_err-answer-clause-continues : goal.returns-in_err-answer-clause-continues
returns-in_err-answer-clause-continues g c =
    carried (λ r. Continues g.B.Base.seen c.args.engine.now c.answer.new.engine r) c.from_residual.result c.in_err-answer.field-0.0 c.from_residual.ensures.1
    (goes_first g.B.Base.seen c.args.engine.now c.answer.new.engine c.in_err-answer.field-0.0 c.in_err-answer.ensures.continues)

pub returns-in_err-answer-clause-conversation : goal.returns-in_err-answer-clause-conversation
returns-in_err-answer-clause-conversation g c = λ clean.
    carried (λ r. IsConversation g.X.Explains.explaining g.L.TypedLines.echo (site c.args.engine.now) c.args.session.now
    (g.L.TypedLines.remaining c.args.lines.now) (g.L.TypedLines.remaining c.args.lines.now)
    (g.W.Write.contents c.args.out.now) (g.W.Write.contents c.answer.new.out)
    (g.L.TypedLines.breaks c.args.lines.now) (IsTold g.E.Write.contents c.args.err.now c.args.err.now) r
    (world_of g.B.Base.seen c.args.engine.now) (world_of g.B.Base.seen c.answer.new.engine))
    c.from_residual.result c.in_err-answer.field-0.0 c.from_residual.ensures.1
    (broken_first g.B.Base.seen g.E.Write.contents g.X.Explains.explaining g.L.TypedLines.echo c.args.session.now c.args.engine.now c.args.err.now (g.L.TypedLines.remaining c.args.lines.now) (g.W.Write.contents c.args.out.now) c.requires.fits (g.L.TypedLines.breaks c.args.lines.now) c.answer.new.engine (g.W.Write.contents c.answer.new.out) c.in_err-answer.field-0.0
    (subst (λ es. IsShellFollowed (site c.args.engine.now) (audience_at c.args.session.now)
    (world_of g.B.Base.seen c.args.engine.now) es (g.W.Write.contents c.args.out.now)
    (g.W.Write.contents c.answer.new.out) (world_of g.B.Base.seen c.answer.new.engine) 0
    (Err c.in_err-answer.field-0.0)) c.requires.first (c.in_err-answer.ensures.followed clean)))

pub listener_of-to-requires-clause-policy : goal.listener_of-to-requires-clause-policy
listener_of-to-requires-clause-policy g c =
    policy_at (site c.answer.new.engine) (site c.args.engine.now) c.args.policy.now
    (ap site_of_run c.answer.ensures.continues.kept.site) c.requires.policy

pub listener_of-to-requires-clause-schemes : goal.listener_of-to-requires-clause-schemes
listener_of-to-requires-clause-schemes g c =
    schemes_at (site c.answer.new.engine) (site c.args.engine.now) c.args.schemes.now
    (ap site_of_run c.answer.ensures.continues.kept.site) c.requires.schemes

pub loop-before-init : goal.loop-before-init
loop-before-init g c = let to = c.listener_of-to.result in (
  goes_well g.B.Base.seen c.args.engine.now c.answer.new.engine tt c.in_ok-answer.ensures.continues tt,
  so_far_start g.B.Base.seen g.E.Write.contents g.X.Explains.explaining g.L.TypedLines.echo c.args.session.now c.args.engine.now c.args.err.now (g.L.TypedLines.remaining c.args.lines.now) (g.W.Write.contents c.args.out.now) c.answer.new.engine (g.W.Write.contents c.answer.new.out) c.is_open-was_opened.result
      (record {
        clean = c.answer.ensures.continues.clean;
        kept = c.answer.ensures.continues.kept;
        followed = λ clean. subst (λ es. IsShellFollowed (site c.args.engine.now) (audience_at c.args.session.now)
            (world_of g.B.Base.seen c.args.engine.now) es (g.W.Write.contents c.args.out.now)
            (g.W.Write.contents c.answer.new.out) (world_of g.B.Base.seen c.answer.new.engine) 0
            (Ok tt)) c.requires.first (c.in_ok-answer.ensures.followed clean);
        opened_is = c.is_open-was_opened.ensures ∙ ap
            (λ n. is_some ((world_of g.B.Base.seen c.answer.new.engine).sessions c.args.session.now.level n)) c.as_str.ensures;
      }) c.tell_more.new.err (λ clean.
      explained_as _ c.greeting-greeting.result c.args.session.now.is_watched (g.X.Explains.explaining.greets
      (site_of to.policy.now to.schemes.now to.stored.now) to.session.now c.args.first.now c.notice.result)
      (MayGreet g.B.Base.seen g.E.Write.contents g.X.Explains.explaining g.L.TypedLines.echo c.args.session.now c.args.engine.now c.args.err.now (g.L.TypedLines.remaining c.args.lines.now) (g.W.Write.contents c.args.out.now)) _
      (may_greet g.B.Base.seen g.E.Write.contents g.X.Explains.explaining g.L.TypedLines.echo c.args.session.now c.args.engine.now c.args.err.now (g.L.TypedLines.remaining c.args.lines.now) (g.W.Write.contents c.args.out.now)
      (site_of to.policy.now to.schemes.now to.stored.now) to.session.now
      (c.listener_of-to.ensures.site ∙ ap site_of_run c.answer.ensures.continues.kept.site) c.listener_of-to.ensures.session c.args.first.now c.notice.result c.requires.first (c.notice.ensures ∙ c.in_ok-answer.ensures.noticed clean))
      c.greeting-greeting.ensures c.tell_more.ensures),
  lines_start g.B.Base.seen (site c.args.engine.now) g.L.TypedLines.echo
      (IsShellFate c.args.policy.now c.args.schemes.now c.args.session.now)
      (g.L.TypedLines.remaining c.args.lines.now) c.args.engine.now.base c.answer.new.engine.base
      (opening_permits_nothing g.B.Base.seen (site c.args.engine.now) c.args.session.now c.args.engine.now.base
      c.answer.new.engine.base (subst (λ es. ArePermitted g.B.Base.seen (site c.args.engine.now) es
      c.args.engine.now.base c.answer.new.engine.base) c.requires.first c.answer.ensures.access)),
)

pub returns-then-not-is_open-clause-continues : goal.returns-then-not-is_open-clause-continues
returns-then-not-is_open-clause-continues g c =
    goes_well g.B.Base.seen c.args.engine.now c.loop-before.engine tt c.loop-before.invariant.0 _

pub returns-then-not-is_open-clause-conversation : goal.returns-then-not-is_open-clause-conversation
returns-then-not-is_open-clause-conversation g c = λ clean.
    let closed = ap (λ n. is_some ((world_of g.B.Base.seen c.loop-before.engine).sessions c.args.session.now.level n))
    (sym c.as_str-in-loop-before.ensures) ∙ sym c.is_open.ensures ∙ c.if-not-is_open.true in
    subst (λ e. IsConversation g.X.Explains.explaining g.L.TypedLines.echo (site c.args.engine.now) c.args.session.now
    (g.L.TypedLines.remaining c.args.lines.now) (g.L.TypedLines.remaining c.loop-before.lines)
    (g.W.Write.contents c.args.out.now) (g.W.Write.contents c.loop-before.out)
    (g.L.TypedLines.breaks c.loop-before.lines) (IsTold g.E.Write.contents c.args.err.now c.finish.new.err) (Ok e)
    (world_of g.B.Base.seen c.args.engine.now) (world_of g.B.Base.seen c.loop-before.engine))
    (sym c.finish.ensures.is)
    (over_closed g.B.Base.seen g.E.Write.contents g.X.Explains.explaining g.L.TypedLines.echo c.args.session.now c.args.engine.now c.args.err.now (g.L.TypedLines.remaining c.args.lines.now) (g.W.Write.contents c.args.out.now) c.requires.fits (g.L.TypedLines.breaks c.loop-before.lines) c.loop-before.before c.loop-before.engine c.loop-before.err (g.L.TypedLines.remaining c.loop-before.lines) (g.W.Write.contents c.loop-before.out) c.is_open-was_opened.result c.loop-before.tally c.loop-before.invariant.1 clean closed c.finish.new.err c.finish.ensures.told)

pub follow-requires-clause-ready : goal.follow-requires-clause-ready
follow-requires-clause-ready g c = c.loop-before.invariant.1.heard.kept.ready

pub follow-requires-clause-fits : goal.follow-requires-clause-fits
follow-requires-clause-fits g c =
    fits_at (site c.loop-before.engine) (site c.args.engine.now) c.args.policy.now c.args.schemes.now
    (ap site_of_run c.loop-before.invariant.1.heard.kept.site) c.requires.policy c.requires.schemes _ c.next_fate-fate.ensures.fits

pub follow-requires-clause-level : goal.follow-requires-clause-level
follow-requires-clause-level g c =
    level_at (site c.loop-before.engine) (site c.args.engine.now) c.args.policy.now
    (ap site_of_run c.loop-before.invariant.1.heard.kept.site) c.requires.policy c.args.session.now.level c.requires.level

pub listener_of-to-requires-in-loop-before-clause-policy : goal.listener_of-to-requires-in-loop-before-clause-policy
listener_of-to-requires-in-loop-before-clause-policy g c =
    policy_at (site c.follow.new.engine) (site c.args.engine.now) c.args.policy.now
    (ap site_of_run (c.follow.ensures.continues.kept.site
    ∙ c.loop-before.invariant.1.heard.kept.site)) c.requires.policy

pub listener_of-to-requires-in-loop-before-clause-schemes : goal.listener_of-to-requires-in-loop-before-clause-schemes
listener_of-to-requires-in-loop-before-clause-schemes g c =
    schemes_at (site c.follow.new.engine) (site c.args.engine.now) c.args.schemes.now
    (ap site_of_run (c.follow.ensures.continues.kept.site
    ∙ c.loop-before.invariant.1.heard.kept.site)) c.requires.schemes

pub returns-in_err-follow-clause-continues : goal.returns-in_err-follow-clause-continues
returns-in_err-follow-clause-continues g c =
    carried (λ r. Continues g.B.Base.seen c.args.engine.now c.follow.new.engine r) c.from_residual-in_err-follow.result c.in_err-follow.field-0.0 c.from_residual-in_err-follow.ensures.1
    (goes_to g.B.Base.seen c.args.engine.now c.loop-before.engine c.follow.new.engine tt c.loop-before.invariant.0 c.in_err-follow.field-0.0 c.in_err-follow.ensures.continues)

pub returns-in_err-follow-clause-conversation : goal.returns-in_err-follow-clause-conversation
returns-in_err-follow-clause-conversation g c = λ clean.
    let heard_line = heard_at g.L.TypedLines.echo
    (site c.args.engine.now) c.args.policy.now c.args.schemes.now c.args.session.now _ _ _ _ _ _ _ c.requires.policy c.requires.schemes c.next_fate-fate.ensures.read in
    let line : Line g.B.Base.seen g.E.Write.contents g.X.Explains.explaining g.L.TypedLines.echo c.args.session.now c.args.engine.now c.args.err.now (g.L.TypedLines.remaining c.args.lines.now) (g.W.Write.contents c.args.out.now) c.loop-before.before c.loop-before.engine c.loop-before.err (g.L.TypedLines.remaining c.loop-before.lines) (g.W.Write.contents c.loop-before.out) c.is_open-was_opened.result c.loop-before.tally c.loop-before.invariant.1 c.next_fate-fate.result c.ask.new.err (g.L.TypedLines.remaining c.next_fate-fate.new.lines) (g.W.Write.contents c.next_fate-fate.new.out) (g.L.TypedLines.breaks c.next_fate-fate.new.lines) = record {
      was_open = ap (λ n. is_some ((world_of g.B.Base.seen c.loop-before.engine).sessions c.args.session.now.level n))
          (sym c.as_str-in-loop-before.ensures) ∙ sym c.is_open.ensures ∙ c.if-not-is_open.false;
      asked_is = c.ask.ensures;
      read = heard_line.read;
      fits = fits_at (site c.args.engine.now) (site c.args.engine.now) c.args.policy.now c.args.schemes.now refl c.requires.policy c.requires.schemes _ c.next_fate-fate.ensures.fits;
    } in
    carried (λ r. IsConversation g.X.Explains.explaining g.L.TypedLines.echo (site c.args.engine.now) c.args.session.now
    (g.L.TypedLines.remaining c.args.lines.now) (g.L.TypedLines.remaining c.next_fate-fate.new.lines)
    (g.W.Write.contents c.args.out.now) (g.W.Write.contents c.follow.new.out)
    (g.L.TypedLines.breaks c.next_fate-fate.new.lines)
    (IsTold g.E.Write.contents c.args.err.now c.tell_fate.new.err) r (world_of g.B.Base.seen c.args.engine.now)
    (world_of g.B.Base.seen c.follow.new.engine))
    c.from_residual-in_err-follow.result c.in_err-follow.field-0.0 c.from_residual-in_err-follow.ensures.1
    (broken g.B.Base.seen g.E.Write.contents g.X.Explains.explaining g.L.TypedLines.echo c.args.session.now c.args.engine.now c.args.err.now (g.L.TypedLines.remaining c.args.lines.now) (g.W.Write.contents c.args.out.now) c.loop-before.before c.loop-before.engine c.loop-before.err (g.L.TypedLines.remaining c.loop-before.lines) (g.W.Write.contents c.loop-before.out) c.is_open-was_opened.result c.loop-before.tally c.loop-before.invariant.1 c.next_fate-fate.result c.ask.new.err c.tell_fate.new.err (g.L.TypedLines.remaining c.next_fate-fate.new.lines) (g.W.Write.contents c.next_fate-fate.new.out) (g.L.TypedLines.breaks c.next_fate-fate.new.lines) line c.follow.new.engine (g.W.Write.contents c.follow.new.out) c.follow.ensures.continues.clean c.follow.ensures.continues.kept c.requires.fits c.in_err-follow.field-0.0 clean c.tell_fate.ensures (c.in_err-follow.ensures.followed clean))

pub returns-then-is_last-clause-continues : goal.returns-then-is_last-clause-continues
returns-then-is_last-clause-continues g c =
    goes_on g.B.Base.seen c.args.engine.now c.loop-before.engine c.follow.new.engine tt c.loop-before.invariant.0 tt _ c.in_ok-follow.ensures.continues

pub returns-then-is_last-clause-conversation : goal.returns-then-is_last-clause-conversation
returns-then-is_last-clause-conversation g c = λ clean.
    let heard_line = heard_at g.L.TypedLines.echo
    (site c.args.engine.now) c.args.policy.now c.args.schemes.now c.args.session.now _ _ _ _ _ _ _ c.requires.policy c.requires.schemes c.next_fate-fate.ensures.read in
    let line : Line g.B.Base.seen g.E.Write.contents g.X.Explains.explaining g.L.TypedLines.echo c.args.session.now c.args.engine.now c.args.err.now (g.L.TypedLines.remaining c.args.lines.now) (g.W.Write.contents c.args.out.now) c.loop-before.before c.loop-before.engine c.loop-before.err (g.L.TypedLines.remaining c.loop-before.lines) (g.W.Write.contents c.loop-before.out) c.is_open-was_opened.result c.loop-before.tally c.loop-before.invariant.1 c.next_fate-fate.result c.ask.new.err (g.L.TypedLines.remaining c.next_fate-fate.new.lines) (g.W.Write.contents c.next_fate-fate.new.out) (g.L.TypedLines.breaks c.next_fate-fate.new.lines) = record {
      was_open = ap (λ n. is_some ((world_of g.B.Base.seen c.loop-before.engine).sessions c.args.session.now.level n))
          (sym c.as_str-in-loop-before.ensures) ∙ sym c.is_open.ensures ∙ c.if-not-is_open.false;
      asked_is = c.ask.ensures;
      read = heard_line.read;
      fits = fits_at (site c.args.engine.now) (site c.args.engine.now) c.args.policy.now c.args.schemes.now refl c.requires.policy c.requires.schemes _ c.next_fate-fate.ensures.fits;
    } in
    let notice = c.noticed-notice.result in
    let to = c.listener_of-to-in-loop-before.result in
    let Clean : Type 0 = (g.B.Base.seen c.follow.new.engine.base).is_clean in
    let why : Clean → notice ≡ notice_in (site c.loop-before.engine) (world_of g.B.Base.seen c.loop-before.engine)
    (events_of c.next_fate-fate.result) = λ h. c.noticed-notice.ensures ∙ c.in_ok-follow.ensures.noticed h in
    let says : Clean → IsSaid g.B.Base.seen g.E.Write.contents g.X.Explains.explaining g.L.TypedLines.echo c.args.session.now c.args.engine.now c.args.err.now (g.L.TypedLines.remaining c.args.lines.now) (g.W.Write.contents c.args.out.now) c.loop-before.before c.loop-before.engine c.loop-before.err (g.L.TypedLines.remaining c.loop-before.lines) (g.W.Write.contents c.loop-before.out) c.is_open-was_opened.result c.loop-before.tally c.loop-before.invariant.1 c.next_fate-fate.result c.ask.new.err c.tell_more-in-loop-before.new.err (g.L.TypedLines.remaining c.next_fate-fate.new.lines) (g.W.Write.contents c.next_fate-fate.new.out) (g.L.TypedLines.breaks c.next_fate-fate.new.lines) line = λ h.
    said_more g.E.Write.contents c.args.session.now c.ask.new.err c.tell_fate.new.err _ _ c.tell_fate.ensures c.tell_more-in-loop-before.new.err
    (explained_as _ c.words-words.result c.args.session.now.is_watched (g.X.Explains.explaining.says
    (site_of to.policy.now to.schemes.now to.stored.now) to.session.now c.deref.result.now c.next_fate-fate.result notice) _ _
    (may_tell g.B.Base.seen g.E.Write.contents g.X.Explains.explaining g.L.TypedLines.echo c.args.session.now c.args.engine.now c.args.err.now (g.L.TypedLines.remaining c.args.lines.now) (g.W.Write.contents c.args.out.now) c.loop-before.before c.loop-before.engine c.loop-before.err (g.L.TypedLines.remaining c.loop-before.lines) (g.W.Write.contents c.loop-before.out) c.is_open-was_opened.result c.loop-before.tally c.loop-before.invariant.1 c.next_fate-fate.result c.ask.new.err c.tell_more-in-loop-before.new.err (g.L.TypedLines.remaining c.next_fate-fate.new.lines) (g.W.Write.contents c.next_fate-fate.new.out) (g.L.TypedLines.breaks c.next_fate-fate.new.lines) line (site_of to.policy.now to.schemes.now to.stored.now) to.session.now
    (c.listener_of-to-in-loop-before.ensures.site ∙ ap site_of_run (c.follow.ensures.continues.kept.site
    ∙ c.loop-before.invariant.1.heard.kept.site)) c.listener_of-to-in-loop-before.ensures.session c.deref.result.now notice
    (c.deref.ensures.value ∙ heard_line.known c.in_ok-follow.ensures.found) (why h)
    (c.follow.ensures.continues.clean h))
    c.words-words.ensures c.tell_more-in-loop-before.ensures) in
    subst (λ e. IsConversation g.X.Explains.explaining g.L.TypedLines.echo (site c.args.engine.now) c.args.session.now
    (g.L.TypedLines.remaining c.args.lines.now) (g.L.TypedLines.remaining c.next_fate-fate.new.lines)
    (g.W.Write.contents c.args.out.now) (g.W.Write.contents c.follow.new.out)
    (g.L.TypedLines.breaks c.next_fate-fate.new.lines)
    (IsTold g.E.Write.contents c.args.err.now c.finish-then-is_last.new.err) (Ok e)
    (world_of g.B.Base.seen c.args.engine.now) (world_of g.B.Base.seen c.follow.new.engine))
    (sym (c.finish-then-is_last.ensures.is ∙ ap (λ t. ending_if (not c.is_open-was_opened.result
    || is_short t)) c.tally_with-tally.ensures))
    (over_last g.B.Base.seen g.E.Write.contents g.X.Explains.explaining g.L.TypedLines.echo c.args.session.now c.args.engine.now c.args.err.now (g.L.TypedLines.remaining c.args.lines.now) (g.W.Write.contents c.args.out.now) c.requires.fits (g.L.TypedLines.breaks c.next_fate-fate.new.lines) c.loop-before.before c.loop-before.engine c.loop-before.err (g.L.TypedLines.remaining c.loop-before.lines) (g.W.Write.contents c.loop-before.out) c.is_open-was_opened.result c.loop-before.tally c.loop-before.invariant.1 c.next_fate-fate.result c.ask.new.err c.tell_more-in-loop-before.new.err (g.L.TypedLines.remaining c.next_fate-fate.new.lines) (g.W.Write.contents c.next_fate-fate.new.out) line c.follow.new.engine (g.W.Write.contents c.follow.new.out) c.follow.ensures.continues.clean c.follow.ensures.continues.kept c.in_ok-follow.ensures.found c.in_ok-follow.ensures.followed
    (not (is_some notice)) (λ h. verdict_noticed (site c.loop-before.engine)
    (world_of g.B.Base.seen c.loop-before.engine) c.next_fate-fate.result notice (why h)) says
    (sym c.is_last.ensures ∙ c.if-is_last.true) clean
    c.finish-then-is_last.new.err (subst (λ t. IsTold g.E.Write.contents c.tell_more-in-loop-before.new.err c.finish-then-is_last.new.err (end_told c.args.session.now t)) c.tally_with-tally.ensures c.finish-then-is_last.ensures.told))

pub loop-before-preserved : goal.loop-before-preserved
loop-before-preserved g c =
    let heard_line = heard_at g.L.TypedLines.echo
    (site c.args.engine.now) c.args.policy.now c.args.schemes.now c.args.session.now _ _ _ _ _ _ _ c.requires.policy c.requires.schemes c.next_fate-fate.ensures.read in
    let line : Line g.B.Base.seen g.E.Write.contents g.X.Explains.explaining g.L.TypedLines.echo c.args.session.now c.args.engine.now c.args.err.now (g.L.TypedLines.remaining c.args.lines.now) (g.W.Write.contents c.args.out.now) c.loop-before.before c.loop-before.engine c.loop-before.err (g.L.TypedLines.remaining c.loop-before.lines) (g.W.Write.contents c.loop-before.out) c.is_open-was_opened.result c.loop-before.tally c.loop-before.invariant.1 c.next_fate-fate.result c.ask.new.err (g.L.TypedLines.remaining c.next_fate-fate.new.lines) (g.W.Write.contents c.next_fate-fate.new.out) (g.L.TypedLines.breaks c.next_fate-fate.new.lines) = record {
      was_open = ap (λ n. is_some ((world_of g.B.Base.seen c.loop-before.engine).sessions c.args.session.now.level n))
          (sym c.as_str-in-loop-before.ensures) ∙ sym c.is_open.ensures ∙ c.if-not-is_open.false;
      asked_is = c.ask.ensures;
      read = heard_line.read;
      fits = fits_at (site c.args.engine.now) (site c.args.engine.now) c.args.policy.now c.args.schemes.now refl c.requires.policy c.requires.schemes _ c.next_fate-fate.ensures.fits;
    } in
    let notice = c.noticed-notice.result in
    let to = c.listener_of-to-in-loop-before.result in
    let Clean : Type 0 = (g.B.Base.seen c.follow.new.engine.base).is_clean in
    let why : Clean → notice ≡ notice_in (site c.loop-before.engine) (world_of g.B.Base.seen c.loop-before.engine)
    (events_of c.next_fate-fate.result) = λ h. c.noticed-notice.ensures ∙ c.in_ok-follow.ensures.noticed h in
    let says : Clean → IsSaid g.B.Base.seen g.E.Write.contents g.X.Explains.explaining g.L.TypedLines.echo c.args.session.now c.args.engine.now c.args.err.now (g.L.TypedLines.remaining c.args.lines.now) (g.W.Write.contents c.args.out.now) c.loop-before.before c.loop-before.engine c.loop-before.err (g.L.TypedLines.remaining c.loop-before.lines) (g.W.Write.contents c.loop-before.out) c.is_open-was_opened.result c.loop-before.tally c.loop-before.invariant.1 c.next_fate-fate.result c.ask.new.err c.tell_more-in-loop-before.new.err (g.L.TypedLines.remaining c.next_fate-fate.new.lines) (g.W.Write.contents c.next_fate-fate.new.out) (g.L.TypedLines.breaks c.next_fate-fate.new.lines) line = λ h.
    said_more g.E.Write.contents c.args.session.now c.ask.new.err c.tell_fate.new.err _ _ c.tell_fate.ensures c.tell_more-in-loop-before.new.err
    (explained_as _ c.words-words.result c.args.session.now.is_watched (g.X.Explains.explaining.says
    (site_of to.policy.now to.schemes.now to.stored.now) to.session.now c.deref.result.now c.next_fate-fate.result notice) _ _
    (may_tell g.B.Base.seen g.E.Write.contents g.X.Explains.explaining g.L.TypedLines.echo c.args.session.now c.args.engine.now c.args.err.now (g.L.TypedLines.remaining c.args.lines.now) (g.W.Write.contents c.args.out.now) c.loop-before.before c.loop-before.engine c.loop-before.err (g.L.TypedLines.remaining c.loop-before.lines) (g.W.Write.contents c.loop-before.out) c.is_open-was_opened.result c.loop-before.tally c.loop-before.invariant.1 c.next_fate-fate.result c.ask.new.err c.tell_more-in-loop-before.new.err (g.L.TypedLines.remaining c.next_fate-fate.new.lines) (g.W.Write.contents c.next_fate-fate.new.out) (g.L.TypedLines.breaks c.next_fate-fate.new.lines) line (site_of to.policy.now to.schemes.now to.stored.now) to.session.now
    (c.listener_of-to-in-loop-before.ensures.site ∙ ap site_of_run (c.follow.ensures.continues.kept.site
    ∙ c.loop-before.invariant.1.heard.kept.site)) c.listener_of-to-in-loop-before.ensures.session c.deref.result.now notice
    (c.deref.ensures.value ∙ heard_line.known c.in_ok-follow.ensures.found) (why h)
    (c.follow.ensures.continues.clean h))
    c.words-words.ensures c.tell_more-in-loop-before.ensures) in
    let next = so_far_more g.B.Base.seen g.E.Write.contents g.X.Explains.explaining g.L.TypedLines.echo c.args.session.now c.args.engine.now c.args.err.now (g.L.TypedLines.remaining c.args.lines.now) (g.W.Write.contents c.args.out.now) c.loop-before.before c.loop-before.engine c.loop-before.err (g.L.TypedLines.remaining c.loop-before.lines) (g.W.Write.contents c.loop-before.out) c.is_open-was_opened.result c.loop-before.tally c.loop-before.invariant.1 c.next_fate-fate.result c.ask.new.err c.tell_more-in-loop-before.new.err (g.L.TypedLines.remaining c.next_fate-fate.new.lines) (g.W.Write.contents c.next_fate-fate.new.out) (g.L.TypedLines.breaks c.next_fate-fate.new.lines) line c.follow.new.engine (g.W.Write.contents c.follow.new.out) c.follow.ensures.continues.clean c.follow.ensures.continues.kept c.in_ok-follow.ensures.found c.in_ok-follow.ensures.followed
    (not (is_some notice)) (λ h. verdict_noticed (site c.loop-before.engine)
    (world_of g.B.Base.seen c.loop-before.engine) c.next_fate-fate.result notice (why h)) says in (
      goes_on g.B.Base.seen c.args.engine.now c.loop-before.engine c.follow.new.engine tt c.loop-before.invariant.0 tt tt c.in_ok-follow.ensures.continues,
      subst (λ t. SoFar g.B.Base.seen g.E.Write.contents g.X.Explains.explaining g.L.TypedLines.echo c.args.session.now c.args.engine.now c.args.err.now (g.L.TypedLines.remaining c.args.lines.now) (g.W.Write.contents c.args.out.now) (c.loop-before.before + 1) c.follow.new.engine c.tell_more-in-loop-before.new.err (g.L.TypedLines.remaining c.next_fate-fate.new.lines) (g.W.Write.contents c.follow.new.out) c.is_open-was_opened.result t false) (sym c.tally_with-tally.ensures)
          (subst (λ b. SoFar g.B.Base.seen g.E.Write.contents g.X.Explains.explaining g.L.TypedLines.echo c.args.session.now c.args.engine.now c.args.err.now (g.L.TypedLines.remaining c.args.lines.now) (g.W.Write.contents c.args.out.now) (c.loop-before.before + 1) c.follow.new.engine c.tell_more-in-loop-before.new.err (g.L.TypedLines.remaining c.next_fate-fate.new.lines) (g.W.Write.contents c.follow.new.out) c.is_open-was_opened.result (tally_with c.loop-before.tally (verdict_of (not (is_some notice)) c.next_fate-fate.result)) b) (sym c.is_last.ensures ∙ c.if-is_last.false) next),
      subst (λ b. LinesSoFar g.B.Base.seen (site c.args.engine.now) g.L.TypedLines.echo
          (IsShellFate c.args.policy.now c.args.schemes.now c.args.session.now)
          (g.L.TypedLines.remaining c.args.lines.now) (g.L.TypedLines.remaining c.next_fate-fate.new.lines) b
          c.args.engine.now.base c.follow.new.engine.base) (sym c.is_last.ensures ∙ c.if-is_last.false)
          (lines_more g.B.Base.seen (site c.args.engine.now) g.L.TypedLines.echo
          (IsShellFate c.args.policy.now c.args.schemes.now c.args.session.now)
          (g.L.TypedLines.remaining c.args.lines.now) (g.L.TypedLines.remaining c.loop-before.lines)
          (g.L.TypedLines.remaining c.next_fate-fate.new.lines) (g.W.Write.contents c.loop-before.out)
          (g.W.Write.contents c.next_fate-fate.new.out) (g.L.TypedLines.breaks c.next_fate-fate.new.lines)
          (site c.loop-before.engine) c.args.engine.now.base c.loop-before.engine.base c.follow.new.engine.base
          c.next_fate-fate.result (ap site_of_run c.loop-before.invariant.1.heard.kept.site) c.loop-before.invariant.2
          c.next_fate-fate.ensures.read.read c.follow.ensures.access),
    )

pub returns-clause-continues : goal.returns-clause-continues
returns-clause-continues g c = worn_frame g.B.Base.seen c.args.engine.now c.loop-before.engine tt c.loop-before.invariant.0 _ refl

pub returns-clause-conversation : goal.returns-clause-conversation
returns-clause-conversation g c = λ clean. worn_out g.B.Base.seen g.E.Write.contents g.X.Explains.explaining g.L.TypedLines.echo c.args.session.now c.args.engine.now c.args.err.now (g.L.TypedLines.remaining c.args.lines.now) (g.W.Write.contents c.args.out.now) c.requires.fits (g.L.TypedLines.breaks c.loop-before.lines) c.loop-before.before c.loop-before.engine c.loop-before.err (g.L.TypedLines.remaining c.loop-before.lines) (g.W.Write.contents c.loop-before.out) c.is_open-was_opened.result c.loop-before.tally c.loop-before.invariant.1 clean _ (search rules)

pub returns-in_err-answer-clause-access : goal.returns-in_err-answer-clause-access
returns-in_err-answer-clause-access g c =
    lines_are g.B.Base.seen (site c.args.engine.now) g.L.TypedLines.echo
    (IsShellFate c.args.policy.now c.args.schemes.now c.args.session.now)
    (g.L.TypedLines.remaining c.args.lines.now) (g.L.TypedLines.remaining c.args.lines.now) false
    c.args.engine.now.base c.answer.new.engine.base
    (lines_start g.B.Base.seen (site c.args.engine.now) g.L.TypedLines.echo
    (IsShellFate c.args.policy.now c.args.schemes.now c.args.session.now)
    (g.L.TypedLines.remaining c.args.lines.now) c.args.engine.now.base c.answer.new.engine.base
    (opening_permits_nothing g.B.Base.seen (site c.args.engine.now) c.args.session.now c.args.engine.now.base
    c.answer.new.engine.base (subst (λ es. ArePermitted g.B.Base.seen (site c.args.engine.now) es
    c.args.engine.now.base c.answer.new.engine.base) c.requires.first c.answer.ensures.access)))

pub returns-then-not-is_open-clause-access : goal.returns-then-not-is_open-clause-access
returns-then-not-is_open-clause-access g c =
    lines_are g.B.Base.seen (site c.args.engine.now) g.L.TypedLines.echo
    (IsShellFate c.args.policy.now c.args.schemes.now c.args.session.now)
    (g.L.TypedLines.remaining c.args.lines.now) (g.L.TypedLines.remaining c.loop-before.lines) false
    c.args.engine.now.base c.loop-before.engine.base c.loop-before.invariant.2

pub returns-in_err-follow-clause-access : goal.returns-in_err-follow-clause-access
returns-in_err-follow-clause-access g c =
    lines_read g.B.Base.seen (site c.args.engine.now) g.L.TypedLines.echo
    (IsShellFate c.args.policy.now c.args.schemes.now c.args.session.now)
    (g.L.TypedLines.remaining c.args.lines.now) (g.L.TypedLines.remaining c.loop-before.lines)
    (g.L.TypedLines.remaining c.next_fate-fate.new.lines) (g.W.Write.contents c.loop-before.out)
    (g.W.Write.contents c.next_fate-fate.new.out) (g.L.TypedLines.breaks c.next_fate-fate.new.lines)
    (site c.loop-before.engine) c.args.engine.now.base c.loop-before.engine.base c.follow.new.engine.base
    c.next_fate-fate.result (ap site_of_run c.loop-before.invariant.1.heard.kept.site) c.loop-before.invariant.2
    c.next_fate-fate.ensures.read.read c.follow.ensures.access

pub returns-then-is_last-clause-access : goal.returns-then-is_last-clause-access
returns-then-is_last-clause-access g c =
    lines_read g.B.Base.seen (site c.args.engine.now) g.L.TypedLines.echo
    (IsShellFate c.args.policy.now c.args.schemes.now c.args.session.now)
    (g.L.TypedLines.remaining c.args.lines.now) (g.L.TypedLines.remaining c.loop-before.lines)
    (g.L.TypedLines.remaining c.next_fate-fate.new.lines) (g.W.Write.contents c.loop-before.out)
    (g.W.Write.contents c.next_fate-fate.new.out) (g.L.TypedLines.breaks c.next_fate-fate.new.lines)
    (site c.loop-before.engine) c.args.engine.now.base c.loop-before.engine.base c.follow.new.engine.base
    c.next_fate-fate.result (ap site_of_run c.loop-before.invariant.1.heard.kept.site) c.loop-before.invariant.2
    c.next_fate-fate.ensures.read.read c.follow.ensures.access

pub returns-clause-access : goal.returns-clause-access
returns-clause-access g c =
    lines_are g.B.Base.seen (site c.args.engine.now) g.L.TypedLines.echo
    (IsShellFate c.args.policy.now c.args.schemes.now c.args.session.now)
    (g.L.TypedLines.remaining c.args.lines.now) (g.L.TypedLines.remaining c.loop-before.lines) false
    c.args.engine.now.base c.loop-before.engine.base c.loop-before.invariant.2
