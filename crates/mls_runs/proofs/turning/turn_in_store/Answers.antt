use Rattle.std.proofs.Common.{[], Result, Some, refl, sym, subst}
use Rattle.std.proofs.KnownBytes.{Appends-nil}
use Rattle.mls_translang.specs.declared.run_fault.RunFault.{RunFault}
use Rattle.mls_host.specs.declared.stop.Stop.{Stop}
use Rattle.mls_host.specs.Hosting.{hosted, IsAppended}
use Rattle.mls_host.specs.Stop.{IsEnd}
use Rattle.mls_host.specs.Stopping.{IsCaused}
use Rattle.mls_runs.proofs.RunningLemmas.{ended_so}
use Rattle.mls_host.proofs.StoppingLemmas.{untouched, caused_in_store}
use Rattle.mls_runs.specs.TurnRun.{IsTurnRun, IsTurnRefused, barred, absent}
use Rattle.mls_runs.proofs.AccessLemmas.{nowhere_kept}
use Rattle.mls_runs.proofs.TurningLemmas.{turning}
use Rattle.mls_runs.proofs.turning.turn_in_store.Goals as goal

pub returns-in-Err-clause-ends : goal.returns-in-Err-clause-ends
returns-in-Err-clause-ends g c = (barred (c.in-Err.fault, c.in-Err.ensures.barred, refl), Appends-nil _)

pub returns-clause-ends : goal.returns-clause-ends
returns-clause-ends g c =
    let h = hosted g.H.Host.hosting g.H.Lines.TypedLines.echo c.args.host.now c.keep-closed.new.self in
    let setting = c.args.setting.now in
    let Wrote = IsAppended g.W.Write.contents c.args.out.now c.turn-outcome.new.out in
    let Turns : Result (Unit {0}) RunFault → Type 0
    = λ end. IsTurnRun setting Wrote end h (Some c.args.path.now) in
    let ran : Turns c.turn-outcome.result = record {
      there = c.is_absent.ensures.there c.if-is_absent.false;
      turned = λ honest.
          let clean = c.keep-closed.ensures.honest.0 honest in
          record {
            first = _;
            left = _;
            begins = c.in-Ok.ensures.kept (c.turn-outcome.ensures.clean clean);
            kept =
                c.keep-closed.ensures.kept honest;
            leads = turning setting Wrote _ _ c.turn-outcome.result
                (c.turn-outcome.ensures.turned clean) c.in-Ok.ensures.sound;
          };
      access =
          nowhere_kept g.H.Store.Base.seen h.after c.in-Ok.base c.turn-outcome.new.base c.in-Ok.ensures.fresh
          c.keep-closed.ensures.asked c.keep-closed.ensures.changed c.turn-outcome.ensures.access;
    } in
    subst (λ (r : Result (Unit {0}) Stop). IsEnd Turns
    (λ reason. IsTurnRefused (g.H.Host.hosting c.keep-closed.new.self) setting (Some c.args.path.now) reason
    × Wrote []) r) (sym c.ended.ensures)
    (ended_so Turns (λ reason. IsTurnRefused (g.H.Host.hosting c.keep-closed.new.self) setting
    (Some c.args.path.now) reason × Wrote []) c.turn-outcome.result c.keep-closed.result ran)

pub returns-in-Err-clause-caused : goal.returns-in-Err-clause-caused
returns-in-Err-clause-caused g c = c.in-Err.ensures.same

pub returns-clause-caused : goal.returns-clause-caused
returns-clause-caused g c =
    let h = hosted g.H.Host.hosting g.H.Lines.TypedLines.echo c.args.host.now c.keep-closed.new.self in
    subst (λ (r : Result (Unit {0}) Stop). IsCaused h (Some c.args.path.now) r) (sym c.ended.ensures)
    (caused_in_store h c.args.path.now c.turn-outcome.result c.keep-closed.result
    (g.H.Store.Base.seen c.in-Ok.base).failures (g.H.Store.Base.seen c.turn-outcome.new.base).failures
    c.keep-closed.ensures.closed.1 c.keep-closed.ensures.closed.0 c.keep-closed.ensures.failed.1
    (λ honest. c.turn-outcome.ensures.store))

pub returns-then-is_absent-clause-ends : goal.returns-then-is_absent-clause-ends
returns-then-is_absent-clause-ends g c = (
  absent c.args.path.now refl
      (c.is_absent.ensures.absent c.if-is_absent.true) refl,
  Appends-nil _,
)

pub returns-then-is_absent-clause-caused : goal.returns-then-is_absent-clause-caused
returns-then-is_absent-clause-caused g c = untouched (g.H.Host.hosting c.args.host.now)
