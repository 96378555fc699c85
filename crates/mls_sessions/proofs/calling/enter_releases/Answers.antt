use Rattle.std.proofs.Common.{arith, refl, ◌∙◌}
use Rattle.mls_audit.specs.Spelling.{HasSpelling}
use Rattle.mls_machine.specs.Machine.{release_entry}
use Rattle.mls_sessions.specs.Sessions.{site_of_run}
use Rattle.mls_sessions.proofs.EnteringLemmas.{none_entered, entered_more, each_more, entered_all, each_all}
use Rattle.mls_filterview.proofs.AccessLemmas.{avoids_then, avoids_same}
use Rattle.mls_sessions.proofs.calling.enter_releases.Goals as goal

pub loop-item-init : goal.loop-item-init
loop-item-init g c = record {
  clean = λ h. h;
  about = λ h. refl;
  access = avoids_same refl;
  count = omega arith;
  begun = c.requires.may.begun;
  way = λ h. none_entered (g.B.Base.seen c.args.base.now).state;
  spelled = tt;
}

pub loop-item-preserved : goal.loop-item-preserved
loop-item-preserved g c =
    let f = release_entry (site_of_run c.args.site.now) c.args.event.now c.args.user in
    let inv = c.loop-item.invariant in
    let one = c.in_ok-enter_release.ensures in
    record {
      clean = λ h. inv.clean (one.step.call.clean h);
      about = λ h. one.step.call.about h ∙ inv.about (one.step.call.clean h);
      access = avoids_then inv.access one.access;
      count = (let a = inv.count in let b = one.step.call.count in omega (arith, a, b));
      begun = one.step.mode;
      way = λ h. entered_more f c.args.released.now c.loop-item.item-index c.item-item.result c.loop-item-test.true c.item-item.is
          (g.B.Base.seen c.args.base.now).state (g.B.Base.seen c.loop-item.base).state
          (g.B.Base.seen c.enter_release.new.base).state (inv.way (one.step.call.clean h)) (one.entered.done h);
      spelled = each_more f c.args.released.now c.loop-item.item-index c.item-item.result c.loop-item-test.true c.item-item.is HasSpelling inv.spelled one.entered.spelled.0;
    }

pub returns-clause-entered : goal.returns-clause-entered
returns-clause-entered g c =
    let f = release_entry (site_of_run c.args.site.now) c.args.event.now c.args.user in
    record {
      done = λ clean. entered_all f c.args.released.now c.loop-item.item-index c.loop-item-test.false
          (g.B.Base.seen c.args.base.now).state (g.B.Base.seen c.loop-item.base).state
          (c.loop-item.invariant.way clean);
      spelled = each_all f c.args.released.now c.loop-item.item-index c.loop-item-test.false HasSpelling c.loop-item.invariant.spelled;
    }

pub returns-in_err-enter_release-clause-access : goal.returns-in_err-enter_release-clause-access
returns-in_err-enter_release-clause-access g c =
    avoids_then c.loop-item.invariant.access c.in_err-enter_release.ensures.access
