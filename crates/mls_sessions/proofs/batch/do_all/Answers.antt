use Rattle.std.proofs.Common.{◌≡◌, ◌+◌, ◌++◌, ◌∷◌, [], refl, List, length, Ok, Err, OnOk, ap, sym, subst, ◌∙◌, rules}
use Rattle.std.proofs.lemmas.List.{length_push}
use Rattle.mls_lattice.proofs.EachLemmas.{all_at}
use Rattle.mls_filterview.specs.Content.{Content}
use Rattle.mls_filterview.proofs.AccessLemmas.{avoids_then, avoids_some, avoids_same}
use Rattle.mls_certcheck.specs.Site.{site_labels}
use Rattle.mls_audit.specs.Sound.{IsSoundContent}
use Rattle.mls_queries.specs.Views.{AreViews}
use Rattle.mls_machine.specs.declared.reply.Answer.{Answer}
use Rattle.mls_machine.specs.declared.reply.Reply.TheVariants.{Did}
use Rattle.mls_machine.specs.Machine.{did_all}
use Rattle.mls_sessions.specs.Batches.{MayDoOne}
use Rattle.mls_sessions.specs.Sessions.{site_of_run}
use Rattle.mls_sessions.proofs.AccessLemmas.{batch_has}
use Rattle.mls_sessions.proofs.BatchLemmas.{rest_more, undone_at, none_refused, all_done}
use Rattle.mls_sessions.proofs.GoingLemmas.{goes_nowhere, goes_then, goes_well, goes_on_by, goes_out, goes_back, settled_goes}
use Rattle.mls_sessions.proofs.batch.do_all.Goals as goal

pub loop-place-init : goal.loop-place-init
loop-place-init g c =
    let site = site_of_run c.args.site.now in
    record {
      goes_on = goes_nowhere g.B.Base.seen c.args.base.now c.requires.found.mode;
      access = avoids_same refl;
      audit = λ h. refl;
      rest = λ h. ap (λ (xs : List Answer). did_all site c.args.level xs c.args.batch.now
          (g.B.Base.seen c.args.base.now).state.now.db) c.new-answers.ensures.items;
      number = ap (λ (xs : List Answer). length xs) c.new-answers.ensures.items;
      sound = c.requires.found.sound;
      views = c.requires.found.views;
    }

pub do_one-requires-clause-may : goal.do_one-requires-clause-may
do_one-requires-clause-may g c =
    let one = c.index-batch-place.result in
    let May = MayDoOne (site_of_run c.args.site.now) c.args.level in
    subst May (sym c.index-batch-place.is)
    (all_at May c.args.batch.now c.loop-place.place one c.loop-place-test.true c.requires.may.each)

pub loop-place-preserved : goal.loop-place-preserved
loop-place-preserved g c =
    let seen = g.B.Base.seen in
    let site = site_of_run c.args.site.now in
    let inv = c.loop-place.invariant in
    let a = c.args.base.now in
    let b = c.loop-place.base in
    let d = c.do_one.new.base in
    let e = c.settle.new.base in
    let answer = c.in_ok-answer.answer in
    let one = c.in_ok-answer.ensures in
    let kept = c.in_ok-settle.ensures in
    let on = goes_on_by seen a d answer (goes_then seen a b d (Ok answer) c.requires.found.mode inv.goes_on one.step)
    in
    let more : c.keep.new.answers.items ≡ c.loop-place.answers.items ++ answer ∷ []
    = subst (λ r. OnOk r (c.keep.new.answers.items ≡ c.loop-place.answers.items ++ answer
    ∷ [])) kept.value c.keep.ensures in
    record {
      goes_on = goes_on_by seen a e _ (goes_then seen a d e _ c.requires.found.mode on
          (settled_goes seen d e _ on.mode kept.call kept.served kept.same));
      access = avoids_then (avoids_then inv.access (batch_has seen b d (site_labels site) c.args.level
          c.index-batch-place.result c.args.batch.now c.loop-place.place c.loop-place-test.true c.index-batch-place.is
          one.access)) (avoids_some kept.access);
      audit = λ h.
          let k = kept.call.clean h in
          ap (λ x. (seen x).state.now.audit) kept.same ∙ ap (λ (x : Content). x.audit) (one.done k).1
          ∙ inv.audit (one.step.call.clean k);
      rest = λ h.
          let k = kept.call.clean h in
          rest_more site c.args.level c.args.batch.now c.loop-place.place c.index-batch-place.result
          c.loop-place-test.true c.index-batch-place.is c.loop-place.answers.items (seen b).state.now (seen d).state.now
          answer (one.done k) (did_all site c.args.level [] c.args.batch.now (seen a).state.now.db)
          (inv.rest (one.step.call.clean k))
          (sym c.refusal_of.ensures ∙ none_refused c.refusal_of.result c.in_default.not-Some) c.keep.new.answers.items
          more (seen e).state.now.db (ap (λ x. (seen x).state.now.db) kept.same);
      number = ap (λ (xs : List Answer). length xs) more ∙ length_push c.loop-place.answers.items answer
          ∙ ap (λ n. n + 1) inv.number;
      sound = λ h. subst (λ x. IsSoundContent site.policy site.schemes (seen x).state.now) (sym kept.same)
          (one.sound (kept.call.clean h));
      views = subst (λ x. AreViews site.policy seen x c.do_one.new.views) (sym kept.same) one.views;
    }

pub returns-in_err-answer-clause-step : goal.returns-in_err-answer-clause-step
returns-in_err-answer-clause-step g c =
    let seen = g.B.Base.seen in
    let fault = c.in_err-answer.field-0.0 in
    goes_back seen c.args.base.now c.do_one.new.base fault c.from_residual.result (search rules)
    (goes_then seen c.args.base.now c.loop-place.base c.do_one.new.base (Err fault) c.requires.found.mode
    c.loop-place.invariant.goes_on c.in_err-answer.ensures.step)

pub returns-in_err-answer-clause-access : goal.returns-in_err-answer-clause-access
returns-in_err-answer-clause-access g c =
    avoids_then c.loop-place.invariant.access (batch_has g.B.Base.seen c.loop-place.base c.do_one.new.base
    (site_labels (site_of_run c.args.site.now)) c.args.level c.index-batch-place.result c.args.batch.now
    c.loop-place.place c.loop-place-test.true c.index-batch-place.is c.in_err-answer.ensures.access)

pub returns-in-Some-clause-step : goal.returns-in-Some-clause-step
returns-in-Some-clause-step g c =
    let seen = g.B.Base.seen in
    let answer = c.in_ok-answer.answer in
    goes_well seen c.args.base.now c.do_one.new.base answer _
    (goes_then seen c.args.base.now c.loop-place.base c.do_one.new.base (Ok answer) c.requires.found.mode
    c.loop-place.invariant.goes_on c.in_ok-answer.ensures.step)

pub returns-in-Some-clause-access : goal.returns-in-Some-clause-access
returns-in-Some-clause-access g c = avoids_then c.loop-place.invariant.access (batch_has g.B.Base.seen c.loop-place.base c.do_one.new.base
    (site_labels (site_of_run c.args.site.now)) c.args.level c.index-batch-place.result c.args.batch.now
    c.loop-place.place c.loop-place-test.true c.index-batch-place.is c.in_ok-answer.ensures.access)

pub returns-in-Some-clause-done : goal.returns-in-Some-clause-done
returns-in-Some-clause-done g c = λ h.
    let seen = g.B.Base.seen in
    let site = site_of_run c.args.site.now in
    let inv = c.loop-place.invariant in
    let a = (seen c.args.base.now).state.now in
    let one = c.in_ok-answer.ensures in
    undone_at site c.args.level c.args.batch.now c.loop-place.place c.index-batch-place.result c.loop-place-test.true
    c.index-batch-place.is c.loop-place.answers.items (seen c.loop-place.base).state.now
    (seen c.do_one.new.base).state.now c.in_ok-answer.answer (one.done h)
    (did_all site c.args.level [] c.args.batch.now a.db) (inv.rest (one.step.call.clean h)) c.in-Some.outcome
    (sym c.refusal_of.ensures ∙ c.in-Some.is) (c.loop-place.place + 1) (ap (λ n. n + 1) (sym inv.number)) a
    (seen c.do_one.new.base).state.now

pub returns-in_err-settle-clause-step : goal.returns-in_err-settle-clause-step
returns-in_err-settle-clause-step g c =
    let seen = g.B.Base.seen in
    let a = c.args.base.now in
    let d = c.do_one.new.base in
    let answer = c.in_ok-answer.answer in
    let fault = c.in_err-settle.field-0.0 in
    let on = goes_on_by seen a d answer
    (goes_then seen a c.loop-place.base d (Ok answer) c.requires.found.mode c.loop-place.invariant.goes_on
    c.in_ok-answer.ensures.step) in
    goes_back seen a c.settle.new.base fault c.from_residual-in_err-settle.result (search rules)
    (goes_then seen a d c.settle.new.base _ c.requires.found.mode on
    (settled_goes seen d c.settle.new.base _ on.mode c.in_err-settle.ensures.call
    c.in_err-settle.ensures.served tt))

pub returns-in_err-settle-clause-access : goal.returns-in_err-settle-clause-access
returns-in_err-settle-clause-access g c =
    avoids_then (avoids_then c.loop-place.invariant.access (batch_has g.B.Base.seen c.loop-place.base c.do_one.new.base
    (site_labels (site_of_run c.args.site.now)) c.args.level c.index-batch-place.result c.args.batch.now
    c.loop-place.place c.loop-place-test.true c.index-batch-place.is c.in_ok-answer.ensures.access))
    (avoids_some c.in_err-settle.ensures.access)

pub returns-clause-step : goal.returns-clause-step
returns-clause-step g c =
    goes_out g.B.Base.seen c.args.base.now c.loop-place.base _ c.loop-place.invariant.goes_on

pub returns-clause-done : goal.returns-clause-done
returns-clause-done g c = λ h.
    let seen = g.B.Base.seen in
    let site = site_of_run c.args.site.now in
    let inv = c.loop-place.invariant in
    let a = (seen c.args.base.now).state.now in
    let from : c.from.result ≡ c.loop-place.answers.items = search rules in
    all_done site c.args.level c.args.batch.now c.loop-place.place c.loop-place.answers.items a
    (seen c.loop-place.base).state.now (did_all site c.args.level [] c.args.batch.now a.db) c.loop-place-test.false
    (inv.rest h) (inv.audit h) (Did c.from.result) (ap Did from)
