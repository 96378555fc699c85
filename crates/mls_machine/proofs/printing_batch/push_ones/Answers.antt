use Rattle.std.proofs.Common.{sym, subst, inl, inr}
use Rattle.mls_lattice.proofs.EachLemmas.{all_at}
use Rattle.mls_machine.specs.Printable.{OneIsKnown, AnswerIsKnown}
use Rattle.mls_machine.specs.Under.{site_under}
use Rattle.mls_machine.proofs.PrintingSteps.{answers_all, answers_more}
use Rattle.mls_machine.proofs.printing_batch.push_ones.Goals as goal

pub push_one-requires-clause-one : goal.push_one-requires-clause-one
push_one-requires-clause-one c =
    let Known = OneIsKnown (site_under c.args.to.now.policy.now c.args.to.now.schemes.now) in
    subst Known (sym c.index-batch-place.is)
    (all_at Known c.args.batch.now c.loop-place.place c.index-batch-place.result c.loop-place-test.true c.requires.batch)

pub push_one-requires-clause-answer : goal.push_one-requires-clause-answer
push_one-requires-clause-answer c =
    let Known = AnswerIsKnown c.args.to.now.policy.now in
    subst Known (sym c.in-Some.ensures.lookup.1)
    (all_at Known c.args.answers.now c.loop-place.place c.in-Some.answer.now c.in-Some.ensures.lookup.3.0 c.requires.answers)

pub loop-place-preserved : goal.loop-place-preserved
loop-place-preserved c =
    answers_more (site_under c.args.to.now.policy.now c.args.to.now.schemes.now) c.args.to.now.event.now c.args.form
    c.args.batch.now c.args.answers.now c.loop-place.place c.loop-place.text.items _ c.loop-place.invariant
    c.index-batch-place.result c.in-Some.answer.now c.loop-place-test.true c.index-batch-place.is c.in-Some.ensures.lookup.3.0
    c.in-Some.ensures.lookup.1 c.push_one.new.text.items c.in_ok-push_one-in-Some.ensures

pub returns-in-None : goal.returns-in-None
returns-in-None c =
    answers_all (site_under c.args.to.now.policy.now c.args.to.now.schemes.now) c.args.to.now.event.now c.args.form
    c.args.batch.now c.args.answers.now c.loop-place.place c.loop-place.text.items _ c.loop-place.invariant
    (inr c.in-None.ensures.lookup.3)

pub returns : goal.returns
returns c =
    answers_all (site_under c.args.to.now.policy.now c.args.to.now.schemes.now) c.args.to.now.event.now c.args.form
    c.args.batch.now c.args.answers.now c.loop-place.place c.loop-place.text.items _ c.loop-place.invariant
    (inl c.loop-place-test.false)
