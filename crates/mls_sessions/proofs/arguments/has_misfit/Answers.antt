use Rattle.std.proofs.Common.{sym, ap, ◌∙◌, option_map, slice_get}
use Rattle.mls_sessions.proofs.ArgumentLemmas.{Params, wrong_here, wrong_more}
use Rattle.mls_sessions.proofs.arguments.has_misfit.Goals as goal

pub returns-then-is_misfit : goal.returns-then-is_misfit
returns-then-is_misfit c =
    wrong_here c.args.tx.now.params c.args.args.now c.requires c.loop-place.place c.get.result.now c.index-args-place.result c.loop-place-test.true
    (sym (ap (λ (ps : Params). option_map (λ x. x.1) (slice_get ps c.loop-place.place)) c.params.ensures.params)
    ∙ c.get.ensures) c.index-args-place.is
    c.args.tx.now.lo _ c.loop-place.invariant (sym c.is_misfit.ensures ∙ c.if-is_misfit.true)

pub loop-place-preserved : goal.loop-place-preserved
loop-place-preserved c =
    wrong_more c.args.tx.now.params c.args.args.now c.requires c.loop-place.place c.get.result.now c.index-args-place.result c.loop-place-test.true
    (sym (ap (λ (ps : Params). option_map (λ x. x.1) (slice_get ps c.loop-place.place)) c.params.ensures.params)
    ∙ c.get.ensures) c.index-args-place.is
    c.args.tx.now.lo _ c.loop-place.invariant (sym c.is_misfit.ensures ∙ c.if-is_misfit.false)
