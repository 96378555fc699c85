use Rattle.std.proofs.Common.{◌++◌, ◌+◌, drop, sym, ap, ◌∙◌, option_map, slice_get}
use Rattle.mls_machine.specs.Denying.{fitted}
use Rattle.mls_sessions.proofs.ArgumentLemmas.{Params, fitted_more}
use Rattle.mls_sessions.proofs.arguments.fitted.Goals as goal

pub loop-place-preserved : goal.loop-place-preserved
loop-place-preserved c =
    ap (λ xs. xs ++ fitted (drop (c.loop-place.place + 1) c.args.tx.now.params)
    (drop (c.loop-place.place + 1) c.args.args.now)) c.in_ok-push.ensures.items
    ∙ fitted_more c.args.tx.now.params c.args.args.now c.requires c.loop-place.place c.get.result.now c.index-args-place.result c.loop-place-test.true
    (sym (ap (λ (ps : Params). option_map (λ x. x.1) (slice_get ps c.loop-place.place)) c.params.ensures.params)
    ∙ c.get.ensures) c.index-args-place.is
    c.loop-place.values.items _ c.in_ok-value.value c.loop-place.invariant c.in_ok-value.ensures
