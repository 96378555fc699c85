use Rattle.std.proofs.Common.{[], ◌∷◌, ◌++◌, sym, ap, ◌∙◌, filter_map, take_all}
use Rattle.mls_updates.proofs.KeyLemmas.{key_none, key_some}
use Rattle.mls_updates.proofs.key.values_of.Goals as goal

pub loop-value-preserved-in_default : goal.loop-value-preserved-in_default
loop-value-preserved-in_default c =
    c.loop-value.invariant ∙ sym (key_none c.args.key.now c.loop-value.value-index c.value-item.result c.loop-value-test.true (sym c.value-item.is ∙ c.in_default.is))

pub loop-value-preserved : goal.loop-value-preserved
loop-value-preserved c =
    c.in_ok-push.ensures.items ∙ (λ j. c.loop-value.invariant j ++ c.in_ok-copy.ensures j ∷ [])
    ∙ sym (key_some c.args.key.now c.loop-value.value-index c.value-item.result c.in-Some.value c.loop-value-test.true
    (sym c.value-item.is ∙ c.in-Some.is))

pub returns : goal.returns
returns c = c.loop-value.invariant ∙ ap (filter_map (λ v. v))
    (take_all c.loop-value.value-index c.args.key.now c.loop-value-test.false)
