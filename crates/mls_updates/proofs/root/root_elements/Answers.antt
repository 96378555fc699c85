use Rattle.std.proofs.Common.{[], ◌∷◌, ◌++◌, map, take, Option, sym, ap, ◌∙◌, take_all}
use Rattle.std.proofs.lemmas.List.{map_more}
use Rattle.mls_scheme.specs.declared.value.Value.{Value}
use Rattle.mls_scheme.specs.declared.tuple.Element.{Element}
use Rattle.mls_updates.specs.Writes.{root}
use Rattle.mls_updates.proofs.root.root_elements.Goals as goal

pub loop-value-preserved : goal.loop-value-preserved
loop-value-preserved c =
    let f : Option Value → Element = λ v. record { value = v; class = c.args.class } in
    let values = c.args.values.now in
    let i = c.loop-value.value-index in
    c.in_ok-push.ensures.items ∙ (λ j. c.loop-value.invariant j ++ f (c.in_ok-copy_value.ensures j) ∷ [])
    ∙ ap (λ v. map f (take i values) ++ f v ∷ []) c.value-item.is
    ∙ sym (map_more f values i c.value-item.result c.loop-value-test.true)

pub returns : goal.returns
returns c = c.loop-value.invariant ∙ ap (root c.args.class)
    (take_all c.loop-value.value-index c.args.values.now c.loop-value-test.false)
