use Rattle.std.proofs.Common.{ℕ, ◌+◌, [], ◌∷◌, ◌++◌, None, drop, refl, sym, ap, ◌∙◌, append-nil}
use Rattle.std.proofs.lemmas.List.{drop_all}
use Rattle.mls_scheme.specs.declared.tuple.Element.{Element}
use Rattle.mls_updates.specs.Steps.{outline}
use Rattle.mls_updates.specs.Writes.{set_element}
use Rattle.mls_updates.proofs.LoopLemmas.{numbered_more}
use Rattle.mls_updates.proofs.outline.outline_elements.Goals as goal

pub loop-attr-preserved : goal.loop-attr-preserved
loop-attr-preserved c =
    let sets = c.args.sets.now in
    let pattern = c.args.pattern.now in
    let front = c.loop-attr.elements.items in
    let i = c.loop-attr.attr in
    let item : ℕ → ℕ → Element = λ k m. set_element c.args.w sets k (record { value = None; class = m }) in
    ap (λ xs. xs ++ outline c.args.w sets (i + 1) (drop (i + 1) pattern))
    (c.in_ok-push.ensures.items ∙ ap (λ e. front ++ e ∷ []) c.in_ok-outline_element.ensures ∙ ap (λ m. front ++ item i m
    ∷ []) c.index-pattern-attr.is)
    ∙ numbered_more item (outline c.args.w sets)
    (λ k m ms. refl) front pattern i c.index-pattern-attr.result c.loop-attr-test.true ∙ c.loop-attr.invariant

pub returns : goal.returns
returns c =
    let front = c.loop-attr.elements.items in
    let none = drop_all c.loop-attr.attr c.args.pattern.now c.loop-attr-test.false in
    sym (ap (λ ms. front ++ outline c.args.w c.args.sets.now c.loop-attr.attr ms) none ∙ append-nil front)
    ∙ c.loop-attr.invariant
