use Rattle.std.proofs.Common.{ℕ, ◌+◌, [], ◌∷◌, ◌++◌, None, drop, refl, sym, ap, ◌∙◌, unwrap_or, append-nil}
use Rattle.std.specs.FinMap.{get}
use Rattle.std.proofs.lemmas.List.{drop_all}
use Rattle.mls_scheme.specs.declared.tuple.Element.{Element}
use Rattle.mls_filterview.specs.Stored.{with_class}
use Rattle.mls_filterview.specs.Assembly.{elements_from, value_held}
use Rattle.mls_updates.specs.States.{tables_of}
use Rattle.mls_updates.proofs.LoopLemmas.{numbered_more}
use Rattle.mls_updates.proofs.making.elements_of.Goals as goal

pub loop-attr-preserved : goal.loop-attr-preserved
loop-attr-preserved c =
    let p = c.args.place.now in
    let pattern = c.args.pattern.now in
    let held = value_held (get (tables_of c.args.tables.now c.args.relation)) p.class c.args.cells.now in
    let front = c.loop-attr.elements.items in
    let attr = c.loop-attr.attr in
    let m = c.index-pattern-attr.result in
    let item : ℕ → ℕ → Element = λ k n. record { value = unwrap_or (held (with_class p n, k)) None; class = n } in
    ap (λ es. es ++ elements_from held p (attr + 1) (drop (attr + 1) pattern))
    (c.in_ok-push.ensures.items ∙ (λ i. front ++ record { value = c.in_ok-value.ensures i; class = m } ∷ [])
    ∙ ap (λ n. front ++ item attr n ∷ []) c.index-pattern-attr.is)
    ∙ numbered_more item (elements_from held p) (λ k n ns. refl) front pattern attr m c.loop-attr-test.true
    ∙ c.loop-attr.invariant

pub returns : goal.returns
returns c =
    let p = c.args.place.now in
    let held = value_held (get (tables_of c.args.tables.now c.args.relation)) p.class c.args.cells.now in
    let front = c.loop-attr.elements.items in
    let none = drop_all c.loop-attr.attr c.args.pattern.now c.loop-attr-test.false in
    sym (ap (λ ms. front ++ elements_from held p c.loop-attr.attr ms) none ∙ append-nil front) ∙ c.loop-attr.invariant
