use Rattle.std.proofs.Common.{rules, ◌<◌, ◌^◌, ◌||◌, sym, ap, ◌∙◌, subst, inl, inr, nat_eq, take_all}
use Rattle.std.specs.List.{list_any}
use Rattle.std.proofs.lemmas.Bool.{cases_lt}
use Rattle.std.proofs.lemmas.List.Folds.{list_any_more}
use Rattle.mls_rows.proofs.BitLemmas.{one_bit, high_bit, label_small}
use Rattle.mls_rows.proofs.reading.bits_of.Goals as goal

pub loop-label-preserved : goal.loop-label-preserved
loop-label-preserved c = λ m few.
    let labels = c.args.labels.now in
    let is = c.index.ensures ∙ c.label-item.is in
    let small = subst (λ l. l < 64) (sym is) (label_small labels c.loop-label.label-index c.label-item.result c.requires c.loop-label-test.true) in
    one_bit c.loop-label.bits c.index.result small m
    ∙ (λ i. c.loop-label.invariant m few i || nat_eq m (is i))
    ∙ sym (list_any_more (λ k. nat_eq m k) labels c.loop-label.label-index c.label-item.result c.loop-label-test.true)

pub returns : goal.returns
returns c = λ m.
    let labels = c.args.labels.now in
    let fits : c.loop-label.bits < 2 ^ 64 = search rules in
    elim (cases_lt m 64) [
      | inl few ↦ c.loop-label.invariant m few ∙ ap (list_any (λ k. nat_eq m k))
          (take_all c.loop-label.label-index labels c.loop-label-test.false)
      | inr high ↦ high_bit c.loop-label.bits m fits high labels c.requires
    ]
