use Rattle.std.proofs.Common.{rules, ◌≡◌, ◌<◌, ◌≤◌, true, false, length, sym, ap, ◌∙◌, subst, arith, insert}
use Rattle.std.proofs.lemmas.List.{length-map}
use Rattle.std.specs.List.{AllByRecursion}
use Rattle.mls_lattice.specs.Labels.{below}
use Rattle.mls_lattice.specs.Policy.{labels_of}
use Rattle.mls_updates.proofs.DownwardLemmas.{downward_put, downward_skip, downward_above, insert_all, before}
use Rattle.mls_updates.proofs.order.downwards.Goals as goal

pub loop-number-preserved : goal.loop-number-preserved
loop-number-preserved c =
    let ls = labels_of c.args.policy.now in
    let xs = c.loop-number.order.items in
    let n = c.loop-number.number in
    let label : c.new-label.result ≡ n = search rules in
    let at : c.insertion_place-place.result ≡ before ls c.new-label.result xs = c.insertion_place-place.ensures.exact
    ∙ ap (before ls c.new-label.result) c.deref.ensures.value in
    let new : c.insert.new.self.items ≡ insert xs c.insertion_place-place.result n = c.in_ok-insert.ensures.items
    ∙ ap (insert xs c.insertion_place-place.result) label in
    let above : below ls c.args.w n ≡ true = ap (below ls c.args.w) (sym label) ∙ sym c.dominates.ensures.order
    ∙ c.if-not-dominates.false in (
      new ∙ ap (λ k. insert xs k n) (at ∙ ap (λ m. before ls m xs) label)
          ∙ downward_put ls c.args.w n xs c.loop-number.invariant.0 above,
      subst (AllByRecursion (λ m. m < length c.args.policy.now.labels)) (sym new)
          (insert_all (λ m. m < length c.args.policy.now.labels) xs c.insertion_place-place.result n c.loop-number.invariant.1
          (let l = c.loop-number-test.true in let m = c.label_count-number-end.ensures.count in omega (arith, l, m))),
    )

pub returns : goal.returns
returns c =
    let n : length (labels_of c.args.policy.now) ≡ length c.args.policy.now.labels = length-map c.args.policy.now.labels
    (λ l. l.value) in
    downward_above (labels_of c.args.policy.now) c.use_invariant.ensures.distinct c.args.w c.loop-number.order.items c.loop-number.number
    (let l = c.loop-number-test.false in let m = c.label_count-number-end.ensures.count in omega (arith, n, l, m))
    (let l = c.loop-number.auto.number-end in let m = c.label_count-number-end.ensures.count in omega (arith, n, l, m))
    c.loop-number.invariant.0

pub new-label-requires : goal.new-label-requires
new-label-requires c = tt

pub overflow_cast-number : goal.overflow_cast-number
overflow_cast-number c = let l = c.loop-number-test.true in let m = c.label_count-number-end.ensures.count in let few =
    c.label_count-number-end.ensures.few in omega (arith, l, m, few)

pub dominates-requires-clause-high : goal.dominates-requires-clause-high
dominates-requires-clause-high c =
    subst (λ m. m < length c.args.policy.now.labels) (sym c.new-label.ensures) (let l = c.loop-number-test.true
    in let m = c.label_count-number-end.ensures.count in omega (arith, l, m))

pub dominates-requires-clause-low : goal.dominates-requires-clause-low
dominates-requires-clause-low c = c.requires

pub loop-number-preserved-then-not-dominates : goal.loop-number-preserved-then-not-dominates
loop-number-preserved-then-not-dominates c =
    let ls = labels_of c.args.policy.now in
    let not_above : below ls c.args.w c.loop-number.number ≡ false = ap (below ls c.args.w) (sym c.new-label.ensures)
    ∙ sym c.dominates.ensures.order ∙ c.if-not-dominates.true in (
      c.loop-number.invariant.0 ∙ sym (downward_skip ls c.args.w c.loop-number.number not_above),
      c.loop-number.invariant.1,
    )

pub insertion_place-place-requires-clause-label : goal.insertion_place-place-requires-clause-label
insertion_place-place-requires-clause-label c =
    subst (λ m. m < length c.args.policy.now.labels) (sym c.new-label.ensures) (let l = c.loop-number-test.true
    in let m = c.label_count-number-end.ensures.count in omega (arith, l, m))

pub insertion_place-place-requires-clause-order : goal.insertion_place-place-requires-clause-order
insertion_place-place-requires-clause-order c = subst (AllByRecursion (λ m. m < length c.args.policy.now.labels))
    (sym c.deref.ensures.value) c.loop-number.invariant.1

pub insert-requires : goal.insert-requires
insert-requires c = subst (λ n. c.insertion_place-place.result
    ≤ n) c.deref.ensures.len c.insertion_place-place.ensures.within
