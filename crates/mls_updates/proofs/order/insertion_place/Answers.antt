use Rattle.std.proofs.Common.{◌≡◌, length, sym, ap, ◌∙◌, arith}
use Rattle.mls_lattice.specs.Labels.{below}
use Rattle.mls_lattice.specs.Policy.{labels_of}
use Rattle.mls_updates.proofs.DownwardLemmas.{place_found, place_next, place_end}
use Rattle.mls_updates.proofs.order.insertion_place.Goals as goal

pub returns-then-dominates : goal.returns-then-dominates
returns-then-dominates c =
    let ls = labels_of c.args.policy.now in
    let m = c.index-order-place.result in
    let l = c.loop-place-test.true in
    record {
      exact = place_found ls c.args.label c.args.order.now c.loop-place.place m c.loop-place.invariant l
          (ap (λ k. below ls k c.args.label) (sym c.index-order-place.is) ∙ sym c.if-dominates.ensures.order);
      within = omega (arith, l);
    }

pub loop-place-preserved : goal.loop-place-preserved
loop-place-preserved c =
    let ls = labels_of c.args.policy.now in
    place_next ls c.args.label c.args.order.now c.loop-place.place c.index-order-place.result c.loop-place.invariant c.loop-place-test.true
    (ap (λ k. below ls k c.args.label) (sym c.index-order-place.is) ∙ sym c.if-dominates.ensures.order)

pub returns : goal.returns
returns c =
    let l = c.loop-place-test.false in
    let m = c.loop-place.auto.place-end in
    let n : length c.args.order.now ≡ c.loop-place.place = omega (arith, l, m) in
    record { exact = n ∙ place_end (labels_of c.args.policy.now) c.args.label c.args.order.now c.loop-place.place c.loop-place.invariant l; within = omega arith }
