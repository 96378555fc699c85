use Rattle.std.proofs.Common.{sym, subst, arith, take, All, Contains, take_all}
use Rattle.std.proofs.lemmas.List.Elements.{All-contains, All-weaker, All-more}
use Rattle.mls_labeller.proofs.range.union.Goals as goal

pub loop-value-preserved : goal.loop-value-preserved
loop-value-preserved c =
    let new = c.add.new.all.items in
    let seen = take c.loop-value.value-index c.args.others.now in record {
      these = λ v h. c.in_ok-add.ensures.kept v (c.loop-value.invariant.these v h);
      those = All-more (Contains new) c.args.others.now c.loop-value.value-index c.value-item.result c.loop-value-test.true (All-weaker (Contains c.loop-value.all.items) (Contains new) c.in_ok-add.ensures.kept seen c.loop-value.invariant.those)
          (subst (Contains new) c.value-item.is c.in_ok-add.ensures.added);
    }

pub returns-clause-these : goal.returns-clause-these
returns-clause-these c = λ v h. subst (λ l. Contains l v) (sym c.from.ensures) (c.loop-value.invariant.these v h)

pub returns-clause-those : goal.returns-clause-those
returns-clause-those c = λ v h.
    let all = c.loop-value.all.items in
    subst (λ l. Contains l v) (sym c.from.ensures) (All-contains (Contains all) c.args.others.now v
    (subst (All (Contains all)) (take_all c.loop-value.value-index c.args.others.now
    (omega (arith, c.loop-value-test.false))) c.loop-value.invariant.those) h)
