use Rattle.std.proofs.Common.{◌≡◌, ◌<◌, true, subst, length}
use Rattle.mls_lattice.specs.Policy.{labels_of}
use Rattle.mls_scheme.proofs.ExtendingLemmas.{contain_more}
use Rattle.mls_scheme.proofs.CanonLemmas.{column_among}
use Rattle.mls_scheme.proofs.extending.all_contain.Goals as goal

pub returns-then-not-contains : goal.returns-then-not-contains
returns-then-not-contains c =
    let more = contain_more (labels_of c.args.policy.now) c.args.low c.args.high c.args.attributes.now c.loop-place.place c.get.result.now (subst (λ n. c.loop-place.place < n) c.len-place-end.ensures c.loop-place-test.true) c.get.ensures in
    let off = c.if-not-contains.true in (
      λ e. absurd cc,
      λ all. let on : c.contains.result ≡ true = c.contains.ensures.1
          (more.0 (c.loop-place.invariant.1 all)).0 in cc,
    )

pub loop-place-preserved : goal.loop-place-preserved
loop-place-preserved c =
    let more = contain_more (labels_of c.args.policy.now) c.args.low c.args.high c.args.attributes.now c.loop-place.place c.get.result.now (subst (λ n. c.loop-place.place < n) c.len-place-end.ensures c.loop-place-test.true) c.get.ensures in
    let off = c.if-not-contains.false in
    let on : c.contains.result ≡ true = cc in (
      λ all. c.loop-place.invariant.0 (more.1 (c.contains.ensures.0 on, all)),
      λ all. (more.0 (c.loop-place.invariant.1 all)).1,
    )

pub contains-requires-clause-attribute_low : goal.contains-requires-clause-attribute_low
contains-requires-clause-attribute_low c =
    (column_among (length c.args.policy.now.labels) c.args.attributes.now c.loop-place.place c.get.result.now c.requires.among c.get.ensures).0

pub contains-requires-clause-attribute_high : goal.contains-requires-clause-attribute_high
contains-requires-clause-attribute_high c =
    (column_among (length c.args.policy.now.labels) c.args.attributes.now c.loop-place.place c.get.result.now c.requires.among c.get.ensures).1
