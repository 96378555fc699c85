use Rattle.std.proofs.Common.{length, sym, ap, ◌∙◌, arith}
use Rattle.std.specs.List.{list_all}
use Rattle.std.proofs.lemmas.List.{drop_all}
use Rattle.mls_lattice.specs.Policy.{labels_of}
use Rattle.mls_scheme.specs.Fits.{in_interval}
use Rattle.mls_updates.proofs.IntervalLemmas.{one_in, one_out, column_among}
use Rattle.mls_updates.proofs.interval.in_intervals.Goals as goal

pub in_interval-requires-clause-low : goal.in_interval-requires-clause-low
in_interval-requires-clause-low c = (column_among
    (length c.args.policy.now.labels) c.args.attributes.now c.requires.among c.loop-place.place c.get.result.now c.get.ensures).0

pub in_interval-requires-clause-high : goal.in_interval-requires-clause-high
in_interval-requires-clause-high c = (column_among
    (length c.args.policy.now.labels) c.args.attributes.now c.requires.among c.loop-place.place c.get.result.now c.get.ensures).1

pub returns-then-not-in_interval : goal.returns-then-not-in_interval
returns-then-not-in_interval c =
    one_out (labels_of c.args.policy.now) c.args.class c.args.attributes.now c.loop-place.place c.get.result.now c.get.ensures (sym c.in_interval.ensures ∙ c.if-not-in_interval.true) c.loop-place.invariant

pub loop-place-preserved : goal.loop-place-preserved
loop-place-preserved c =
    one_in (labels_of c.args.policy.now) c.args.class c.args.attributes.now c.loop-place.place c.get.result.now c.get.ensures (sym c.in_interval.ensures ∙ c.if-not-in_interval.false) c.loop-place.invariant

pub returns : goal.returns
returns c =
    let l = c.loop-place-test.false in
    let n = c.len-place-end.ensures in
    sym (ap (list_all (in_interval (labels_of c.args.policy.now) c.args.class))
    (drop_all c.loop-place.place c.args.attributes.now (omega (arith, l, n)))) ∙ c.loop-place.invariant
