use Rattle.std.proofs.Common.{◌≡◌, not, length, Some, sym, ap, ◌∙◌, subst, slice_get, option_map}
use Rattle.mls_lattice.specs.Policy.{labels_of}
use Rattle.mls_scheme.specs.Scheme.{column_of}
use Rattle.mls_scheme.specs.Fits.{in_column}
use Rattle.mls_updates.proofs.IntervalLemmas.{column_at, column_among}
use Rattle.mls_updates.proofs.sets.is_outside.Goals as goal

pub in_interval-requires-clause-low : goal.in_interval-requires-clause-low
in_interval-requires-clause-low c =
    let at = subst (λ all. option_map column_of (slice_get all c.args.attr)
    ≡ Some c.get.result.now) c.others.ensures.others c.get.ensures in
    (column_among (length c.args.policy.now.labels) c.args.scheme.now.others c.requires.under.others c.args.attr c.get.result.now at).0

pub in_interval-requires-clause-high : goal.in_interval-requires-clause-high
in_interval-requires-clause-high c =
    let at = subst (λ all. option_map column_of (slice_get all c.args.attr)
    ≡ Some c.get.result.now) c.others.ensures.others c.get.ensures in
    (column_among (length c.args.policy.now.labels) c.args.scheme.now.others c.requires.under.others c.args.attr c.get.result.now at).1

pub returns : goal.returns
returns c =
    let at = subst (λ all. option_map column_of (slice_get all c.args.attr)
    ≡ Some c.get.result.now) c.others.ensures.others c.get.ensures in
    ap not (c.in_interval.ensures ∙ ap (in_column (labels_of c.args.policy.now) c.args.class)
    (sym (column_at c.args.scheme.now.others c.args.attr c.get.result.now at c.requires.attr)))
