use Rattle.mls_lattice.proofs.PolicyReadingLemmas.{interval_test}
use Rattle.mls_lattice.proofs.users.is_interval.Goals as goal

pub returns : goal.returns
returns c =
    interval_test c.args.labels.now c.args.low c.args.high c.index-2.result c.index.result c.index-labels-index-2.result c.index-labels-index.result _
    c.requires.low c.requires.high c.index-2.ensures c.index.ensures c.dominates.ensures
