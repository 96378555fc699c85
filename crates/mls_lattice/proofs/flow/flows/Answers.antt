use Rattle.mls_lattice.proofs.FlowLemmas.{test_dominates}
use Rattle.mls_lattice.proofs.flow.flows.Goals as goal

pub returns : goal.returns
returns c = test_dominates _ _ _ c.dominates.ensures
