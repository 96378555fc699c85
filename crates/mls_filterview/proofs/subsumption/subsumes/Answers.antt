use Rattle.mls_filterview.proofs.SubsumptionSteps.{subsumes_tuple-is}
use Rattle.mls_filterview.proofs.subsumption.subsumes.Goals as goal

pub returns : goal.returns
returns c = subsumes_tuple-is c.says_all.result c.args.left.now c.args.right.now c.says_all.ensures
