use Rattle.mls_lattice.proofs.LatticeLemmas.{same_label}
use Rattle.mls_filterview.proofs.entity_rules.is_same_label.Goals as goal

pub returns : goal.returns
returns c = same_label c.args.left c.args.right _ c.eq.ensures
