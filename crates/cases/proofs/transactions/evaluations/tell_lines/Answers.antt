use Rattle.mls_lattice.specs.Policy.{labels_of}
use Rattle.cases.proofs.StartLemmas.{none_stored}
use Rattle.cases.proofs.transactions.evaluations.tell_lines.Goals as goal

pub tell_over-requires : goal.tell_over-requires
tell_over-requires c = λ _. none_stored (labels_of c.args.sample.now.policy.now) c.args.sample.now.schemes.now _ c.new-base.ensures
