use Rattle.mls_scheme.proofs.SchemeLemmas.{schemes_valid}
use Rattle.mls_scheme.proofs.reading.schemes_of.Goals as goal

pub new-requires : goal.new-requires
new-requires c = schemes_valid c.args.policy.now _ _ _ _ c.in_ok-version.ensures c.in_ok-items.ensures c.in_ok-relations.ensures
