use Rattle.mls_scheme.proofs.SchemeLemmas.{scheme_valid}
use Rattle.mls_scheme.proofs.reading.read_scheme.Goals as goal

pub new-requires : goal.new-requires
new-requires c =
    let name = rw c.field.ensures at c.in_ok-name.ensures in
    rw c.in_ok-name-2.ensures (scheme_valid c.args.policy.now _ _ name c.in_ok-keys.ensures)
