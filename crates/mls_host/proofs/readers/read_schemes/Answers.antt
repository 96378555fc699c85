use Rattle.std.proofs.Common.{refl}
use Rattle.mls_host.proofs.CauseLemmas.{scheme_fault}
use Rattle.mls_host.proofs.readers.read_schemes.Goals as goal

pub returns-in-Err-clause-refused : goal.returns-in-Err-clause-refused
returns-in-Err-clause-refused c = (
  c.in-Err.fault,
  refl,
  scheme_fault c.args.bytes.now c.args.policy.now c.in-Err.fault c.in-Err.ensures.first c.in-Err.ensures.not_toml,
)
