use Rattle.std.proofs.Common.{refl}
use Rattle.mls_host.proofs.readers.read_certificates.Goals as goal

pub returns-in-Err-clause-refused : goal.returns-in-Err-clause-refused
returns-in-Err-clause-refused c = (c.in-Err.fault, refl, c.in-Err.ensures.exact)
