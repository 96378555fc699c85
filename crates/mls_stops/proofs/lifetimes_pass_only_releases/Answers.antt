use Rattle.mls_stops.proofs.LifetimeLemmas.{lifetimes_pass}
use Rattle.mls_stops.proofs.lifetimes_pass_only_releases.Goals as goal

pub returns : goal.returns
returns c = lifetimes_pass
