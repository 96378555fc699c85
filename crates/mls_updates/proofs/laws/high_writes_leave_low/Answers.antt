use Rattle.mls_updates.proofs.LawLemmas.{high_leave_low}
use Rattle.mls_updates.proofs.laws.high_writes_leave_low.Goals as goal

pub returns : goal.returns
returns c = high_leave_low
