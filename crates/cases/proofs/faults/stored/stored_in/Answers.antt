use Rattle.cases.proofs.faults.stored.stored_in.Goals as goal

pub all_certified-requires : goal.all_certified-requires
all_certified-requires c = c.in-Ok.ensures.read.each
