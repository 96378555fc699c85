use Rattle.std.proofs.KnownBytes.{Appends-nil}
use Rattle.mls_host.proofs.StoppingLemmas.{untouched}
use Rattle.mls_command.specs.Answering.{asked, not_asked}
use Rattle.mls_command.proofs.acting.answer.Goals as goal

pub returns-in-Ok : goal.returns-in-Ok
returns-in-Ok g c = asked c.in-Ok.job c.in-Ok.ensures.asked c.finish.ensures

pub returns-in-Err : goal.returns-in-Err
returns-in-Err g c = not_asked c.in-Err.usage c.in-Err.ensures.nothing (untouched (g.H.Host.hosting c.args.host.now))
    (Appends-nil _) c.tell_usage.ensures c.status.ensures
