use Rattle.mls_filterview.proofs.AccessLemmas.{avoids_then, avoids_some}
use Rattle.mls_sessions.proofs.change.carry_out.Goals as goal

pub returns-in_err-begin-clause-access : goal.returns-in_err-begin-clause-access
returns-in_err-begin-clause-access g c = avoids_some c.in_err-begin.ensures.access

pub returns-in_err-reply-clause-access : goal.returns-in_err-reply-clause-access
returns-in_err-reply-clause-access g c = avoids_then
    (avoids_some c.in_ok-begin.ensures.access) c.in_err-reply.ensures.access

pub returns-in_err-commit-clause-access : goal.returns-in_err-commit-clause-access
returns-in_err-commit-clause-access g c =
    avoids_then (avoids_then (avoids_some c.in_ok-begin.ensures.access) c.in_ok-reply.ensures.access)
    (avoids_some c.in_err-commit.ensures.access)

pub returns-clause-access : goal.returns-clause-access
returns-clause-access g c = avoids_then (avoids_then
    (avoids_some c.in_ok-begin.ensures.access) c.in_ok-reply.ensures.access) (avoids_some c.in_ok-commit.ensures.access)
