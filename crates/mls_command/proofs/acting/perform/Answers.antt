-- perform
use Rattle.std.proofs.Common.{inl, inr}
use Rattle.mls_command.proofs.acting.perform.Goals as goal

pub perform_task-requires-clause-user : goal.perform_task-requires-clause-user
perform_task-requires-clause-user g c = c.in-Ok.ensures.read.1.user

pub returns-in-Ok : goal.returns-in-Ok
returns-in-Ok g c = inr (c.in-Ok.inputs, c.in-Ok.ensures.read, c.perform_task.ensures)

pub returns-in-Err : goal.returns-in-Err
returns-in-Err g c = inl c.give_up.ensures
