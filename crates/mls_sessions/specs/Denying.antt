-- Why commands are denied in open sessions.
use Rattle.std.specs.Prelude.{ℕ, Option, Some, None}
use Rattle.mls_translang.specs.declared.event.Command.{Command}
use Rattle.mls_translang.specs.declared.event.Command.TheVariants as commands
use Rattle.mls_machine.specs.declared.reply.Denial.{Denial}
use Rattle.mls_machine.specs.declared.reply.Denial.TheVariants.{AlreadyOpen}
use Rattle.mls_certcheck.specs.Site.{Site}
use Rattle.mls_machine.specs.Denying.{first_denial, stored_named, view_denials, write_denials, batch_denials}
use Rattle.mls_machine.specs.Denying.{call_denial}

-- in the open session of a level and a user
abbrev pub denial_in : Site → ℕ → ℕ → Command → Option Denial
denial_in site level user (commands.Open name) = Some AlreadyOpen
denial_in site level user commands.Close = None
denial_in site level user commands.Audit = None
denial_in site level user (commands.View relation label query counts) =
    first_denial (view_denials site level user relation label)
denial_in site level user (commands.Dump relation) = first_denial (view_denials site level user relation level)
denial_in site level user (commands.Write relation wr) =
    first_denial (write_denials site level user relation wr)
denial_in site level user (commands.Call name args) = call_denial site level user args (stored_named site.stored name)
denial_in site level user (commands.All batch) = first_denial (batch_denials site level user batch)
