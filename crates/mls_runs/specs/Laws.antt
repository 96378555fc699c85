-- Shells as desks of one session.
use Rattle.std.specs.Prelude.{◌≡◌, true, false, List}
use Rattle.std.specs.List.{list_all}
use Rattle.mls_translang.specs.declared.event.Event.{Event}
use Rattle.mls_certcheck.specs.Site.{Site}
use Rattle.mls_machine.specs.Machine.{World}
use Rattle.mls_machine.specs.Serving.{answers_to}
use Rattle.mls_runs.specs.declared.shell_session.ShellSession.{ShellSession}
use Rattle.mls_runs.specs.Shell.{is_own, answers}

-- where nobody types at a terminal, a shell answers to events of its session what a desk answers to them
abbrev pub ShellsAreDesks : Type 0
ShellsAreDesks =
    (site : Site) (session : ShellSession) (w : World) (es : List Event) → session.has_prompt ≡ false
    → list_all (is_own session) es ≡ true → answers site session w es ≡ answers_to site w es
