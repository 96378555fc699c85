-- Inner: no public contract names these. Commands of a command line that are built step by step.
use Rattle.std.specs.Prelude.{◌≡◌, false, Result, IfOk}
use Rattle.std.specs.declared.alloc.AllocError.{AllocError}
use Rattle.clap.specs.Words.{App, app_of}
use Rattle.clap.specs.declared.builder.command.Command.TheViews.{out-Command as fields_of}
use Rattle.clap.specs.declared.builder.command.Command.{Command}

-- a command that was built has what an app says of it, and no argument that its subcommands have too
abbrev pub IsBuilt : Result Command AllocError → App → Type 0
IsBuilt built app = IfOk built (λ c. (app_of c ≡ app) × ((fields_of c).has_globals ≡ false))
