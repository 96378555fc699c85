-- How a command ends that was done, and its status.
use Rattle.std.specs.Prelude.{ℕ, Bool, if◌then◌else◌}
use Rattle.mls_host.specs.declared.ending.Ending.{Ending}
use Rattle.mls_host.specs.declared.ending.Ending.TheVariants.{Well, Refused}

abbrev pub ending_status : Ending → ℕ
ending_status Well = 0
ending_status Refused = 1

-- where something is refused, or nothing
abbrev pub ending_if : Bool → Ending
ending_if refused = if refused then Refused else Well
