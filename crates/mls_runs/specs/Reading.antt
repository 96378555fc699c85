-- How it is found what becomes of a line of a desk.
use Rattle.std.specs.Prelude.{ℕ, if◌then◌else◌, nat_eq, List, length, Result, Ok, Err}
use Rattle.std.specs.List.{list_any}
use Rattle.mls_lattice.specs.Policy.{Policy}
use Rattle.mls_scheme.specs.Scheme.{Schemes}
use Rattle.mls_translang.specs.declared.event.Event.{Event}
use Rattle.mls_script.specs.declared.fault.ScriptFault.{ScriptFault}
use Rattle.mls_script.specs.Reading.{script_at}
use Rattle.mls_runs.specs.declared.shell_session.Fate.{Fate}
use Rattle.mls_runs.specs.declared.shell_session.Fate.TheVariants.{Over, Said, Refused}
use Rattle.mls_runs.specs.Desk.{opens_other, other_name}

abbrev pub fate_of_events : List ℕ → List Event → Fate
fate_of_events line events = if list_any opens_other events then Refused (other_name line) else Said events

abbrev pub fate_read : List ℕ → Result (List Event) ScriptFault → Fate
fate_read line (Ok events) = fate_of_events line events
fate_read line (Err fault) = Refused fault

abbrev pub fate_of : Policy → Schemes → List ℕ → Fate
fate_of policy schemes line =
    if nat_eq (length line) 0 then Over else fate_read line (script_at policy schemes line)
