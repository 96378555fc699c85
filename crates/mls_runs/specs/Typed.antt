-- How it is found what becomes of a line.
use Rattle.std.specs.Prelude.{◌≡◌, ℕ, if◌then◌else◌, nat_eq, List, [], ◌∷◌, ◌++◌, codes, length, Result, Ok, Err, ◌⊎◌}
use Rattle.std.specs.Prelude.{bytes_eq}
use Rattle.mls_lattice.specs.Policy.{Policy}
use Rattle.mls_scheme.specs.Scheme.{Schemes}
use Rattle.mls_translang.specs.declared.event.Event.{Event}
use Rattle.mls_script.specs.declared.fault.ScriptFault.{ScriptFault}
use Rattle.mls_script.specs.Reading.{script_at}
use Rattle.mls_translang.specs.declared.run_fault.RunCause.TheVariants.{Memory}
use Rattle.mls_runs.specs.declared.shell_session.ShellSession.{ShellSession}
use Rattle.mls_runs.specs.declared.shell_session.Fate.{Fate}
use Rattle.mls_runs.specs.declared.shell_session.Fate.TheVariants.{Over, Blank, Help, Asked, Refused, Lost}
use Rattle.mls_runs.specs.Shell.{prefix_of, is_asked, meant, fate_of_events}

-- a line that is none behind the prefix is blank where by itself it tells nothing
abbrev pub fate_of_fault : ScriptFault → Result (List Event) ScriptFault → Fate
fate_of_fault fault (Ok []) = Blank
fate_of_fault fault (Ok (e ∷ es)) = Refused fault
fate_of_fault fault (Err alone) = Refused fault

module _ (policy : Policy) (schemes : Schemes) (session : ShellSession) where
  abbrev pub fate_read : List ℕ → Result (List Event) ScriptFault → Fate
  fate_read line (Ok events) = fate_of_events session events
  fate_read line (Err fault) = fate_of_fault fault (script_at policy schemes line)

  abbrev pub fate_of : List ℕ → Fate
  fate_of line =
      if nat_eq (length line) 0 then Over
      else (if bytes_eq line (codes "help\n") then Help
      else (if is_asked session line then Asked
      else fate_read (meant session line) (script_at policy schemes (prefix_of session ++ meant session line))))

-- so it is, unless memory runs out
abbrev pub Becomes : Fate → Fate → Type 0
Becomes wanted fate = (fate ≡ wanted) ⊎ (fate ≡ Lost Memory)
