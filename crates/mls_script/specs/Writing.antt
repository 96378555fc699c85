-- What is written of events is read as these.
use Rattle.std.specs.Prelude.{◌≡◌, true, List, Ok}
use Rattle.std.specs.List.{AllByRecursion}
use Rattle.mls_lattice.specs.Policy.{Policy, IsPolicy}
use Rattle.mls_scheme.specs.Scheme.{Schemes, AreSchemes}
use Rattle.mls_translang.specs.declared.event.Event.{Event}
use Rattle.mls_translang.specs.Event.{EventFits}
use Rattle.mls_translang.specs.Writing.{is_writable, lines_text}
use Rattle.mls_script.specs.Script.{ReadsScript}
use Rattle.mls_script.specs.Reading.{script_at}

-- the lines of events that fit, and that a script can hold, tell these events, and are read as these
abbrev pub LinesAreRead : Type 0
LinesAreRead =
    (policy : Policy) (schemes : Schemes) → IsPolicy policy → AreSchemes schemes
    → (events : List Event) → AllByRecursion (EventFits policy schemes) events
    → AllByRecursion (λ e. is_writable e ≡ true) events
    → ReadsScript policy schemes (lines_text policy schemes events) events
    × (script_at policy schemes (lines_text policy schemes events) ≡ Ok events)
