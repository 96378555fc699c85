-- Turning the audit list: its entries are printed, and then it is emptied.
use Rattle.std.specs.Prelude.{◌≡◌, ℕ, List, [], ◌++◌, map, codes}
use Rattle.mls_lattice.specs.Labels.{Labels}
use Rattle.mls_lattice.specs.Policy.{Policy}
use Rattle.mls_lattice.specs.Canon.{label_name}
use Rattle.mls_audit.specs.declared.entry.Entry.{Entry}
use Rattle.mls_audit.specs.Entry.{label_of}
use Rattle.mls_machine.specs.Machine.{World}
use Rattle.mls_machine.specs.Output.{Line, entry_text}
use Rattle.mls_machine.specs.Observation.{AgreeAt, out}

-- a line for each entry, in order: the name of its label, which may see it, and its text
abbrev pub turn_line : Policy → Entry → Line
turn_line p e = record { label = label_of e; text = label_name p.labels (label_of e) ++ codes " " ++ entry_text p e }

abbrev pub turn_lines : Policy → List Entry → List Line
turn_lines p entries = map (turn_line p) entries

-- the world without its entries
abbrev pub turned : World → World
turned w = record w { audit = [] }

-- ---- laws

-- two worlds that look alike to a level look alike to it when both are turned
abbrev pub TurnedWorldsAreAlike : Type 0
TurnedWorldsAreAlike =
    (ls : Labels) (c : ℕ) (v w : World) → AgreeAt ls c v w → AgreeAt ls c (turned v) (turned w)

-- and turning them shows it the same lines
abbrev pub TurningsShowTheSame : Type 0
TurningsShowTheSame =
    (p : Policy) (ls : Labels) (c : ℕ) (v w : World) → AgreeAt ls c v w
    → out ls c (turn_lines p v.audit) ≡ out ls c (turn_lines p w.audit)
