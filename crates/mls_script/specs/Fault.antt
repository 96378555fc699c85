-- The numbers and names of the causes for which scripts are refused.
use Rattle.std.specs.Prelude.{ℕ, List, ◌-◌, [], map, get_or}
use Rattle.mls_script.specs.declared.fault.ScriptCause.{ScriptCause}
use Rattle.mls_script.specs.declared.fault.ScriptCause.TheVariants.{Token, Expected, UnknownName, Kind, Repeated, Depth}
use Rattle.mls_script.specs.declared.fault.ScriptCause.TheVariants.{TooLong, Memory, Unterminated}
use Rattle.mls_script.specs.declared.fault.LineFault.{LineFault}
use Rattle.mls_script.specs.declared.fault.ScriptFault.{ScriptFault}
use Rattle.mls_script.specs.declared.fault.TheConstants.{WORDS}
use Rattle.mls_parser.specs.declared.fault.TextCause.{TextCause}
use Rattle.mls_parser.specs.declared.fault.TextCause.TheVariants as texts
use Rattle.mls_parser.specs.declared.fault.PlacedFault.{PlacedFault}

abbrev pub code_of : ScriptCause → ℕ
code_of Token = 21
code_of Expected = 22
code_of UnknownName = 23
code_of Kind = 24
code_of Repeated = 25
code_of Depth = 26
code_of TooLong = 27
code_of Memory = 29
code_of Unterminated = 30

abbrev pub word_of : ScriptCause → List ℕ
word_of c = get_or (map (λ w. w.now) WORDS) (code_of c - 21) []

-- ---- places

abbrev pub line_fault : ℕ → ScriptCause → LineFault
line_fault at cause = record { at = at; cause = cause }

abbrev pub in_line : ℕ → LineFault → ScriptFault
in_line line f = record { line = line; column = f.at; cause = f.cause }

-- ---- faults of what is read

abbrev pub script_cause : TextCause → ScriptCause
script_cause texts.Token = Token
script_cause texts.Expected = Expected
script_cause texts.UnknownName = UnknownName
script_cause texts.Kind = Kind
script_cause texts.Repeated = Repeated
script_cause texts.Depth = Depth
script_cause texts.TooLong = TooLong
script_cause texts.LabelOrder = Kind
script_cause texts.Memory = Memory

abbrev pub on_line : PlacedFault → LineFault
on_line f = line_fault f.at (script_cause f.cause)
