-- The numbers and names of the faults of schemes.
use Rattle.std.specs.Prelude.{ℕ, List, ◌-◌, [], map, get_or}
use Rattle.mls_lattice.specs.declared.failed.Failed.{Failed}
use Rattle.mls_lattice.specs.declared.failed.Failed.TheVariants as failed
use Rattle.mls_lattice.specs.declared.fault.FieldFault.TheVariants as field
use Rattle.mls_scheme.specs.declared.fault.FileFault.{FileFault}
use Rattle.mls_scheme.specs.declared.fault.FileFault.TheVariants as file
use Rattle.mls_scheme.specs.declared.fault.SchemeFault.{SchemeFault}
use Rattle.mls_scheme.specs.declared.fault.SchemeFault.TheVariants.{NotToml, MissingField, WrongKind, Repeated}
use Rattle.mls_scheme.specs.declared.fault.SchemeFault.TheVariants.{UnknownName, TooMany, BadName, EmptyInterval}
use Rattle.mls_scheme.specs.declared.fault.SchemeFault.TheVariants.{Memory, NoKey, KeyIntervals}
use Rattle.mls_scheme.specs.declared.fault.TheConstants.{WORDS}

abbrev pub code_of : SchemeFault → ℕ
code_of NotToml = 1
code_of MissingField = 2
code_of WrongKind = 3
code_of Repeated = 4
code_of UnknownName = 5
code_of TooMany = 6
code_of BadName = 7
code_of EmptyInterval = 8
code_of Memory = 9
code_of NoKey = 10
code_of KeyIntervals = 11

abbrev pub word_of : SchemeFault → List ℕ
word_of f = get_or (map (λ w. w.now) WORDS) (code_of f - 1) []

-- the fault of the same name
abbrev pub scheme_fault_of : FileFault → SchemeFault
scheme_fault_of (file.Field field.MissingField) = MissingField
scheme_fault_of (file.Field field.WrongKind) = WrongKind
scheme_fault_of (file.Field field.Repeated) = Repeated
scheme_fault_of (file.Field field.UnknownName) = UnknownName
scheme_fault_of (file.Field field.TooMany) = TooMany
scheme_fault_of (file.Field field.BadName) = BadName
scheme_fault_of (file.Field field.EmptyInterval) = EmptyInterval
scheme_fault_of file.NoKey = NoKey
scheme_fault_of file.KeyIntervals = KeyIntervals

abbrev pub failed_fault_of : Failed FileFault → SchemeFault
failed_fault_of failed.Memory = Memory
failed_fault_of (failed.Fault fault) = scheme_fault_of fault
