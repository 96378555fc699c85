-- The numbers and names of the faults of policies.
use Rattle.std.specs.Prelude.{ℕ, List, ◌-◌, [], map, get_or}
use Rattle.mls_lattice.specs.declared.failed.Failed.{Failed}
use Rattle.mls_lattice.specs.declared.failed.Failed.TheVariants as failed
use Rattle.mls_lattice.specs.declared.fault.FieldFault.{FieldFault}
use Rattle.mls_lattice.specs.declared.fault.FieldFault.TheVariants as field
use Rattle.mls_lattice.specs.declared.fault.PolicyFault.{PolicyFault}
use Rattle.mls_lattice.specs.declared.fault.PolicyFault.TheVariants.{NotToml, MissingField, WrongKind, Repeated}
use Rattle.mls_lattice.specs.declared.fault.PolicyFault.TheVariants.{UnknownName, TooMany, BadName, EmptyInterval}
use Rattle.mls_lattice.specs.declared.fault.PolicyFault.TheVariants.{Memory}
use Rattle.mls_lattice.specs.declared.fault.TheConstants.{WORDS}

abbrev pub code_of : PolicyFault → ℕ
code_of NotToml = 1
code_of MissingField = 2
code_of WrongKind = 3
code_of Repeated = 4
code_of UnknownName = 5
code_of TooMany = 6
code_of BadName = 7
code_of EmptyInterval = 8
code_of Memory = 9

abbrev pub word_of : PolicyFault → List ℕ
word_of f = get_or (map (λ w. w.now) WORDS) (code_of f - 1) []

-- the fault of the same name
abbrev pub fault_of : FieldFault → PolicyFault
fault_of field.MissingField = MissingField
fault_of field.WrongKind = WrongKind
fault_of field.Repeated = Repeated
fault_of field.UnknownName = UnknownName
fault_of field.TooMany = TooMany
fault_of field.BadName = BadName
fault_of field.EmptyInterval = EmptyInterval

abbrev pub failed_fault_of : Failed FieldFault → PolicyFault
failed_fault_of failed.Memory = Memory
failed_fault_of (failed.Fault fault) = fault_of fault
