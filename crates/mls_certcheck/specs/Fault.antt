-- The numbers and names of the causes for which certificates are refused.
use Rattle.std.specs.Prelude.{ℕ, List, ◌-◌, [], map, get_or}
use Rattle.mls_lattice.specs.declared.failed.Failed.{Failed}
use Rattle.mls_lattice.specs.declared.failed.Failed.TheVariants as failed
use Rattle.mls_certcheck.specs.declared.fault.CertCause.{CertCause}
use Rattle.mls_certcheck.specs.declared.fault.CertCause.TheVariants.{Line, Label, Version, Repeated, Memory}
use Rattle.mls_certcheck.specs.declared.fault.CertFault.{CertFault}
use Rattle.mls_certcheck.specs.declared.fault.TheConstants.{WORDS}

abbrev pub code_of : CertCause → ℕ
code_of Line = 51
code_of Label = 52
code_of Version = 53
code_of Repeated = 54
code_of Memory = 55

abbrev pub word_of : CertCause → List ℕ
word_of c = get_or (map (λ w. w.now) WORDS) (code_of c - 51) []

-- want of memory names line 1
abbrev pub failed_fault_of : Failed CertFault → CertFault
failed_fault_of failed.Memory = record { line = 1; cause = Memory }
failed_fault_of (failed.Fault fault) = fault
