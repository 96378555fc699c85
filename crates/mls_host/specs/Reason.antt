-- Why a command is given up before anything is written, and the line that tells it.
use Rattle.std.specs.Prelude.{ℕ, List, ◌++◌, codes, decimal}
use Rattle.mls_lattice.specs.declared.fault.PolicyFault.{PolicyFault}
use Rattle.mls_lattice.specs.declared.fault.PolicyFault.TheVariants as policies
use Rattle.mls_lattice.specs.Fault as policy_faults
use Rattle.mls_scheme.specs.declared.fault.SchemeFault.{SchemeFault}
use Rattle.mls_scheme.specs.declared.fault.SchemeFault.TheVariants as schemes
use Rattle.mls_scheme.specs.Fault as scheme_faults
use Rattle.mls_parser.specs.declared.fault.TextFault.{TextFault}
use Rattle.mls_parser.specs.declared.fault.TextCause.{TextCause}
use Rattle.mls_parser.specs.declared.fault.TextCause.TheVariants as texts
use Rattle.mls_parser.specs.Fault as text_faults
use Rattle.mls_certcheck.specs.declared.fault.CertFault.{CertFault}
use Rattle.mls_certcheck.specs.declared.fault.CertCause.{CertCause}
use Rattle.mls_certcheck.specs.declared.fault.CertCause.TheVariants as certs
use Rattle.mls_certcheck.specs.Fault as cert_faults
use Rattle.mls_script.specs.declared.fault.ScriptFault.{ScriptFault}
use Rattle.mls_script.specs.declared.fault.ScriptCause.{ScriptCause}
use Rattle.mls_script.specs.declared.fault.ScriptCause.TheVariants as scripts
use Rattle.mls_script.specs.Fault as script_faults
use Rattle.mls_fragments.specs.declared.open_fault.OpenFault.TheVariants as stores
use Rattle.mls_fragments.specs.OpenFault as store_faults
use Rattle.mls_host.specs.Words.{memory_text}
use Rattle.mls_host.specs.declared.host.HostFault.{HostFault}
use Rattle.mls_host.specs.declared.host.HostFault.TheVariants as host
use Rattle.mls_host.specs.declared.reason.Role.{Role}
use Rattle.mls_host.specs.declared.reason.Role.TheVariants as role
use Rattle.mls_host.specs.declared.reason.Reason.{Reason}
use Rattle.mls_host.specs.declared.reason.Reason.TheVariants.{Unreadable, TooLong, Policy, Reader, Label, User, Name}
use Rattle.mls_host.specs.declared.reason.Reason.TheVariants.{Schemes, Transactions, Certificates, Script, Store}
use Rattle.mls_host.specs.declared.reason.Reason.TheVariants.{Memory}

abbrev pub role_word : Role → List ℕ
role_word role.Policy = codes "policy"
role_word role.Schemes = codes "schemes"
role_word role.Transactions = codes "transactions"
role_word role.Certificates = codes "certificates"
role_word role.Script = codes "script"
role_word role.Store = codes "store"

-- want of memory for an input, as the fault of its reader at its first place
abbrev pub memory_reason : Role → Reason
memory_reason role.Policy = Policy policies.Memory
memory_reason role.Schemes = Schemes schemes.Memory
memory_reason role.Transactions = Transactions (record { line = 1; column = 1; cause = texts.Memory })
memory_reason role.Certificates = Certificates (record { line = 1; cause = certs.Memory })
memory_reason role.Script = Script (record { line = 1; column = 1; cause = scripts.Memory })
memory_reason role.Store = Store stores.Memory

-- the reason where the host did not give an input
abbrev pub input_reason : Role → HostFault → Reason
input_reason r host.Unreadable = Unreadable r
input_reason r host.TooLong = TooLong r
input_reason r host.Memory = memory_reason r

-- ---- lines

abbrev pub input_text : Role → List ℕ → List ℕ
input_text r word = codes "mldb: " ++ role_word r ++ codes ": " ++ word ++ codes "\n"

-- with the number and the name of a fault
abbrev pub fault_text : List ℕ → ℕ → List ℕ → List ℕ
fault_text what code word = codes "mldb: " ++ what ++ codes ": " ++ decimal code ++ codes " " ++ word ++ codes "\n"

abbrev pub cause_text : List ℕ → TextCause → List ℕ
cause_text what cause = fault_text what (text_faults.code_of cause) (text_faults.word_of cause)

-- with the line
abbrev pub line_text : Role → ℕ → List ℕ → ℕ → List ℕ
line_text r code word line =
    codes "mldb: " ++ role_word r ++ codes ": " ++ decimal code ++ codes " " ++ word ++ codes " at " ++ decimal line
    ++ codes "\n"

-- with the line and the column
abbrev pub front_text : Role → ℕ → List ℕ → List ℕ
front_text r code word =
    codes "mldb: " ++ role_word r ++ codes ": " ++ decimal code ++ codes " " ++ word ++ codes " at "

abbrev pub spot_text : ℕ → ℕ → List ℕ
spot_text line column = decimal line ++ codes ":" ++ decimal column ++ codes "\n"

abbrev pub place_text : Role → ℕ → List ℕ → ℕ → ℕ → List ℕ
place_text r code word line column = front_text r code word ++ spot_text line column

abbrev pub text_fault_text : TextFault → List ℕ
text_fault_text f =
    place_text role.Transactions (text_faults.code_of f.cause) (text_faults.word_of f.cause) f.line f.column

abbrev pub cert_fault_text : CertFault → List ℕ
cert_fault_text f = line_text role.Certificates (cert_faults.code_of f.cause) (cert_faults.word_of f.cause) f.line

abbrev pub script_fault_text : ScriptFault → List ℕ
script_fault_text f =
    place_text role.Script (script_faults.code_of f.cause) (script_faults.word_of f.cause) f.line f.column

-- what is told of it
abbrev pub reason_text : Reason → List ℕ
reason_text (Unreadable r) = input_text r (codes "unreadable")
reason_text (TooLong r) = input_text r (codes "too long")
reason_text (Policy f) = fault_text (role_word role.Policy) (policy_faults.code_of f) (policy_faults.word_of f)
reason_text Reader = cause_text (codes "at") texts.UnknownName
reason_text Label = cause_text (codes "label") texts.UnknownName
reason_text User = cause_text (codes "user") texts.Expected
reason_text Name = cause_text (codes "name") texts.UnknownName
reason_text (Schemes f) = fault_text (role_word role.Schemes) (scheme_faults.code_of f) (scheme_faults.word_of f)
reason_text (Transactions f) = text_fault_text f
reason_text (Certificates f) = cert_fault_text f
reason_text (Script f) = script_fault_text f
reason_text (Store f) = fault_text (role_word role.Store) (store_faults.code_of f) (store_faults.word_of f)
reason_text Memory = memory_text

-- ---- statuses: 2 where an input is refused, 3 for store and memory

abbrev pub policy_status : PolicyFault → ℕ
policy_status policies.Memory = 3
policy_status fault = 2

abbrev pub scheme_status : SchemeFault → ℕ
scheme_status schemes.Memory = 3
scheme_status fault = 2

abbrev pub text_status : TextCause → ℕ
text_status texts.Memory = 3
text_status cause = 2

abbrev pub cert_status : CertCause → ℕ
cert_status certs.Memory = 3
cert_status cause = 2

abbrev pub script_status : ScriptCause → ℕ
script_status scripts.Memory = 3
script_status cause = 2

abbrev pub reason_status : Reason → ℕ
reason_status (Policy f) = policy_status f
reason_status (Schemes f) = scheme_status f
reason_status (Transactions f) = text_status f.cause
reason_status (Certificates f) = cert_status f.cause
reason_status (Script f) = script_status f.cause
reason_status (Store f) = 3
reason_status Memory = 3
reason_status (Unreadable r) = 2
reason_status (TooLong r) = 2
reason_status Reader = 2
reason_status Label = 2
reason_status User = 2
reason_status Name = 2
