-- The words of numbered causes, denials and outcomes, and the short names of rules, as messages carry them.
use Rattle.std.specs.Prelude.{◌≡◌, ℕ, List, codes}
use Rattle.mls_lattice.specs.declared.fault.PolicyFault.{PolicyFault}
use Rattle.mls_lattice.specs.declared.fault.PolicyFault.TheVariants as policy
use Rattle.mls_lattice.specs.Fault as policy_table
use Rattle.mls_scheme.specs.declared.fault.SchemeFault.{SchemeFault}
use Rattle.mls_scheme.specs.declared.fault.SchemeFault.TheVariants as scheme
use Rattle.mls_scheme.specs.Fault as scheme_table
use Rattle.mls_parser.specs.declared.fault.TextCause.{TextCause}
use Rattle.mls_parser.specs.declared.fault.TextCause.TheVariants as text
use Rattle.mls_parser.specs.Fault as text_table
use Rattle.mls_script.specs.declared.fault.ScriptCause.{ScriptCause}
use Rattle.mls_script.specs.declared.fault.ScriptCause.TheVariants as script
use Rattle.mls_script.specs.Fault as script_table
use Rattle.mls_certcheck.specs.declared.fault.CertCause.{CertCause}
use Rattle.mls_certcheck.specs.declared.fault.CertCause.TheVariants as certificate
use Rattle.mls_certcheck.specs.Fault as certificate_table
use Rattle.mls_fragments.specs.declared.open_fault.OpenFault.{OpenFault}
use Rattle.mls_fragments.specs.declared.open_fault.OpenFault.TheVariants as store
use Rattle.mls_fragments.specs.OpenFault as store_table
use Rattle.mls_translang.specs.declared.run_fault.RunCause.{RunCause}
use Rattle.mls_translang.specs.declared.run_fault.RunCause.TheVariants as stop
use Rattle.mls_translang.specs.RunFault as stop_table
use Rattle.mls_machine.specs.declared.reply.Denial.{Denial}
use Rattle.mls_machine.specs.declared.reply.Denial.TheVariants as denial
use Rattle.mls_machine.specs.Reply as denial_table
use Rattle.mls_updates.specs.declared.outcome.Outcome.{Outcome}
use Rattle.mls_updates.specs.declared.outcome.Outcome.TheVariants as outcome
use Rattle.mls_updates.specs.Outcome as outcome_table
use Rattle.mls_certcheck.specs.declared.refusal.Rule.{Rule}
use Rattle.mls_certcheck.specs.declared.refusal.Rule.TheVariants as rule
use Rattle.mls_certcheck.specs.Refusal as rule_table

abbrev pub policy_word : PolicyFault → List ℕ
policy_word policy.NotToml = codes "NotToml"
policy_word policy.MissingField = codes "MissingField"
policy_word policy.WrongKind = codes "WrongKind"
policy_word policy.Repeated = codes "Repeated"
policy_word policy.UnknownName = codes "UnknownName"
policy_word policy.TooMany = codes "TooMany"
policy_word policy.BadName = codes "BadName"
policy_word policy.EmptyInterval = codes "EmptyInterval"
policy_word policy.Memory = codes "Memory"

abbrev pub scheme_word : SchemeFault → List ℕ
scheme_word scheme.NotToml = codes "NotToml"
scheme_word scheme.MissingField = codes "MissingField"
scheme_word scheme.WrongKind = codes "WrongKind"
scheme_word scheme.Repeated = codes "Repeated"
scheme_word scheme.UnknownName = codes "UnknownName"
scheme_word scheme.TooMany = codes "TooMany"
scheme_word scheme.BadName = codes "BadName"
scheme_word scheme.EmptyInterval = codes "EmptyInterval"
scheme_word scheme.Memory = codes "Memory"
scheme_word scheme.NoKey = codes "NoKey"
scheme_word scheme.KeyIntervals = codes "KeyIntervals"

abbrev pub text_word : TextCause → List ℕ
text_word text.Token = codes "Token"
text_word text.Expected = codes "Expected"
text_word text.UnknownName = codes "UnknownName"
text_word text.Kind = codes "Kind"
text_word text.Repeated = codes "Repeated"
text_word text.Depth = codes "Depth"
text_word text.TooLong = codes "TooLong"
text_word text.LabelOrder = codes "LabelOrder"
text_word text.Memory = codes "Memory"

abbrev pub script_word : ScriptCause → List ℕ
script_word script.Token = codes "Token"
script_word script.Expected = codes "Expected"
script_word script.UnknownName = codes "UnknownName"
script_word script.Kind = codes "Kind"
script_word script.Repeated = codes "Repeated"
script_word script.Depth = codes "Depth"
script_word script.TooLong = codes "TooLong"
script_word script.Memory = codes "Memory"
script_word script.Unterminated = codes "Unterminated"

abbrev pub certificate_word : CertCause → List ℕ
certificate_word certificate.Line = codes "Line"
certificate_word certificate.Label = codes "Label"
certificate_word certificate.Version = codes "Version"
certificate_word certificate.Repeated = codes "Repeated"
certificate_word certificate.Memory = codes "Memory"

abbrev pub store_word : OpenFault → List ℕ
store_word store.Store = codes "Store"
store_word store.OtherPolicy = codes "OtherPolicy"
store_word store.BadRows = codes "BadRows"
store_word store.Memory = codes "Memory"

abbrev pub stop_word : RunCause → List ℕ
stop_word stop.Store = codes "Store"
stop_word stop.Memory = codes "Memory"
stop_word stop.Write = codes "Write"

abbrev pub denial_word : Denial → List ℕ
denial_word denial.NoSession = codes "NoSession"
denial_word denial.AlreadyOpen = codes "AlreadyOpen"
denial_word denial.UnknownUser = codes "UnknownUser"
denial_word denial.UnknownTransaction = codes "UnknownTransaction"
denial_word denial.NotCertified = codes "NotCertified"
denial_word denial.Ds = codes "Ds"
denial_word denial.Ss = codes "Ss"
denial_word denial.Star = codes "Star"
denial_word denial.Trust = codes "Trust"
denial_word denial.Arguments = codes "Arguments"

abbrev pub outcome_word : Outcome → List ℕ
outcome_word outcome.Done = codes "Done"
outcome_word outcome.KeyNull = codes "KeyNull"
outcome_word outcome.Duplicate = codes "Duplicate"
outcome_word outcome.NoTuple = codes "NoTuple"
outcome_word outcome.NullAboveKey = codes "NullAboveKey"
outcome_word outcome.Inherited = codes "Inherited"
outcome_word outcome.OutOfInterval = codes "OutOfInterval"
outcome_word outcome.AlreadyDerived = codes "AlreadyDerived"
outcome_word outcome.Unexpected = codes "Unexpected"

abbrev pub rule_text : Rule → List ℕ
rule_text rule.Assignment = codes "F1"
rule_text rule.Branch = codes "F2"
rule_text rule.RowLoop = codes "F3"
rule_text rule.Write = codes "F4"
rule_text rule.Order = codes "F5"
rule_text rule.Release = codes "F6"
rule_text rule.Emit = codes "F7"
rule_text rule.Context = codes "F8"
rule_text rule.Rest = codes "F9"
rule_text rule.VarCount = codes "42"
rule_text rule.StmtCount = codes "43"
rule_text rule.AboveCeiling = codes "44"

-- the tables of the code have them
pub record WordsAreNamed : Type 0 where
  pub policies : (x : PolicyFault) → policy_table.word_of x ≡ policy_word x
  pub schemes : (x : SchemeFault) → scheme_table.word_of x ≡ scheme_word x
  pub transactions : (x : TextCause) → text_table.word_of x ≡ text_word x
  pub scripts : (x : ScriptCause) → script_table.word_of x ≡ script_word x
  pub certificates : (x : CertCause) → certificate_table.word_of x ≡ certificate_word x
  pub stores : (x : OpenFault) → store_table.word_of x ≡ store_word x
  pub stops : (x : RunCause) → stop_table.cause_word x ≡ stop_word x
  pub denials : (x : Denial) → denial_table.word_of x ≡ denial_word x
  pub outcomes : (x : Outcome) → outcome_table.word_of x ≡ outcome_word x
  pub rules : (x : Rule) → rule_table.text_of x ≡ rule_text x
