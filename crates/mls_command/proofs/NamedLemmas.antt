-- Each word, one by one.
use Rattle.std.proofs.Common.{◌≡◌, refl}
use Rattle.mls_lattice.specs.declared.fault.PolicyFault.{PolicyFault}
use Rattle.mls_lattice.specs.declared.fault.PolicyFault.TheVariants as policy
use Rattle.mls_lattice.specs.Fault as policy_table
use Rattle.mls_scheme.specs.declared.fault.SchemeFault.{SchemeFault}
use Rattle.mls_scheme.specs.declared.fault.SchemeFault.TheVariants as scheme
use Rattle.mls_scheme.specs.Fault as scheme_table
use Rattle.mls_parser.specs.declared.fault.TextCause.{TextCause}
use Rattle.mls_parser.specs.declared.fault.TextCause.TheVariants as text
use Rattle.mls_parser.specs.Fault as text_table
use Rattle.mls_script.specs.declared.fault.ScriptCause.{ScriptCause}
use Rattle.mls_script.specs.declared.fault.ScriptCause.TheVariants as script
use Rattle.mls_script.specs.Fault as script_table
use Rattle.mls_certcheck.specs.declared.fault.CertCause.{CertCause}
use Rattle.mls_certcheck.specs.declared.fault.CertCause.TheVariants as certificate
use Rattle.mls_certcheck.specs.Fault as certificate_table
use Rattle.mls_fragments.specs.declared.open_fault.OpenFault.{OpenFault}
use Rattle.mls_fragments.specs.declared.open_fault.OpenFault.TheVariants as store
use Rattle.mls_fragments.specs.OpenFault as store_table
use Rattle.mls_translang.specs.declared.run_fault.RunCause.{RunCause}
use Rattle.mls_translang.specs.declared.run_fault.RunCause.TheVariants as stop
use Rattle.mls_translang.specs.RunFault as stop_table
use Rattle.mls_machine.specs.declared.reply.Denial.{Denial}
use Rattle.mls_machine.specs.declared.reply.Denial.TheVariants as denial
use Rattle.mls_machine.specs.Reply as denial_table
use Rattle.mls_updates.specs.declared.outcome.Outcome.{Outcome}
use Rattle.mls_updates.specs.declared.outcome.Outcome.TheVariants as outcome
use Rattle.mls_updates.specs.Outcome as outcome_table
use Rattle.mls_certcheck.specs.declared.refusal.Rule.{Rule}
use Rattle.mls_certcheck.specs.declared.refusal.Rule.TheVariants as rule
use Rattle.mls_certcheck.specs.Refusal as rule_table
use Rattle.mls_command.specs.Named.{policy_word, scheme_word, text_word, script_word, certificate_word, store_word, stop_word, denial_word, outcome_word, rule_text, WordsAreNamed}

policies_are : (x : PolicyFault) → policy_table.word_of x ≡ policy_word x
policies_are policy.NotToml = refl
policies_are policy.MissingField = refl
policies_are policy.WrongKind = refl
policies_are policy.Repeated = refl
policies_are policy.UnknownName = refl
policies_are policy.TooMany = refl
policies_are policy.BadName = refl
policies_are policy.EmptyInterval = refl
policies_are policy.Memory = refl

schemes_are : (x : SchemeFault) → scheme_table.word_of x ≡ scheme_word x
schemes_are scheme.NotToml = refl
schemes_are scheme.MissingField = refl
schemes_are scheme.WrongKind = refl
schemes_are scheme.Repeated = refl
schemes_are scheme.UnknownName = refl
schemes_are scheme.TooMany = refl
schemes_are scheme.BadName = refl
schemes_are scheme.EmptyInterval = refl
schemes_are scheme.Memory = refl
schemes_are scheme.NoKey = refl
schemes_are scheme.KeyIntervals = refl

transactions_are : (x : TextCause) → text_table.word_of x ≡ text_word x
transactions_are text.Token = refl
transactions_are text.Expected = refl
transactions_are text.UnknownName = refl
transactions_are text.Kind = refl
transactions_are text.Repeated = refl
transactions_are text.Depth = refl
transactions_are text.TooLong = refl
transactions_are text.LabelOrder = refl
transactions_are text.Memory = refl

scripts_are : (x : ScriptCause) → script_table.word_of x ≡ script_word x
scripts_are script.Token = refl
scripts_are script.Expected = refl
scripts_are script.UnknownName = refl
scripts_are script.Kind = refl
scripts_are script.Repeated = refl
scripts_are script.Depth = refl
scripts_are script.TooLong = refl
scripts_are script.Memory = refl
scripts_are script.Unterminated = refl

certificates_are : (x : CertCause) → certificate_table.word_of x ≡ certificate_word x
certificates_are certificate.Line = refl
certificates_are certificate.Label = refl
certificates_are certificate.Version = refl
certificates_are certificate.Repeated = refl
certificates_are certificate.Memory = refl

stores_are : (x : OpenFault) → store_table.word_of x ≡ store_word x
stores_are store.Store = refl
stores_are store.OtherPolicy = refl
stores_are store.BadRows = refl
stores_are store.Memory = refl

stops_are : (x : RunCause) → stop_table.cause_word x ≡ stop_word x
stops_are stop.Store = refl
stops_are stop.Memory = refl
stops_are stop.Write = refl

denials_are : (x : Denial) → denial_table.word_of x ≡ denial_word x
denials_are denial.NoSession = refl
denials_are denial.AlreadyOpen = refl
denials_are denial.UnknownUser = refl
denials_are denial.UnknownTransaction = refl
denials_are denial.NotCertified = refl
denials_are denial.Ds = refl
denials_are denial.Ss = refl
denials_are denial.Star = refl
denials_are denial.Trust = refl
denials_are denial.Arguments = refl

outcomes_are : (x : Outcome) → outcome_table.word_of x ≡ outcome_word x
outcomes_are outcome.Done = refl
outcomes_are outcome.KeyNull = refl
outcomes_are outcome.Duplicate = refl
outcomes_are outcome.NoTuple = refl
outcomes_are outcome.NullAboveKey = refl
outcomes_are outcome.Inherited = refl
outcomes_are outcome.OutOfInterval = refl
outcomes_are outcome.AlreadyDerived = refl
outcomes_are outcome.Unexpected = refl

rules_are : (x : Rule) → rule_table.text_of x ≡ rule_text x
rules_are rule.Assignment = refl
rules_are rule.Branch = refl
rules_are rule.RowLoop = refl
rules_are rule.Write = refl
rules_are rule.Order = refl
rules_are rule.Release = refl
rules_are rule.Emit = refl
rules_are rule.Context = refl
rules_are rule.Rest = refl
rules_are rule.VarCount = refl
rules_are rule.StmtCount = refl
rules_are rule.AboveCeiling = refl

pub named : WordsAreNamed
named = record {
  policies = policies_are;
  schemes = schemes_are;
  transactions = transactions_are;
  scripts = scripts_are;
  certificates = certificates_are;
  stores = stores_are;
  stops = stops_are;
  denials = denials_are;
  outcomes = outcomes_are;
  rules = rules_are;
}
