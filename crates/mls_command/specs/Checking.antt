-- What the command check prints: for each transaction the verdict of the rules on the first certificate of its name.
use Rattle.std.specs.Prelude.{◌≡◌, ℕ, Bool, true, false, if◌then◌else◌, List, [], ◌++◌, codes, Option, Some, None}
use Rattle.std.specs.Prelude.{Result, Ok, Err, flat_map, decimal}
use Rattle.std.specs.List.{list_any}
use Rattle.mls_lattice.specs.Policy.{Name, Policy}
use Rattle.mls_translang.specs.Tx.{Tx}
use Rattle.mls_certcheck.specs.declared.cert.Certificate.{Certificate}
use Rattle.mls_certcheck.specs.Reading.{Block}
use Rattle.mls_certcheck.specs.Rules.{claim}
use Rattle.mls_certcheck.specs.Checks.{First}
use Rattle.mls_certcheck.specs.Refusal.{text_of}
use Rattle.mls_certcheck.specs.declared.refusal.Refusal.{Refusal}
use Rattle.mls_host.specs.Storing.{cert_named}
use Rattle.mls_host.specs.declared.ending.Ending.{Ending}
use Rattle.mls_host.specs.declared.ending.Ending.TheVariants.{Well, Refused}
use Rattle.mls_command.specs.declared.checking.Verdict.{Verdict}
use Rattle.mls_command.specs.declared.checking.Verdict.TheVariants.{Yes, No, Missing}

-- yes, or what is first broken
abbrev pub judged : Result (Unit {0}) Refusal → Verdict
judged (Ok _) = Yes
judged (Err refusal) = No refusal

abbrev pub verdict_on : Policy → Tx → Option Certificate → Verdict
verdict_on policy tx None = Missing
verdict_on policy tx (Some cert) = judged (First (claim policy tx cert))

-- on the first certificate of its name
abbrev pub verdict_of : Policy → List Block → Tx → Verdict
verdict_of policy blocks tx = verdict_on policy tx (cert_named blocks tx.name)

abbrev pub is_refused : Verdict → Bool
is_refused Yes = false
is_refused (No refusal) = true
is_refused Missing = true

-- a line
abbrev pub verdict_text : Name → Verdict → List ℕ
verdict_text name Yes = name ++ codes " yes\n"
verdict_text name (No refusal) =
    name ++ codes " no " ++ decimal refusal.stmt ++ codes " " ++ text_of refusal.rule ++ codes "\n"
verdict_text name Missing = name ++ codes " no certificate\n"

abbrev pub line_of : Policy → List Block → Tx → List ℕ
line_of policy blocks tx = verdict_text tx.name (verdict_of policy blocks tx)

-- a line for each transaction in order; it is refused just where one is not yes
pub record IsChecked (policy : Policy) (txs : List Tx) (blocks : List Block) (text told : List ℕ)
    (end : Ending) : Type 0 where
  pub text_is : text ≡ flat_map (line_of policy blocks) txs
  pub told_is : told ≡ []
  pub end_is : end ≡ (if list_any (λ tx. is_refused (verdict_of policy blocks tx)) txs then Refused else Well)
