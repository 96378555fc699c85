-- What the command certify prints: for each transaction the least certificate that holds for it, if there is one.
use Rattle.std.specs.Prelude.{◌≡◌, ℕ, Bool, true, false, if◌then◌else◌, List, [], ◌++◌, codes, Err, flat_map, decimal}
use Rattle.std.specs.List.{list_any, AllZip}
use Rattle.mls_lattice.specs.Policy.{Name, Policy}
use Rattle.mls_translang.specs.Tx.{Tx}
use Rattle.mls_certcheck.specs.declared.cert.Cert.{Cert}
use Rattle.mls_certcheck.specs.declared.cert.Cert2.{Cert2}
use Rattle.mls_certcheck.specs.declared.cert.Certificate.{Certificate}
use Rattle.mls_certcheck.specs.declared.cert.Certificate.TheVariants.{One, Two}
use Rattle.mls_certcheck.specs.Spelling.{HasText, block_text}
use Rattle.mls_certcheck.specs.Rules.{Rules, claim}
use Rattle.mls_certcheck.specs.Checks.{First}
use Rattle.mls_certcheck.specs.Refusal.{text_of}
use Rattle.mls_certcheck.specs.declared.refusal.Rule.{Rule}
use Rattle.mls_certcheck.specs.declared.cert.Version.{Version}
use Rattle.mls_certcheck.specs.declared.cert.Version.TheVariants as version
use Rattle.mls_labeller.specs.Least.{IsOf, IsLeast, Below}
use Rattle.mls_host.specs.declared.ending.Ending.{Ending}
use Rattle.mls_host.specs.declared.ending.Ending.TheVariants.{Well, Refused}
use Rattle.mls_command.specs.declared.certifying.Labels.{Labels}
use Rattle.mls_command.specs.declared.certifying.Labels.TheVariants.{Least, Missing}
use Rattle.mls_command.specs.declared.certifying.Answer.{Answer}

module _ (policy : Policy) (tx : Tx) where
  -- the rules hold under a certificate
  abbrev pub Obeys : Certificate → Type 0
  Obeys cert = Rules (claim policy tx cert)

  -- they hold under none of a version
  abbrev pub HasNoneOf : Version → Type 0
  HasNoneOf v = (cert : Certificate) → IsOf v cert → Obeys cert → ⊥

  -- they hold under it, and each of its labels is dominated by the one at the same place of every other of its version
  -- under which they hold
  pub record IsLeastOne (cert : Cert) : Type 0 where
    pub obeys : Obeys (One cert)
    pub below : (other : Cert) → Obeys (One other) → Below (claim policy tx (One cert)) (claim policy tx (One other))

  -- version 2 stands where there is none of version 1
  pub record IsLeastTwo (cert : Cert2) : Type 0 where
    pub none : HasNoneOf version.First
    pub obeys : Obeys (Two cert)
    pub below : (other : Cert2) → Obeys (Two other) → Below (claim policy tx (Two cert)) (claim policy tx (Two other))

  -- they hold under none; and this is what the least labels of version 2 break first which meet the lower bounds
  pub record HasNoCertificate (stmt : ℕ) (rule : Rule) : Type 0 where
    pub none : (cert : Certificate) → Obeys cert → ⊥
    pub first : (cert : Certificate)
        × (IsLeast version.Second policy tx cert
        × (First (claim policy tx cert) ≡ Err (record { stmt = stmt; rule = rule })))

  abbrev pub AreLabels : Labels → Type 0
  AreLabels (Least (One cert)) = IsLeastOne cert
  AreLabels (Least (Two cert)) = IsLeastTwo cert
  AreLabels (Missing stmt rule) = HasNoCertificate stmt rule

abbrev pub IsAnswer : Policy → Tx → Answer → Type 0
IsAnswer policy tx a = (a.tx.now ≡ tx) × AreLabels policy tx a.labels

-- each transaction in order, with its labels
abbrev pub AreAnswers : Policy → List Tx → List Answer → Type 0
AreAnswers policy = AllZip (IsAnswer policy)

-- ---- what is printed of it

-- what has a text, where there is one
abbrev pub HaveText : Labels → Type 0
HaveText (Least cert) = HasText cert
HaveText (Missing stmt rule) = Unit {0}

abbrev pub labels_block : Name → Labels → List ℕ
labels_block name (Least cert) = block_text (name, cert)
labels_block name (Missing stmt rule) = []

unfoldable pub none_front : Name → List ℕ
none_front name = codes "mldb: " ++ name ++ codes ": no labels: "

abbrev pub none_text : Name → ℕ → Rule → List ℕ
none_text name stmt rule = none_front name ++ decimal stmt ++ codes " " ++ text_of rule ++ codes "\n"

abbrev pub labels_refusal : Name → Labels → List ℕ
labels_refusal name (Least cert) = []
labels_refusal name (Missing stmt rule) = none_text name stmt rule

abbrev pub labels_missing : Labels → Bool
labels_missing (Least cert) = false
labels_missing (Missing stmt rule) = true

abbrev pub block_of : Answer → List ℕ
block_of a = labels_block a.tx.now.name a.labels

abbrev pub refusal_of : Answer → List ℕ
refusal_of a = labels_refusal a.tx.now.name a.labels

abbrev pub has_none : Answer → Bool
has_none a = labels_missing a.labels

abbrev pub ending_of : List Answer → Ending
ending_of answers = if list_any has_none answers then Refused else Well

-- blocks on standard output, lines of those without one on standard error, and how it ends
pub record IsCertified (policy : Policy) (txs : List Tx) (text told : List ℕ) (end : Ending) : Type 0 where
  pub answers : List Answer
  pub labels : AreAnswers policy txs answers
  pub text_is : text ≡ flat_map block_of answers
  pub told_is : told ≡ flat_map refusal_of answers
  pub end_is : end ≡ ending_of answers
