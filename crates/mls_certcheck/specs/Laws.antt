-- The laws of certificates: a transaction that obeys one is secure, and what obeys one of version 1 obeys one of
-- version 2.
use Rattle.std.specs.Prelude.{◌≡◌, length}
use Rattle.std.specs.List.{AllByRecursion}
use Rattle.mls_lattice.specs.Labels.{AreDistinct}
use Rattle.mls_lattice.specs.Policy.{Policy, labels_of}
use Rattle.mls_translang.specs.Tx.{Tx}
use Rattle.mls_certcheck.specs.Secure.{Secure}
use Rattle.mls_certcheck.specs.declared.cert.Cert.{Cert}
use Rattle.mls_certcheck.specs.declared.cert.Cert2.{Cert2}
use Rattle.mls_certcheck.specs.declared.cert.Certificate.{Certificate}
use Rattle.mls_certcheck.specs.declared.cert.Certificate.TheVariants.{One, Two}
use Rattle.mls_certcheck.specs.Rules.{Rules, claim}

abbrev pub RulesMakeSecure : Type 0
RulesMakeSecure = (policy : Policy) → AreDistinct (labels_of policy) → (tx : Tx) (cert : Certificate)
    → Rules (claim policy tx cert) → Secure policy tx

-- the labels of variables of version 1, after each statement
pub record IsLift (one : Cert) (two : Cert2) : Type 0 where
  pub count : length two.rows ≡ length two.pc_labels
  pub rows : AllByRecursion (λ row. row ≡ one.var_labels) two.rows
  pub pcs : two.pc_labels ≡ one.pc_labels

abbrev pub FlatCertificatesLift : Type 0
FlatCertificatesLift = (policy : Policy) (tx : Tx) (one : Cert) (two : Cert2) → IsLift one two
    → Rules (claim policy tx (One one)) → Rules (claim policy tx (Two two))
