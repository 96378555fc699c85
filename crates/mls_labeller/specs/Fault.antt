-- What it says of a transaction that it gets no certificate.
use Rattle.std.specs.Prelude.{◌≡◌, Err}
use Rattle.mls_lattice.specs.Policy.{Policy}
use Rattle.mls_translang.specs.Tx.{Tx}
use Rattle.mls_certcheck.specs.declared.cert.Certificate.{Certificate}
use Rattle.mls_certcheck.specs.Rules.{Rules, claim}
use Rattle.mls_certcheck.specs.Checks.{First}
use Rattle.mls_labeller.specs.Least.{IsOf, IsLeast}
use Rattle.mls_certcheck.specs.declared.cert.Version.{Version}
use Rattle.mls_labeller.specs.declared.fault.LabelFault.{LabelFault}
use Rattle.mls_labeller.specs.declared.fault.LabelFault.TheVariants.{NoLabels, Memory}

-- no certificate of the version passes
abbrev pub HasNone : Version → Policy → Tx → LabelFault → Type 0
HasNone v policy tx (NoLabels stmt rule) = (cert : Certificate) → IsOf v cert → Rules (claim policy tx cert) → ⊥
HasNone v policy tx Memory = Unit {0}

-- it is the first rule that the least labels break
abbrev pub IsFirst : Version → Policy → Tx → LabelFault → Type 0
IsFirst v policy tx (NoLabels stmt rule) =
    (cert : Certificate) × (IsLeast v policy tx cert × (First (claim policy tx cert)
    ≡ Err (record { stmt = stmt; rule = rule })))
IsFirst v policy tx Memory = Unit {0}
