-- The least labels that meet the lower bounds.
use Rattle.std.specs.Prelude.{◌≡◌, length}
use Rattle.std.specs.List.{AllByRecursion}
use Rattle.mls_lattice.specs.Lattice.{Dominates}
use Rattle.mls_lattice.specs.Policy.{Policy}
use Rattle.mls_translang.specs.Tree.{statements}
use Rattle.mls_translang.specs.Tx.{Tx}
use Rattle.mls_certcheck.specs.declared.cert.Certificate.{Certificate}
use Rattle.mls_certcheck.specs.declared.cert.Certificate.TheVariants.{One, Two}
use Rattle.mls_certcheck.specs.Lines.{lines}
use Rattle.mls_certcheck.specs.Rules.{Claim, claim, slot_label, var_rows, Counts}
use Rattle.mls_certcheck.specs.declared.flow.Slot.{Slot}
use Rattle.mls_labeller.specs.Flows.{IsBounded}
use Rattle.mls_certcheck.specs.declared.cert.Version.{Version}
use Rattle.mls_certcheck.specs.declared.cert.Version.TheVariants as version

-- a certificate has this version
abbrev pub IsOf : Version → Certificate → Type 0
IsOf version.First (One cert) = Unit {0}
IsOf version.First (Two cert) = ⊥
IsOf version.Second (One cert) = ⊥
IsOf version.Second (Two cert) = Unit {0}

module _ (c : Claim) where
  -- a label for each variable and statement, and each lower bound holds
  pub record Meets : Type 0 where
    pub var_count : AllByRecursion (λ row. length row ≡ length c.tx.vars) (var_rows c.cert)
    pub stmt_count : Counts (statements c.tx.body) c.cert
    pub bounds : AllByRecursion (λ line. IsBounded c line.flow) (lines c.tx)

-- each label of the first is dominated by the label of the same slot in the second
abbrev pub Below : Claim → Claim → Type 0
Below c d = (slot : Slot) → Dominates (slot_label d slot) (slot_label c slot)

-- it meets the lower bounds, and its labels are below those of each of its version that does
pub record IsLeast (v : Version) (policy : Policy) (tx : Tx) (cert : Certificate) : Type 0 where
  pub version : IsOf v cert
  pub meets : Meets (claim policy tx cert)
  pub least : (other : Certificate) → IsOf v other → Meets (claim policy tx other) → Below (claim policy tx cert)
      (claim policy tx other)
