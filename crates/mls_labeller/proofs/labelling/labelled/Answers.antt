use Rattle.std.proofs.Common.{◌≡◌, ℕ, Result, Ok, Err, sym, subst, IfErr, IsErrAnd}
use Rattle.mls_lattice.specs.Policy.{Policy, labels_of}
use Rattle.mls_translang.specs.Tx.{Tx}
use Rattle.mls_certcheck.specs.declared.cert.Version.{Version}
use Rattle.mls_certcheck.specs.declared.cert.Certificate.{Certificate}
use Rattle.mls_certcheck.specs.declared.refusal.Rule.{Rule}
use Rattle.mls_certcheck.specs.Rules.{Rules, claim}
use Rattle.mls_labeller.specs.Least.{IsOf, IsLeast}
use Rattle.mls_labeller.specs.Fault.{HasNone}
use Rattle.mls_labeller.specs.declared.fault.LabelFault.{LabelFault}
use Rattle.mls_labeller.specs.declared.fault.LabelFault.TheVariants.{NoLabels}
use Rattle.mls_labeller.proofs.FlowLemmas.{rules_meet, lesser_obey}
use Rattle.mls_labeller.proofs.labelling.labelled.Goals as goal

-- where the least labels break a rule, all of their version do
none_passes : (v : Version) (p : Policy) (tx : Tx) (x : Certificate) → IsLeast v p tx x → (Rules (claim p tx x) → ⊥)
    → (other : Certificate) → IsOf v other → Rules (claim p tx other) → ⊥
none_passes v p tx x least bad other is rules =
    bad (lesser_obey (labels_of p) tx x other
    (least.least other is (rules_meet (claim p tx other) rules)) least.meets rules)

said : (v : Version) (p : Policy) (tx : Tx) (r : Result Certificate LabelFault) (stmt : ℕ) (rule : Rule)
    → IsErrAnd r (λ e. e ≡ NoLabels stmt rule) → ((other : Certificate) → IsOf v other → Rules (claim p tx other) → ⊥)
    → IfErr r (HasNone v p tx)
said v p tx (Ok x) stmt rule h none = tt
said v p tx (Err e) stmt rule h none = subst (HasNone v p tx) (sym h) none

pub returns-clause-below : goal.returns-clause-below
returns-clause-below c = λ other is rules.
    let p = c.args.policy.now in
    let tx = c.args.tx.now in
    let least : IsLeast c.args.version p tx c.in_ok-cert.cert = subst (IsLeast c.args.version p tx)
    (sym c.in_ok-cert.ensures) c.in_ok-least.ensures in
    least.least other is (rules_meet (claim p tx other) rules)

pub returns-in_err-check-clause-none : goal.returns-in_err-check-clause-none
returns-in_err-check-clause-none c =
    let v = c.args.version in
    let p = c.args.policy.now in
    let tx = c.args.tx.now in
    let x = c.in_ok-cert.cert in
    let least : IsLeast v p tx x = subst (IsLeast v p tx) (sym c.in_ok-cert.ensures) c.in_ok-least.ensures in
    said v p tx c.from_residual-in_err-check.result _ _ c.from_residual-in_err-check.ensures.1
    (none_passes v p tx x least (λ h. let e = c.in_err-check.ensures.rules.1 h in cc))
