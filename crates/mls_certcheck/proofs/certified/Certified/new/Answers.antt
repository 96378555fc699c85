use Rattle.std.proofs.Common.{refl, subst, sym}
use Rattle.mls_certcheck.specs.Rules.{Rules, claim}
use Rattle.mls_certcheck.proofs.certified.Certified.new.Goals as goal

pub invariant_of-result : goal.invariant_of-result
invariant_of-result c = record {
  rules = subst (λ p. Rules (claim p c.args.tx c.args.cert)) (sym c.of-policy.ensures)
      (c.in-Ok.ensures.rules.0 refl);
}
