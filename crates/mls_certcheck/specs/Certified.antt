-- That the rules hold has one proof at most, so that a certified transaction can keep it.
use Rattle.std.specs.Prelude.{ℕ}
use Rattle.std.proofs.Props.{props}
use Rattle.mls_lattice.specs.Lattice.{Pair, Dominates}
use Rattle.mls_certcheck.specs.declared.cert.Certificate.{Certificate}
use Rattle.mls_certcheck.specs.declared.cert.Certificate.TheVariants.{One, Two}
use Rattle.mls_certcheck.specs.Rules.{Claim, IsObeyed, Rules, Counts}
use Rattle.mls_certcheck.specs.declared.flow.Flow.{Flow}
use Rattle.mls_certcheck.specs.declared.flow.Flow.TheVariants.{Into, Kept, Within, Under}

Dominates-prop : (p q : Pair) → IsProp (Dominates p q)
Dominates-prop p q = hlevel props

counts-prop : (n : ℕ) (cert : Certificate) → IsProp (Counts n cert)
counts-prop n (One cert) = hlevel props
counts-prop n (Two cert) = hlevel props

holds-prop : (c : Claim) (flow : Flow) → IsProp (IsObeyed c flow)
holds-prop c (Into targets sources) = hlevel (props, Dominates-prop)
holds-prop c (Kept m n but) = hlevel (props, Dominates-prop)
holds-prop c (Within limit sources) = hlevel (props, Dominates-prop)
holds-prop c (Under sources) = hlevel (props, Dominates-prop)

pub Rules-prop : (c : Claim) → IsProp (Rules c)
Rules-prop c = hlevel (props, counts-prop, holds-prop)
