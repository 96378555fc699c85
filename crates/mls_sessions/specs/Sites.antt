-- That the rules hold for what a site stores has one proof at most, so that a site can keep it.
use Rattle.std.proofs.Props.{props}
use Rattle.mls_lattice.specs.Policy.{Policy}
use Rattle.mls_certcheck.specs.declared.stored.Stored.{Stored}
use Rattle.mls_certcheck.specs.declared.stored.Stored.TheVariants.{Certified, Plain}
use Rattle.mls_certcheck.specs.Certified.{Rules-prop}
use Rattle.mls_certcheck.specs.Rules.{claim}
use Rattle.mls_certcheck.specs.Stored.{IsCertifiedUnder}
use Rattle.mls_certcheck.specs.Site.{Site, AreCertified}

stored-prop : (policy : Policy) (s : Stored) → IsProp (IsCertifiedUnder policy s)
stored-prop policy (Certified k) = Rules-prop (claim policy k.tx k.cert)
stored-prop policy (Plain tx) = hlevel props

pub certified-prop : (site : Site) → IsProp (AreCertified site)
certified-prop site = hlevel (props, stored-prop)
