-- Stored transactions that were checked under the policy of a site are certified under it.
use Rattle.std.proofs.Common.{◌≡◌, List, [], ◌∷◌, subst}
use Rattle.std.specs.Prelude.{⊤}
use Rattle.std.specs.List.{AllByRecursion}
use Rattle.mls_lattice.specs.Policy.{Policy}
use Rattle.mls_certcheck.specs.declared.stored.Stored.{Stored}
use Rattle.mls_certcheck.specs.declared.stored.Stored.TheVariants.{Certified, Plain}
use Rattle.mls_certcheck.specs.Rules.{Rules, claim}
use Rattle.mls_certcheck.specs.Stored.{IsCertifiedUnder}
use Rattle.mls_certcheck.specs.Site.{Site, AreCertified}

-- where it has a certificate, it was checked under the policy
abbrev pub IsMadeUnder : Policy → Stored → Type 0
IsMadeUnder policy (Certified k) = k.policy.value ≡ policy
IsMadeUnder policy (Plain tx) = ⊤

-- under the policy of its checking the rules hold for each certified transaction
pub made_certified : (site : Site) → AllByRecursion (IsMadeUnder site.policy) site.stored → AreCertified site
made_certified site = each site.stored
  where
    each : (stored : List Stored) → AllByRecursion (IsMadeUnder site.policy) stored
        → AllByRecursion (IsCertifiedUnder site.policy) stored
    each [] h = tt
    each (Certified k ∷ ss) h = (subst (λ p. Rules (claim p k.tx k.cert)) h.0 k.rules, each ss h.1)
    each (Plain tx ∷ ss) h = (tt, each ss h.1)
