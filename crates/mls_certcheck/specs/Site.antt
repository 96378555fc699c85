-- Sites: the policy, the schemes and the stored transactions that a run is under.
use Rattle.std.specs.Prelude.{ℕ, List}
use Rattle.std.specs.List.{AllByRecursion}
use Rattle.mls_lattice.specs.Labels.{Labels}
use Rattle.mls_lattice.specs.Policy.{Policy, labels_of}
use Rattle.mls_scheme.specs.Scheme.{Scheme, Schemes, scheme_of}
use Rattle.mls_translang.specs.Fits.{IsReadUnder}
use Rattle.mls_certcheck.specs.declared.stored.Stored.{Stored}
use Rattle.mls_certcheck.specs.Stored.{tx_of, IsCertifiedUnder}

-- a policy, the schemes of its relations, and the stored transactions
pub record Site : Type 0 where
  pub policy : Policy
  pub schemes : Schemes
  pub stored : List Stored

-- the declared labels, by number
abbrev pub site_labels : Site → Labels
site_labels site = labels_of site.policy

-- the scheme of a relation, by its number
abbrev pub site_scheme : Site → ℕ → Scheme
site_scheme site relation = scheme_of site.schemes relation

abbrev pub site_of : Policy → Schemes → List Stored → Site
site_of policy schemes stored = record { policy = policy; schemes = schemes; stored = stored }

-- the stored transactions were read under the policy and the schemes
abbrev pub AreRead : Site → Type 0
AreRead site = AllByRecursion (λ s. IsReadUnder site.policy site.schemes (tx_of s)) site.stored

-- under their certificates the rules hold
abbrev pub AreCertified : Site → Type 0
AreCertified site = AllByRecursion (IsCertifiedUnder site.policy) site.stored
