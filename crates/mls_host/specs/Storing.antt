-- How the transactions of a file are stored: with the certificates of another file that hold for them, or without.
use Rattle.std.specs.Prelude.{◌≡◌, List, Option, Some, None, option_map, find, bytes_eq}
use Rattle.std.specs.List.{AllZip}
use Rattle.mls_lattice.specs.Policy.{Name, Policy}
use Rattle.mls_translang.specs.Tx.{Tx}
use Rattle.mls_certcheck.specs.declared.cert.Certificate.{Certificate}
use Rattle.mls_certcheck.specs.Reading.{Block}
use Rattle.mls_certcheck.specs.Rules.{Rules, claim}
use Rattle.mls_certcheck.specs.declared.stored.Stored.{Stored}
use Rattle.mls_certcheck.specs.declared.stored.Stored.TheVariants.{Certified, Plain}

-- the first certificate of a name
abbrev pub cert_named : List Block → Name → Option Certificate
cert_named blocks name = option_map (λ b. b.1) (find (λ b. bytes_eq b.0 name) blocks)

module _ (policy : Policy) where
  -- with the certificate, checked under the policy; without it just where the rules do not hold under it
  abbrev pub IsAccepted : Tx → Certificate → Stored → Type 0
  IsAccepted tx cert (Certified k) = (k.tx ≡ tx) × (k.cert ≡ cert) × (k.policy.value ≡ policy)
  IsAccepted tx cert (Plain t) = (t ≡ tx) × (Rules (claim policy tx cert) → ⊥)

  abbrev pub IsStoredWith : Option Certificate → Tx → Stored → Type 0
  IsStoredWith None tx s = s ≡ Plain tx
  IsStoredWith (Some cert) tx s = IsAccepted tx cert s

  -- each transaction, in order, with the first certificate of its name
  abbrev pub AreStoredWith : List Block → List Tx → List Stored → Type 0
  AreStoredWith blocks = AllZip (λ tx s. IsStoredWith (cert_named blocks tx.name) tx s)
