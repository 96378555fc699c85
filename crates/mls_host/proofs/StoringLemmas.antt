-- What is stored was read under the policy and the schemes, and was checked under the policy where it has a
-- certificate.
use Rattle.std.proofs.Common.{◌≡◌, List, [], ◌∷◌, Option, Some, None, Ok, Err, sym, subst, ap, ◌∙◌}
use Rattle.std.specs.List.{AllByRecursion}
use Rattle.mls_lattice.specs.Policy.{Policy}
use Rattle.mls_scheme.specs.Scheme.{Schemes}
use Rattle.mls_translang.specs.Tx.{Tx}
use Rattle.mls_translang.specs.Fits.{IsReadUnder}
use Rattle.mls_certcheck.specs.declared.cert.Certificate.{Certificate}
use Rattle.mls_certcheck.specs.Reading.{Block}
use Rattle.mls_certcheck.specs.Rules.{Claim, Rules}
use Rattle.mls_certcheck.specs.Checks.{First}
use Rattle.mls_certcheck.specs.declared.refusal.Refusal.{Refusal}
use Rattle.mls_certcheck.proofs.RulesLemmas.{first_from_rules}
use Rattle.mls_certcheck.specs.declared.stored.Stored.{Stored}
use Rattle.mls_certcheck.specs.declared.stored.Stored.TheVariants.{Certified, Plain}
use Rattle.mls_certcheck.specs.Stored.{tx_of}
use Rattle.mls_certcheck.specs.Site.{AreRead, AreCertified}
use Rattle.mls_certcheck.proofs.StoredLemmas.{IsMadeUnder, made_certified}
use Rattle.mls_host.specs.Storing.{IsStoredWith, AreStoredWith, cert_named}

-- what is refused breaks a rule
pub refused_breaks : (c : Claim) (e : Refusal) → First c ≡ Err e → Rules c → ⊥
refused_breaks c e refused rules = let both : Err e ≡ Ok tt = sym refused ∙ first_from_rules c rules in absurd cc

module _ (policy : Policy) where
  same_tx : (o : Option Certificate) (tx : Tx) (s : Stored) → IsStoredWith policy o tx s → tx_of s ≡ tx
  same_tx None tx s h = ap tx_of h
  same_tx (Some cert) tx (Certified k) h = h.0
  same_tx (Some cert) tx (Plain t) h = h.0

  made_under : (o : Option Certificate) (tx : Tx) (s : Stored) → IsStoredWith policy o tx s → IsMadeUnder policy s
  made_under None tx s h = subst (IsMadeUnder policy) (sym h) tt
  made_under (Some cert) tx (Certified k) h = h.2
  made_under (Some cert) tx (Plain t) h = tt

  pub stored_read : (schemes : Schemes) (blocks : List Block) (txs : List Tx) (ss : List Stored)
      → AllByRecursion (IsReadUnder policy schemes) txs → AreStoredWith policy blocks txs ss
      → AreRead (record { policy = policy; schemes = schemes; stored = ss })
  stored_read schemes blocks [] [] read h = tt
  stored_read schemes blocks [] (s ∷ ss) read h = absurd h
  stored_read schemes blocks (tx ∷ txs) [] read h = absurd h
  stored_read schemes blocks (tx ∷ txs) (s ∷ ss) read h = (
    subst (IsReadUnder policy schemes) (sym (same_tx (cert_named blocks tx.name) tx s h.0)) read.0,
    stored_read schemes blocks txs ss read.1 h.1,
  )

  all_made : (blocks : List Block) (txs : List Tx) (ss : List Stored) → AreStoredWith policy blocks txs ss
      → AllByRecursion (IsMadeUnder policy) ss
  all_made blocks [] [] h = tt
  all_made blocks [] (s ∷ ss) h = absurd h
  all_made blocks (tx ∷ txs) [] h = absurd h
  all_made blocks (tx ∷ txs) (s ∷ ss) h = (made_under (cert_named blocks tx.name) tx s h.0, all_made blocks txs ss h.1)

  pub stored_certified : (schemes : Schemes) (blocks : List Block) (txs : List Tx) (ss : List Stored)
      → AreStoredWith policy blocks txs ss → AreCertified (record { policy = policy; schemes = schemes; stored = ss })
  stored_certified schemes blocks txs ss h = made_certified (record { policy = policy; schemes = schemes; stored = ss })
      (all_made blocks txs ss h)
