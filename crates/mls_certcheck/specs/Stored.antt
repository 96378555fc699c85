-- Stored transactions: with a certificate, or without one.
use Rattle.std.specs.Prelude.{⊤}
use Rattle.mls_lattice.specs.Policy.{Policy}
use Rattle.mls_translang.specs.Tx.{Tx}
use Rattle.mls_certcheck.specs.Rules.{Rules, claim}
use Rattle.mls_certcheck.specs.declared.stored.Stored.{Stored}
use Rattle.mls_certcheck.specs.declared.stored.Stored.TheVariants.{Certified, Plain}

abbrev pub tx_of : Stored → Tx
tx_of (Certified k) = k.tx
tx_of (Plain tx) = tx

-- what is asked of a transaction where it is stored with a certificate
abbrev pub WhereCertified : (Tx → Type 0) → Stored → Type 0
WhereCertified P (Certified k) = P k.tx
WhereCertified P (Plain tx) = ⊤

-- where it has a certificate, the rules hold under it
abbrev pub IsCertifiedUnder : Policy → Stored → Type 0
IsCertifiedUnder policy (Certified k) = Rules (claim policy k.tx k.cert)
IsCertifiedUnder policy (Plain tx) = ⊤
