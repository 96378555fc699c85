-- What came of the least labels of a transaction.
use Rattle.std.specs.Prelude.{Bool, true, false}
use Rattle.mls_lattice.specs.Policy.{Policy}
use Rattle.mls_translang.specs.Tx.{Tx}
use Rattle.mls_certcheck.specs.declared.cert.Certificate.{Certificate}
use Rattle.mls_certcheck.specs.declared.cert.Certificate.TheVariants.{One, Two}
use Rattle.mls_certcheck.specs.declared.cert.Version.{Version}
use Rattle.mls_certcheck.specs.declared.cert.Version.TheVariants as version
use Rattle.mls_certcheck.specs.Rules.{Rules, claim}
use Rattle.mls_labeller.specs.Least.{IsOf, IsLeast}
use Rattle.mls_labeller.specs.Fault.{IsFirst}
use Rattle.mls_labeller.specs.declared.fault.LabelFault.TheVariants.{NoLabels}
use Rattle.mls_explain.specs.Chains.{IsChainTo}
use Rattle.mls_explain.specs.declared.labelling.Labelling.{Labelling}
use Rattle.mls_explain.specs.declared.labelling.Labelling.TheVariants.{Labelled, Refused}

-- no certificate of a version passes
abbrev pub NonePasses : Version → Policy → Tx → Type 0
NonePasses v p tx = (cert : Certificate) → IsOf v cert → Rules (claim p tx cert) → ⊥

-- what came of the least labels: those of version 1 pass; or only those of version 2; or none, this is the first rule
-- that those of
-- version 2 break, and this a shortest chain of flows by which something came there that must not
abbrev pub IsLabelling : Policy → Tx → Labelling → Type 0
IsLabelling p tx (Labelled (One cert)) = Rules (claim p tx (One cert)) × IsLeast version.First p tx (One cert)
IsLabelling p tx (Labelled (Two cert)) =
    NonePasses version.First p tx × Rules (claim p tx (Two cert)) × IsLeast version.Second p tx (Two cert)
IsLabelling p tx (Refused stmt r chain) =
    NonePasses version.First p tx × NonePasses version.Second p tx × IsFirst version.Second p tx (NoLabels stmt r)
    × IsChainTo p tx (record { stmt = stmt; rule = r }) chain

abbrev pub has_labels : Labelling → Bool
has_labels (Labelled cert) = true
has_labels (Refused stmt r chain) = false
