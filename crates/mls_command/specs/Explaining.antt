-- What the command explain tells: what came of the least labels of each transaction of a file, or of the one of a name;
-- and which fields of the policy and the schemes nobody reads.
use Rattle.std.specs.Prelude.{◌≡◌, ℕ, Bool, false, not, ◌||◌, List, [], ◌∷◌, ◌++◌, Option, None, Some, Contains}
use Rattle.std.specs.Prelude.{string_bytes, flat_map, bytes_eq}
use Rattle.std.specs.List.{list_any, AllZip}
use Rattle.mls_lattice.specs.Policy.{Name, Policy}
use Rattle.mls_scheme.specs.Scheme.{Schemes}
use Rattle.mls_translang.specs.Tx.{Tx}
use Rattle.mls_explain.specs.declared.explaining.Explained.{Explained}
use Rattle.mls_explain.specs.Explaining.{has_labels}
use Rattle.mls_explain.specs.Telling.{IsExplanation}
use Rattle.mls_host.specs.declared.ending.Ending.{Ending}
use Rattle.mls_host.specs.declared.reason.Reason.{Reason}
use Rattle.mls_host.specs.declared.reason.Reason.TheVariants as reasons
use Rattle.mls_host.specs.Ending.{ending_if}
use Rattle.mls_command.specs.Showing.{is_some_text}

-- all are chosen; or the one that has the name
abbrev pub AreChosen : Option Name → List Tx → List Tx → Type 0
AreChosen None txs chosen = chosen ≡ txs
AreChosen (Some name) txs chosen = (tx : Tx) × (chosen ≡ tx ∷ []) × Contains txs tx × (tx.name ≡ name)

-- none has the name
abbrev pub HaveNone : Option Name → List Tx → Type 0
HaveNone None txs = ⊥
HaveNone (Some name) txs = list_any (λ tx. bytes_eq tx.name name) txs ≡ false

abbrev pub AreExplained : Policy → Schemes → List Tx → List Explained → Type 0
AreExplained policy schemes = AllZip (IsExplanation policy schemes)

abbrev pub lacks_labels : Explained → Bool
lacks_labels e = not (has_labels e.labelling)

-- whether a transaction has no labels, or something is said of fields that nobody reads
abbrev pub is_some_refused : List Explained → List ℕ → Bool
is_some_refused explained ignored = list_any lacks_labels explained || is_some_text ignored

-- what came of each transaction is told, one behind the other, then what is said of the fields that nobody reads; and
-- nothing on standard error
pub record IsExplained (policy : Policy) (schemes : Schemes) (txs : List Tx) (name : Option Name)
    (Ignores : List ℕ → Type 0) (text told : List ℕ) (end : Ending) : Type 0 where
  pub chosen : List Tx
  pub explained : List Explained
  pub chosen_are : AreChosen name txs chosen
  pub explained_are : AreExplained policy schemes chosen explained
  pub ignored : List ℕ
  pub ignored_are : Ignores ignored
  pub text_is : text ≡ flat_map (λ e. string_bytes e.text) explained ++ ignored
  pub told_is : told ≡ []
  pub end_is : end ≡ ending_if (is_some_refused explained ignored)

-- none has the name; or memory
pub data IsUnexplained (txs : List Tx) (name : Option Name) (reason : Reason) : Type 0 where
  no_name : HaveNone name txs → reason ≡ reasons.Name → IsUnexplained txs name reason
  no_memory : reason ≡ reasons.Memory → IsUnexplained txs name reason
