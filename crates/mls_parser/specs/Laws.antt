-- What a text tells is what is read from it.
use Rattle.std.specs.Prelude.{◌≡◌, ◌↔◌, ℕ, List, [], ◌∷◌, Ok}
use Rattle.mls_lattice.specs.Policy.{Policy, IsPolicy}
use Rattle.mls_scheme.specs.Scheme.{Schemes, AreSchemes}
use Rattle.mls_translang.specs.Fits.{IsReadUnder}
use Rattle.mls_translang.specs.Tells.{Tells}
use Rattle.mls_translang.specs.Tokens.{printed}
use Rattle.mls_translang.specs.Tx.{Tx, IsTx}
use Rattle.mls_parser.specs.Parsing.{parse_at}

-- no list of transactions is told
abbrev pub TellsNone : Policy → Schemes → List ℕ → Type 0
TellsNone policy schemes bytes = (txs : List Tx) → Tells policy schemes bytes txs → ⊥

module _ (policy : Policy) (schemes : Schemes) where
  -- a text is read as the transactions that it tells
  abbrev pub TextsAreReadAsTold : Type 0
  TextsAreReadAsTold = (bytes : List ℕ) (txs : List Tx) → (parse_at policy schemes bytes ≡ Ok txs)
      ↔ Tells policy schemes bytes txs

  -- it tells one list of them at most
  abbrev pub TransactionsAreReadOnce : Type 0
  TransactionsAreReadOnce = (bytes : List ℕ) (txs us : List Tx) → Tells policy schemes bytes txs
      → Tells policy schemes bytes us → txs ≡ us

  -- the printed text of a transaction is read as it alone
  abbrev pub PrintsAreRead : Type 0
  PrintsAreRead = (tx : Tx) → IsTx tx → IsReadUnder policy schemes tx
      → parse_at policy schemes (printed policy schemes tx) ≡ Ok (tx ∷ [])

-- under policies and schemes
abbrev pub Under : (Policy → Schemes → Type 0) → Type 0
Under law = (policy : Policy) (schemes : Schemes) → IsPolicy policy → AreSchemes schemes → law policy schemes
