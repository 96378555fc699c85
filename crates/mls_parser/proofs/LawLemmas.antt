-- What a text tells is read from it: so a text tells one list of transactions at most, and a printed transaction is
-- read as it is.
use Rattle.std.proofs.Common.{◌≡◌, ℕ, List, [], ◌∷◌, map, Option, Some, None, Result, Ok, Err, refl, ap, subst, ◌∙◌}
use Rattle.mls_lattice.specs.Policy.{Policy, IsPolicy}
use Rattle.mls_scheme.specs.Scheme.{Schemes, AreSchemes}
use Rattle.mls_tokens.specs.Scanning.{tokens_at}
use Rattle.mls_translang.specs.Tells.{Tells}
use Rattle.mls_translang.specs.Tokens.{printed}
use Rattle.mls_translang.specs.Tx.{Tx}
use Rattle.mls_translang.proofs.TellsLemmas.{prints_are_told}
use Rattle.mls_parser.specs.declared.draft.Draft.{Draft}
use Rattle.mls_parser.specs.declared.fault.PlacedFault.{PlacedFault}
use Rattle.mls_parser.specs.declared.fault.TextFault.{TextFault}
use Rattle.mls_parser.specs.Fault.{least_from, least}
use Rattle.mls_parser.specs.Noted.{State, Read}
use Rattle.mls_parser.specs.Laws.{TellsNone, TextsAreReadAsTold, TransactionsAreReadOnce, PrintsAreRead, Under}
use Rattle.mls_parser.specs.Parsing.{answer, judged, noted, parsed, placed_in, parse_at}
use Rattle.mls_parser.specs.ReadTx.{tx_of}
use Rattle.mls_parser.proofs.LeastLemmas.{none_at_all}
use Rattle.mls_parser.proofs.NextLemmas.{Gets}
use Rattle.mls_parser.proofs.TextAgain.{text_gets}
use Rattle.mls_parser.proofs.TxFound.{text_told}

module _ (policy : Policy) (schemes : Schemes) where
  gets_parsed : (bytes : List ℕ) (txs : List Tx) → Gets (noted policy schemes bytes) ([], tokens_at bytes)
      (λ ds. map tx_of ds ≡ txs) [] → parsed policy schemes bytes ≡ Ok txs
  unfolding parsed least_from
  gets_parsed bytes txs g = ap judged g.is ∙ ap (λ (l : List Tx). Ok l) g.holds

  told_read : IsPolicy policy → AreSchemes schemes → (bytes : List ℕ) (txs : List Tx) → Tells policy schemes bytes txs
      → parse_at policy schemes bytes ≡ Ok txs
  told_read p s bytes txs t = ap (placed_in bytes) (gets_parsed bytes txs (text_gets policy schemes p s bytes txs t))

  answered : (bytes : List ℕ) (x : List Draft × State) (txs : List Tx) (o : Option PlacedFault)
      → noted policy schemes bytes ≡ Ok x → least x.1.0 ≡ o → placed_in bytes (answer o (map tx_of x.0)) ≡ Ok txs
      → Tells policy schemes bytes txs
  answered bytes x txs None is none e =
      let same : map tx_of x.0 ≡ txs = cc in
      subst (Tells policy schemes bytes) same (text_told policy schemes bytes x is (none_at_all x.1.0 none))
  answered bytes x txs (Some f) is none e = absurd cc

  behind : (bytes : List ℕ) (r : Read (List Draft)) (txs : List Tx) → noted policy schemes bytes ≡ r
      → placed_in bytes (judged r) ≡ Ok txs → Tells policy schemes bytes txs
  behind bytes (Err f) txs is e = absurd cc
  behind bytes (Ok x) txs is e = answered bytes x txs (least x.1.0) is refl e

  read_told : (bytes : List ℕ) (txs : List Tx) → parse_at policy schemes bytes ≡ Ok txs → Tells policy schemes bytes txs
  unfolding parsed
  read_told bytes txs e = behind bytes (noted policy schemes bytes) txs refl e

same_read : (txs us : List Tx) (r : Result (List Tx) TextFault) → r ≡ Ok txs → r ≡ Ok us → txs ≡ us
same_read txs us r e f = cc

-- a text that is refused tells none
pub never_told : (policy : Policy) (schemes : Schemes) → IsPolicy policy → AreSchemes schemes
    → (bytes : List ℕ) (e : TextFault) → parse_at policy schemes bytes ≡ Err e → TellsNone policy schemes bytes
never_told policy schemes p s bytes e is = λ txs t. refused (parse_at policy schemes bytes) txs is
    (told_read policy schemes p s bytes txs t)
  where
    refused : (r : Result (List Tx) TextFault) (txs : List Tx) → r ≡ Err e → r ≡ Ok txs → ⊥
    refused r txs a b = absurd cc

pub texts_are_read_as_told : Under TextsAreReadAsTold
texts_are_read_as_told policy schemes p s bytes txs = (
  read_told policy schemes bytes txs,
  told_read policy schemes p s bytes txs,
)

pub transactions_are_read_once : Under TransactionsAreReadOnce
transactions_are_read_once policy schemes p s bytes txs us a b = same_read txs us (parse_at policy schemes bytes)
    (told_read policy schemes p s bytes txs a) (told_read policy schemes p s bytes us b)

pub prints_are_read : Under PrintsAreRead
prints_are_read policy schemes p s tx is read = told_read policy schemes p s (printed policy schemes tx) (tx ∷ [])
    (prints_are_told policy schemes tx p s is read)
