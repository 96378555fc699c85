-- What a text of transactions says, or its fault: first its form, then its names, kinds and labels.
use Rattle.std.specs.Prelude.{◌≡◌, ℕ, List, [], map, Option, Some, None, Result, Ok, Err}
use Rattle.mls_lattice.specs.Policy.{Policy}
use Rattle.mls_lattice.specs.Reading.{GivesUnless}
use Rattle.mls_scheme.specs.Scheme.{Schemes}
use Rattle.mls_tokens.specs.Scanning.{tokens_at}
use Rattle.mls_translang.specs.Tx.{Tx}
use Rattle.mls_parser.specs.declared.draft.Draft.{Draft}
use Rattle.mls_parser.specs.declared.fault.TextCause.TheVariants.{Memory}
use Rattle.mls_parser.specs.declared.fault.TextFault.{TextFault}
use Rattle.mls_parser.specs.declared.fault.PlacedFault.{PlacedFault}
use Rattle.mls_parser.specs.Fault.{least, IsLeast, in_text}
use Rattle.mls_parser.specs.Noted.{State, Read}
use Rattle.mls_parser.specs.ReadTx.{transactions_at, tx_of}

abbrev pub answer : {X : Type 0} → Option PlacedFault → X → Result X PlacedFault
answer None x = Ok x
answer (Some f) x = Err f

-- the transactions, unless a fault was noted
abbrev pub judged : Read (List Draft) → Result (List Tx) PlacedFault
judged (Ok x) = answer (least x.1.0) (map tx_of x.0)
judged (Err e) = Err e

-- what is read of a text, with the faults that are noted
abbrev pub noted : Policy → Schemes → List ℕ → Read (List Draft)
noted policy schemes bytes = transactions_at policy schemes ([], tokens_at bytes)

unfoldable pub parsed : Policy → Schemes → List ℕ → Result (List Tx) PlacedFault
parsed policy schemes bytes = judged (noted policy schemes bytes)

abbrev pub placed_in : List ℕ → Result (List Tx) PlacedFault → Result (List Tx) TextFault
placed_in bytes (Ok txs) = Ok txs
placed_in bytes (Err f) = Err (in_text bytes f)

-- the same, with lines and columns
abbrev pub parse_at : Policy → Schemes → List ℕ → Result (List Tx) TextFault
parse_at policy schemes bytes = placed_in bytes (parsed policy schemes bytes)

-- What parse returned is what reading gives, unless memory ran out.
abbrev pub IsParsed : Result (List Tx) TextFault → Result (List Tx) TextFault → Type 0
IsParsed = GivesUnless (λ e. e.cause ≡ Memory) (λ txs. txs)

-- Where the form of a text is right: what is read has no fault; the fault that is answered is one of those that were
-- noted, and none of
-- them stands before it.
abbrev pub IsJudged : Policy → Schemes → List ℕ → Result (List Tx) TextFault → Type 0
IsJudged policy schemes bytes (Ok xs) = (x : List Draft × State) → noted policy schemes bytes ≡ Ok x → x.1.0 ≡ []
IsJudged policy schemes bytes (Err e) =
    (x : List Draft × State) → noted policy schemes bytes ≡ Ok x → (e.cause ≡ Memory → ⊥) → (f : PlacedFault)
    × IsLeast x.1.0 f × (e ≡ in_text bytes f)
