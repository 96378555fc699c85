-- What is read of a text.
use Rattle.std.proofs.Common.{◌≡◌, ℕ, List, [], map, None, Ok, sym}
use Rattle.std.specs.List.{AllByRecursion}
use Rattle.mls_lattice.specs.Policy.{Policy}
use Rattle.mls_scheme.specs.Scheme.{Schemes}
use Rattle.mls_tokens.specs.Scanning.{tokens_at}
use Rattle.mls_translang.specs.Tells.{Tells}
use Rattle.mls_translang.specs.Tx.{IsTx}
use Rattle.mls_parser.specs.declared.draft.Draft.{Draft}
use Rattle.mls_parser.specs.Fault.{least_from}
use Rattle.mls_parser.specs.Noted.{State}
use Rattle.mls_parser.specs.ReadTx.{transactions_at, tx_of}
use Rattle.mls_parser.proofs.LeastLemmas.{none_at_all}
use Rattle.mls_parser.proofs.TxFound.{text_told}

module _ (policy : Policy) (schemes : Schemes) (bytes : List ℕ) where
  -- what is read with no fault is told
  pub found_told : (ds : List Draft) (s : State) → transactions_at policy schemes ([], tokens_at bytes) ≡ Ok (ds, s)
      → None ≡ least_from None s.0 → Tells policy schemes bytes (map tx_of ds)
  found_told ds s e none = text_told policy schemes bytes (ds, s) e (none_at_all s.0 (sym none))

  pub found_each : (ds : List Draft) (s : State) → transactions_at policy schemes ([], tokens_at bytes) ≡ Ok (ds, s)
      → None ≡ least_from None s.0 → AllByRecursion IsTx (map tx_of ds)
  found_each ds s e none = (found_told ds s e none).each

pub ruleset parsed_steps = (found_told, found_each)
