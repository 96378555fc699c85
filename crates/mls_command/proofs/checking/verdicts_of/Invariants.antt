use Rattle.std.proofs.Common.{◌≡◌, take, string_bytes, flat_map}
use Rattle.std.specs.List.{list_any}
use Rattle.mls_command.specs.Checking.{line_of, verdict_of, is_refused}
use Rattle.mls_command.proofs.checking.verdicts_of.Given as goal

-- the lines of the transactions so far, and whether one of them is refused
abbrev pub invariant-loop-tx : goal.invariant-loop-tx
invariant-loop-tx l = record {
  written : string_bytes l.text ≡ flat_map (line_of l.policy l.blocks) (take l.tx-index l.txs);
  refused : l.refused ≡ list_any (λ tx. is_refused (verdict_of l.policy l.blocks tx)) (take l.tx-index l.txs);
}
