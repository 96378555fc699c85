use Rattle.std.proofs.Common.{◌≡◌, map, drop, bytes_eq}
use Rattle.std.specs.List.{list_any}
use Rattle.mls_parser.proofs.read_tx.is_earlier.Given as goal

abbrev pub invariant-loop-tx : goal.invariant-loop-tx
invariant-loop-tx l = list_any (bytes_eq l.name.0) (map (λ t. t.name) (drop l.tx-index l.earlier))
    ≡ list_any (bytes_eq l.name.0) (map (λ t. t.name) l.earlier)
