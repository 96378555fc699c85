use Rattle.std.proofs.Common.{◌≡◌, drop, bytes_eq}
use Rattle.std.specs.List.{list_any}
use Rattle.mls_command.proofs.explaining.first_of.Given as goal

abbrev pub invariant-loop-place : goal.invariant-loop-place
invariant-loop-place l = list_any (λ tx. bytes_eq tx.name l.name) (drop l.place l.txs)
    ≡ list_any (λ tx. bytes_eq tx.name l.name) l.txs
