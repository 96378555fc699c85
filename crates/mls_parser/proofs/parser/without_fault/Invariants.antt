use Rattle.std.proofs.Common.{◌≡◌, map}
use Rattle.std.specs.List.{AllByRecursion}
use Rattle.mls_translang.specs.Tx.{IsTx}
use Rattle.mls_parser.specs.ReadTx.{tx_of}
use Rattle.mls_parser.proofs.parser.without_fault.Given as goal

abbrev pub invariant-loop-draft : goal.invariant-loop-draft
invariant-loop-draft l = record {
  read : l.txs.items ≡ map tx_of l.yielded;
  right : AllByRecursion IsTx (map tx_of l.draft-iterator.rest.items);
}
