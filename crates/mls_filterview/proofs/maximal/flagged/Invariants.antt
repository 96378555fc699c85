use Rattle.std.proofs.Common.{◌≡◌, ◌++◌, ◌+◌, drop, length, map}
use Rattle.mls_scheme.specs.Table.{tuple_at}
use Rattle.mls_filterview.specs.Subsumption.{flagged}
use Rattle.mls_filterview.proofs.maximal.flagged.Given as goal

abbrev pub invariant-loop-at : goal.invariant-loop-at
invariant-loop-at l = record {
  count : l.at-iterator.count + length l.at-iterator.iter.rest.items ≡ length l.flags;
  way : l.tuples.items ++ map (λ e. tuple_at e.0 e.1)
      (flagged (drop l.at-iterator.count l.flags) l.at-iterator.iter.rest.items) ≡ map (λ e. tuple_at e.0 e.1)
      (flagged l.flags l.fn.rows.items);
}
