use Rattle.std.proofs.Common.{◌≡◌, ◌++◌, map}
use Rattle.mls_rows.proofs.reading.decoded_entries.Given as goal

abbrev pub invariant-loop-row : goal.invariant-loop-row
invariant-loop-row l = l.entries.items ++ map (λ r. r.bytes) l.row-iterator.rest.items
    ≡ map (λ r. r.bytes) l.fn.rows.items
