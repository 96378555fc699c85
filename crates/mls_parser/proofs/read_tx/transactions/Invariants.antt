use Rattle.std.proofs.Common.{◌≤◌, ◌-◌, [], length}
use Rattle.mls_parser.specs.ReadTx.{next_transaction}
use Rattle.mls_parser.proofs.HeaderSteps.{ThingsSoFar}
use Rattle.mls_parser.proofs.read_tx.transactions.Given as goal

abbrev pub invariant-loop-drafts : goal.invariant-loop-drafts
invariant-loop-drafts l = record {
  so_far : ThingsSoFar (next_transaction l.policy l.schemes) 65 [] l.fn.reader
      (64 - length l.drafts.items) l.drafts.items l.reader;
  most : length l.drafts.items ≤ 64;
}

abbrev pub decreases-loop-drafts : goal.decreases-loop-drafts
decreases-loop-drafts l = 64 - length l.drafts.items
