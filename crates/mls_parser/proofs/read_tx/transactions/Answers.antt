use Rattle.std.proofs.Common.{rules, ◌≡◌, ◌<◌, ◌+◌, ◌-◌, ◌∷◌, ◌++◌, [], length, Some, Ok, arith, sym, ap, ◌∙◌, length-append}
use Rattle.mls_parser.specs.ReadTx.{next_transaction}
use Rattle.mls_parser.proofs.HeaderSteps.{things_more}
use Rattle.mls_parser.proofs.read_tx.transactions.Goals as goal

pub loop-drafts-preserved : goal.loop-drafts-preserved
loop-drafts-preserved c =
    let h = c.loop-drafts.invariant in
    let front = c.loop-drafts.drafts.items in
    let new = front ++ c.in-Some.next ∷ [] in
    let is : next_transaction c.args.policy.now c.args.schemes.now front c.loop-drafts.reader
    ≡ Ok (Some new, c.next_transaction.new.reader) = search rules in
    let less : length front < 64 = search rules in
    let items : c.push.new.self.items ≡ new = search rules in
    let longer : length c.push.new.self.items ≡ length front + 1 = ap length items ∙ length-append front (c.in-Some.next
    ∷ []) in
    record {
      so_far = things_more (next_transaction c.args.policy.now c.args.schemes.now) 65 [] c.args.reader.now
          (64 - length front) front c.loop-drafts.reader h.so_far
          c.push.new.self.items c.next_transaction.new.reader (64 - length c.push.new.self.items)
          (is ∙ ap (λ xs. Ok (Some xs, c.next_transaction.new.reader)) (sym items)) (omega (arith, less, longer));
      most = omega (arith, less, longer);
    }
