use Rattle.std.proofs.Common.{◌≡◌, ◌+◌, ◌++◌, [], drop, sym, ap, ◌∙◌, arith}
use Rattle.std.proofs.Math.ListN.{drop_of_length-le}
use Rattle.mls_translang.specs.Blocks.{block_of}
use Rattle.mls_labeller.specs.Flows.{own_slots}
use Rattle.mls_certcheck.proofs.WalkLemmas.{split_statements}
use Rattle.mls_labeller.proofs.WalkLemmas.{slots_more, slots_done}
use Rattle.mls_labeller.proofs.lines.own_slots.Goals as goal

pub loop-stmt-preserved : goal.loop-stmt-preserved
loop-stmt-preserved c =
    let items = c.stmts-stmt-items.result.now in
    let i = c.loop-stmt.stmt-index in
    let split = split_statements items i c.stmt-item.result c.loop-stmt-test.true c.stmt-item.is in
    record {
      number = omega (arith, split, c.statements-number.ensures, c.loop-stmt.invariant.number);
      notes = slots_more items i c.stmt-item.result c.loop-stmt-test.true c.stmt-item.is c.loop-stmt.number _ c.loop-stmt.slots.items c.push.new.self.items _ (ap (λ k. c.loop-stmt.number + k) c.statements-number.ensures) c.in_ok-push.ensures.items c.loop-stmt.invariant.notes;
    }

pub returns : goal.returns
returns c =
    let items = c.stmts-stmt-items.result.now in
    let none : drop c.loop-stmt.stmt-index items ≡ [] = drop_of_length-le items (omega (arith, c.loop-stmt-test.false))
    in
    sym (slots_done c.loop-stmt.number c.loop-stmt.slots.items)
    ∙ ap (λ ss. c.loop-stmt.slots.items ++ own_slots c.loop-stmt.number (block_of ss)) (sym none)
    ∙ c.loop-stmt.invariant.notes ∙ ap (λ b. c.args.slots.now.items
    ++ own_slots c.args.first b) c.stmts-stmt-items.ensures
