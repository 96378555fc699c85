use Rattle.std.proofs.Common.{◌++◌, codes}
use Rattle.mls_translang.specs.Writing.{cell_text}
use Rattle.mls_machine.specs.Output.{front}
use Rattle.mls_machine.proofs.PrintingSteps.{one_more}
use Rattle.mls_machine.proofs.printing_items.push_items.Goals as goal

pub loop-item-preserved : goal.loop-item-preserved
loop-item-preserved c =
    one_more (λ i. front c.args.to.now.policy.now c.args.to.now.event.now i.0 ++ (c.args.deed.now ++ cell_text i.1)
    ++ codes "\n") c.args.items.now c.loop-item.item-index c.item-item.result c.item-item.result
    c.args.text.now.items c.loop-item.text.items c.push_item.new.text.items c.loop-item-test.true c.item-item.is c.loop-item.invariant c.in_ok-push_item.ensures
