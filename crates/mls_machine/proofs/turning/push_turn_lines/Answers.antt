use Rattle.std.proofs.Common.{◌++◌, codes}
use Rattle.mls_machine.specs.Turning.{turn_line}
use Rattle.mls_machine.proofs.PrintingSteps.{one_more}
use Rattle.mls_machine.proofs.turning.push_turn_lines.Goals as goal

pub loop-entry-preserved : goal.loop-entry-preserved
loop-entry-preserved c =
    one_more (λ x. (turn_line c.args.policy.now x).text
    ++ codes "\n") c.args.entries.now c.loop-entry.entry-index c.entry-item.result c.entry-item.result
    c.args.text.now.items c.loop-entry.text.items c.push_turn_line.new.text.items c.loop-entry-test.true c.entry-item.is c.loop-entry.invariant
    c.in_ok-push_turn_line.ensures
