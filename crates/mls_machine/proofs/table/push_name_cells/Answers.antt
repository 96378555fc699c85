use Rattle.std.proofs.Common.{rules}
use Rattle.mls_machine.proofs.TableSteps.{name_more}
use Rattle.mls_machine.proofs.table.push_name_cells.Goals as goal

pub loop-place-preserved : goal.loop-place-preserved
loop-place-preserved c =
    name_more c.args.attributes.now c.loop-place.place c.name.result.now c.args.cells.now.items c.loop-place.cells.items c.push.new.self.items c.name.ensures c.loop-place.invariant (search rules)
