use Rattle.std.proofs.Common.{rules, arith}
use Rattle.std.proofs.lemmas.Grind.{common_steps}
use Rattle.mls_rows.proofs.CallLemmas.{drops_both}
use Rattle.mls_rows.proofs.writing.drop_tuple.Goals as goal

pub returns-clause-done : goal.returns-clause-done
returns-clause-done g c clean =
    drops_both c.args.relation c.args.place.now c.in-Ok.key c.args.store.now c.drop_node.new.self c.drop_cells.new.self c.drop_cells.result c.in-Ok.ensures.made
    (c.in_ok-drop_node.ensures.done (c.drop_cells.ensures.call.clean clean)) (c.drop_cells.ensures.done clean)

pub returns-in-Err-clause-step : goal.returns-in-Err-clause-step
returns-in-Err-clause-step g c = record { call = grind (arith, common_steps); mode = search rules }

pub returns-in_err-drop_node-clause-step : goal.returns-in_err-drop_node-clause-step
returns-in_err-drop_node-clause-step g c = record { call = grind (arith, common_steps); mode = search rules }

pub returns-clause-step : goal.returns-clause-step
returns-clause-step g c = record { call = grind (arith, common_steps); mode = search rules }
