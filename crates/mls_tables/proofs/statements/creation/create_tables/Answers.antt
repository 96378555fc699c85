use Rattle.std.proofs.Common.{arith}
use Rattle.std.proofs.lemmas.Grind.{common_steps}
use Rattle.mls_tables.proofs.statements.creation.create_tables.Goals as goal

pub returns-in_err-create_node-clause-err : goal.returns-in_err-create_node-clause-err
returns-in_err-create_node-clause-err g c = grind (arith, common_steps)

pub returns-in_err-create_cell-clause-err : goal.returns-in_err-create_cell-clause-err
returns-in_err-create_cell-clause-err g c = grind (arith, common_steps)

pub returns-in_err-create_audit-clause-err : goal.returns-in_err-create_audit-clause-err
returns-in_err-create_audit-clause-err g c = grind (arith, common_steps)

pub returns-clause-made : goal.returns-clause-made
returns-clause-made g c = grind (arith, common_steps)

pub returns-clause-err : goal.returns-clause-err
returns-clause-err g c = grind (arith, common_steps)
