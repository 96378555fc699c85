use Rattle.mls_host.proofs.inputs.input_of.Goals as goal

pub returns-in-Err-clause-refused : goal.returns-in-Err-clause-refused
returns-in-Err-clause-refused g c = (c.in-Err.fault, c.in-Err.ensures.lacking, c.of_input.ensures)
