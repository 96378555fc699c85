use Rattle.store_cases.proofs.runs.evaluate_over.Goals as goal

pub evaluate_first-end-requires-clause-content : goal.evaluate_first-end-requires-clause-content
evaluate_first-end-requires-clause-content g c = λ clean. (c.requires.sound clean).content
