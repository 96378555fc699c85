use Rattle.mls_command.proofs.closing.close.Goals as goal

pub returns-in-Ok-clause-kept : goal.returns-in-Ok-clause-kept
returns-in-Ok-clause-kept g c clean = let kept = c.in-Ok.ensures.kept clean in (kept.row, kept.kept)

pub returns-in-Err-clause-kept : goal.returns-in-Err-clause-kept
returns-in-Err-clause-kept g c clean =
    let may = c.in-Err.ensures.unclosed.may clean in
    (may.0, may.2)
