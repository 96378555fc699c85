use Rattle.std.proofs.lemmas.List.Sorted.{IsPermutation-trans}
use Rattle.mls_rows.proofs.reading.read_entries.Goals as goal

pub returns-in-Ok-clause-found : goal.returns-in-Ok-clause-found
returns-in-Ok-clause-found g c clean content holds = c.in-Ok.ensures.found content.audit
    (IsPermutation-trans _ _ _ holds.audit (c.in_ok-rows.ensures.found clean))

pub abandon_at_row-requires : goal.abandon_at_row-requires
abandon_at_row-requires g c bad clean =
    let held = c.requires.readable (c.in_ok-rows.ensures.call.clean clean) in
    let memory = c.in-Err.ensures.only held.0.audit (IsPermutation-trans _ _ _ held.1.audit
    (c.in_ok-rows.ensures.found clean)) in
    bad memory
