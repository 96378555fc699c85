use Rattle.std.proofs.Common.{refl}
use Rattle.sqlite.proofs.Callers.{memory_is_clean}
use Rattle.mls_runs.proofs.memory.MemoryHostHost.keep.Goals as goal

pub returns-clause-honest : goal.returns-clause-honest
returns-clause-honest c = (λ _. c.into_connection.ensures.clean (memory_is_clean c.into_connection.result), λ _. tt)

pub returns-clause-kept : goal.returns-clause-kept
returns-clause-kept c = λ _.
    let clean = memory_is_clean c.into_connection.result in
    let row = c.into_connection.ensures.row (c.into_connection.ensures.clean clean) in (
      row.0,
      c.into_connection.ensures.held clean refl row.0 row.1,
    )
