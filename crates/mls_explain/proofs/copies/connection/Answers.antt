use Rattle.std.proofs.Common.{List, ℕ, subst₂}
use Rattle.sqlite.specs.Files.{file_state}
use Rattle.mls_fragments.specs.Opening.{IsFoundIn}
use Rattle.mls_fragments.proofs.MemoryLemmas.{memory_files_are_clean}
use Rattle.mls_explain.specs.Diagnosis.{image}
use Rattle.mls_explain.proofs.copies.connection.Goals as goal

pub returns-in-Ok-clause-found : goal.returns-in-Ok-clause-found
returns-in-Ok-clause-found c =
    subst₂ (λ (log db : List ℕ). IsFoundIn (image log db) (file_state c.in-Ok.conn).now)
    c.in_ok-files.ensures.log c.in_ok-files.ensures.db
    (c.in-Ok.ensures.found (memory_files_are_clean c.in-Ok.conn))
