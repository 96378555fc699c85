use Rattle.sqlite_disk.specs.declared.Files.{Files}
use Rattle.sqlite.specs.Files.{image_of, file_state}
use Rattle.mls_fragments.proofs.AgainLemmas.{found_none}
use Rattle.mls_fragments.specs.MemoryFile.{over_memory}
use Rattle.mls_fragments.specs.declared.memory_file.MemoryFile.{MemoryFile}
use Rattle.mls_fragments.proofs.MemoryLemmas.{memory_files_are_clean}
use Rattle.mls_fragments.proofs.memory_base.empty_store.Goals as goal

pub returns-in-Ok-clause-empty : goal.returns-in-Ok-clause-empty
returns-in-Ok-clause-empty c =
    let files : Files MemoryFile = record { log = c.new.result; db = c.new-2.result } in
    let conn = c.in-Ok.conn in
    found_none (image_of over_memory files) (file_state conn).now
    (c.in-Ok.ensures.found (memory_files_are_clean conn)) c.new-2.ensures
