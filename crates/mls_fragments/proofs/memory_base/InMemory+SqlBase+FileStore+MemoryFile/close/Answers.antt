use Rattle.std.proofs.Common.{refl}
use Rattle.mls_fragments.proofs.memory_base.InMemory+SqlBase+FileStore+MemoryFile.close.Goals as goal

pub returns : goal.returns
returns c = record { clean = c.into_files-files.ensures.clean refl }
