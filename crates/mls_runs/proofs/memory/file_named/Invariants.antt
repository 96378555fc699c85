use Rattle.std.proofs.Common.{◌≡◌, drop}
use Rattle.mls_runs.specs.Memory.{file_named}
use Rattle.mls_runs.proofs.memory.file_named.Given as goal

abbrev pub invariant-loop-file : goal.invariant-loop-file
invariant-loop-file l = file_named (drop l.file-index l.files) l.name ≡ file_named l.files l.name
