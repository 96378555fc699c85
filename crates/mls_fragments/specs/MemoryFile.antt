-- A file in memory.
use Rattle.std.specs.Prelude.{◌≡◌, ℕ, true, false, List}
use Rattle.sqlite_disk.specs.declared.Disk.{Ghosts}
use Rattle.mls_fragments.specs.declared.memory_file.MemoryFile.{MemoryFile}

-- what it holds
abbrev pub bytes_of : MemoryFile → List ℕ
bytes_of m = m.bytes.items

-- what it shows as a disk
abbrev pub over_memory : Ghosts MemoryFile
over_memory = record {
  seen = bytes_of;
  may_leave = λ m c. c ≡ m.bytes.items;
  is_usable = λ _. true;
  faults = λ m. m.faults;
  tally_of = λ _. record { caught = 0; refused = 0 };
  is_clean = λ _. true;
  key_of = λ _. 0;
  is_fair = λ _ _. true;
  is_frozen = λ _. false;
  is_rotten = λ _ _ _. false;
  is_mixing = λ _. false;
}
