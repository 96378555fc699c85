-- What the files of a store keep once it was closed, or was not.
use Rattle.std.specs.Prelude.{Bool, true, false}
use Rattle.sqlite_disk.specs.declared.Disk.{Ghosts}
use Rattle.sqlite_disk.specs.declared.Files.{Files}
use Rattle.sqlite.specs.WalReads.{AreClean}
use Rattle.mls_fragments.specs.Again.{AreKept, MayKeep}
use Rattle.mls_fragments.specs.Holdings.{Holdings}

-- the files of a store that was closed, where they are clean, keep this; those of one that was not do if its connection
-- was open
abbrev pub KeepIn : {D : Type 0} → Ghosts D → (is_open is_closed : Bool) → Files D → Holdings → Type 0
KeepIn g is_open true now h = AreClean g now.log now.db → AreKept g now h
KeepIn g is_open false now h = MayKeep g is_open now h
