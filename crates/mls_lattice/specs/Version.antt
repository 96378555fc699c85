-- Versions of a file, and the later of two.
use Rattle.std.specs.Prelude.{ℕ, List, codes}
use Rattle.mls_lattice.specs.declared.version.Version.{Version}
use Rattle.mls_lattice.specs.declared.version.Version.TheVariants.{One, Two}

abbrev pub version_number : Version → ℕ
version_number One = 1
version_number Two = 2

abbrev pub version_text : Version → List ℕ
version_text One = codes "1"
version_text Two = codes "2"

abbrev pub later : Version → Version → Version
later One v = v
later Two v = Two
