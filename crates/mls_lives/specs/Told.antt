-- How much the bits bound that are told of what a transaction releases.
use Rattle.std.specs.Prelude.{ℕ, ◌<◌, ◌^◌}
use Rattle.mls_lattice.specs.Policy.{Policy}
use Rattle.mls_scheme.specs.Scheme.{Schemes}
use Rattle.mls_translang.specs.Tx.{Tx}
use Rattle.mls_translang.specs.Fits.{IsReadUnder}
use Rattle.mls_certcheck.specs.Secure.{Secure}
use Rattle.mls_labeller.specs.declared.told.Releases.{Releases}
use Rattle.mls_labeller.specs.Bits.{AreReleases, HasBits}
use Rattle.mls_labeller.specs.Releases.{TellsAtMost, uncounted}

-- by one call c tells apart at most as many classes of worlds as so many bits do, as are told of all releases together
abbrev pub BitsBoundCalls : Type 0
BitsBoundCalls =
    (policy : Policy) (tx : Tx) → Secure policy tx → (releases : Releases) → AreReleases tx releases
    → releases.lists < uncounted → (bits : ℕ) → HasBits releases.lists bits
    → (schemes : Schemes) → IsReadUnder policy schemes tx → (c : ℕ) → TellsAtMost policy schemes tx c (2 ^ bits)
