-- How a loop over items goes on.
use Rattle.std.proofs.Common.{◌≡◌, ℕ, ◌+◌, ◌<◌, List, [], ◌∷◌, ◌++◌, length, get_or, drop, Result, Ok, Err, refl, sym, ◌∙◌}
use Rattle.toml.specs.declared.value.Value.{Value}
use Rattle.toml.specs.Data.{Data}
use Rattle.toml.specs.View.{view, items_view}
use Rattle.mls_lattice.proofs.ReadingLemmas.{here}
use Rattle.mls_scheme.specs.declared.fault.FileFault.{FileFault}
use Rattle.mls_scheme.specs.Reading.{gather}

module _ {A : Type 0} (step : List A → Data → Result A FileFault) (items : List Value) (i : ℕ) (v : Value) (within : i
    < length items) (is : v ≡ get_or items i v) (before : List A) where
  pub gather-refused : (e : FileFault) → step before (view v) ≡ Err e → gather step before (items_view (drop i items))
      ≡ Err e
  gather-refused e read = here items i v within is (gather step before) ∙ rw read refl

  pub gather-more : (a : A) → step before (view v) ≡ Ok a → gather step (before ++ a ∷ [])
      (items_view (drop (i + 1) items)) ≡ gather step before (items_view (drop i items))
  gather-more a read = sym (here items i v within is (gather step before) ∙ rw read refl)

pub ruleset gather_steps = (gather-refused, gather-more)
