-- The loops over the rows of a document: a row that is refused, and the end.
use Rattle.std.proofs.Common.{◌≡◌, ℕ, ◌<◌, ◌≤◌, List, length, get_or, drop, Result, Ok, Err, refl, ◌∙◌}
use Rattle.std.proofs.lemmas.List.{at_drop_all}
use Rattle.toml.specs.declared.value.Value.{Value}
use Rattle.toml.specs.Data.{Data}
use Rattle.toml.specs.View.{view, items_view}
use Rattle.mls_lattice.specs.declared.fault.FieldFault.{FieldFault}
use Rattle.mls_lattice.specs.PolicyReading.{rows_at}
use Rattle.mls_lattice.proofs.ReadingLemmas.{here}

module _ {B : Type 0} (read : List B → Data → Result B FieldFault) (front : List B) (items : List Value) (i : ℕ) where
  pub rows_refused : (v : Value) (e : FieldFault) → i < length items → v ≡ get_or items i v → read front (view v)
      ≡ Err e → rows_at read front (items_view (drop i items)) ≡ Err e
  rows_refused v e within is bad = here items i v within is (rows_at read front) ∙ rw bad refl

  pub rows_over : length items ≤ i → rows_at read front (items_view (drop i items)) ≡ Ok front
  rows_over over = at_drop_all (λ vs. rows_at read front (items_view vs)) items i over
