-- Intervals of attributes.
use Rattle.std.proofs.Common.{◌≡◌, ℕ, zero, suc, true, false, ◌&&◌, List, [], ◌∷◌, Some, sym, ap, ◌∙◌, subst, arith, drop, length, ◌+◌, ◌<◌, slice_get, slice_index_or, option_map}
use Rattle.std.specs.List.{list_all, AllByRecursion}
use Rattle.std.proofs.lemmas.Option.{same_Some, none-some}
use Rattle.mls_lattice.specs.Labels.{Labels}
use Rattle.mls_scheme.specs.declared.attributes.Column.{Column}
use Rattle.mls_scheme.specs.Scheme.{Attribute, column_of, no_attribute, IsAmongLabels}
use Rattle.mls_scheme.specs.Fits.{in_interval, in_column}

module _ (ls : Labels) (class : ℕ) where
  -- the intervals from the i-th on
  step : (attributes : List Attribute) (i : ℕ) (c : Column) → option_map column_of (slice_get attributes i) ≡ Some c
      → list_all (in_interval ls class) (drop i attributes) ≡ (in_column ls class c && list_all (in_interval ls class)
      (drop (suc i) attributes))
  step [] zero c h = absurd (none-some c h)
  step [] (suc i) c h = absurd (none-some c h)
  step (a ∷ attributes) zero c h = ap (λ k. in_column ls class k && list_all (in_interval ls class) attributes)
      (same_Some (column_of a) c h)
  step (a ∷ attributes) (suc i) c h = step attributes i c h

  -- the class lies outside one of them, or what is left decides
  pub one_out : (attributes : List Attribute) (i : ℕ) (c : Column) → option_map column_of (slice_get attributes i)
      ≡ Some c → in_column ls class c ≡ false
      → list_all (in_interval ls class) (drop i attributes) ≡ list_all (in_interval ls class) attributes
      → false ≡ list_all (in_interval ls class) attributes
  one_out attributes i c h out all = sym (ap (λ b. b && list_all (in_interval ls class) (drop (suc i) attributes)) out)
      ∙ sym (step attributes i c h) ∙ all

  pub one_in : (attributes : List Attribute) (i : ℕ) (c : Column) → option_map column_of (slice_get attributes i)
      ≡ Some c → in_column ls class c ≡ true
      → list_all (in_interval ls class) (drop i attributes) ≡ list_all (in_interval ls class) attributes
      → list_all (in_interval ls class) (drop (i + 1) attributes) ≡ list_all (in_interval ls class) attributes
  one_in attributes i c h in' all =
      let n : i + 1 ≡ suc i = omega arith in
      ap (λ k. list_all (in_interval ls class) (drop k attributes)) n
      ∙ sym (ap (λ b. b && list_all (in_interval ls class) (drop (suc i) attributes)) in') ∙ sym (step attributes i c h)
      ∙ all

-- what is kept of the attribute at a place
pub column_at : (attributes : List Attribute) (i : ℕ) (c : Column) → option_map column_of (slice_get attributes i)
    ≡ Some c → i < length attributes → column_of (slice_index_or attributes i no_attribute) ≡ c
column_at [] i c h l = absurd (omega arith)
column_at (a ∷ attributes) zero c h l = same_Some (column_of a) c h
column_at (a ∷ attributes) (suc i) c h l = column_at attributes i c h (omega arith)

pub column_among : (count : ℕ) (attributes : List Attribute) → AllByRecursion (IsAmongLabels count) attributes
    → (i : ℕ) (c : Column) → option_map column_of (slice_get attributes i) ≡ Some c → (c.low < count) × (c.high < count)
column_among count [] all zero c h = absurd (none-some c h)
column_among count [] all (suc i) c h = absurd (none-some c h)
column_among count (a ∷ attributes) all zero c h = let same = same_Some (column_of a) c h
    in (subst (λ k. k.low < count) same all.0.low, subst (λ k. k.high < count) same all.0.high)
column_among count (a ∷ attributes) all (suc i) c h = column_among count attributes all.1 i c h
