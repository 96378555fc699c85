-- What fits a scheme: numbers, kinds and intervals.
use Rattle.std.specs.Prelude.{◌≡◌, ℕ, Bool, true, ◌&&◌, List, Option}
use Rattle.std.specs.List.{AllZip}
use Rattle.mls_lattice.specs.Labels.{Labels, below}
use Rattle.mls_scheme.specs.declared.value.Value.{Value}
use Rattle.mls_scheme.specs.declared.tuple.Element.{Element}
use Rattle.mls_scheme.specs.Value.{is_kind, fits_kind}
use Rattle.mls_scheme.specs.declared.place.Place.{Place}
use Rattle.mls_scheme.specs.declared.attributes.Column.{Column}
use Rattle.mls_scheme.specs.Scheme.{Attribute, Scheme}

-- whether a class lies in the interval of what is kept of an attribute
abbrev pub in_column : Labels → ℕ → Column → Bool
in_column ls class c = below ls c.low class && below ls class c.high

-- whether it lies in an attribute's interval
abbrev pub in_interval : Labels → ℕ → Attribute → Bool
in_interval ls class a = in_column ls class a.1

-- values or nulls have the number and the kinds of attributes
abbrev pub HaveKinds : List Attribute → List (Option Value) → Type 0
HaveKinds = AllZip (λ a v. fits_kind v a.1.kind ≡ true)

-- a tuple has the numbers and kinds of its scheme, and its classes lie in their intervals
pub record Fits (ls : Labels) (scheme : Scheme) (p : Place) (es : List Element) : Type 0 where
  pub key : AllZip (λ a v. (is_kind v a.1.kind ≡ true) × (in_interval ls p.key_class a ≡ true)) scheme.keys p.key
  pub others : AllZip (λ a e. (fits_kind e.value a.1.kind ≡ true) × (in_interval ls e.class a ≡ true)) scheme.others es
