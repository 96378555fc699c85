-- Arithmetic of data.
use Rattle.std.proofs.Common.{◌≡◌, true, false, cond, ℤ, Option, None, Some, refl, sym, ap, ◌∙◌, FitsSigned, w64, SomeIff}
use Rattle.mls_scheme.specs.declared.value.Value.{Value}
use Rattle.mls_scheme.specs.declared.value.Value.TheVariants.{Int}
use Rattle.mls_scheme.specs.Value.{is_signed}
use Rattle.mls_scheme.proofs.KindLemmas.{signed-from, signed-true}
use Rattle.mls_translang.specs.Expressions.{Plain, bounded, calculate}
use Rattle.mls_queries.specs.Data.{of_number, number_of}

not_signed : (n : ℤ) → (FitsSigned w64 n → ⊥) → is_signed n ≡ false
not_signed n h = elim (is_signed n) as (λ b. is_signed n ≡ b → b ≡ false) [
  | true ↦ λ e. absurd
      (h (signed-true n e))
  | false ↦ λ e. refl
] refl

of_bounded : (r : Option ℤ) (n : ℤ) → SomeIff r (FitsSigned w64 n) n → of_number r ≡ Plain (bounded n)
of_bounded None n h = ap (λ b. Plain (cond b (Some (Int n)) None)) (sym (not_signed n h))
of_bounded (Some m) n h = ap (λ k. Plain (Some (Int k))) h.1 ∙ ap (λ b. Plain (cond b (Some (Int n)) None))
    (sym (signed-from n h.0))

module _ (f : ℤ → ℤ → ℤ) where
  pub of_numbers : (v w : Option Value) (a b : ℤ) (r : Option ℤ) → Some a ≡ number_of v → Some b ≡ number_of w
      → SomeIff r (FitsSigned w64 (f a b)) (f a b) → of_number r ≡ Plain (calculate f v w)
  of_numbers (Some (Int n)) (Some (Int m)) a b r p q h =
      let x : a ≡ n = cc in
      let y : b ≡ m = cc in
      of_bounded r (f a b) h ∙ (λ i. Plain (bounded (f (x i) (y i))))
  of_numbers _ _ a b r p q h = absurd cc
