use Rattle.std.proofs.Common.{◌≡◌, Bool, true, cond, ℤ, ◌≤ℤ◌, Option, None, Some, refl, sym, ◌∙◌, subst, arith, w64, FitsSigned, rules}
use Rattle.std.proofs.lemmas.Int.{ints}
use Rattle.mls_scheme.specs.declared.value.Value.{Value}
use Rattle.mls_scheme.specs.declared.value.Value.TheVariants.{Int, Text}
use Rattle.mls_scheme.specs.Value.{is_signed}
use Rattle.mls_scheme.proofs.KindLemmas.{signed-from}
use Rattle.mls_translang.specs.declared.operator.Operator.{Operator}
use Rattle.mls_translang.specs.Expressions.{Datum, value_of, calculate, apply}
use Rattle.mls_labeller.specs.declared.bounds.Bounds.{Bounds}
use Rattle.mls_labeller.specs.declared.range.Range.{Range}
use Rattle.mls_labeller.specs.Ranges.{Within, IsBetween, Admits, arithmetic, IsArithmetic}
use Rattle.mls_labeller.proofs.range.Range.apply.Goals.{then-self, else-self}
use Rattle.mls_labeller.proofs.range.Range.apply.Goals as goal

fits_between : (low n high : ℤ) → FitsSigned w64 low → FitsSigned w64 high → low ≤ℤ n → n ≤ℤ high → FitsSigned w64 n
fits_between low n high f g h k = omega (arith, ints)

module _ (op : Operator) (is : IsArithmetic op) (r q : Range) (left right b : Bounds) (null : Bool)
    (low : FitsSigned w64 b.low) (high : FitsSigned w64 b.high)
    (is_left : r.bounds ≡ Some left) (is_right : q.bounds ≡ Some right) (inside : (m n : ℤ) → Within left m
    → Within right n → Within b (arithmetic op m n))
    (null_left : r.null ≡ true → null ≡ true) (null_right : q.null ≡ true → null ≡ true) where
  abbrev given : Range
  given = record { null = null; listed = None; bounds = Some b }

  within_holds : (n : ℤ) → Within b n → Admits given (cond (is_signed n) (Some (Int n)) None)
  within_holds n h = subst (λ t. Admits given (cond t (Some (Int n)) None))
      (sym (signed-from n (fits_between b.low n b.high low high h.0 h.1))) (tt, h)

  in_left : (v : Value) → Admits r (Some v) → IsBetween (Some left) v
  in_left v h = subst (λ o. IsBetween o v) is_left h.1

  in_right : (v : Value) → Admits q (Some v) → IsBetween (Some right) v
  in_right v h = subst (λ o. IsBetween o v) is_right h.1

  calculated_holds : (x y : Option Value) → Admits r x → Admits q y → Admits given (calculate (arithmetic op) x y)
  calculated_holds None y h k = null_left h
  calculated_holds (Some (Text s)) y h k = absurd (in_left (Text s) h)
  calculated_holds (Some (Int m)) None h k = null_right k
  calculated_holds (Some (Int m)) (Some (Text s)) h k = absurd (in_right (Text s) k)
  calculated_holds (Some (Int m)) (Some (Int n)) h k = within_holds (arithmetic op m n) (inside m n (in_left (Int m) h)
      (in_right (Int n) k))

  applied_holds : (x y : Datum) → Admits r (value_of x) → Admits q (value_of y) → Admits given (value_of (apply op x y))
  applied_holds x y h k = subst (Admits given) (sym (is x y)) (calculated_holds (value_of x) (value_of y) h k)

pub returns-after-self : goal.returns-after-self
returns-after-self c =
    let r = c.args.self.now in
    let q = c.args.other.now in
    let low : FitsSigned w64 c.in-Some.bounds.low = search rules in
    let high : FitsSigned w64 c.in-Some.bounds.high = search rules in
    let left : r.null ≡ true → c.if-self.result ≡ true = elim c.if-self.branch [
      | then-self w ↦ λ e. w.result-is
          ∙ e
      | else-self w ↦ λ e. absurd cc
    ] in
    let right : q.null ≡ true → c.if-self.result ≡ true = elim c.if-self.branch [
      | then-self w ↦ λ e. w.result-is
          ∙ w.if-self.true
      | else-self w ↦ λ e. w.result-is ∙ e
    ] in
    applied_holds c.args.operator (c.in-Some.ensures.arithmetic refl) r q c.in-Some-Some.left c.in-Some-Some.right c.in-Some.bounds c.if-self.result low high c.in-Some-Some.is-0 c.in-Some-Some.is-1 c.in-Some.ensures.within left right
