-- Labels as bits of a number.
use Rattle.std.proofs.Common.{◌≡◌, ℕ, ◌*◌, ◌%◌, ◌^◌, ◌<◌, ◌≤◌, Bool, true, false, ◌||◌, List, [], ◌∷◌, length, get_or, zero, suc, refl, sym, ap, ◌∙◌, arith, nat_eq, bit_or, w64, true≢false, eqb-true, eq-eqb}
use Rattle.std.specs.List.{list_any, AllByRecursion}
use Rattle.std.proofs.lemmas.Bool.{false_from_ne_true}
use Rattle.std.proofs.lemmas.Nat.Bits.{bit_at_set_same, bit_at_set_other, bit_at_above}
use Rattle.mls_tables.specs.Rows.{has_bit}

or_true : (b : Bool) → (b || true) ≡ true
or_true true = refl
or_true false = refl

or_false : (b : Bool) → (b || false) ≡ b
or_false true = refl
or_false false = refl

-- one bit more
pub one_bit : (bits l : ℕ) → l < 64 → (m : ℕ) → has_bit (bit_or bits (1 * 2 ^ l % 2 ^ 64)) m
    ≡ (has_bit bits m || nat_eq m l)
one_bit bits l within m =
    elim (nat_eq m l) as (λ b. nat_eq m l ≡ b → has_bit (bit_or bits (1 * 2 ^ l % 2 ^ 64)) m ≡ (has_bit bits m || b)) [
      | true ↦ λ t. ap (has_bit (bit_or bits (1 * 2 ^ l % 2 ^ 64))) (eqb-true m l t) ∙ ap (λ b. nat_eq b 1)
          (bit_at_set_same w64 bits l within) ∙ sym (or_true (has_bit bits m))
      | false ↦ λ f.
          ap (λ b. nat_eq b 1) (bit_at_set_other w64 bits l within m (λ e. true≢false (sym (eq-eqb m l e) ∙ f)))
          ∙ sym (or_false (has_bit bits m))
    ] refl

-- no label is this high
none_high : (m : ℕ) → 64 ≤ m → (ls : List ℕ) → AllByRecursion (λ l. l < 64) ls → list_any (λ k. nat_eq m k) ls ≡ false
none_high m high [] all = refl
none_high m high (l ∷ ls) all =
    ap (λ b. b || list_any (λ k. nat_eq m k) ls) (false_from_ne_true (nat_eq m l) (λ t. let e = eqb-true m l t
    in let few = all.0 in absurd (omega (arith, e, few, high))))
    ∙ none_high m high ls all.1

pub high_bit : (bits m : ℕ) → bits < 2 ^ 64 → 64 ≤ m → (ls : List ℕ) → AllByRecursion (λ l. l < 64) ls → has_bit bits m
    ≡ list_any (λ k. nat_eq m k) ls
high_bit bits m fits high ls all = ap (λ b. nat_eq b 1) (bit_at_above bits 64 m fits high)
    ∙ sym (none_high m high ls all)

pub label_small : (ls : List ℕ) (i d : ℕ) → AllByRecursion (λ l. l < 64) ls → i < length ls → get_or ls i d < 64
label_small [] i d all l = absurd (omega (arith, l))
label_small (x ∷ xs) zero d all l = all.0
label_small (x ∷ xs) (suc i) d all l = label_small xs i d all.1 (omega (arith, l))
