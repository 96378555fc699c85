-- The categories of a number are the places at which it has a 1.
use Rattle.std.proofs.Common.{◌≡◌, ◌≢◌, not, ◌*◌, ◌%◌, ℕ, zero, suc, ◌<◌, ◌^◌, max, min, Bool, true, false, ◌&&◌, ◌||◌, ◌==◌, nat_eq, nat_lt, refl, sym, ap, ◌∙◌, inl, inr, arith, nat_cmp, w32, bit_or, bit_and, lt-ltb, le-ltb, ne_eqb, eq-eqb}
use Rattle.std.specs.Int.{bit_at}
use Rattle.std.specs.FinSet as set
use Rattle.std.specs.FinSet.{nat_cmp-IsAntisymmetric}
use Rattle.std.specs.Cmp.{unsigned_tied}
use Rattle.std.proofs.lemmas.Cmp.{nat_cmp_total}
use Rattle.std.proofs.Math.Nat.{one-mul, zero-mul, mod-eq_of_lt}
use Rattle.std.proofs.Math.Pow.{pow-lt, pow_pos}
use Rattle.std.proofs.lemmas.Bool.{cases_lt, cases_eq, cases_Bool, and_parts}
use Rattle.std.proofs.lemmas.Bool.Decides.{nat_tests}
use Rattle.std.proofs.lemmas.Nat.Bits.{bit_at_above, bit_at_and, bit_at_or, bit_at-lt, same_from_bits, bit_at_set_same, bit_at_set_other, and_pow}
use Rattle.mls_lattice.specs.Lattice.{cats_below, cats_of}

below_two_pow : (n : ℕ) → n < 2 ^ n
below_two_pow zero = omega arith
below_two_pow (suc n) = let h = below_two_pow n in omega arith

abbrev has : ℕ → ℕ → Bool
has n k = bit_at n k == 1

added : (n m k : ℕ) → has n m ≡ true → (nat_eq k m || (nat_lt k m && has n k)) ≡ (nat_lt k (suc m) && has n k)
added n m k h =
    elim (cases_eq k m) [
      | inl same ↦ rw (eq-eqb k m same, lt-ltb k (suc m) (omega arith), same, h) refl
      | inr other ↦ grind (arith, nat_tests)
    ]

skipped : (n m k : ℕ) → has n m ≡ false → (nat_lt k m && has n k) ≡ (nat_lt k (suc m) && has n k)
skipped n m k h =
    elim (cases_eq k m) [
      | inl same ↦ rw (le-ltb k m (omega arith), lt-ltb k (suc m) (omega arith), same, h) refl
      | inr other ↦ grind (arith, nat_tests)
    ]

contains-cats_below : (m n k : ℕ) → set.contains (cats_below m n) k ≡ (nat_lt k m && has n k)
unfolding cats_below
contains-cats_below zero n k = set.contains-empty nat_cmp k ∙ rw (le-ltb k 0 (omega arith)) refl
contains-cats_below (suc m) n k =
    elim (cases_Bool (has n m)) [
      | inl on ↦ rw on (set.contains-insert nat_cmp_total (cats_below m n) m k ∙ rw (
        unsigned_tied k m,
        contains-cats_below m n k,
      ) (added n m k on))
      | inr off ↦ rw off (contains-cats_below m n k ∙ skipped n m k off)
    ]

pub contains-cats_of : (n k : ℕ) → set.contains (cats_of n) k ≡ has n k
unfolding cats_of
contains-cats_of n k =
    elim (cases_lt k n) [
      | inl lt ↦ contains-cats_below n n k ∙ rw (lt-ltb k n lt) refl
      | inr le ↦ contains-cats_below n n k ∙ rw (le-ltb k n le, bit_at_above n n k (below_two_pow n) le) refl
    ]

or_bits : (x y : ℕ) → x < 2 → y < 2 → (max x y == 1) ≡ ((x == 1) || (y == 1))
or_bits x y a b = grind (arith, nat_tests)

and_bits : (x y : ℕ) → x < 2 → y < 2 → (min x y == 1) ≡ ((x == 1) && (y == 1))
and_bits x y a b = grind (arith, nat_tests)

pub cats_of-bit_or : (a b : ℕ) → cats_of (bit_or a b) ≡ set.union (cats_of a) (cats_of b)
cats_of-bit_or a b = set.same_set nat_cmp_total nat_cmp-IsAntisymmetric _ _ (λ k.
    contains-cats_of (bit_or a b) k ∙ ap (λ x. x == 1) (bit_at_or a b k) ∙ or_bits _ _ (bit_at-lt a k) (bit_at-lt b k)
    ∙ sym (set.contains-union nat_cmp_total (cats_of a) (cats_of b) k ∙ rw (
      contains-cats_of a k,
      contains-cats_of b k,
    ) refl))

pub cats_of-bit_and : (a b : ℕ) → cats_of (bit_and a b) ≡ set.intersection (cats_of a) (cats_of b)
cats_of-bit_and a b = set.same_set nat_cmp_total nat_cmp-IsAntisymmetric _ _ (λ k.
    contains-cats_of (bit_and a b) k ∙ ap (λ x. x == 1) (bit_at_and a b k) ∙ and_bits _ _ (bit_at-lt a k)
    (bit_at-lt b k)
    ∙ sym (set.contains-intersection nat_cmp_total (cats_of a) (cats_of b) k ∙ rw (
      contains-cats_of a k,
      contains-cats_of b k,
    ) refl))

-- numbers with the same categories are equal
pub same_from_cats : (a b : ℕ) → cats_of a ≡ cats_of b → a ≡ b
same_from_cats a b h = same_from_bits a b (λ k.
    let e : has a k ≡ has b k = sym (contains-cats_of a k) ∙ ap (λ s. set.contains s k) h ∙ contains-cats_of b k in
    let x = bit_at-lt a k in
    let y = bit_at-lt b k in
    grind (arith, nat_tests))

-- a & b is a exactly where each category of a is one of b
pub within_by_and : (a b : ℕ) → bit_and a b ≡ a → (k : ℕ) → set.contains (cats_of a) k ≡ true
    → set.contains (cats_of b) k ≡ true
within_by_and a b h k in_a =
    let e : set.contains (cats_of a) k ≡ (set.contains (cats_of a) k && set.contains (cats_of b) k) =
    ap (λ s. set.contains s k) (ap cats_of (sym h) ∙ cats_of-bit_and a b) ∙ set.contains-intersection nat_cmp_total
    (cats_of a) (cats_of b) k in
    (and_parts _ _ (sym e ∙ in_a)).1

both : (x y : Bool) → (x ≡ true → y ≡ true) → (x && y) ≡ x
both true y h = h refl
both false y h = refl

pub and_by_within : (a b : ℕ) → ((k : ℕ) → set.contains (cats_of a) k ≡ true → set.contains (cats_of b) k ≡ true)
    → bit_and a b ≡ a
and_by_within a b h = same_from_cats (bit_and a b) a (cats_of-bit_and a b
    ∙ set.same_set nat_cmp_total nat_cmp-IsAntisymmetric _ _ (λ k. set.contains-intersection nat_cmp_total (cats_of a)
    (cats_of b) k ∙ both _ _ (h k)))

-- ---- one category

one_other : (n k i : ℕ) → k < 32 → i ≢ k → has (bit_or n (1 * 2 ^ k % 2 ^ 32)) i ≡ has n i
one_other n k i within other = ap (λ x. x == 1) (bit_at_set_other w32 n k within i other)

one_same : (n k : ℕ) → k < 32 → has (bit_or n (1 * 2 ^ k % 2 ^ 32)) k ≡ true
one_same n k within = ap (λ x. x == 1) (bit_at_set_same w32 n k within)

pub cats_of-with : (n k : ℕ) → k < 32 → cats_of (bit_or n (1 * 2 ^ k % 2 ^ 32)) ≡ set.insert (cats_of n) k
cats_of-with n k within = set.same_set nat_cmp_total nat_cmp-IsAntisymmetric _ _ (λ i.
    contains-cats_of (bit_or n (1 * 2 ^ k % 2 ^ 32)) i
    ∙ elim (cases_eq i k) [
      | inl same ↦ rw same (one_same n k within ∙ sym (set.contains-insert nat_cmp_total (cats_of n) k k
          ∙ rw (unsigned_tied k k, eq-eqb k k refl) refl))
      | inr other ↦ one_other n k i within other ∙ sym (set.contains-insert nat_cmp_total (cats_of n) k i
          ∙ rw (unsigned_tied i k, ne_eqb i k other) (contains-cats_of n i))
    ])

shifted : (k : ℕ) → k < 32 → 1 * 2 ^ k % 2 ^ 32 ≡ 2 ^ k
shifted k h = let small : 2 ^ k < 2 ^ 32 = pow-lt h in ap (λ x. x % 2 ^ 32) (one-mul (2 ^ k)) ∙ mod-eq_of_lt small

bit_test : (b m : ℕ) → b < 2 → 0 < m → (b == 1) ≡ not (b * m == 0)
bit_test zero m two some = rw (zero-mul m) refl
bit_test (suc zero) m two some = rw (one-mul m, ne_eqb m 0 (λ e. omega arith)) refl
bit_test (suc (suc b)) m two some = absurd (omega arith)

pub has-mask : (n k : ℕ) → k < 32 → not (bit_and n (1 * 2 ^ k % 2 ^ 32) == 0) ≡ set.contains (cats_of n) k
has-mask n k within =
    let some : 0 < 2 ^ k = pow_pos k in
    sym (contains-cats_of n k ∙ bit_test (bit_at n k) (2 ^ k) (bit_at-lt n k) some ∙ ap (λ x. not (x == 0))
    (sym (ap (bit_and n) (shifted k within) ∙ and_pow n k)))

pub ruleset with_one = (cats_of-with)

pub cats_of-none : cats_of 0 ≡ set.empty
unfolding cats_of cats_below
cats_of-none = refl
