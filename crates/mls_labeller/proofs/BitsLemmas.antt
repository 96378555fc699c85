-- How many bits a number of values is.
use Rattle.std.proofs.Common.{◌≡◌, ℕ, ◌+◌, ◌-◌, ◌*◌, ◌<◌, ◌≤◌, ◌^◌, arith, subst, ap, inl, inr}
use Rattle.std.proofs.lemmas.Bool.{cases_lt, cases_order}
use Rattle.std.proofs.lemmas.Nat.{pow_pos, pow-add, pow_below}
use Rattle.mls_labeller.specs.Bits.{HasBits}

-- a higher power of two is at least twice as much
half : (n m : ℕ) → n < m → 2 ^ n * 2 ≤ 2 ^ m
half n m less =
    let next : 2 ^ (n + 1) ≡ 2 ^ n * 2 = pow-add 2 n 1 in
    elim (cases_order (n + 1) m) [
      | inl same ↦ omega (arith, next, ap (λ k. 2 ^ k) same)
      | inr (inl below) ↦ omega (arith, next, pow_below (n + 1) m below)
      | inr (inr above) ↦ absurd (omega (arith, less, above))
    ]

-- what is left of 64 bits behind the zeros that the number before begins with
pub has_bits : (count front long bits : ℕ) → front + long ≡ 64 → count - 1 < 2 ^ long
    → 2 ^ long ≤ 2 * (count - 1) + 1 → bits ≡ long → HasBits count bits
has_bits count front long bits all below above is = record {
  enough = omega (arith, below, ap (λ k. 2 ^ k) is);
  least = λ n h. elim (cases_lt n long) [
    | inl less ↦ absurd (omega (arith, half n long less, pow_pos n, above, h))
    | inr more ↦ omega (arith, is, more)
  ];
}
