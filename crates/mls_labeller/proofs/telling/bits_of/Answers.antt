use Rattle.std.proofs.Common.{◌≡◌, ◌-◌, ◌<◌, ◌^◌, ◌∙◌, arith, rules}
use Rattle.std.specs.Int.{leading_zeros, w64}
use Rattle.std.proofs.lemmas.Nat.{leading_length}
use Rattle.mls_labeller.proofs.BitsLemmas.{has_bits}
use Rattle.mls_labeller.proofs.telling.bits_of.Goals as goal

pub returns : goal.returns
returns c =
    let before = c.args.count - 1 in
    let fits : c.args.count < 2 ^ 64 = search rules in
    let (long, all, below, above) = leading_length 64 before (omega (arith, fits)) in
    let is : c.saturating_sub-2.result ≡ 64 - leading_zeros w64 before = search rules in
    has_bits c.args.count (leading_zeros w64 before) long c.saturating_sub-2.result all below above
    (is ∙ omega (arith, all))
