use Rattle.std.proofs.Common.{◌≡◌, ◌+◌, ◌-ℤ◌, rules, arith}
use Rattle.std.specs.Prelude.{unsigned_abs}
use Rattle.mls_labeller.proofs.ValueLemmas.{from_on, long_from, integers}
use Rattle.mls_labeller.proofs.bounds.Bounds.count.Goals as goal

pub returns : goal.returns
returns c few =
    let count = c.saturating_add.result in
    let apart : c.abs_diff.result ≡ unsigned_abs (c.args.self.high -ℤ c.args.self.low) = search rules in
    let is : count ≡ unsigned_abs (c.args.self.high -ℤ c.args.self.low) + 1 = omega (
      arith,
      few,
      apart,
      c.saturating_add.ensures,
    ) in
    let long = long_from count c.args.self.low in
    (from_on count c.args.self.low, omega (arith, long), integers c.args.self count is)
