use Rattle.std.proofs.Common.{◌≡◌, ◌+◌, ◌≤◌, ℕ, List, length, map, ◌++◌, Option, Some, subst, rules, arith}
use Rattle.std.specs.Int.{from_bool}
use Rattle.std.specs.Prelude.{Contains}
use Rattle.mls_scheme.specs.declared.value.Value.{Value}
use Rattle.mls_scheme.specs.declared.value.Value.TheVariants.{Int}
use Rattle.mls_labeller.specs.declared.range.Range.{Range}
use Rattle.mls_labeller.specs.Ranges.{Admits, IsAmong, IsBetween, HasValues}
use Rattle.mls_labeller.proofs.CountLemmas.{has_map, long_map, long_append}
use Rattle.mls_labeller.proofs.ValueLemmas.{nulls, long_nulls, values_and_null, integers_listed}
use Rattle.mls_labeller.proofs.range.Range.count.Goals as goal
use Rattle.mls_labeller.proofs.range.Range.count.Goals.{in-Some-default, in-None-Some, in-None-None}

-- so many values, and null
counted : (r : Range) (values : List (Option Value)) (count : ℕ) → ((x : Value) → Admits r (Some x)
    → Contains values (Some x)) → length values + from_bool r.null ≤ count
    → (all : List (Option Value)) × (length all ≤ count) × HasValues r all
counted r values count has few =
    let long = long_append values (nulls r.null) in
    let null = long_nulls r.null in
    (values ++ nulls r.null, omega (arith, long, null, few), values_and_null r values has)

pub returns : goal.returns
returns c few = elim c.match-self.branch [
  | in-Some-default w ↦
      let r = c.args.self.now in
      let vs = w.in-Some-default.values in
      let is : r.listed ≡ Some vs = search rules in
      let long = long_map (λ x. Some x) vs in
      counted r (map (λ x. Some x) vs) c.saturating_add.result (λ x admits. has_map (λ x. Some x) vs x
      (subst (λ l. IsAmong l x) is admits.0))
      (omega (arith, few, long, w.len.ensures, w.values-is, c.from.ensures, c.saturating_add.ensures))
  | in-None-Some w ↦
      let r = c.args.self.now in
      let b = w.in-None-Some.bounds in
      let is : r.bounds ≡ Some b = search rules in
      let ns = w.count-values.ensures (omega (arith, few, w.values-is, c.saturating_add.ensures)) in
      let long = long_map (λ n. Some (Int n)) ns.0 in
      counted r (map (λ n. Some (Int n)) ns.0) c.saturating_add.result (λ x admits. integers_listed b ns.0 ns.2 x
      (subst (λ o. IsBetween o x) is admits.1))
      (omega (arith, few, long, ns.1, w.values-is, c.from.ensures, c.saturating_add.ensures))
  | in-None-None w ↦ absurd (omega (arith, few, w.values-is, c.saturating_add.ensures))
]
