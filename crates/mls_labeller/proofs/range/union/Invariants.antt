use Rattle.std.proofs.Common.{take, All, Contains}
use Rattle.mls_scheme.specs.declared.value.Value.{Value}
use Rattle.mls_labeller.proofs.range.union.Given as goal

abbrev pub invariant-loop-value : goal.invariant-loop-value
invariant-loop-value l = record {
  these : (v : Value) → Contains l.fn.values v → Contains l.all.items v;
  those : All (Contains l.all.items) (take l.value-index l.others);
}
