use Rattle.std.proofs.Common.{◌≡◌, ◌++◌, map, take}
use Rattle.mls_parser.specs.ReadCondition.{attribute_var}
use Rattle.mls_parser.proofs.read_condition.push_vars.Given as goal

abbrev pub invariant-loop-place : goal.invariant-loop-place
invariant-loop-place l = l.vars ≡ l.fn.vars ++ map attribute_var (take l.place l.attributes)
