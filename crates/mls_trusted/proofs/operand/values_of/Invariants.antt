use Rattle.std.proofs.Common.{◌≡◌, map, take}
use Rattle.mls_translang.specs.Expressions.{value_in}
use Rattle.mls_trusted.specs.Environment.{env_of}
use Rattle.mls_trusted.proofs.operand.values_of.Given as goal

abbrev pub invariant-loop-expr : goal.invariant-loop-expr
invariant-loop-expr l = l.values.items ≡ map (value_in (env_of l.env)) (take l.expr-index l.exprs)
