-- An expression is larger than its operands.
use Rattle.std.specs.Prelude.{◌≤◌, max}
use Rattle.std.proofs.Common.{arith}
use Rattle.mls_translang.specs.ExprCode.{expr_size}
use Rattle.mls_translang.specs.Exprs.{expr_of}
use Rattle.mls_translang.specs.declared.expr.Term.{Term}
use Rattle.mls_translang.specs.declared.expr.Term.TheVariants as term
use Rattle.mls_translang.specs.declared.expr.Expr.TheDeep.{deep-Term}

pub falls : (t : Term) → max (deep-Term t) 0 ≤ expr_size (expr_of t)
falls (term.Known v) = omega arith
falls _ = omega arith
