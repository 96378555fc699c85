-- A term as a tree.
use Rattle.mls_translang.specs.Tree.{Expr as Tree, Known, Null, Var, Param, Field, No, Op}
use Rattle.mls_translang.specs.declared.expr.Term.{Term}
use Rattle.mls_translang.specs.declared.expr.Term.TheVariants as term

abbrev pub expr_of : Term → Tree
expr_of (term.Known v) = Known v
expr_of term.Null = Null
expr_of (term.Variable i) = Var i
expr_of (term.Parameter i) = Param i
expr_of (term.Field d i) = Field d i
expr_of (term.Not e) = No e.value
expr_of (term.Op op left right) = Op op left.value right.value
