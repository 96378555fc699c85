-- What some expressions give.
use Rattle.std.proofs.Common.{◌≡◌, ◌-◌, ◌^◌, true, false, Some, None, pos, negsuc, refl}
use Rattle.mls_scheme.specs.declared.value.Value.TheVariants.{Int}
use Rattle.mls_scheme.specs.Value.{is_signed}
use Rattle.mls_translang.specs.declared.operator.Operator.TheVariants as operators
use Rattle.mls_translang.specs.Tree.{Expr, Known, Null, No, Op}
use Rattle.mls_translang.specs.Expressions.{Plain, Truth, Environment, eval}

abbrev one : Expr
one = Known (Int (pos 1))

abbrev greatest : Expr
greatest = Known (Int (pos (2 ^ 63 - 1)))

abbrev least : Expr
least = Known (Int (negsuc (2 ^ 63 - 1)))

module _ (env : Environment) where
  two : eval env (Op operators.Plus one one) ≡ Plain (Some (Int (pos 2)))
  unfolding eval is_signed
  two = refl

  too_great : eval env (Op operators.Plus greatest one) ≡ Plain None
  unfolding eval is_signed
  too_great = refl

  too_little : eval env (Op operators.Minus least one) ≡ Plain None
  unfolding eval is_signed
  too_little = refl

  no_opposite : eval env (Op operators.Times least (Known (Int (negsuc 0)))) ≡ Plain None
  unfolding eval is_signed
  no_opposite = refl

  of_null : eval env (Op operators.Plus one Null) ≡ Plain None
  unfolding eval
  of_null = refl

  nulls_are_equal : eval env (Op operators.Equal Null Null) ≡ Truth true
  unfolding eval
  nulls_are_equal = refl

  null_differs : eval env (Op operators.Unequal Null one) ≡ Truth true
  unfolding eval
  null_differs = refl

  not_in_order : eval env (Op operators.AtMost Null Null) ≡ Truth false
  unfolding eval
  not_in_order = refl

  nor_less : eval env (No (Op operators.Less one Null)) ≡ Truth true
  unfolding eval
  nor_less = refl
