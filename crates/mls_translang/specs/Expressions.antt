-- What expressions give: every one gives something.
use Rattle.std.specs.Prelude.{ℕ, ◌-◌, Bool, false, not, ◌&&◌, ◌||◌, if◌then◌else◌, nat_lt, ℤ, ◌+ℤ◌, ◌-ℤ◌, ◌*ℤ◌, List}
use Rattle.std.specs.Prelude.{map, length, Option, Some, None, slice_index_or}
use Rattle.std.specs.Option.{option_eq}
use Rattle.std.specs.Ordering.{is_lt}
use Rattle.mls_scheme.specs.declared.value.Value.{Value}
use Rattle.mls_scheme.specs.declared.value.Value.TheVariants.{Int}
use Rattle.mls_scheme.specs.Value.{is_signed, value_cmp, value_eq}
use Rattle.mls_scheme.specs.declared.tuple.Tuple.{Tuple}
use Rattle.mls_scheme.specs.Tuple.{at, no_tuple}
use Rattle.mls_translang.specs.declared.operator.Operator.{Operator}
use Rattle.mls_translang.specs.declared.operator.Operator.TheVariants as operators
use Rattle.mls_translang.specs.Tree.{Expr, Known, Null, Var, Param, Field, No, Op}

-- a value or null, or a truth value
pub data Datum : Type 0 where
  Plain : (value : Option Value) → Datum
  Truth : (holds : Bool) → Datum

abbrev pub value_of : Datum → Option Value
value_of (Plain v) = v
value_of (Truth b) = None

abbrev pub is_true : Datum → Bool
is_true (Plain v) = false
is_true (Truth b) = b

-- ---- operators

-- a number, or null outside 64 signed bits
abbrev pub bounded : ℤ → Option Value
bounded n = if is_signed n then Some (Int n) else None

-- arithmetic with a null is null
abbrev pub calculate : (ℤ → ℤ → ℤ) → Option Value → Option Value → Option Value
calculate f (Some (Int a)) (Some (Int b)) = bounded (f a b)
calculate f _ _ = None

-- nulls are equal
abbrev pub same : Option Value → Option Value → Bool
same a b = option_eq value_eq a b

-- an order comparison with a null is false
abbrev pub less : Option Value → Option Value → Bool
less (Some a) (Some b) = is_lt (value_cmp a b)
less _ _ = false

abbrev pub at_most : Option Value → Option Value → Bool
at_most (Some a) (Some b) = not (is_lt (value_cmp b a))
at_most _ _ = false

abbrev pub apply : Operator → Datum → Datum → Datum
apply operators.Plus a b = Plain (calculate ◌+ℤ◌ (value_of a) (value_of b))
apply operators.Minus a b = Plain (calculate ◌-ℤ◌ (value_of a) (value_of b))
apply operators.Times a b = Plain (calculate ◌*ℤ◌ (value_of a) (value_of b))
apply operators.Equal a b = Truth (same (value_of a) (value_of b))
apply operators.Unequal a b = Truth (not (same (value_of a) (value_of b)))
apply operators.Less a b = Truth (less (value_of a) (value_of b))
apply operators.AtMost a b = Truth (at_most (value_of a) (value_of b))
apply operators.Greater a b = Truth (less (value_of b) (value_of a))
apply operators.AtLeast a b = Truth (at_most (value_of b) (value_of a))
apply operators.And a b = Truth (is_true a && is_true b)
apply operators.Or a b = Truth (is_true a || is_true b)

-- ---- expressions

-- an attribute of a row by number, the key first
abbrev pub cell_of : Tuple → ℕ → Option Value
cell_of t i = if nat_lt i (length t.key) then slice_index_or (map Some t.key) i None else
    (at t.elements (i - length t.key)).value

-- what expressions read: arguments, the rows of the loops around, the innermost first, and variables by number
pub record Environment : Type 0 where
  pub args : List (Option Value)
  pub rows : List Tuple
  pub vars : ℕ → Option Value

unfoldable pub eval : Environment → Expr → Datum
eval env (Known v) = Plain (Some v)
eval env Null = Plain None
eval env (Var i) = Plain (env.vars i)
eval env (Param i) = Plain (slice_index_or env.args i None)
eval env (Field d i) = Plain (cell_of (slice_index_or env.rows d no_tuple) i)
eval env (No e) = Truth (not (is_true (eval env e)))
eval env (Op op left right) = apply op (eval env left) (eval env right)

abbrev pub value_in : Environment → Expr → Option Value
value_in env e = value_of (eval env e)

abbrev pub holds_in : Environment → Expr → Bool
holds_in env e = is_true (eval env e)
