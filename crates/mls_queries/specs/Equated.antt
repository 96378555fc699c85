-- The values that a condition says attributes have.
use Rattle.std.specs.Prelude.{ℕ, Bool, false, ◌&&◌, if◌then◌else◌, nat_eq, Option, Some, None}
use Rattle.mls_scheme.specs.declared.value.Value.{Value}
use Rattle.mls_translang.specs.declared.operator.Operator.TheVariants.{And, Equal}
use Rattle.mls_translang.specs.Tree.{Expr, Known, Field, Op}

-- the first of the two that is a value
abbrev pub either : Option Value → Option Value → Option Value
either (Some v) w = Some v
either None w = w

-- attribute i of the row
abbrev pub is_field : ℕ → Expr → Bool
is_field i (Field d j) = nat_eq d 0 && nat_eq j i
is_field i _ = false

abbrev pub value_known : Expr → Option Value
value_known (Known v) = Some v
value_known _ = None

-- the value that attribute i is to be equal to, if these are the two
abbrev pub equated : ℕ → Expr → Expr → Option Value
equated i l r = if is_field i l then value_known r else None

-- the value that attribute i has in each row that passes, where the condition says one
abbrev pub demanded : ℕ → Expr → Option Value
demanded i (Op And l r) = either (demanded i l) (demanded i r)
demanded i (Op Equal l r) = either (equated i l r) (equated i r l)
demanded i _ = None
