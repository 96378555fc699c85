-- What expressions give, as far as names are known.
use Rattle.std.specs.Prelude.{ℕ, Bool, true, false, ◌&&◌, ◌||◌, Option, Some, None}
use Rattle.mls_scheme.specs.declared.value.Kind.{Kind}
use Rattle.mls_scheme.specs.declared.value.Kind.TheVariants.{Int, Text}
use Rattle.mls_scheme.specs.Scheme.{Scheme}
use Rattle.mls_translang.specs.declared.operator.Operator.{Operator}
use Rattle.mls_translang.specs.declared.operator.Operator.TheVariants.{Plus, Minus, Times, And, Or}
use Rattle.mls_translang.specs.Scope.{kind_of_var, kind_of_param}
use Rattle.mls_translang.specs.Kinds.{field_of}
use Rattle.mls_translang.specs.Tokens.{Context}
use Rattle.mls_parser.specs.declared.names.Referent.{Referent}
use Rattle.mls_parser.specs.declared.names.Referent.TheVariants.{Variable, Parameter}
use Rattle.mls_parser.specs.declared.inferred.Inferred.{Inferred}
use Rattle.mls_parser.specs.declared.inferred.Inferred.TheVariants as inferred

-- ---- what may stand where

abbrev pub same_kind : Kind → Kind → Bool
same_kind Int Int = true
same_kind Text Text = true
same_kind _ _ = false

-- null is of each kind, and what hangs on an unknown name may be anything
abbrev pub may_be : Inferred → Kind → Bool
may_be (inferred.Value j) k = same_kind j k
may_be inferred.Truth k = false
may_be inferred.Null k = true
may_be inferred.Unknown k = true

abbrev pub may_be_truth : Inferred → Bool
may_be_truth (inferred.Value j) = false
may_be_truth inferred.Truth = true
may_be_truth inferred.Null = false
may_be_truth inferred.Unknown = true

abbrev pub may_be_value : Inferred → Bool
may_be_value inferred.Truth = false
may_be_value _ = true

-- ---- operators

abbrev pub both : Kind → Inferred → Inferred → Bool
both k left right = may_be left k && may_be right k

abbrev pub operands_fit : Operator → Inferred → Inferred → Bool
operands_fit Plus left right = both Int left right
operands_fit Minus left right = both Int left right
operands_fit Times left right = both Int left right
operands_fit And left right = may_be_truth left && may_be_truth right
operands_fit Or left right = may_be_truth left && may_be_truth right
operands_fit _ left right = both Int left right || both Text left right

-- whatever its operands are
abbrev pub given_by_operator : Operator → Inferred
given_by_operator Plus = inferred.Value Int
given_by_operator Minus = inferred.Value Int
given_by_operator Times = inferred.Value Int
given_by_operator _ = inferred.Truth

-- ---- expressions

abbrev pub of_kind : Option Kind → Inferred
of_kind None = inferred.Unknown
of_kind (Some k) = inferred.Value k

abbrev pub of_referent : Context → Option Referent → Inferred
of_referent p (Some (Variable i)) = of_kind (kind_of_var p.scope i)
of_referent p (Some (Parameter i)) = of_kind (kind_of_param p.scope i)
of_referent p None = inferred.Unknown

abbrev pub of_attribute : Scheme → Option ℕ → Inferred
of_attribute scheme None = inferred.Unknown
of_attribute scheme (Some i) = inferred.Value (field_of scheme i).1.kind
