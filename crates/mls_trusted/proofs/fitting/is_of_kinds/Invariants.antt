use Rattle.std.proofs.Common.{◌≡◌, ℕ, ◌<◌, true}
use Rattle.mls_scheme.specs.Value.{fits_kind}
use Rattle.mls_translang.specs.Kinds.{field_of}
use Rattle.mls_translang.specs.Expressions.{cell_of}
use Rattle.mls_trusted.proofs.fitting.is_of_kinds.Given as goal

abbrev pub invariant-loop-attribute : goal.invariant-loop-attribute
invariant-loop-attribute l = (i : ℕ) → i < l.attribute → fits_kind (cell_of l.row i) (field_of l.scheme i).1.kind ≡ true
