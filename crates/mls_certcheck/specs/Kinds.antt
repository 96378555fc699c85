-- Values of kinds: what the statements of a transaction read.
use Rattle.std.specs.Prelude.{◌≡◌, ℕ, true, List, Option, Some, None, slice_index_or}
use Rattle.mls_scheme.specs.declared.value.Kind.{Kind}
use Rattle.mls_scheme.specs.declared.value.Value.{Value}
use Rattle.mls_scheme.specs.declared.tuple.Tuple.{Tuple}
use Rattle.mls_scheme.specs.Value.{fits_kind}
use Rattle.mls_scheme.specs.Scheme.{Scheme, Schemes, scheme_of}
use Rattle.mls_scheme.specs.Tuple.{no_tuple}
use Rattle.mls_translang.specs.Scope.{Scope, row_at, kind_of_var, kind_of_param}
use Rattle.mls_translang.specs.Kinds.{field_of}
use Rattle.mls_translang.specs.Expressions.{cell_of}
use Rattle.mls_certcheck.specs.Meaning.{Variables}

-- each attribute of a row has its kind
abbrev pub RowKinds : Scheme → Tuple → Type 0
RowKinds scheme t = (i : ℕ) → fits_kind (cell_of t i) (field_of scheme i).1.kind ≡ true

-- each variable has its kind
abbrev pub VarsFit : Scope → Variables → Type 0
VarsFit scope vars = (i : ℕ) (k : Kind) → kind_of_var scope i ≡ Some k → fits_kind (vars i) k ≡ true

-- each argument has the kind of its parameter, and the rows of the loops around are of their relations
pub record AroundFits (schemes : Schemes) (scope : Scope) (args : List (Option Value))
    (around : List Tuple) : Type 0 where
  pub params : (i : ℕ) (k : Kind) → kind_of_param scope i ≡ Some k → fits_kind (slice_index_or args i None) k ≡ true
  pub rows : (d : ℕ) → RowKinds (scheme_of schemes (row_at scope d).relation) (slice_index_or around d no_tuple)
