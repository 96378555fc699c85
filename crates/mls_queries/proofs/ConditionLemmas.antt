-- Conditions read one row.
use Rattle.std.proofs.Common.{◌≡◌, ℕ, ◌-◌, ◌<◌, true, false, cond, [], ◌∷◌, map, Option, Some, None, ap, ◌∙◌, arith, nat_lt, slice_index_or}
use Rattle.std.proofs.lemmas.List.{get_or_past}
use Rattle.mls_scheme.specs.declared.value.Value.{Value}
use Rattle.mls_scheme.specs.declared.tuple.Tuple.{Tuple}
use Rattle.mls_scheme.specs.Tuple.{at, null_element, no_tuple}
use Rattle.mls_translang.specs.Expressions.{cell_of}

no_cell : (i : ℕ) → cell_of no_tuple i ≡ None
no_cell i = elim (nat_lt i 0) as (λ b. cond b (slice_index_or (map Some []) i None) (at [] (i - 0)).value ≡ None) [
  | true ↦ get_or_past [] i None (omega arith)
  | false ↦ ap (λ e. e.value) (get_or_past [] (i - 0) null_element (omega arith))
]

-- there is no row of another depth
pub no_field : (t : Tuple) (d i : ℕ) → 0 < d → cell_of (slice_index_or (t ∷ []) d no_tuple) i ≡ None
no_field t d i h = ap (λ x. cell_of x i) (get_or_past (t ∷ []) d no_tuple (omega (arith, h))) ∙ no_cell i

-- and no parameter
pub no_param : (i : ℕ) → slice_index_or {A = Option Value} [] i None ≡ None
no_param i = get_or_past [] i None (omega arith)
