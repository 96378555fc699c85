-- What stands behind the names of a place in a transaction.
use Rattle.std.specs.Prelude.{◌≡◌, ℕ, true, false, List, [], ◌∷◌, ◌++◌, map, Option, option_map, slice_get}
use Rattle.std.specs.Prelude.{slice_index_or, bytes_eq}
use Rattle.std.specs.List.{list_any}
use Rattle.mls_lattice.specs.Name.{is_name}
use Rattle.mls_lattice.specs.Policy.{Name}
use Rattle.mls_scheme.specs.declared.value.Kind.{Kind}
use Rattle.mls_translang.specs.declared.row.LoopRow.{LoopRow}
use Rattle.mls_translang.specs.declared.tx.Parameter.{Parameter}

-- parameters and variables by number; the rows of the loops around by depth, the innermost first
pub record Scope : Type 0 where
  pub params : List (Name × Parameter)
  pub vars : List (Name × Kind)
  pub rows : List LoopRow

-- inside a loop
abbrev pub in_loop : Scope → Name → ℕ → Scope
in_loop s row relation = record s { rows = record { name = row; relation = relation } ∷ s.rows }

-- all names that are taken
abbrev pub names_in : Scope → List Name
names_in s = map (λ r. r.name) s.rows ++ (map (λ p. p.0) s.params ++ map (λ v. v.0) s.vars)

-- a name that is not taken
abbrev pub IsFresh : Scope → Name → Type 0
IsFresh s name = (is_name name ≡ true) × (list_any (bytes_eq name) (names_in s) ≡ false)

abbrev pub kind_of_var : Scope → ℕ → Option Kind
kind_of_var s i = option_map (λ v. v.1) (slice_get s.vars i)

abbrev pub kind_of_param : Scope → ℕ → Option Kind
kind_of_param s i = option_map (λ p. p.1.kind) (slice_get s.params i)

abbrev pub no_row : LoopRow
no_row = record { name = []; relation = 0 }

-- the row at a depth
abbrev pub row_at : Scope → ℕ → LoopRow
row_at s depth = slice_index_or s.rows depth no_row
