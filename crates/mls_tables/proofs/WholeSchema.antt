-- The schema that the four statements make, in full.
use Rattle.std.proofs.Common.{◌≡◌, ℕ, List, [], ◌∷◌, ◌++◌, codes, false, refl, ap}
use Rattle.std.specs.Fmt.{digits}
use Rattle.sqlite.specs.Change.{created}
use Rattle.sqlite.specs.Schema.{Schema}
use Rattle.mls_tables.specs.Schema.{meta, key_index, with_audit, no_others, schema}

one : digits 10 false 1 ≡ codes "1"
unfolding digits
one = refl

numbered : List ℕ → Schema
numbered number = record (schema no_others) {
  indexes =
      key_index (codes "sqlite_autoindex_node_" ++ number) 1 0 (1 ∷ 2 ∷ 3 ∷ 4 ∷ [])
      ∷ key_index (codes "sqlite_autoindex_cell_" ++ number) 3 2 (1 ∷ 2 ∷ 3 ∷ 5 ∷ 4 ∷ []) ∷ [];
}

pub made_whole : created with_audit meta ≡ schema no_others
unfolding numbered
made_whole = ap numbered one
