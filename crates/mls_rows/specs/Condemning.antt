-- Which row of a store is condemned, where its rows are judged.
use Rattle.std.specs.Prelude.{◌≡◌, ◌≢◌, ◌⊎◌, ℕ, ◌+◌, pos, Bool, true, false, List, slice_get, IsSomeAnd, ⊤}
use Rattle.std.specs.declared.cmp.Ordering.{Ordering}
use Rattle.std.specs.Ordering.{on, then_cmp, nat_cmp, int_cmp}
use Rattle.std.specs.Cmp.Lexicographic.{slice_cmp}
use Rattle.mls_audit.specs.Spelling.{IsEntryOf}
use Rattle.mls_tables.specs.declared.rows.NodeRow.{NodeRow}
use Rattle.mls_tables.specs.declared.rows.CellRow.{CellRow}
use Rattle.mls_tables.specs.declared.rows.AuditRow.{AuditRow}
use Rattle.mls_rows.specs.declared.place.Step.{Step}
use Rattle.mls_rows.specs.declared.place.Step.TheVariants.{Rows, Classes, Node, Cell, Tuple, LooseNode, LooseCell}
use Rattle.mls_rows.specs.declared.place.Step.TheVariants.{MissingCell, Number, Entry}
use Rattle.mls_rows.specs.declared.place.Where.{Where}
use Rattle.mls_rows.specs.Finding.{IsNodeRow, IsCellRow, is_within}

-- ---- the orders of rows, field by field

abbrev pub bytes_cmp : List ℕ → List ℕ → Ordering
bytes_cmp = slice_cmp nat_cmp

abbrev pub node_cmp : NodeRow → NodeRow → Ordering
node_cmp = then_cmp (on (λ r. r.rel) nat_cmp) (then_cmp (on (λ r. r.ent) bytes_cmp)
    (then_cmp (on (λ r. r.kclass) nat_cmp) (then_cmp (on (λ r. r.label) nat_cmp) (on (λ r. r.pattern) bytes_cmp))))

abbrev pub cell_cmp : CellRow → CellRow → Ordering
cell_cmp = then_cmp (on (λ r. r.rel) nat_cmp) (then_cmp (on (λ r. r.ent) bytes_cmp)
    (then_cmp (on (λ r. r.kclass) nat_cmp) (then_cmp (on (λ r. r.label) nat_cmp)
    (then_cmp (on (λ r. r.attr) nat_cmp) (on (λ r. r.value) bytes_cmp)))))

abbrev pub entry_cmp : AuditRow → AuditRow → Ordering
entry_cmp = then_cmp (on (λ r. r.number) int_cmp) (on (λ r. r.bytes) bytes_cmp)

-- ---- the row at a place

-- a node whose classes are not among the first labels
abbrev pub CondemnsClasses : ℕ → List NodeRow → ℕ → Type 0
CondemnsClasses labels nodes at = IsSomeAnd (slice_get nodes at) (λ r. is_within labels r ≡ false)

-- a node that does not read, or such a cell
abbrev pub CondemnsNode : List NodeRow → ℕ → Type 0
CondemnsNode nodes at = IsSomeAnd (slice_get nodes at) (λ r. ¬ IsNodeRow r)

abbrev pub CondemnsCell : List CellRow → ℕ → Type 0
CondemnsCell cells at = IsSomeAnd (slice_get cells at) (λ r. ¬ IsCellRow r)

-- an entry that has not the next number, or is none of one of the first labels
abbrev pub CondemnsNumber : List AuditRow → ℕ → Type 0
CondemnsNumber entries at = IsSomeAnd (slice_get entries at) (λ r. r.number ≢ pos (at + 1))

abbrev pub CondemnsEntry : ℕ → List AuditRow → ℕ → Type 0
CondemnsEntry labels entries at = IsSomeAnd (slice_get entries at) (λ r. ¬ IsEntryOf labels r.bytes)

-- By the steps. Of tuples that break rules, and of rows that are those of no tuple, nothing is said.
abbrev pub CondemnsAt : ℕ → List NodeRow → List CellRow → List AuditRow → ℕ → Step → Type 0
CondemnsAt labels nodes cells entries at Rows = ⊥
CondemnsAt labels nodes cells entries at Classes = CondemnsClasses labels nodes at
CondemnsAt labels nodes cells entries at Node = CondemnsNode nodes at
CondemnsAt labels nodes cells entries at Cell = CondemnsCell cells at
CondemnsAt labels nodes cells entries at (Tuple relation) = ⊤
CondemnsAt labels nodes cells entries at LooseNode = ⊤
CondemnsAt labels nodes cells entries at LooseCell = ⊤
CondemnsAt labels nodes cells entries at MissingCell = ⊤
CondemnsAt labels nodes cells entries at Number = CondemnsNumber entries at
CondemnsAt labels nodes cells entries at Entry = CondemnsEntry labels entries at

abbrev pub Condemns : ℕ → List NodeRow → List CellRow → List AuditRow → Where → Type 0
Condemns labels nodes cells entries at = CondemnsAt labels nodes cells entries at.row at.step

-- a tuple is judged, or the rows that tuples have
abbrev pub is_of_tuples : Step → Bool
is_of_tuples (Tuple relation) = true
is_of_tuples LooseNode = true
is_of_tuples LooseCell = true
is_of_tuples MissingCell = true
is_of_tuples _ = false

abbrev pub IsOfTuples : Step → Type 0
IsOfTuples step = is_of_tuples step ≡ true

-- a node or a cell does not read
abbrev pub CondemnsReading : List NodeRow → List CellRow → Where → Type 0
CondemnsReading nodes cells at =
    ((at.step ≡ Node) × CondemnsNode nodes at.row) ⊎ ((at.step ≡ Cell) × CondemnsCell cells at.row)

-- an entry is bad
abbrev pub CondemnsList : ℕ → List AuditRow → Where → Type 0
CondemnsList labels entries at =
    ((at.step ≡ Number) × CondemnsNumber entries at.row) ⊎ ((at.step ≡ Entry) × CondemnsEntry labels entries at.row)
