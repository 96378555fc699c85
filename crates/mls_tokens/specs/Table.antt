-- Rows of cells in columns: each column is as wide as its widest cell.
use Rattle.std.specs.Prelude.{ℕ, ◌+◌, ◌-◌, max, false, if◌then◌else◌, List, [], ◌∷◌, ◌++◌, length, slice_index, chars}
use Rattle.std.specs.Prelude.{codes}
use Rattle.std.specs.Str.{is_utf8}
use Rattle.std.proofs.Math.ListN.{replicate}
use Rattle.unicode_width.specs.Width.{str_width}

-- the columns of a screen that a text takes; of bytes that are no text, their number
abbrev pub columns : List ℕ → ℕ
columns bytes = if is_utf8 bytes then str_width false (chars bytes) else length bytes

-- the widths of columns that have room for the cells of one more row, from column k on
abbrev pub wider : List ℕ → ℕ → List (List ℕ) → List ℕ
wider widths k [] = []
wider widths k (cell ∷ cells) = max (slice_index widths k) (columns cell) ∷ wider widths (k + 1) cells

abbrev pub padding : ℕ → List ℕ → List ℕ
padding width cell = replicate (width - columns cell) 32

-- the cells of a row, each with blanks up to the width of its column, from column k on
abbrev pub padded : List ℕ → ℕ → List (List ℕ) → List ℕ
padded widths k [] = []
padded widths k (cell ∷ cells) = (cell ++ padding (slice_index widths k) cell ++ codes " | ") ++ padded widths
    (k + 1) cells

-- the dashes below a column
abbrev pub ruled : ℕ → List ℕ
ruled width = replicate width 45 ++ codes "-+-"
