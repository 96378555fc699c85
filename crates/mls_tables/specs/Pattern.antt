-- What a row of one column shows.
use Rattle.std.specs.Prelude.{ℕ, List}
use Rattle.sqlite_value.specs.Order.{Row, column}
use Rattle.mls_tables.specs.Rows.{blob_in}

-- the bytes that a row of one column shows
abbrev pub shown_bytes : Row → List ℕ
shown_bytes r = blob_in (column r 0)
