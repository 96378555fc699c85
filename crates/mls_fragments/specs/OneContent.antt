-- Rows hold one content.
use Rattle.std.specs.Prelude.{◌≡◌}
use Rattle.mls_filterview.specs.Content.{Content}
use Rattle.mls_tables.specs.Rows.{Tables}
use Rattle.mls_rows.specs.Holding.{Holds}

-- all tables and all entries of two contents that the same rows hold are the same, whatever the labels and
-- schemes: so what a base finds is what the base before it had, whoever opens the store
abbrev pub RowsHoldOneContent : Type 0
RowsHoldOneContent = (t : Tables) (c d : Content) → Holds t c → Holds t d → c ≡ d
