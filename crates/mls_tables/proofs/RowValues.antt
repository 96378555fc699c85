-- Rows as queries show them.
use Rattle.std.proofs.Common.{[], ◌∷◌}
use Rattle.sqlite_value.specs.declared.value.Value.TheVariants.{Blob}
use Rattle.sqlite_value.specs.Order.{Row}
use Rattle.mls_tables.specs.declared.rows.NodeRow.{NodeRow}
pub use Rattle.mls_tables.specs.Rows.{node_values, cell_values, audit_values}

-- the pattern of a node, as a query shows it alone
abbrev pub pattern_values : NodeRow → Row
pattern_values n = Blob n.pattern ∷ []
