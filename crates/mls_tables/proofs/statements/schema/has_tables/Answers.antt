use Rattle.std.proofs.Common.{sym, subst}
use Rattle.mls_tables.specs.Schema.{HasTables}
use Rattle.mls_tables.proofs.SchemaLemmas.{split, joined}
use Rattle.mls_tables.proofs.statements.schema.has_tables.Goals as goal

pub returns : goal.returns
returns g c = (
  λ whole. subst HasTables c.schema.ensures.value (split c.schema.result.now (c.is_whole.ensures.0 whole)),
  λ has. c.is_whole.ensures.1 (joined c.schema.result.now (subst HasTables (sym c.schema.ensures.value) has)),
)
