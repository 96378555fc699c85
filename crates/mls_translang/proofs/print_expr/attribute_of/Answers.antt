use Rattle.mls_translang.proofs.FieldLemmas.{has_attribute}
use Rattle.mls_translang.proofs.print_expr.attribute_of.Goals as goal

pub scheme-requires : goal.scheme-requires
scheme-requires c = rw c.row.ensures (has_attribute _ _ _ c.requires.attribute)
