use Rattle.mls_filterview.proofs.EntityTests.{entity_is}
use Rattle.mls_filterview.proofs.entity.is_entity.Goals as goal

pub returns : goal.returns
returns c = entity_is c.args.left.now c.args.right.now c.is_same_entity.result
    (rw (← c.deref.ensures, ← c.deref-2.ensures) c.is_same_entity.ensures)
