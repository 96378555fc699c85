use Rattle.mls_scheme.specs.Table.{place_of}
use Rattle.mls_filterview.proofs.EntityTests.{entity_is}
use Rattle.mls_filterview.proofs.entity.is_one_entity.Goals as goal

pub returns : goal.returns
returns c = entity_is (place_of 0 c.args.left.now) (place_of 0 c.args.right.now) c.is_same_entity.result
    (rw (← c.deref.ensures, ← c.deref-2.ensures) c.is_same_entity.ensures)
