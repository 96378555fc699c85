use Rattle.mls_fragments.proofs.NotedLemmas.{readable}
use Rattle.mls_fragments.proofs.base.SqlBaseBase.entity.Goals as goal

pub read_entity-requires-clause-readable : goal.read_entity-requires-clause-readable
read_entity-requires-clause-readable g c =
    readable c.self.inside.store c.self.inside.now c.self.inside.kept c.self.invariant
