use Rattle.mls_fragments.proofs.NotedLemmas.{readable}
use Rattle.mls_fragments.proofs.base.SqlBaseBase.fragment.Goals as goal

pub read_fragment-requires : goal.read_fragment-requires
read_fragment-requires g c = record {
  readable =
      readable c.self.inside.store c.self.inside.now c.self.inside.kept c.self.invariant;
}
