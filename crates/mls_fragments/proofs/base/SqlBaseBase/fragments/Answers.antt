use Rattle.mls_fragments.proofs.NotedLemmas.{readable}
use Rattle.mls_fragments.proofs.base.SqlBaseBase.fragments.Goals as goal

pub read_fragments-requires : goal.read_fragments-requires
read_fragments-requires g c = record {
  few = c.requires.few;
  readable =
      readable c.self.inside.store c.self.inside.now c.self.inside.kept c.self.invariant;
}
