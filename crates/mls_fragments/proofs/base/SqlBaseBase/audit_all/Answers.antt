use Rattle.mls_fragments.proofs.NotedLemmas.{readable}
use Rattle.mls_fragments.proofs.base.SqlBaseBase.audit_all.Goals as goal

pub read_entries-requires : goal.read_entries-requires
read_entries-requires g c = record {
  readable =
      readable c.self.inside.store c.self.inside.now c.self.inside.kept c.self.invariant;
}
