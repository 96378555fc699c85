use Rattle.mls_fragments.proofs.NotedLemmas.{based_on, noted_clear}
use Rattle.mls_fragments.proofs.base.SqlBaseBase.audit_clear.Goals as goal

pub invariant_of-self : goal.invariant_of-self
invariant_of-self g c =
    let here = c.self.inside.now in
    based_on c.self.inside.store c.clear_entries.new.self here _ c.self.inside.kept c.self.invariant c.in-Ok.ensures.call.clean c.in-Ok.ensures.mode (λ h. (c.in-Ok.ensures.done h).1)
    (λ h was. noted_clear _ _ here _ was c.clear.ensures.content c.clear.ensures.last (c.in-Ok.ensures.done h).0)
