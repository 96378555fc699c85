use Rattle.std.proofs.Common.{refl, sym, subst}
use Rattle.mls_filterview.specs.Fragment.{IsAlone}
use Rattle.mls_tables.specs.Store.{IsClean}
use Rattle.mls_rows.specs.Changes.{content_of}
use Rattle.mls_fragments.specs.Based.{BaseState}
use Rattle.mls_fragments.proofs.NotedLemmas.{based_on, noted_rest}
use Rattle.mls_fragments.proofs.base.SqlBaseBase.drop_at.Goals as goal

pub invariant_of-self : goal.invariant_of-self
invariant_of-self g c =
    let relation = c.args.relation in
    let p = c.args.place.now in
    let alone = subst (λ (v : BaseState). IsClean v.tables → IsAlone ((content_of v.now).db relation) p)
    (sym c.self.view_is) c.requires.alone in
    let clean = c.in-Ok.ensures.step.call.clean in
    based_on c.self.inside.store c.drop_tuple.new.store c.self.inside.now _ c.self.inside.kept c.self.invariant clean c.in-Ok.ensures.step.mode (λ h. (c.in-Ok.ensures.done h).1)
    (λ h was. noted_rest _ _ c.self.inside.now _ was relation p c.drop_at.ensures refl c.requires.key (alone (clean h))
    (c.in-Ok.ensures.done h).0)
