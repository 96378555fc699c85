use Rattle.std.proofs.Common.{refl, sym, subst}
use Rattle.mls_filterview.specs.Fragment.{HasCell}
use Rattle.mls_tables.specs.Store.{IsClean}
use Rattle.mls_rows.specs.Changes.{content_of}
use Rattle.mls_fragments.specs.Based.{BaseState}
use Rattle.mls_fragments.proofs.SettingLemmas.{is_one}
use Rattle.mls_fragments.proofs.NotedLemmas.{based_on, noted_value}
use Rattle.mls_fragments.proofs.base.SqlBaseBase.set.Goals as goal

pub set_value-requires-clause-can : goal.set_value-requires-clause-can
set_value-requires-clause-can g c =
    let relation = c.args.relation in
    let p = c.args.place.now in
    let there = subst (λ (v : BaseState). IsClean v.tables → HasCell ((content_of v.now).db relation) p c.args.attr)
    (sym c.self.view_is) c.requires.there in
    record {
      key = c.requires.key;
      value = c.requires.value;
      there = λ h. is_one c.self.inside.store.now
          (content_of c.self.inside.now.content.changes) relation p c.args.attr c.args.value
          (c.self.invariant.now h).holds c.requires.key (there h);
    }

pub invariant_of-self : goal.invariant_of-self
invariant_of-self g c =
    let relation = c.args.relation in
    let p = c.args.place.now in
    let there = subst (λ (v : BaseState). IsClean v.tables → HasCell ((content_of v.now).db relation) p c.args.attr)
    (sym c.self.view_is) c.requires.there in
    let clean = c.in-Ok.ensures.step.call.clean in
    based_on c.self.inside.store c.set_value.new.store c.self.inside.now _ c.self.inside.kept c.self.invariant clean c.in-Ok.ensures.step.mode (λ h. (c.in-Ok.ensures.done h).1)
    (λ h was. noted_value _ _ c.self.inside.now _ was relation p c.args.attr c.args.value c.set.ensures refl c.requires.key c.requires.value (there (clean h)) (c.in-Ok.ensures.done h).0)
