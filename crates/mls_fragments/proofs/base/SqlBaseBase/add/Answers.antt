use Rattle.std.proofs.Common.{◌≡◌, List, None, refl, sym, subst, ◌∙◌}
use Rattle.std.specs.FinMap.{get, insert}
use Rattle.mls_scheme.specs.declared.tuple.Element.{Element}
use Rattle.mls_filterview.specs.Content.{with_relation}
use Rattle.mls_filterview.specs.Fragment.{place_of_node, IsMadeOf}
use Rattle.mls_tables.specs.Store.{IsClean}
use Rattle.mls_rows.specs.Changes.{content_of}
use Rattle.mls_fragments.specs.Based.{BaseState, base_state, state_of}
use Rattle.mls_fragments.proofs.NotedLemmas.{based_on, noted_tuple, state_added}
use Rattle.mls_fragments.proofs.base.SqlBaseBase.add.Goals as goal

pub invariant_of-self : goal.invariant_of-self
invariant_of-self g c =
    let relation = c.args.relation in
    let n = c.args.node in
    let absent = subst (λ (v : BaseState). IsClean v.tables → get ((content_of v.now).db relation) (place_of_node n)
    ≡ None) (sym c.self.view_is) c.requires.absent in
    let made = subst (λ (v : BaseState). IsClean v.tables → (es : List Element)
    × IsMadeOf ((content_of v.now).db relation) n c.args.cells.now es) (sym c.self.view_is) c.requires.made in
    let clean = c.in-Ok.ensures.step.call.clean in
    based_on c.self.inside.store c.add_tuple.new.store c.self.inside.now _ c.self.inside.kept c.self.invariant clean c.in-Ok.ensures.step.mode (λ h. (c.in-Ok.ensures.done h).1)
    (λ h was. noted_tuple _ _ c.self.inside.now _ was relation n c.args.cells.now c.add.ensures refl c.requires.key c.requires.cells (absent (clean h)) (made (clean h)) c.in-Ok.ensures.classes (c.in-Ok.ensures.done h).0)

pub returns-in-Ok-clause-done : goal.returns-in-Ok-clause-done
returns-in-Ok-clause-done g c = λ h es.
    let relation = c.args.relation in
    let n = c.args.node in
    let after = base_state c.add_tuple.new.store (record {
      content = c.add.new.self;
      last =
          c.self.inside.now.last;
    }) c.self.inside.kept in
    subst (λ (v : BaseState). IsMadeOf ((content_of v.now).db relation) n c.args.cells.now es → state_of after
    ≡ with_relation (state_of v) relation (insert ((content_of v.now).db relation)
    (place_of_node n) es)) c.self.view_is
    (state_added c.self.inside.store c.add_tuple.new.store c.self.inside.now c.self.inside.kept _ relation n c.args.cells.now es (sym c.is_begun.ensures ∙ c.if-not-is_begun.false) c.in-Ok.ensures.step.mode c.add.ensures)
