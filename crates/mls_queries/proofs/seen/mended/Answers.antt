use Rattle.std.proofs.Common.{rules, ◌≡◌, [], length, sym, ap, subst}
use Rattle.std.proofs.lemmas.List.{nil_from_length}
use Rattle.mls_lattice.specs.Policy.{labels_of}
use Rattle.mls_filterview.specs.Content.{State}
use Rattle.mls_filterview.specs.Stored.{IsStored}
use Rattle.mls_filterview.specs.View.{rows}
use Rattle.mls_queries.specs.Views.{AgreesWith}
use Rattle.mls_queries.proofs.KeptSeenLemmas.{none_written}
use Rattle.mls_queries.proofs.seen.mended.Goals as goal

pub returns-then-is_empty-clause-rows : goal.returns-then-is_empty-clause-rows
returns-then-is_empty-clause-rows g c = λ clean.
    let now = rows (labels_of c.args.policy.now) c.args.label
    ((g.B.Base.seen c.args.base.now).state.now.db c.args.relation) in
    let ts = c.seen.inside.tuples in
    let none : length c.seen.inside.written.items ≡ 0 = search rules in
    let nil : c.seen.inside.written.items ≡ [] = nil_from_length c.seen.inside.written.items none in
    none_written now ts (subst (λ ws. AgreesWith now (record { tuples = ts; written = ws })) nil
    (subst (AgreesWith now) (sym c.seen.view_is) (c.requires.agrees clean)))

pub mend_each-requires-clause-see : goal.mend_each-requires-clause-see
mend_each-requires-clause-see g c = record {
  label = c.requires.see.label;
  stored = λ clean.
      let stored = c.requires.see.stored (c.in_ok-tuples.ensures.call.clean clean) in (
        stored.0,
        subst (λ (s : State). IsStored (labels_of c.args.policy.now) stored.0 (s.now.db c.args.relation))
            (sym (ap (λ b. (g.B.Base.seen b).state) c.in_ok-tuples.ensures.same)) stored.1,
      );
}
