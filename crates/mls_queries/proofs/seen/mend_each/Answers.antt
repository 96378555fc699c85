use Rattle.std.proofs.Common.{rules, ◌≡◌, [], length, sym, ap, ◌∙◌, subst, arith}
use Rattle.std.specs.List.{AllByRecursion}
use Rattle.std.proofs.lemmas.List.{nil_from_length}
use Rattle.mls_lattice.specs.Policy.{labels_of}
use Rattle.mls_filterview.specs.Content.{State}
use Rattle.mls_filterview.specs.Entities.{of_entity, mended}
use Rattle.mls_filterview.specs.Stored.{IsStored}
use Rattle.mls_filterview.proofs.AccessLemmas.{avoids_then}
use Rattle.mls_filterview.specs.View.{rows}
use Rattle.mls_queries.specs.Views.{AgreesWith, IsNamed}
use Rattle.mls_queries.proofs.KeptSeenLemmas.{mended_agrees, none_written}
use Rattle.mls_queries.proofs.seen.mend_each.Goals as goal

pub mend-requires-clause-see : goal.mend-requires-clause-see
mend-requires-clause-see g c = record {
  label = c.requires.see.label;
  stored = λ clean.
      let inv = c.loop-place.invariant in
      let stored = c.requires.see.stored (inv.clean clean) in (
        stored.0,
        subst (λ (s : State). IsStored (labels_of c.args.policy.now) stored.0 (s.now.db c.args.relation))
            (sym (inv.same clean)) stored.1,
      );
}

pub loop-place-preserved : goal.loop-place-preserved
loop-place-preserved g c =
    let B = g.B.Base in
    let inv = c.loop-place.invariant in
    let m = c.in_ok-tuples.ensures in
    let ls = labels_of c.args.policy.now in
    let label = c.args.label in
    let T = (B.seen c.args.base.now).state.now.db c.args.relation in
    let ts = c.loop-place.tuples.items in
    let p = c.in-Some.place in
    let rest = c.next.new.self.rest.items in
    let here = c.in-Some.ensures.steps.0 in
    record {
      clean = λ clean. inv.clean (m.read.call.clean clean);
      about = λ clean. m.read.call.about clean ∙ inv.about (m.read.call.clean clean);
      access = avoids_then inv.access m.access;
      count = (let x = inv.count in let y = m.read.call.count in omega (arith, x, y));
      mode = m.read.mode ∙ inv.mode;
      same = λ clean. m.read.same clean ∙ inv.same (m.read.call.clean clean);
      named = (subst (AllByRecursion (IsNamed (length c.args.policy.now.labels))) here inv.named).1;
      agrees = λ clean.
          let before = m.read.call.clean clean in
          let is = m.rows clean ∙ ap (λ (s : State). mended p
          (rows ls label (of_entity p (s.now.db c.args.relation))) ts) (inv.same before) in
          subst (λ xs. AgreesWith (rows ls label T) (record { tuples = xs; written = rest })) (sym is)
          (mended_agrees ls label T p rest ts (subst (λ ws. AgreesWith (rows ls label T)
          (record { tuples = ts; written = ws })) here (inv.agrees before)));
    }

pub returns-clause-rows : goal.returns-clause-rows
returns-clause-rows g c = λ clean.
    let now = rows (labels_of c.args.policy.now) c.args.label
    ((g.B.Base.seen c.args.base.now).state.now.db c.args.relation) in
    let ts = c.loop-place.tuples.items in
    let none : length c.loop-place.place-iterator.rest.items ≡ 0 = search rules in
    let nil : c.loop-place.place-iterator.rest.items ≡ [] = nil_from_length c.loop-place.place-iterator.rest.items none
    in
    none_written now ts (subst (λ ws. AgreesWith now (record { tuples = ts; written = ws })) nil
    (c.loop-place.invariant.agrees clean))

pub returns-in_err-tuples-clause-access : goal.returns-in_err-tuples-clause-access
returns-in_err-tuples-clause-access g c = avoids_then c.loop-place.invariant.access c.in_err-tuples.ensures.access
