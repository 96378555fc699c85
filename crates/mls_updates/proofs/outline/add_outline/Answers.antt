use Rattle.std.proofs.Common.{◌≡◌, IfOk, sym, ap, ◌∙◌, subst}
use Rattle.std.specs.FinMap.{insert}
use Rattle.std.proofs.lemmas.Result.{on_ok_weaker}
use Rattle.mls_filterview.specs.Content.{with_relation}
use Rattle.mls_filterview.specs.Fragment.{IsMadeOf, node_of, cells_of}
use Rattle.mls_updates.specs.declared.new_tuple.NewTuple.{NewTuple}
use Rattle.mls_updates.specs.NewTuples.{entry_of}
use Rattle.mls_updates.specs.Steps.{outline, CanAddTuple}
use Rattle.mls_filterview.specs.Calls.{ChangesAt}
use Rattle.mls_filterview.proofs.AccessLemmas.{avoids_then, avoids_some}
use Rattle.mls_updates.proofs.outline.add_outline.Goals as goal

pub returns-clause-done : goal.returns-clause-done
returns-clause-done g c = λ clean es is.
    let it : NewTuple = record {
      relation = c.args.relation;
      place = c.args.place;
      elements =
          outline c.args.place.class c.args.sets.now 0 c.args.pattern.now;
    } in
    let tuple : c.in_ok-tuple.tuple ≡ it = subst
    (λ r. IfOk r (λ x. x ≡ it)) c.in_ok-tuple.ensures.value c.outline_tuple.ensures in
    let same : (g.B.Base.seen c.settle.new.base).state ≡ (g.B.Base.seen c.args.base.now).state =
    ap (λ b. (g.B.Base.seen b).state) c.in_ok-tuple.ensures.same in
    let here = subst (λ x. IsMadeOf (x.now.db c.args.relation) (node_of (entry_of it)) (cells_of (entry_of it)) es)
    (sym same) is in
    on_ok_weaker c.add_tuple.result (λ e. e ∙ (λ i. with_relation (same i) (tuple i).relation
    (insert ((same i).now.db (tuple i).relation) (tuple i).place es)))
    (c.add_tuple.ensures.done clean es (subst (λ (r : NewTuple). IsMadeOf
    ((g.B.Base.seen c.settle.new.base).state.now.db r.relation) (node_of (entry_of r)) (cells_of (entry_of r)) es)
    (sym tuple) here))

pub add_tuple-requires : goal.add_tuple-requires
add_tuple-requires g c =
    let it : NewTuple = record {
      relation = c.args.relation;
      place = c.args.place;
      elements =
          outline c.args.place.class c.args.sets.now 0 c.args.pattern.now;
    } in
    let tuple : c.in_ok-tuple.tuple ≡ it = subst
    (λ r. IfOk r (λ x. x ≡ it)) c.in_ok-tuple.ensures.value c.outline_tuple.ensures in
    subst (λ b. CanAddTuple g.B.Base.seen b c.in_ok-tuple.tuple) (sym c.in_ok-tuple.ensures.same)
    (subst (CanAddTuple g.B.Base.seen c.args.base.now) (sym tuple) c.requires)

pub returns-clause-access : goal.returns-clause-access
returns-clause-access g c =
    let it : NewTuple = record {
      relation = c.args.relation;
      place = c.args.place;
      elements =
          outline c.args.place.class c.args.sets.now 0 c.args.pattern.now;
    } in
    let tuple : c.in_ok-tuple.tuple ≡ it = subst
    (λ r. IfOk r (λ x. x ≡ it)) c.in_ok-tuple.ensures.value c.outline_tuple.ensures in
    avoids_then (avoids_some c.in_ok-tuple.ensures.access)
    (subst (λ (r : NewTuple). ChangesAt g.B.Base.seen r.place.class c.settle.new.base c.add_tuple.new.base) tuple c.add_tuple.ensures.access)
