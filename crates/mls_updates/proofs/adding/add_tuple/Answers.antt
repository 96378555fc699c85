use Rattle.std.proofs.Common.{◌≡◌, IfOk, sym, ap, ◌∙◌, subst}
use Rattle.std.specs.FinMap.{insert}
use Rattle.std.proofs.lemmas.Result.{on_ok_weaker}
use Rattle.mls_filterview.specs.Content.{with_relation}
use Rattle.mls_filterview.specs.Fragment.{node_of, cells_of, place_of_node}
use Rattle.mls_updates.specs.NewTuples.{entry_of}
use Rattle.mls_updates.proofs.CallLemmas.{made_same, change_step}
use Rattle.mls_updates.proofs.SpellingLemmas.{tuple_cells}
use Rattle.mls_filterview.specs.Calls.{CanAdd, IsChange, ChangesAt}
use Rattle.mls_filterview.proofs.AccessLemmas.{avoids_then, avoids_some}
use Rattle.mls_updates.proofs.adding.add_tuple.Goals as goal

pub returns-clause-done : goal.returns-clause-done
returns-clause-done g c = λ clean es is.
    let relation = c.args.tuple.now.relation in
    let n = node_of (entry_of c.args.tuple.now) in
    let T = (g.B.Base.seen c.args.base.now).state.now.db relation in
    let node : c.in_ok-parts.parts.node ≡ n =
    subst (λ r. IfOk r (λ x. x.node ≡ n)) c.in_ok-parts.ensures.value c.parts_of.ensures.node in
    let own = subst (λ r. IfOk r (λ x. x.cells.items
    ≡ cells_of (entry_of c.args.tuple.now))) c.in_ok-parts.ensures.value c.parts_of.ensures.cells in
    let same : (g.B.Base.seen c.settle.new.base).state ≡ (g.B.Base.seen c.args.base.now).state =
    ap (λ b. (g.B.Base.seen b).state) c.in_ok-parts.ensures.same in
    on_ok_weaker c.add.result (λ e. e ∙ (λ i. with_relation (same i) relation (insert ((same i).now.db relation)
    (place_of_node (node i)) es)))
    (c.add.ensures.done clean es
    (made_same ((g.B.Base.seen c.settle.new.base).state.now.db relation) T c.in_ok-parts.parts.node n c.deref.result.now _ es (ap (λ x. x.now.db relation) same) node (c.deref.ensures.value ∙ own) is))

pub add-requires : goal.add-requires
add-requires g c =
    let relation = c.args.tuple.now.relation in
    let n = node_of (entry_of c.args.tuple.now) in
    let node : c.in_ok-parts.parts.node ≡ n =
    subst (λ r. IfOk r (λ x. x.node ≡ n)) c.in_ok-parts.ensures.value c.parts_of.ensures.node in
    let own = subst (λ r. IfOk r (λ x. x.cells.items
    ≡ cells_of (entry_of c.args.tuple.now))) c.in_ok-parts.ensures.value c.parts_of.ensures.cells in
    subst (λ b. CanAdd g.B.Base.seen b relation c.in_ok-parts.parts.node c.deref.result.now)
    (sym c.in_ok-parts.ensures.same)
    (subst (λ k. CanAdd g.B.Base.seen c.args.base.now relation k c.deref.result.now) (sym node)
    (subst (CanAdd g.B.Base.seen c.args.base.now relation n) (sym (c.deref.ensures.value ∙ own)) (record {
      key = c.requires.key;
      cells = tuple_cells c.args.tuple.now.place c.args.tuple.now.elements c.requires.values;
      absent = c.requires.absent;
      made = c.requires.made;
    })))

pub returns-clause-step : goal.returns-clause-step
returns-clause-step g c =
    change_step g.B.Base.seen c.args.base.now c.add.new.self c.add.result c.requires.begun
    (subst (λ b. IsChange g.B.Base.seen (g.B.Base.seen b).state.begun b c.add.new.self c.add.result) c.in_ok-parts.ensures.same c.add.ensures.change)

pub returns-clause-access : goal.returns-clause-access
returns-clause-access g c =
    let n = node_of (entry_of c.args.tuple.now) in
    let node : c.in_ok-parts.parts.node ≡ n =
    subst (λ r. IfOk r (λ x. x.node ≡ n)) c.in_ok-parts.ensures.value c.parts_of.ensures.node in
    avoids_then (avoids_some c.in_ok-parts.ensures.access)
    (subst (λ k. ChangesAt g.B.Base.seen k.label c.settle.new.base c.add.new.self) node c.add.ensures.access)
