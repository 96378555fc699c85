use Rattle.std.proofs.Common.{◌≡◌, IfOk, sym, subst}
use Rattle.std.proofs.lemmas.List.{length-map}
use Rattle.std.proofs.lemmas.Result.{IfOk-weaker}
use Rattle.mls_lattice.specs.Policy.{labels_of}
use Rattle.mls_filterview.specs.Assembly.{AreLow}
use Rattle.mls_filterview.specs.View.{rows}
use Rattle.mls_filterview.proofs.ListedLemmas.{listed_view, listed_order}
use Rattle.mls_filterview.proofs.viewing.view.Goals as goal

pub returns-clause-rows : goal.returns-clause-rows
returns-clause-rows g c = λ clean.
    let ls = labels_of c.args.policy.now in
    let T = (g.B.Base.seen c.args.base.now).state.now.db c.args.relation in
    let before = c.in_ok-tuples.ensures.call.clean clean in
    let stored = c.requires.stored (c.in_ok-low.ensures.read.call.clean before) in
    let low = subst (λ k. AreLow ls T c.args.label k c.in_ok-low.low.nodes c.in_ok-low.low.cells)
    (sym (length-map c.args.policy.now.labels (λ l. l.value))) (c.in_ok-low.ensures.low before) in
    subst (λ r. IfOk r (λ v. v.items ≡ rows ls c.args.label T)) c.in_ok-tuples.ensures.value
    (IfOk-weaker c.tuples_of.result _ _ (λ v each. each ls stored.0 T c.args.label stored.1 low) c.tuples_of.ensures)

pub returns-clause-seen : goal.returns-clause-seen
returns-clause-seen g c = λ clean.
    let stored = c.requires.stored (c.in_ok-low.ensures.read.call.clean (c.in_ok-tuples.ensures.call.clean clean)) in
    listed_view (labels_of c.args.policy.now) c.in_ok-low.ensures.distinct stored.0
    ((g.B.Base.seen c.args.base.now).state.now.db c.args.relation) stored.1 c.args.label c.in_ok-tuples.tuples.items
    (returns-clause-rows g c clean)

pub returns-clause-ordered : goal.returns-clause-ordered
returns-clause-ordered g c = λ clean.
    let stored = c.requires.stored (c.in_ok-low.ensures.read.call.clean (c.in_ok-tuples.ensures.call.clean clean)) in
    listed_order (labels_of c.args.policy.now) c.in_ok-low.ensures.distinct stored.0
    ((g.B.Base.seen c.args.base.now).state.now.db c.args.relation) stored.1 c.args.label c.in_ok-tuples.tuples.items
    (returns-clause-rows g c clean)
