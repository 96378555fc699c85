use Rattle.std.proofs.Common.{◌≡◌, IfOk, sym, subst}
use Rattle.std.proofs.lemmas.List.{length-map}
use Rattle.std.proofs.lemmas.Result.{IfOk-weaker}
use Rattle.mls_lattice.specs.Policy.{labels_of}
use Rattle.mls_filterview.specs.Assembly.{AreLow}
use Rattle.mls_filterview.specs.Reach.{low_tuples}
use Rattle.mls_filterview.proofs.viewing.low_tuples.Goals as goal

pub returns-clause-tuples : goal.returns-clause-tuples
returns-clause-tuples g c = λ clean.
    let ls = labels_of c.args.policy.now in
    let T = (g.B.Base.seen c.args.base.now).state.now.db c.args.relation in
    let before = c.in_ok-tuples.ensures.call.clean clean in
    let stored = c.requires.stored (c.in_ok-low.ensures.read.call.clean before) in
    let low = subst (λ k. AreLow ls T c.args.label k c.in_ok-low.low.nodes c.in_ok-low.low.cells)
    (sym (length-map c.args.policy.now.labels (λ l. l.value))) (c.in_ok-low.ensures.low before) in
    subst (λ r. IfOk r (λ v. v.items ≡ low_tuples ls c.args.label T)) c.in_ok-tuples.ensures.value
    (IfOk-weaker c.tuples_by_reach.result _ _
    (λ v each. each stored.0 T c.args.label stored.1 low) c.tuples_by_reach.ensures)
