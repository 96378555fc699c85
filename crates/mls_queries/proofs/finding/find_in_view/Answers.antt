use Rattle.std.proofs.Common.{◌≡◌, sym, ap, ◌∙◌, subst, IfOk}
use Rattle.mls_lattice.specs.Policy.{labels_of}
use Rattle.mls_queries.specs.Query.{found}
use Rattle.mls_queries.specs.Places.{AreByKey}
use Rattle.mls_queries.proofs.TopLemmas.{rows_by_key}
use Rattle.mls_queries.proofs.finding.find_in_view.Goals as goal

pub returns-clause-rows : goal.returns-clause-rows
returns-clause-rows g c = λ clean.
    let ls = labels_of c.args.policy.now in
    let view = c.in_ok-view.view in
    let seen = c.in_ok-view.ensures.rows (c.in_ok-found.ensures.call.clean clean) in
    let by_key = subst AreByKey (sym seen) (rows_by_key ls c.args.label
    ((g.B.Base.seen c.args.base.now).state.now.db c.args.relation)) in
    subst (λ r. IfOk r (λ s. AreByKey view → s
    ≡ found ls c.args.query.now view)) c.in_ok-found.ensures.value c.select.ensures by_key
    ∙ ap (found ls c.args.query.now) seen
