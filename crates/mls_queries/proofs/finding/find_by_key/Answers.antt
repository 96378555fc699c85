use Rattle.std.proofs.Common.{◌≡◌, sym, ap, ◌∙◌, subst, IfOk, length}
use Rattle.mls_lattice.specs.Policy.{labels_of}
use Rattle.mls_queries.specs.Query.{found}
use Rattle.mls_queries.specs.Places.{AreByKey}
use Rattle.mls_queries.specs.Demanded.{of_key}
use Rattle.mls_queries.proofs.TopLemmas.{rows_by_key}
use Rattle.mls_queries.proofs.LookLemmas.{looked_up}
use Rattle.mls_queries.proofs.finding.find_by_key.Goals as goal

pub look_up-requires-clause-see : goal.look_up-requires-clause-see
look_up-requires-clause-see g c = record {
  label = c.requires.label;
  stored = λ clean. (
    length c.args.scheme.now.others,
    (c.requires.content clean).stored,
  );
}

pub returns-clause-rows : goal.returns-clause-rows
returns-clause-rows g c = λ clean.
    let ls = labels_of c.args.policy.now in
    let T = (g.B.Base.seen c.args.base.now).state.now.db c.args.relation in
    let view = c.in_ok-view.view in
    let middle = c.in_ok-found.ensures.call.clean clean in
    let before = c.in_ok-view.ensures.call.clean middle in
    let made_of = subst (λ r. IfOk r (λ v. v ≡ c.in_ok-tuples.tuples.items)) c.in_ok-view.ensures.value c.new.ensures in
    let seen = made_of ∙ c.in_ok-tuples.ensures.rows before in
    let by_key = subst AreByKey (sym seen) (rows_by_key ls c.args.label (of_key c.args.key T)) in
    subst (λ r. IfOk r (λ s. AreByKey view → s
    ≡ found ls c.args.query.now view)) c.in_ok-found.ensures.value c.select.ensures by_key
    ∙ ap (found ls c.args.query.now) seen
    ∙ looked_up ls c.args.scheme.now T (c.requires.content
    (c.in_ok-tuples.ensures.read.call.clean before)) c.args.label c.args.query.now c.args.key c.requires.demanded
