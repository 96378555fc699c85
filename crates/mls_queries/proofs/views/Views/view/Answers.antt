use Rattle.std.proofs.Common.{sym, ap, ◌∙◌, subst, inl, inr}
use Rattle.mls_lattice.specs.Policy.{labels_of}
use Rattle.mls_filterview.specs.Content.{State}
use Rattle.mls_filterview.specs.View.{rows}
use Rattle.mls_queries.specs.Views.{AreViews}
use Rattle.mls_queries.proofs.WrittenLemmas.{kept_put}
use Rattle.mls_queries.proofs.views.Views.view.Goals as goal

pub returns-clause-views : goal.returns-clause-views
returns-clause-views g c =
    let policy = c.args.policy.now in
    let base = c.resolved.new.base in
    let are = AreViews policy g.B.Base.seen base in
    elim c.keep.ensures [
      | inl same ↦ subst are (sym same) c.resolved.ensures.views
      | inr put ↦ subst are (sym put) (
          kept_put policy g.B.Base.seen base c.args.relation c.args.label c.in_ok-tuples.tuples c.resolved.new.self c.requires.see.label
          (λ clean. c.in_ok-tuples.ensures.rows clean ∙ ap (λ (s : State). rows (labels_of policy) c.args.label
          (s.now.db c.args.relation)) (sym (c.in_ok-tuples.ensures.read.same clean)))
          c.resolved.ensures.views
          )
    ]
