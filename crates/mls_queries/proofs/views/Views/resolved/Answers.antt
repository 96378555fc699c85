use Rattle.std.proofs.Common.{ap, length}
use Rattle.mls_lattice.specs.Policy.{labels_of}
use Rattle.mls_filterview.specs.Content.{State}
use Rattle.mls_queries.proofs.KeptLemmas.{if_found_named, if_found_rows}
use Rattle.mls_queries.proofs.WrittenLemmas.{kept_same, kept_taken}
use Rattle.mls_queries.proofs.views.Views.resolved.Goals as goal

pub look-requires-clause-named : goal.look-requires-clause-named
look-requires-clause-named g c =
    if_found_named (length c.args.policy.now.labels) c.args.relation c.args.label c.args.self.now c.requires.views.declared c.take-kept.result c.take-kept.ensures.found

pub look-requires-clause-agrees : goal.look-requires-clause-agrees
look-requires-clause-agrees g c = λ clean.
    if_found_rows (labels_of c.args.policy.now)
    (g.B.Base.seen c.args.base.now).state.now.db c.args.relation c.args.label c.args.self.now
    (c.requires.views.rows clean) c.take-kept.result c.take-kept.ensures.found

pub returns-in-Ok-clause-views : goal.returns-in-Ok-clause-views
returns-in-Ok-clause-views g c =
    let policy = c.args.policy.now in
    kept_same policy g.B.Base.seen c.args.base.now c.look.new.base c.take-kept.new.self c.in-Ok.ensures.read.call.clean
    (λ clean. ap (λ (s : State). s.now.db) (c.in-Ok.ensures.read.same clean))
    (kept_taken policy g.B.Base.seen c.args.base.now c.args.relation c.args.label c.args.self.now c.take-kept.new.self c.take-kept.ensures.others c.requires.views)
