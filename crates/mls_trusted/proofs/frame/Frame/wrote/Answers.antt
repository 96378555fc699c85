use Rattle.std.proofs.Common.{refl, sym, subst}
use Rattle.mls_lattice.specs.Policy.{labels_of}
use Rattle.mls_updates.specs.Writes.{named}
use Rattle.mls_queries.specs.Views.{AreLeftBy}
use Rattle.mls_trusted.proofs.frame.Frame.wrote.Goals as goal

pub returns-clause-vars : goal.returns-clause-vars
returns-clause-vars c =
    let e = c.set_outcome.ensures in
    record { vars = e.vars; count = e.count; rows = e.rows; emitted = e.emitted; released = e.released; views = refl }

pub returns-clause-views : goal.returns-clause-views
returns-clause-views c =
    subst (AreLeftBy (labels_of c.args.call.now.policy.now) c.args.relation c.args.at
    (named c.args.at c.args.write.now) c.args.outcome c.args.self.now.views)
    (sym c.set_outcome.ensures.views) c.follow.ensures
