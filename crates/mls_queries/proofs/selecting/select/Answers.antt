use Rattle.std.proofs.Common.{sym, ◌∙◌}
use Rattle.mls_lattice.specs.Policy.{labels_of}
use Rattle.mls_queries.proofs.PlaceLemmas.{finds_all}
use Rattle.mls_queries.proofs.selecting.select.Goals as goal

pub returns-then-asks_nothing : goal.returns-then-asks_nothing
returns-then-asks_nothing c = λ s.
    c.whole.ensures ∙ finds_all (labels_of c.args.policy.now) c.args.query.now c.args.view (sym c.asks_nothing.ensures
    ∙ c.if-asks_nothing.true)
