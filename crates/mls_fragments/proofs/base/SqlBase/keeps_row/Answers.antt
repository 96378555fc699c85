use Rattle.std.proofs.Common.{subst}
use Rattle.mls_fragments.specs.Based.{BaseState, base_state}
use Rattle.mls_fragments.proofs.NotedLemmas.{RowStays, row_stays}
use Rattle.mls_fragments.proofs.base.SqlBase.keeps_row.Goals as goal

pub returns : goal.returns
returns g c =
    let here = c.self.inside in
    let back = c.was.inside in
    subst (RowStays c.args.was.now) c.self.view_is
    (subst (λ (b : BaseState). RowStays b (base_state here.store here.now here.kept)) c.was.view_is
    (row_stays back.store here.store back.now back.kept here.now here.kept c.was.invariant c.self.invariant))
