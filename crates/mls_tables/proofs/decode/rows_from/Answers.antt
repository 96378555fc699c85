use Rattle.std.proofs.Common.{◌≡◌, ◌∙◌, true, IfErr, rules}
use Rattle.std.proofs.lemmas.Result.{IfErr-weaker}
use Rattle.mls_tables.specs.Adopting.{Refutes}
use Rattle.mls_tables.proofs.DecodeLemmas.{here, shown_next}
use Rattle.mls_tables.proofs.decode.rows_from.Goals as goal

pub loop-row-preserved : goal.loop-row-preserved
loop-row-preserved g c =
    let next =
    shown_next g.T.Shown.show (λ r. g.T.Shown.shows r
    ≡ true) c.args.rows.now c.loop-row.row-index c.row-item.result c.loop-row-test.true c.row-item.is c.loop-row.found.items c.in_ok-from_row.field-0 c.loop-row.invariant
    c.in_ok-from_row.ensures.ok in
    (c.in_ok-push.ensures.items ∙ next.0, next.1)

pub returns-in_err-from_row-clause-refused : goal.returns-in_err-from_row-clause-refused
returns-in_err-from_row-clause-refused g c =
    let refused : IfErr c.from_residual.result (Refutes (g.T.Shown.reads c.row-item.result)) = search rules in
    IfErr-weaker c.from_residual.result _ _ (λ e no other all. no other
    (here g.T.Shown.reads c.args.rows.now c.loop-row.row-index c.row-item.result c.loop-row-test.true c.row-item.is all)) refused
