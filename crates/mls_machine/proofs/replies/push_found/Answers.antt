use Rattle.mls_machine.specs.Under.{site_under}
use Rattle.mls_machine.proofs.PrintingSteps.{rows_more, count_more}
use Rattle.mls_machine.proofs.TableSteps.{table_more}
use Rattle.mls_machine.proofs.replies.push_found.Goals as goal

pub returns-then-counts : goal.returns-then-counts
returns-then-counts c =
    count_more (site_under c.args.to.now.policy.now c.args.to.now.schemes.now) c.args.to.now.event.now c.args.relation c.args.label c.args.query.now c.args.counts c.args.rows.now
    c.scheme.result.now c.scheme.ensures.row c.args.text.now.items _ c.args.form c.if-counts.true c.len.result c.len.ensures c.push_count_line.result c.push_count_line.ensures

pub returns-in-Lines : goal.returns-in-Lines
returns-in-Lines c =
    rows_more (site_under c.args.to.now.policy.now c.args.to.now.schemes.now) c.args.to.now.event.now c.args.relation c.args.label c.args.query.now c.args.counts c.args.rows.now
    c.scheme.result.now c.scheme.ensures.row c.args.text.now.items _ c.args.form c.in-Lines.is c.if-counts.false c.push_view.result c.push_view.ensures

pub returns-in-Table : goal.returns-in-Table
returns-in-Table c =
    table_more (site_under c.args.to.now.policy.now c.args.to.now.schemes.now) c.args.to.now.event.now c.args.relation c.args.label c.args.query.now c.args.counts c.args.rows.now
    c.scheme.result.now c.scheme.ensures.row c.args.text.now.items _ c.args.form c.in-Table.is c.if-counts.false c.push_table.result c.push_table.ensures
