use Rattle.std.proofs.Common.{filter}
use Rattle.mls_filterview.specs.Entities.{is_before, is_behind}
use Rattle.mls_filterview.proofs.FilteredLemmas.{filter_step}
use Rattle.mls_filterview.proofs.mending.put_own.Goals as goal

pub loop-row-preserved : goal.loop-row-preserved
loop-row-preserved c =
    let before = is_before c.args.place.now in
    let behind = is_behind c.args.place.now in
    let rows = c.args.rows.items in
    let rest = c.next.new.self.rest.items in
    let here = c.in-Some.ensures.steps.0 in
    let inv = c.loop-row.invariant in
    record {
      front = filter_step before c.loop-row.front.items c.put_row.new.front.items c.loop-row.row-iterator.rest.items rest (filter before rows) c.in-Some.row here inv.front c.in_ok-put_row.ensures.front;
      back = filter_step behind c.loop-row.back.items c.put_row.new.back.items c.loop-row.row-iterator.rest.items rest
          (filter behind rows) c.in-Some.row here inv.back c.in_ok-put_row.ensures.back;
    }
