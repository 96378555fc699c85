use Rattle.std.proofs.Common.{◌++◌, [], sym, ap, ◌∙◌, rules, append_assoc}
use Rattle.std.specs.Slice.Iter.{chunks_rest}
use Rattle.sqlite.specs.Held.{state}
use Rattle.mls_tables.proofs.ChangeLemmas.{nothing_yet, next_own, on_by}
use Rattle.mls_tables.proofs.OwnCells.{nothing_added, more_added, rest_stopped}
use Rattle.mls_tables.proofs.statements.cell.add_own.Goals as goal

pub loop-some-init : goal.loop-some-init
loop-some-init g c = (
  search rules,
  tt,
  search rules,
  (
    [],
    search rules,
    nothing_yet (state g.S.Store c.args.conn.now),
    nothing_added c.args.node.now (state g.S.Store c.args.conn.now),
  ),
)

pub loop-some-preserved : goal.loop-some-preserved
loop-some-preserved g c =
    let steps = c.in-Some.ensures.steps in
    let so_far = c.loop-some.invariant.3 in
    let some = c.in-Some.some.now in (
      search rules,
      tt,
      steps.0 ∙ c.loop-some.invariant.2,
      (
        so_far.0 ++ some,
        append_assoc so_far.0 some (chunks_rest c.next.new.self) ∙ ap (λ l. so_far.0 ++ l) (sym steps.1.0) ∙ so_far.1,
        on_by (state g.S.Store c.args.conn.now) (state g.S.Store c.loop-some.conn)
            (state g.S.Store c.add_some.new.conn) so_far.2 c.in_ok-add_some.ensures.wrote.clean
            (next_own c.args.node.now so_far.0 some) c.in_ok-add_some.ensures.wrote.done,
        more_added c.args.node.now (state g.S.Store c.args.conn.now) (state g.S.Store c.loop-some.conn)
            (state g.S.Store c.add_some.new.conn) so_far.0 some so_far.3 c.in_ok-add_some.ensures.wrote.clean
            (λ now within. (so_far.2.1 now within).within) c.in_ok-add_some.ensures.did c.in_ok-add_some.ensures.faults c.in_ok-add_some.ensures.limit,
      ),
    )

pub returns-in_err-add_some-clause-stopped : goal.returns-in_err-add_some-clause-stopped
returns-in_err-add_some-clause-stopped g c now within =
    let steps = c.in-Some.ensures.steps in
    let so_far = c.loop-some.invariant.3 in
    let some = c.in-Some.some.now in
    let rest = chunks_rest c.next.new.self in
    let stopped = rest_stopped c.args.node.now (state g.S.Store c.args.conn.now) (state g.S.Store c.loop-some.conn)
    (state g.S.Store c.add_some.new.conn) so_far.0 some so_far.3 c.in_err-add_some.ensures.wrote.clean
    (λ now within. (so_far.2.1 now within).within) c.args.cells.now rest (ap (λ l. so_far.0 ++ l) (sym steps.1.0)
    ∙ so_far.1) c.in_err-add_some.field-0.0 c.in_err-add_some.ensures.stopped now within in
    search rules
