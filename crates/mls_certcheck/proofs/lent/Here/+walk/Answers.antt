use Rattle.std.proofs.Common.{◌≡◌, ◌+◌, [], ◌∷◌, drop, Ok, Err, sym, ap, ◌∙◌, arith}
use Rattle.std.proofs.lemmas.Result.{err_from_is_err_and}
use Rattle.std.proofs.Math.ListN.{drop_of_length-le}
use Rattle.mls_translang.specs.Blocks.{block_of}
use Rattle.mls_certcheck.specs.Loops.{loops_of}
use Rattle.mls_certcheck.specs.Walk.{walked_lines, here_lines, inner_of, block_lines}
use Rattle.mls_certcheck.proofs.WalkLemmas.{split_statements, split_depth, split_lines, no_lines, same_lines, stmt_whole, none_inside, turn}
use Rattle.mls_certcheck.proofs.lent.Here.+walk.Goals as goal

pub block-returns-in_err-stmt : goal.block-returns-in_err-stmt
block-returns-in_err-stmt g t c =
    let p = err_from_is_err_and c.from_residual.result c.from_residual.ensures.1 in
    let h = c.args.self.now in
    let l = c.loop-stmt in
    let visits = g.V.Visit.visits in
    let split = split_lines c.deref-stmt-items.result.now l.stmt-index c.stmt-item.result c.loop-stmt-test.true c.stmt-item.is h.vars l.number h.around l.before (loops_of h.loops) in
    let whole = ap block_of c.deref-stmt-items.ensures.value ∙ c.block.view_is in
    rw (p.1, p.2) (
    same_lines visits (ap (block_lines h) whole)
    (l.invariant.walk (Err _) _ (same_lines visits split (g.met.V.Visit.stops _ _ _ _ _ c.in_err-stmt.ensures)))
    )

pub block-loop-stmt-preserved : goal.block-loop-stmt-preserved
block-loop-stmt-preserved g t c =
    let h = c.args.self.now in
    let l = c.loop-stmt in
    let items = c.deref-stmt-items.result.now in
    let visits = g.V.Visit.visits in
    let split = split_statements items l.stmt-index c.stmt-item.result c.loop-stmt-test.true c.stmt-item.is in
    let deep = split_depth items l.stmt-index c.stmt-item.result c.loop-stmt-test.true c.stmt-item.is in
    let lines = split_lines items l.stmt-index c.stmt-item.result c.loop-stmt-test.true c.stmt-item.is h.vars l.number h.around l.before (loops_of h.loops) in
    let next = ap (λ k. l.number + k) c.statements-number.ensures in
    record {
      counts = omega (arith, split, c.statements-number.ensures, l.invariant.counts);
      size = omega (arith, split, l.invariant.size);
      shallow = omega (arith, deep.1, l.invariant.shallow);
      walk = λ r w more. l.invariant.walk r w (
          same_lines visits lines (
          g.met.V.Visit.more _ _ _ _ _ _ c.in_ok-stmt.ensures
          (same_lines visits (ap (λ k. walked_lines h.vars k h.around l.number (loops_of h.loops)
          (block_of (drop (l.stmt-index + 1) items))) next) more)
          )
          );
    }

pub block-returns : goal.block-returns
block-returns g t c =
    let h = c.args.self.now in
    let l = c.loop-stmt in
    let items = c.deref-stmt-items.result.now in
    let visits = g.V.Visit.visits in
    let none : drop l.stmt-index items ≡ [] = drop_of_length-le items (omega (arith, c.loop-stmt-test.false)) in
    let whole = ap block_of c.deref-stmt-items.ensures.value ∙ c.block.view_is in
    let left = no_lines h.vars l.number h.around l.before (loops_of h.loops)
    ∙ ap (λ ss. walked_lines h.vars l.number h.around l.before (loops_of h.loops) (block_of ss)) (sym none) in
    same_lines visits (ap (block_lines h) whole)
    (l.invariant.walk (Ok tt) l.visitor (same_lines visits left (g.met.V.Visit.none l.visitor)))

pub stmt-returns-in_err-lines : goal.stmt-returns-in_err-lines
stmt-returns-in_err-lines g t c =
    let p = err_from_is_err_and c.from_residual.result c.from_residual.ensures.1 in
    rw (p.1, p.2) (same_lines g.V.Visit.visits (stmt_whole c.args.self.now c.args.stmt.now)
    (g.met.V.Visit.stops _ _ (here_lines c.args.self.now (block_of (c.args.stmt.now ∷ [])))
    (inner_of c.args.self.now (block_of (c.args.stmt.now ∷ []))) _ c.in_err-lines.ensures))

pub stmt-returns-in_err-block-in-If : goal.stmt-returns-in_err-block-in-If
stmt-returns-in_err-block-in-If g t c =
    let p = err_from_is_err_and c.from_residual-in_err-block-in-If.result c.from_residual-in_err-block-in-If.ensures.1
    in
    let h = c.args.self.now in
    let visits = g.V.Visit.visits in
    let is = ap (λ s. inner_of h (block_of (s ∷ []))) c.in-If.is in
    rw (p.1, p.2) (
    same_lines visits (stmt_whole h c.args.stmt.now)
    (g.met.V.Visit.more _ _ _ (here_lines h (block_of (c.args.stmt.now ∷ [])))
    (inner_of h (block_of (c.args.stmt.now ∷ []))) _ c.in_ok-lines.ensures (same_lines visits (sym is)
    (g.met.V.Visit.stops _ _ _ _ _ c.in_err-block-in-If.ensures)))
    )

pub stmt-returns-in_ok-block-in-If : goal.stmt-returns-in_ok-block-in-If
stmt-returns-in_ok-block-in-If g t c =
    let h = c.args.self.now in
    let visits = g.V.Visit.visits in
    let is = ap (λ s. inner_of h (block_of (s ∷ []))) c.in-If.is in
    let other = same_lines visits (ap (λ k. walked_lines h.vars (h.number + 1 + k) h.number h.before
    (loops_of h.loops) c.in-If.other) c.statements.ensures) c.block-in-If.ensures in
    same_lines visits (stmt_whole h c.args.stmt.now)
    (g.met.V.Visit.more _ _ _ (here_lines h (block_of (c.args.stmt.now ∷ [])))
    (inner_of h (block_of (c.args.stmt.now ∷ []))) _ c.in_ok-lines.ensures (same_lines visits (sym is)
    (g.met.V.Visit.more _ _ _ _ _ _ c.in_ok-block-in-If.ensures other)))

pub stmt-returns-in-For : goal.stmt-returns-in-For
stmt-returns-in-For g t c =
    let h = c.args.self.now in
    let visits = g.V.Visit.visits in
    let is = ap (λ s. inner_of h (block_of (s ∷ []))) c.in-For.is in
    let body = same_lines visits (ap (λ rows. walked_lines h.vars (h.number + 1) h.number
    (turn h.number h.before) rows c.in-For.body) c.inside.ensures.one) c.block-in-For.ensures in
    same_lines visits (stmt_whole h c.args.stmt.now)
    (g.met.V.Visit.more _ _ _ (here_lines h (block_of (c.args.stmt.now ∷ [])))
    (inner_of h (block_of (c.args.stmt.now ∷ []))) _ c.in_ok-lines.ensures (same_lines visits (sym is) body))

pub stmt-returns-in_default : goal.stmt-returns-in_default
stmt-returns-in_default g t c =
    let h = c.args.self.now in
    same_lines g.V.Visit.visits (stmt_whole h c.args.stmt.now)
    (g.met.V.Visit.more _ _ _ (here_lines h (block_of (c.args.stmt.now ∷ [])))
    (inner_of h (block_of (c.args.stmt.now ∷ []))) _ c.in_ok-lines.ensures (same_lines g.V.Visit.visits
    (none_inside h c.args.stmt.now c.in_default.not-If c.in_default.not-For) (g.met.V.Visit.none _)))
