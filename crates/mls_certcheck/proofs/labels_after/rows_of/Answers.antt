use Rattle.std.proofs.Common.{◌≡◌, suc, ◌-◌, ◌∷◌, ◌++◌, [], sym, ap, ◌∙◌, arith}
use Rattle.std.proofs.lemmas.Result.{err_from_is_err_and}
use Rattle.mls_certcheck.proofs.ReadingSteps.{rows_all, rows_next, rows_err}
use Rattle.mls_certcheck.proofs.labels_after.rows_of.Goals as goal

pub returns-in_err-row-clause-reads : goal.returns-in_err-row-clause-reads
returns-in_err-row-clause-reads c =
    let p = err_from_is_err_and c.from_residual.result c.from_residual.ensures.1 in
    let left = c.loop-left.left in
    rw (p.1, p.2) (λ fault is. sym c.loop-left.invariant.read ∙ rows_err left (left - 1) _ _ _ _
    (omega (arith, c.loop-left-test.true)) (c.in_err-row.ensures.reads fault is))

pub loop-left-preserved : goal.loop-left-preserved
loop-left-preserved c =
    let left = c.loop-left.left in
    let some : c.loop-left.left ≡ suc (c.loop-left.left - 1) = omega (arith, c.loop-left-test.true) in
    record {
      within = c.in_ok-row.ensures.within;
      counted = omega (arith, c.loop-left.invariant.counted, some);
      read = rows_next left (left - 1) c.loop-left.rows.items _ c.in_ok-row.row.items _ c.loop-left.next some
          (c.in_ok-push.ensures.items ∙ ap (λ r. c.loop-left.rows.items ++ r
          ∷ []) c.from.ensures) c.in_ok-row.ensures.reads ∙ c.loop-left.invariant.read;
    }

pub returns-clause-reads : goal.returns-clause-reads
returns-clause-reads c = sym c.loop-left.invariant.read
    ∙ rows_all c.loop-left.left c.loop-left.rows.items _ c.loop-left.next (omega (arith, c.loop-left-test.false))
