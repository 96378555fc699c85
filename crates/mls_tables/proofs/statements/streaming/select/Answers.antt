use Rattle.std.proofs.Common.{inl, inr}
use Rattle.std.proofs.lemmas.Result.{IfOk-weaker, IfErr-weaker}
use Rattle.mls_tables.proofs.statements.streaming.select.Goals as goal

pub returns-in-Ok-clause-shown : goal.returns-in-Ok-clause-shown
returns-in-Ok-clause-shown g c clean =
    IfOk-weaker c.rows_from.result _ _ (λ xs is. (c.in-Ok.rows.items, c.in-Ok.ensures.ok clean, is.0, is.1))
    (rw c.deref.ensures.value at c.rows_from.ensures.shown)

pub returns-in-Ok-clause-refused : goal.returns-in-Ok-clause-refused
returns-in-Ok-clause-refused g c clean =
    IfErr-weaker c.rows_from.result _ _ (λ e no. inr (c.in-Ok.rows.items, c.in-Ok.ensures.ok clean, no))
    (rw c.deref.ensures.value at c.rows_from.ensures.refused)

pub returns-in-Err-clause-refused : goal.returns-in-Err-clause-refused
returns-in-Err-clause-refused g c clean = inl (c.in-Err.ensures.err clean)
