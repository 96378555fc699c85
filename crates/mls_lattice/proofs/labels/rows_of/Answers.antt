use Rattle.std.proofs.Common.{◌+◌, refl, sym, ap, ◌∙◌, arith}
use Rattle.std.proofs.lemmas.List.{length_push}
use Rattle.std.proofs.lemmas.Result.{err_from_is_err_and}
use Rattle.mls_lattice.specs.PolicyReading.{label_at}
use Rattle.mls_lattice.proofs.RowSteps.{rows_refused, rows_over}
use Rattle.mls_lattice.proofs.TablesLemmas.{label_rows-more}
use Rattle.mls_lattice.proofs.labels.rows_of.Goals as goal

pub loop-value-init : goal.loop-value-init
loop-value-init c = (rw c.new-labels.ensures.items refl, rw c.new-labels.ensures.items refl)

pub returns-in_err-label-clause-reads : goal.returns-in_err-label-clause-reads
returns-in_err-label-clause-reads c =
    let p = err_from_is_err_and c.from_residual.result c.from_residual.ensures.1 in
    let refused = rw c.deref.ensures.value at c.in_err-label.ensures in
    rw (p.1, p.2) (λ f m. sym c.loop-value.invariant.0 ∙ rows_refused
    (label_at c.args.levels.now c.args.categories.now) _ _ _ _ _ c.loop-value-test.true c.value-item.is
    (refused f m))

pub loop-value-preserved : goal.loop-value-preserved
loop-value-preserved c =
    let front = c.loop-value.labels.items in
    let row = c.in_ok-label.label in
    let read = rw c.deref.ensures.value at c.in_ok-label.ensures in
    rw c.in_ok-push.ensures.items (
      label_rows-more c.args.items.now c.loop-value.value-index c.value-item.result
          (label_at c.args.levels.now c.args.categories.now) front row c.loop-value-test.true c.value-item.is read
          ∙ c.loop-value.invariant.0,
      length_push front row ∙ ap (λ n. n + 1) c.loop-value.invariant.1,
    )

pub returns-clause-reads : goal.returns-clause-reads
returns-clause-reads c = sym c.loop-value.invariant.0
    ∙ rows_over (label_at c.args.levels.now c.args.categories.now) _ _ _ c.loop-value-test.false

pub returns-clause-count : goal.returns-clause-count
returns-clause-count c = omega arith
