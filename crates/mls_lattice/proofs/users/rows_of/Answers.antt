use Rattle.std.proofs.Common.{◌+◌, map, refl, sym, ap, ◌∙◌, arith}
use Rattle.std.proofs.lemmas.List.{length_push}
use Rattle.std.proofs.lemmas.Result.{err_from_is_err_and}
use Rattle.mls_lattice.specs.Policy.{named}
use Rattle.mls_lattice.specs.PolicyReading.{user_at}
use Rattle.mls_lattice.proofs.PolicyReadingLemmas.{rows-more}
use Rattle.mls_lattice.proofs.RowSteps.{rows_refused, rows_over}
use Rattle.mls_lattice.proofs.users.rows_of.Goals as goal

pub loop-value-init : goal.loop-value-init
loop-value-init c = (rw c.new-users.ensures.items refl, rw c.new-users.ensures.items refl)

pub returns-in_err-user-clause-reads : goal.returns-in_err-user-clause-reads
returns-in_err-user-clause-reads c =
    let p = err_from_is_err_and c.from_residual.result c.from_residual.ensures.1 in
    let refused = rw c.deref.ensures.value at c.in_err-user.ensures in
    rw (p.1, p.2) (λ f m. sym c.loop-value.invariant.0 ∙ rows_refused
    (user_at (map named c.args.labels.now)) _ _ _ _ _ c.loop-value-test.true c.value-item.is (refused f m))

pub loop-value-preserved : goal.loop-value-preserved
loop-value-preserved c =
    let front = c.loop-value.users.items in
    let row = c.in_ok-user.user in
    let read = rw c.deref.ensures.value at c.in_ok-user.ensures in
    rw c.in_ok-push.ensures.items (
      rows-more c.args.items.now c.loop-value.value-index c.value-item.result c.loop-value-test.true c.value-item.is
          (user_at (map named c.args.labels.now)) front row read ∙ c.loop-value.invariant.0,
      length_push front row ∙ ap (λ n. n + 1) c.loop-value.invariant.1,
    )

pub returns-clause-reads : goal.returns-clause-reads
returns-clause-reads c = sym c.loop-value.invariant.0
    ∙ rows_over (user_at (map named c.args.labels.now)) _ _ _ c.loop-value-test.false

pub returns-clause-count : goal.returns-clause-count
returns-clause-count c = omega arith
