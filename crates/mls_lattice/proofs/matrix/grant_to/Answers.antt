use Rattle.std.proofs.Common.{refl, sym, ◌∙◌}
use Rattle.std.proofs.lemmas.Result.{err_from_is_err_and}
use Rattle.mls_lattice.proofs.MatrixSteps.{pair-bad, pair-more}
use Rattle.mls_lattice.proofs.matrix.grant_to.Goals as goal

pub loop-user-init : goal.loop-user-init
loop-user-init c = (rw c.deref-user-items.ensures refl, c.requires.known)

pub returns-in_err-rights_to-clause-adds : goal.returns-in_err-rights_to-clause-adds
returns-in_err-rights_to-clause-adds c =
    let p = err_from_is_err_and c.from_residual.result c.from_residual.ensures.1 in
    let refused = rw c.deref.ensures at c.in_err-rights_to.ensures.adds in
    rw (p.1, p.2) (λ f m. sym c.loop-user.invariant.0 ∙ pair-bad _ _ _ c.loop-user-test.true c.user-item.is _ _ _ _
    (refused f m))

pub loop-user-preserved : goal.loop-user-preserved
loop-user-preserved c =
    let added = rw c.deref.ensures at c.in_ok-rights_to.ensures.adds in (
      pair-more c.deref-user-items.result.now c.loop-user.user-index c.user-item.result c.loop-user-test.true c.user-item.is _ _ c.loop-user.matrix.items _ added
          ∙ c.loop-user.invariant.0,
      c.in_ok-rights_to.ensures.known,
    )
