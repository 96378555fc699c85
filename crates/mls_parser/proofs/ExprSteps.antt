-- Expressions, one level of depth at a time.
use Rattle.std.proofs.Common.{◌≡◌, ℕ, zero, suc, ◌-◌, ◌==◌, false, Result, refl, sym, subst, arith, if◌then◌else◌, ne_eqb}
use Rattle.mls_translang.specs.Tokens.{Context}
use Rattle.mls_parser.specs.declared.fault.PlacedFault.{PlacedFault}
use Rattle.mls_parser.specs.declared.given.Given.{Given}
use Rattle.mls_parser.specs.Noted.{State, GivesPlaced}
use Rattle.mls_parser.specs.ReadExpr.{too_deep, term_at, negation, operation, expr_at, negation_at, operation_at}

module _ (p : Context) where
  pub expr_is : (d : ℕ) (s : State) → expr_at p d s ≡ term_at p (negation_at p d) (operation_at p d) s
  unfolding expr_at negation_at operation_at
  expr_is zero s = refl
  expr_is (suc d) s =
      let some : (suc d == 0) ≡ false = ne_eqb (suc d) 0 (λ e. omega arith) in
      let less : suc d - 1 ≡ d = omega arith in
      sym (λ i. term_at p (λ at r. if some i then too_deep at r else negation (λ t. expr_at p (less i) t) at r)
      (λ at r. if some i then too_deep at r else operation (λ t. expr_at p (less i) t) at r) s)

  pub expr_gives : {X : Type 0} (view : X → Given × State) (r : Result X PlacedFault) (d : ℕ) (s : State)
      → GivesPlaced view r (term_at p (negation_at p d) (operation_at p d) s) → GivesPlaced view r (expr_at p d s)
  expr_gives view r d s h = subst (λ z. GivesPlaced view r z) (sym (expr_is d s)) h

pub ruleset expr_steps = (expr_gives)
