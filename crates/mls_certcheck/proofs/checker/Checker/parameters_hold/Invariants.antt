use Rattle.std.proofs.Common.{◌≡◌, drop}
use Rattle.std.specs.List.{list_all}
use Rattle.mls_certcheck.specs.Lines.{within_ends}
use Rattle.mls_certcheck.specs.Checks.{holds}
use Rattle.mls_certcheck.specs.Walk.{claim_of}
use Rattle.mls_certcheck.proofs.checker.Checker.parameters_hold.Given as goal

-- what is left, tested, is the whole
abbrev pub invariant-loop-place : goal.invariant-loop-place
invariant-loop-place l = list_all (λ p. list_all (holds (claim_of l.self)) (within_ends p.1.label))
    (drop l.place l.self.tx.now.params) ≡ list_all (λ p. list_all (holds (claim_of l.self))
    (within_ends p.1.label)) l.self.tx.now.params
