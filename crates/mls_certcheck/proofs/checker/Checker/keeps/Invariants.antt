use Rattle.std.proofs.Common.{◌≡◌, ◌||◌, true}
use Rattle.mls_lattice.specs.Lattice.{◌⊑◌}
use Rattle.mls_certcheck.specs.Rules.{after}
use Rattle.mls_certcheck.specs.Checks.{all_below, is_target}
use Rattle.mls_certcheck.specs.Walk.{claim_of}
use Rattle.mls_certcheck.proofs.checker.Checker.keeps.Given as goal

-- so far it holds
abbrev pub invariant-loop-place : goal.invariant-loop-place
invariant-loop-place l = all_below l.place (λ x. is_target l.but x || after (claim_of l.self) l.from x ⊑ after
    (claim_of l.self) l.to x) ≡ true
