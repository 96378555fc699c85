use Rattle.std.proofs.Common.{◌≡◌, ℕ, ◌<◌, Some}
use Rattle.mls_lattice.specs.Lattice.{Dominates}
use Rattle.mls_certcheck.specs.Rules.{after}
use Rattle.mls_labeller.specs.Rising.{rows_of, Rises}
use Rattle.mls_labeller.proofs.least.Rising.keep.Given as goal

-- the labels of the variables so far have risen
abbrev pub invariant-loop-place : goal.invariant-loop-place
invariant-loop-place l = Rises l.self (λ c. (x : ℕ) → x < l.place → (l.but ≡ Some x → ⊥)
    → Dominates (after c l.to x) (after c l.from x)) (rows_of l.initial.labels) (rows_of l.labels) l.rose
