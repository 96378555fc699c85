use Rattle.std.proofs.Common.{◌≡◌, ◌++◌, List, ℕ, take, codes, flat_map}
use Rattle.mls_lattice.proofs.extending.names_before.Given as goal

abbrev pub invariant-loop-place : goal.invariant-loop-place
invariant-loop-place l = l.text ≡ flat_map (λ (name : List ℕ). l.word ++ name ++ codes "\n") (take l.place l.names)
    ++ l.rest
