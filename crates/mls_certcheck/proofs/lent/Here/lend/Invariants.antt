use Rattle.std.proofs.Common.{drop, map}
use Rattle.mls_certcheck.specs.Lent.{line_of}
use Rattle.mls_certcheck.proofs.lent.Here.lend.Given as goal

-- who visits what is left, visits the whole
abbrev pub invariant-loop-lent : goal.invariant-loop-lent
invariant-loop-lent g l =
    (r : _) (w : _) → g.V.Visit.visits l.visitor (map (λ k. line_of l.self k.0 k.1) (drop l.lent-index l.lines)) r w
    → g.V.Visit.visits l.initial.visitor (map (λ k. line_of l.self k.0 k.1) l.lines) r w
