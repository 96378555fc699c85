-- The labels of the loops around a statement.
use Rattle.std.specs.Prelude.{ℕ, List, take, reverse}
use Rattle.mls_certcheck.specs.declared.loops.Loops.{Loops}

-- the innermost first
abbrev pub loops_of : Loops → List ℕ
loops_of r = reverse (take r.count r.labels)
