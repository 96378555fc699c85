use Rattle.std.proofs.Common.{◌≡◌, take}
use Rattle.mls_scheme.specs.Extending.{schemes_before}
use Rattle.mls_scheme.proofs.scheme.relations_of.Given as goal

abbrev pub invariant-loop-place : goal.invariant-loop-place
invariant-loop-place l = l.older.items ≡ schemes_before (take l.place l.counts) l.relations
