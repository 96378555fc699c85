use Rattle.std.proofs.Common.{◌≡◌, take}
use Rattle.mls_scheme.proofs.attributes.first_of.Given as goal

abbrev pub invariant-loop-place : goal.invariant-loop-place
invariant-loop-place l = l.first ≡ take l.place l.attributes
