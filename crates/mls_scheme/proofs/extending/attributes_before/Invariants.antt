use Rattle.std.proofs.Common.{◌≡◌, ◌++◌, take, codes, flat_map}
use Rattle.mls_scheme.specs.Canon.{attribute_line}
use Rattle.mls_scheme.proofs.extending.attributes_before.Given as goal

abbrev pub invariant-loop-place : goal.invariant-loop-place
invariant-loop-place l = l.text ≡ flat_map (attribute_line l.policy (codes "attribute")) (take l.place l.attributes)
    ++ l.rest
