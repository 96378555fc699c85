use Rattle.std.proofs.Common.{◌≡◌, ◌++◌, take, string_bytes, flat_map}
use Rattle.mls_scheme.specs.Canon.{attribute_line}
use Rattle.mls_scheme.proofs.canon.attributes_to.Given as goal

abbrev pub invariant-loop-place : goal.invariant-loop-place
invariant-loop-place l = string_bytes l.text ≡ string_bytes l.fn.text ++ flat_map (attribute_line l.policy l.word)
    (take l.place l.attributes)
