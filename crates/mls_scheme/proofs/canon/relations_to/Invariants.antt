use Rattle.std.proofs.Common.{◌≡◌, ◌++◌, take, string_bytes, flat_map}
use Rattle.mls_scheme.specs.Canon.{relation_lines}
use Rattle.mls_scheme.proofs.canon.relations_to.Given as goal

abbrev pub invariant-loop-scheme : goal.invariant-loop-scheme
invariant-loop-scheme l = string_bytes l.text ≡ string_bytes l.fn.text ++ flat_map (relation_lines l.policy)
    (take l.scheme-index l.relations)
