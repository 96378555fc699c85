use Rattle.std.proofs.Common.{◌≡◌, ◌∷◌, length, take, flat_map}
use Rattle.std.specs.List.{AllByRecursion}
use Rattle.mls_scheme.specs.Spelling.{value_spelling, IsValue}
use Rattle.mls_scheme.proofs.key_writing.key_bytes.Given as goal

abbrev pub invariant-loop-value : goal.invariant-loop-value
invariant-loop-value l = (l.out.items ≡ length l.key ∷ flat_map value_spelling (take l.value-index l.key))
    × AllByRecursion IsValue (take l.value-index l.key)
