use Rattle.std.proofs.Common.{◌≡◌, take, string_bytes, flat_map}
use Rattle.mls_command.proofs.explaining.text_of.Given as goal

-- what is told of those so far
abbrev pub invariant-loop-one : goal.invariant-loop-one
invariant-loop-one l = l.text.items ≡ flat_map (λ e. string_bytes e.text) (take l.one-index l.explained)
