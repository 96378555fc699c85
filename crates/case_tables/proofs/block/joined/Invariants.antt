use Rattle.std.proofs.Common.{◌≡◌, string_bytes, take, flat_map}
use Rattle.case_tables.specs.Lines.{inner_of, ended}
use Rattle.case_tables.proofs.block.joined.Given as goal

abbrev pub invariant-loop-line : goal.invariant-loop-line
invariant-loop-line l = string_bytes l.text ≡ flat_map (λ line. ended (inner_of line.now)) (take l.line-index l.body)
