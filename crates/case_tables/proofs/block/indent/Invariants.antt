use Rattle.std.proofs.Common.{◌≡◌, ◌++◌, string_bytes, flat_map}
use Rattle.case_tables.specs.Lines.{indented_line}
use Rattle.case_tables.proofs.block.indent.Given as goal

abbrev pub invariant-loop-line : goal.invariant-loop-line
invariant-loop-line l = string_bytes l.out ≡ string_bytes l.fn.out
    ++ flat_map (λ line. indented_line line.now) l.yielded
