use Rattle.std.proofs.Common.{◌≡◌, ◌++◌, take, drop, take_while}
use Rattle.case_tables.specs.Lines.{is_inner}
use Rattle.case_tables.proofs.block.indented.Given as goal

abbrev pub invariant-loop-at : goal.invariant-loop-at
invariant-loop-at l = take_while (λ line. is_inner line.now) l.lines ≡ take l.at l.lines ++ take_while
    (λ line. is_inner line.now) (drop l.at l.lines)
