use Rattle.std.proofs.Common.{◌≡◌, ◌++◌}
use Rattle.mls_translang.specs.Layout.{indent}
use Rattle.mls_translang.proofs.layout.push_indent.Given as goal

abbrev pub invariant-loop : goal.invariant-loop
invariant-loop l = l.text.items ≡ l.initial.text.items ++ indent l.counter
