use Rattle.std.proofs.Common.{◌≡◌, drop, flat_map}
use Rattle.mls_translang.specs.Layout.{puts}
use Rattle.mls_tokens.specs.Text.{comma_tokens}
use Rattle.mls_translang.specs.Tokens.{set_tokens}
use Rattle.mls_translang.proofs.print_write.set_rest_to.Given as goal

-- what is left, put after what was put, is the whole
abbrev pub invariant-loop-set : goal.invariant-loop-set
invariant-loop-set l =
    let tokens = comma_tokens (set_tokens l.names l.scheme) in
    puts l.out (flat_map tokens (drop l.set-index l.sets)) ≡ puts l.initial.out (flat_map tokens l.sets)
