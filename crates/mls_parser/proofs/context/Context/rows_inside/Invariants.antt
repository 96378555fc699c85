use Rattle.std.proofs.Common.{◌≡◌, ◌∷◌, take}
use Rattle.mls_parser.proofs.context.Context.rows_inside.Given as goal

abbrev pub invariant-loop-around : goal.invariant-loop-around
invariant-loop-around l = l.rows.items ≡ record { name = l.row; relation = l.fn.relation }
    ∷ take l.around-index l.around-items
