use Rattle.std.proofs.Common.{◌≡◌, ℕ, ◌+◌, ◌*◌, List, [], ◌∷◌, true, nat_lt, IsAscii, refl, arith, ltb-true}
use Rattle.std.specs.List.{list_all}
use Rattle.std.proofs.lemmas.Bool.{and_parts}
use Rattle.std.proofs.lemmas.Str.Ascii.{IsAscii-cons, IsAscii-nil}
use Rattle.mls_tables.specs.declared.statements.cell.TheConstants.{ADD_CELLS}
use Rattle.mls_tables.proofs.statements.cell.adding.Goals as goal

ascii_from : (bs : List ℕ) → list_all (λ b. nat_lt b 128) bs ≡ true → IsAscii bs
ascii_from [] e = IsAscii-nil
ascii_from (b ∷ bs) e =
    let parts = and_parts _ _ e in
    IsAscii-cons b bs (ltb-true b 128 parts.0) (ascii_from bs parts.1)

IsAscii-text : IsAscii ADD_CELLS.now
IsAscii-text = ascii_from ADD_CELLS.now refl

pub range-requires-clause-end_boundary : goal.range-requires-clause-end_boundary
range-requires-clause-end_boundary c = (
  omega arith,
  λ a b. absurd (omega (arith, IsAscii-text (61 + 24 * c.args.count))),
)
