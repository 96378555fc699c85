-- The first of the tokens that are left.
use Rattle.std.proofs.Common.{◌≡◌, ◌<◌, List, [], ◌∷◌, length, get_or, drop, ap, arith, sym}
use Rattle.mls_tokens.specs.declared.token.Placed.{Placed}

-- the first, and those after it
pub first_front : (ps : List Placed) (p : Placed) → 0 < length ps → p ≡ get_or ps 0 p → ps ≡ p ∷ drop 1 ps
first_front [] p some is = absurd (omega arith)
first_front (q ∷ ps) p some is = ap (λ (x : Placed). x ∷ ps) (sym is)

pub ruleset first_steps = (first_front)
