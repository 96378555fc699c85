-- Which transactions a text tells, with no word of how it is read.
use Rattle.std.specs.Prelude.{◌≡◌, ℕ, Bool, true, List, [], ◌∷◌, ◌++◌, codes, ◌⊎◌, flat_map}
use Rattle.std.specs.List.{AllByRecursion}
use Rattle.mls_lattice.specs.Policy.{Policy, IsPolicy}
use Rattle.mls_scheme.specs.Scheme.{Schemes, AreSchemes}
use Rattle.mls_tokens.specs.declared.token.Token.{Token}
use Rattle.mls_tokens.specs.declared.token.Token.TheVariants.{Word}
use Rattle.mls_tokens.specs.Text.{AreTokens}
use Rattle.mls_translang.specs.Tree.{Block, End, Do, If, For, is_end}
use Rattle.mls_translang.specs.Tx.{Tx, IsTx}
use Rattle.mls_translang.specs.Fits.{IsReadUnder, AreReadUnder}
use Rattle.mls_translang.specs.Tokens.{Context, at_row, outermost, expr_tokens, stmt_tokens, for_tokens, braced}
use Rattle.mls_translang.specs.Tokens.{params_tokens, var_tokens, heading_tokens, printed}

-- the other block of an `if`: one with no statement may be left out or written
abbrev pub TellsOther : Bool → (List Token → Type 0) → List Token → Type 0
TellsOther none told ts = ((none ≡ true) × (ts ≡ []))
    ⊎ ((inner : List Token) × (ts ≡ Word (codes "else") ∷ braced inner) × told inner)

abbrev pub TellsBlock : Context → Block → List Token → Type 0
TellsBlock p End ts = ts ≡ []
TellsBlock p (Do stmt rest) ts = (r : List Token) × (ts ≡ stmt_tokens p stmt ++ r) × TellsBlock p rest r
TellsBlock p (If guard one other rest) ts =
    (a b r : List Token) × (ts ≡ Word (codes "if") ∷ (expr_tokens p guard ++ (braced a ++ (b ++ r))))
    × TellsBlock p one a × TellsOther (is_end other) (λ inner. TellsBlock p other inner) b × TellsBlock p rest r
TellsBlock p (For row relation label body rest) ts =
    (a r : List Token) × (ts ≡ for_tokens p row relation label ++ (braced a ++ r))
    × TellsBlock (at_row p row relation) body a × TellsBlock p rest r

abbrev pub TellsTx : Context → Tx → List Token → Type 0
TellsTx p tx ts =
    (b : List Token) × (ts ≡ heading_tokens p tx.name tx.lo tx.hi ++ (params_tokens p tx.params
    ++ braced (flat_map var_tokens tx.vars ++ b)))
    × TellsBlock p tx.body b

abbrev pub TellsEach : Policy → Schemes → List Tx → List Token → Type 0
TellsEach policy schemes [] ts = ts ≡ []
TellsEach policy schemes (tx ∷ txs) ts =
    (a r : List Token) × (ts ≡ a ++ r) × TellsTx (outermost policy schemes tx) tx a × TellsEach policy schemes txs r

-- the text tells these transactions, which are read under both; only whether an empty other block is written is
-- left open
pub record Tells (policy : Policy) (schemes : Schemes) (bytes : List ℕ) (txs : List Tx) : Type 0 where
  pub tokens : List Token
  pub text : AreTokens tokens bytes
  pub told : TellsEach policy schemes txs tokens
  pub each : AllByRecursion IsTx txs
  pub read : AreReadUnder policy schemes txs

-- the printed text of a transaction tells it
abbrev pub PrintsAreTold : Type 0
PrintsAreTold =
    (policy : Policy) (schemes : Schemes) (tx : Tx) → IsPolicy policy → AreSchemes schemes → IsTx tx
    → IsReadUnder policy schemes tx
    → Tells policy schemes (printed policy schemes tx) (tx ∷ [])
