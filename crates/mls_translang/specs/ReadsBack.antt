-- Texts are read back as the tokens that they were laid out from.
use Rattle.std.specs.Prelude.{List}
use Rattle.std.specs.List.{AllByRecursion}
use Rattle.mls_tokens.specs.declared.token.Token.{Token}
use Rattle.mls_tokens.specs.Text.{Spells, AreTokens}
use Rattle.mls_lattice.specs.Policy.{Policy, IsPolicy}
use Rattle.mls_scheme.specs.Scheme.{Schemes, AreSchemes}
use Rattle.mls_translang.specs.Layout.{spelled, layout}
use Rattle.mls_translang.specs.Tx.{Tx, IsTx}
use Rattle.mls_translang.specs.Fits.{IsReadUnder}
use Rattle.mls_translang.specs.Tokens.{tokens_of, printed}

-- what is written for a token spells it
abbrev pub IsSpelled : Token → Type 0
IsSpelled t = Spells t (spelled t)

-- a layout is its tokens
abbrev pub LayoutsAreTokens : Type 0
LayoutsAreTokens = (ts : List Token) → AllByRecursion IsSpelled ts → AreTokens ts (layout ts)

-- the printed text of a transaction is the tokens of its tree
abbrev pub PrintsAreTokens : Type 0
PrintsAreTokens =
    (policy : Policy) (schemes : Schemes) (tx : Tx) → IsPolicy policy → AreSchemes schemes → IsTx tx
    → IsReadUnder policy schemes tx
    → AreTokens (tokens_of policy schemes tx) (printed policy schemes tx)
