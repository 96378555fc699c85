-- The tokens that stand behind the parts of a command: the query of a view, or the commands of a batch.
use Rattle.std.specs.Prelude.{◌≡◌, List, [], ◌∷◌, ◌++◌, ◌⊎◌}
use Rattle.mls_lattice.specs.Policy.{Policy}
use Rattle.mls_scheme.specs.Scheme.{Schemes}
use Rattle.mls_tokens.specs.declared.token.Token.{Token}
use Rattle.mls_tokens.specs.declared.token.Token.TheVariants.{Sign}
use Rattle.mls_tokens.specs.declared.sign.Sign.TheVariants.{RightBrace, Semicolon}
use Rattle.mls_translang.specs.declared.event.Command.{Command}
use Rattle.mls_translang.specs.declared.event.Command.TheVariants as commands
use Rattle.mls_translang.specs.declared.event.One.{One}
use Rattle.mls_translang.specs.declared.event.One.TheVariants as ones
use Rattle.mls_script.specs.QueryTokens.{TellsQuery}
use Rattle.mls_script.specs.Tokens.{verb_and_one}

-- the end of a batch, with a semicolon before it or without
abbrev pub IsEnd : List Token → Type 0
IsEnd ts = (ts ≡ Sign RightBrace ∷ []) ⊎ (ts ≡ Sign Semicolon ∷ Sign RightBrace ∷ [])

module _ (policy : Policy) (schemes : Schemes) where
  -- what stands behind the parts of a command of a batch: nothing but the query of what looks
  abbrev pub TellsOneTail : One → List Token → Type 0
  TellsOneTail (ones.View relation label query counts) ts = TellsQuery policy schemes relation query ts
  TellsOneTail (ones.Expect rows relation label query) ts = TellsQuery policy schemes relation query ts
  TellsOneTail (ones.Write relation write) ts = ts ≡ []

  -- a command of a batch, and behind it its query
  pub record TellsOne (one : One) (ts : List Token) : Type 0 where
    pub tail : List Token
    pub tokens : ts ≡ verb_and_one policy schemes one ++ tail
    pub query : TellsOneTail one tail

  -- behind a command: each of the others behind a semicolon, and the end
  abbrev pub TellsMore : List One → List Token → Type 0
  TellsMore [] ts = IsEnd ts
  TellsMore (one ∷ batch) ts =
      (us : List Token) × (rest : List Token)
      × (ts ≡ Sign Semicolon ∷ us ++ rest) × TellsOne one us × TellsMore batch rest

  -- behind the brace: a command, and the others
  abbrev pub TellsBatch : List One → List Token → Type 0
  TellsBatch [] ts = ⊥
  TellsBatch (one ∷ batch) ts =
      (us : List Token) × (rest : List Token) × (ts ≡ us ++ rest) × TellsOne one us × TellsMore batch rest

  -- what stands behind the parts of a command: nothing but the query of a view, or the commands of a batch
  abbrev pub TellsTail : Command → List Token → Type 0
  TellsTail (commands.View relation label query counts) ts = TellsQuery policy schemes relation query ts
  TellsTail (commands.All batch) ts = TellsBatch batch ts
  TellsTail command ts = ts ≡ []
