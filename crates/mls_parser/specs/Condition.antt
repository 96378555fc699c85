-- The tokens of conditions, with no word of how they are read; and that they are read so.
use Rattle.std.specs.Prelude.{◌≡◌, ℕ, zero, suc, ◌<◌, ◌≤◌, Bool, true, false, ◌||◌, List, [], ◌∷◌, ◌++◌, ◌⊎◌, ⊤}
use Rattle.std.specs.Prelude.{is_some, length, Ok}
use Rattle.std.specs.List.{AllByRecursion}
use Rattle.mls_lattice.specs.Policy.{Policy, IsPolicy}
use Rattle.mls_scheme.specs.Scheme.{Schemes, AreSchemes}
use Rattle.mls_tokens.specs.declared.token.Token.{Token}
use Rattle.mls_tokens.specs.declared.sign.Sign.TheVariants as sign
use Rattle.mls_tokens.specs.Scanning.{Left, without_places}
use Rattle.mls_tokens.specs.Passing.{is_sign}
use Rattle.mls_tokens.specs.Text.{Spells}
use Rattle.mls_translang.specs.declared.operator.Operator.{Operator}
use Rattle.mls_translang.specs.declared.operator.Operator.TheVariants.{Equal, Unequal, Less, AtMost, Greater, AtLeast}
use Rattle.mls_translang.specs.declared.operator.Operator.TheVariants.{And, Or}
use Rattle.mls_translang.specs.Fits.{ExprFits}
use Rattle.mls_translang.specs.Kinds.{Truth, HasSort}
use Rattle.mls_translang.specs.Tokens.{Context, operator_token, expr_tokens}
use Rattle.mls_translang.specs.Tree.{Expr, Op}
use Rattle.mls_translang.specs.Tx.{nesting, HasOwn}
use Rattle.mls_parser.specs.Noted.{State}
use Rattle.mls_parser.specs.ReadCondition.{comparison_of, joiner_of, written_scope, written_place, as_fields}
use Rattle.mls_parser.specs.ReadCondition.{condition_at}

-- ---- what spells a condition

abbrev pub is_comparison : Operator → Bool
is_comparison Equal = true
is_comparison Unequal = true
is_comparison Less = true
is_comparison AtMost = true
is_comparison Greater = true
is_comparison AtLeast = true
is_comparison _ = false

-- two parts with an operator between them, and no parentheses
pub record SpellsBetween (IsLeft : Expr → List Token → Type 0) (op : Operator) (IsRight : Expr → List Token → Type 0)
    (e : Expr) (ts : List Token) : Type 0 where
  pub left : Expr
  pub right : Expr
  pub is : e ≡ Op op left right
  pub before : List Token
  pub behind : List Token
  pub tokens : ts ≡ before ++ operator_token op ∷ behind
  pub spells_left : IsLeft left before
  pub spells_right : IsRight right behind

module _ (p : Context) where
  -- an expression of a test
  pub record SpellsSide (e : Expr) (ts : List Token) : Type 0 where
    pub tokens : ts ≡ expr_tokens p e
    pub nesting : nesting e ≤ 16

  -- an expression, or two with a comparison between them
  abbrev pub SpellsTest : Expr → List Token → Type 0
  SpellsTest e ts =
      SpellsSide e ts ⊎ ((op : Operator) × (is_comparison op ≡ true) × SpellsBetween SpellsSide op SpellsSide e ts)

  -- tests, n at most, with the operator between each two
  abbrev pub SpellsTests : Operator → ℕ → Expr → List Token → Type 0
  SpellsTests op zero e ts = ⊥
  SpellsTests op (suc n) e ts = SpellsTest e ts ⊎ SpellsBetween (λ l us. SpellsTests op n l us) op SpellsTest e ts

  abbrev pub SpellsCondition : Expr → List Token → Type 0
  SpellsCondition e ts = SpellsTests And 16 e ts ⊎ SpellsTests Or 16 e ts

module _ (policy : Policy) (schemes : Schemes) (relation : ℕ) where
  -- a condition on rows of a relation: an attribute stands there by its name alone, or behind the name of the relation
  pub record TellsCondition (test : Expr) (ts : List Token) : Type 0 where
    pub written : Expr
    pub is : test ≡ as_fields written
    pub spells : SpellsCondition (written_place policy schemes relation) written ts
    pub own : HasOwn (written_scope schemes relation) written
    pub fits : ExprFits schemes (written_scope schemes relation) written
    pub truth : HasSort schemes (written_scope schemes relation) Truth written

  -- ---- what is read is told

  -- what was passed tells the condition
  pub record IsCondition (l r : Left) (test : Expr) : Type 0 where
    pub tokens : List Token
    pub tells : TellsCondition test tokens
    pub passed : without_places l.placed ≡ tokens ++ without_places r.placed
    pub stop : r.stop ≡ l.stop

  -- ---- and what tells it is read

  -- the condition was read, before these tokens, and no fault was noted
  pub record IsConditionRead (s : State) (test : Expr) (us : List Token) : Type 0 where
    pub rest : Left
    pub is : condition_at policy schemes relation s ≡ Ok (test, (s.0, rest))
    pub tokens : without_places rest.placed ≡ us
    pub stop : rest.stop ≡ s.1.stop

-- tokens of a text
abbrev pub AreOfText : List Token → Type 0
AreOfText = AllByRecursion (λ t. (text : List ℕ) × Spells t text)

-- no condition goes on with the token
abbrev pub goes_on : Token → Bool
goes_on t = is_sign sign.Dot t || (is_some (comparison_of t) || is_some (joiner_of t))

abbrev pub EndsCondition : List Token → Type 0
EndsCondition [] = ⊤
EndsCondition (t ∷ ts) = goes_on t ≡ false

abbrev pub ConditionsAreRead : Type 0
ConditionsAreRead =
    (policy : Policy) (schemes : Schemes) → IsPolicy policy → AreSchemes schemes
    → (relation : ℕ) (s : State) (test : Expr) (ts us : List Token) → relation < length schemes
    → TellsCondition policy schemes relation test ts
    → EndsCondition us → without_places s.1.placed ≡ ts ++ us → IsConditionRead policy schemes relation s test us
