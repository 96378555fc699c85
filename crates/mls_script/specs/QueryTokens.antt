-- The tokens of a query, which stand behind the label of a view.
use Rattle.std.specs.Prelude.{◌≡◌, ℕ, pos, Bool, if◌then◌else◌, List, [], ◌∷◌, ◌++◌, codes, Option, Some, None}
use Rattle.mls_lattice.specs.Canon.{label_name}
use Rattle.mls_lattice.specs.Policy.{Policy}
use Rattle.mls_scheme.specs.Scheme.{Schemes}
use Rattle.mls_tokens.specs.declared.token.Token.{Token}
use Rattle.mls_tokens.specs.declared.token.Token.TheVariants.{Word, Int, Sign as Sign_token}
use Rattle.mls_tokens.specs.declared.sign.Sign.{Sign}
use Rattle.mls_tokens.specs.declared.sign.Sign.TheVariants as signs
use Rattle.mls_translang.specs.Tree as core
use Rattle.mls_parser.specs.Condition.{TellsCondition}
use Rattle.mls_translang.specs.declared.query.Comparison.{Comparison}
use Rattle.mls_translang.specs.declared.query.Comparison.TheVariants as compared
use Rattle.mls_translang.specs.declared.query.ClassTest.{ClassTest}
use Rattle.mls_translang.specs.declared.query.Query.{Query}

abbrev pub comparison_sign : Comparison → Sign
comparison_sign compared.Equal = signs.Equals
comparison_sign compared.Unequal = signs.Differs
comparison_sign compared.Less = signs.Less
comparison_sign compared.AtMost = signs.AtMost
comparison_sign compared.Greater = signs.Greater
comparison_sign compared.AtLeast = signs.AtLeast

abbrev pub highest_tokens : Bool → List Token
highest_tokens highest = if highest then Word (codes "highest") ∷ [] else []

abbrev pub class_tokens : Policy → Option ClassTest → List Token
class_tokens policy None = []
class_tokens policy (Some c) =
    Word (codes "class") ∷ Sign_token (comparison_sign c.comparison) ∷ Word (label_name policy.labels c.label) ∷ []

abbrev pub first_tokens : Option ℕ → List Token
first_tokens None = []
first_tokens (Some n) = Word (codes "first") ∷ Int (pos n) ∷ []

module _ (policy : Policy) (schemes : Schemes) where
  -- a condition on rows of a relation, behind its word: its parentheses are free
  pub record TellsWhere (relation : ℕ) (test : core.Expr) (ts : List Token) : Type 0 where
    pub condition : List Token
    pub tokens : ts ≡ Word (codes "where") ∷ condition
    pub tells : TellsCondition policy schemes relation test condition

  abbrev pub TellsTest : ℕ → Option core.Expr → List Token → Type 0
  TellsTest relation None ts = ts ≡ []
  TellsTest relation (Some test) ts = TellsWhere relation test ts

  pub record TellsQuery (relation : ℕ) (q : Query) (ts : List Token) : Type 0 where
    pub behind : List Token
    pub tokens :
        ts ≡ highest_tokens q.highest ++ (class_tokens policy q.class ++ (first_tokens q.first ++ behind))
    pub test : TellsTest relation q.test behind
