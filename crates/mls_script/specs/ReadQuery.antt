-- What stands behind the label of a view, from the tokens that are left: which of its rows are asked for.
use Rattle.std.specs.Prelude.{ℕ, ℤ, pos, negsuc, Bool, true, false, if◌then◌else◌, codes, Option, Some, None, Ok}
use Rattle.mls_lattice.specs.Policy.{Policy}
use Rattle.mls_lattice.specs.Reading.{◌>>=◌}
use Rattle.mls_scheme.specs.Scheme.{Schemes}
use Rattle.mls_tokens.specs.declared.sign.Sign.{Sign as Mark}
use Rattle.mls_tokens.specs.declared.sign.Sign.TheVariants as signs
use Rattle.mls_tokens.specs.declared.token.Token.{Token}
use Rattle.mls_tokens.specs.declared.token.Token.TheVariants.{Word, Int, Text, Sign}
use Rattle.mls_translang.specs.Tree.{Expr}
use Rattle.mls_translang.specs.declared.query.Comparison.{Comparison}
use Rattle.mls_translang.specs.declared.query.Comparison.TheVariants.{Equal, Unequal, Less, AtMost, Greater, AtLeast}
use Rattle.mls_translang.specs.declared.query.ClassTest.{ClassTest}
use Rattle.mls_translang.specs.declared.query.Query.{Query}
use Rattle.mls_parser.specs.declared.fault.TextCause.TheVariants.{Kind}
use Rattle.mls_parser.specs.Fault.{unless}
use Rattle.mls_parser.specs.Noted.{State, Read, note, token, takes_word, label_at}
use Rattle.mls_parser.specs.ReadCondition.{condition_at}
use Rattle.mls_parser.specs.Words.{pass_known}

-- ---- the highest

abbrev pub highest_behind : State → Option (ℕ × State) → Bool × State
highest_behind s None = (false, s)
highest_behind s (Some x) = (true, x.1)

abbrev pub highest_at : State → Bool × State
highest_at s = highest_behind s (takes_word (codes "highest") s)

-- ---- the class

abbrev pub comparison_of_sign : Mark → Option Comparison
comparison_of_sign signs.Equals = Some Equal
comparison_of_sign signs.Differs = Some Unequal
comparison_of_sign signs.Less = Some Less
comparison_of_sign signs.AtMost = Some AtMost
comparison_of_sign signs.Greater = Some Greater
comparison_of_sign signs.AtLeast = Some AtLeast
comparison_of_sign _ = None

abbrev pub comparison_of : Token → Option Comparison
comparison_of (Word s) = None
comparison_of (Int n) = None
comparison_of (Text s) = None
comparison_of (Sign s) = comparison_of_sign s

abbrev pub class_behind : Policy → State → Option (ℕ × State) → Read (Option ClassTest)
class_behind policy s None = Ok (None, s)
class_behind policy s (Some x) = do
  c ← token (pass_known comparison_of) x.1
  l ← label_at policy c.1
  Ok (Some (record { comparison = c.0.0; label = l.0 }), l.1)

unfoldable pub class_at : Policy → State → Read (Option ClassTest)
class_at policy s = class_behind policy s (takes_word (codes "class") s)

-- ---- the first

abbrev pub number_of : Token → Option ℤ
number_of (Word s) = None
number_of (Int n) = Some n
number_of (Text s) = None
number_of (Sign s) = None

-- a number of rows is not negative
abbrev pub is_count : ℤ → Bool
is_count (pos n) = true
is_count (negsuc n) = false

abbrev pub count_of : ℤ → ℕ
count_of (pos n) = n
count_of (negsuc n) = 0

unfoldable pub rows_at : State → Read ℕ
rows_at s = do
  n ← token (pass_known number_of) s
  Ok (count_of n.0.0, note (unless (is_count n.0.0) n.0.1 Kind) n.1)

abbrev pub first_behind : State → Option (ℕ × State) → Read (Option ℕ)
first_behind s None = Ok (None, s)
first_behind s (Some x) = rows_at x.1 >>= λ n. Ok (Some n.0, n.1)

-- rows that are counted are all that are found
unfoldable pub first_at : Bool → State → Read (Option ℕ)
first_at counts s = if counts then Ok (None, s) else first_behind s (takes_word (codes "first") s)

module _ (policy : Policy) (schemes : Schemes) where
  -- ---- the condition

  abbrev pub where_behind : ℕ → State → Option (ℕ × State) → Read (Option Expr)
  where_behind relation s None = Ok (None, s)
  where_behind relation s (Some x) = condition_at policy schemes relation x.1 >>= λ e. Ok (Some e.0, e.1)

  unfoldable pub where_at : ℕ → State → Read (Option Expr)
  where_at relation s = where_behind relation s (takes_word (codes "where") s)

  -- ---- a query

  unfoldable pub query_at : Bool → ℕ → State → Read Query
  query_at counts relation s = do
    c ← class_at policy (highest_at s).1
    f ← first_at counts c.1
    t ← where_at relation f.1
    Ok (record { highest = (highest_at s).0; class = c.0; test = t.0; first = f.0 }, t.1)
