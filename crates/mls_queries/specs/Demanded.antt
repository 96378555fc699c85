-- The key that a condition demands.
use Rattle.std.specs.Prelude.{◌≡◌, ℕ, true, List, length, Option}
use Rattle.std.specs.FinMap.{retain_keys}
use Rattle.mls_scheme.specs.declared.tuple.Tuple.{Tuple}
use Rattle.mls_scheme.specs.declared.value.Value.{Value}
use Rattle.mls_scheme.specs.Spelling.{IsSpelledKey}
use Rattle.mls_scheme.specs.Table.{Table}
use Rattle.mls_translang.specs.Tree.{Expr}
use Rattle.mls_queries.specs.Query.{is_key, meets}

-- a condition, if there is one, holds of no tuple of count key values but those of this key, which has a spelling
pub record IsDemanded (count : ℕ) (test : Option Expr) (key : List Value) : Type 0 where
  pub spelled : IsSpelledKey key
  pub alone : (t : Tuple) → length t.key ≡ count → meets test t ≡ true → t.key ≡ key

-- the tuples of one key
abbrev pub of_key : List Value → Table → Table
of_key key T = retain_keys T (λ p. is_key p.key key)
