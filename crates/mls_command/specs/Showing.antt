-- What is drawn of a policy and schemes, and how that ends.
use Rattle.std.specs.Prelude.{◌≡◌, ℕ, Bool, List, ◌++◌, length, nat_eq, not}
use Rattle.mls_host.specs.declared.ending.Ending.{Ending}
use Rattle.mls_host.specs.Ending.{ending_if}

-- a text says something
abbrev pub is_some_text : List ℕ → Bool
is_some_text text = not (nat_eq (length text) 0)

-- behind what is drawn stands what is said of the fields that nobody reads, if there are any, and these end it as
-- refused
pub record IsPictured (Ignores : List ℕ → Type 0) (text : List ℕ) (end : Ending) : Type 0 where
  pub drawn : List ℕ
  pub ignored : List ℕ
  pub ignored_are : Ignores ignored
  pub text_is : text ≡ drawn ++ ignored
  pub end_is : end ≡ ending_if (is_some_text ignored)
