-- Labels by number: the declared labels of a policy, in order.
use Rattle.std.specs.Prelude.{◌≡◌, ℕ, ◌<◌, Bool, true, List, slice_index_or, length}
use Rattle.mls_lattice.specs.Lattice.{Pair, ◌⊑◌, bottom}

abbrev pub Labels : Type 0
Labels = List Pair

-- the label that a number names
abbrev pub label_of : Labels → ℕ → Pair
label_of ls n = slice_index_or ls n bottom

-- the label of number b dominates that of number a
unfoldable pub below : Labels → ℕ → ℕ → Bool
below ls a b = label_of ls a ⊑ label_of ls b

-- different numbers name different labels
abbrev pub AreDistinct : Labels → Type 0
AreDistinct ls = (a b : ℕ) → a < length ls → b < length ls → label_of ls a ≡ label_of ls b → a ≡ b

-- by number too, dominance is an order
pub record IsOrderByNumber : Type 0 where
  pub reflexive : (ls : Labels) (a : ℕ) → below ls a a ≡ true
  pub transitive : (ls : Labels) (a b c : ℕ) → below ls a b ≡ true → below ls b c ≡ true → below ls a c ≡ true
  pub antisymmetric : (ls : Labels) → AreDistinct ls → (a b : ℕ) → a < length ls → b < length ls → below ls a b ≡ true
      → below ls b a ≡ true → a ≡ b
