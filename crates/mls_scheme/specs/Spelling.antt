-- Keys and values as bytes: each has one spelling.
use Rattle.std.specs.Prelude.{◌≡◌, ℕ, ◌<◌, ◌≤◌, ◌^◌, List, ◌∷◌, ◌++◌, length, FitsSigned, IsUtf8, ⊤, flat_map}
use Rattle.std.specs.List.{AllByRecursion}
use Rattle.std.specs.Int.{w32, w64, to_be_bytes, cast_unsigned}
use Rattle.mls_scheme.specs.declared.value.Value.{Value}
use Rattle.mls_scheme.specs.declared.value.Value.TheVariants.{Int, Text}

-- 1 and eight bytes of two's complement, or 2, four bytes of length and the text; high bytes first
abbrev pub value_spelling : Value → List ℕ
value_spelling (Int n) = 1 ∷ to_be_bytes w64 (cast_unsigned w64 n)
value_spelling (Text s) = 2 ∷ (to_be_bytes w32 (length s) ++ s)

-- the number of values, and the values
abbrev pub key_spelling : List Value → List ℕ
key_spelling key = length key ∷ flat_map value_spelling key

-- a number of 64 bits, or a text in UTF-8
abbrev pub IsValue : Value → Type 0
IsValue (Int n) = FitsSigned w64 n
IsValue (Text s) = IsUtf8 s

-- a text has a length of 32 bits
abbrev pub IsShort : Value → Type 0
IsShort (Int n) = ⊤
IsShort (Text s) = length s < 2 ^ 32

-- what a spelling can be read back to
abbrev pub HasSpelling : Value → Type 0
HasSpelling v = IsValue v × IsShort v

-- one to four values
pub record IsKey (key : List Value) : Type 0 where
  pub some : 0 < length key
  pub few : length key ≤ 4

-- one to four values with a spelling
pub record IsSpelledKey (key : List Value) : Type 0 where
  pub count : IsKey key
  pub each : AllByRecursion HasSpelling key

-- no two keys have one spelling, and no value's spelling begins another's
pub record AreUnambiguous : Type 0 where
  pub keys : (k l : List Value) → IsSpelledKey k → IsSpelledKey l → key_spelling k ≡ key_spelling l → k ≡ l
  pub values : (v w : Value) (r s : List ℕ) → HasSpelling v → HasSpelling w → value_spelling v ++ r ≡ value_spelling w
      ++ s → (v ≡ w) × (r ≡ s)
