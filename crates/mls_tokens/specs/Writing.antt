-- Names and texts, as they are written.
use Rattle.std.specs.Prelude.{ℕ, ◌≤◌, ◌/◌, ◌%◌, ◌+◌, ◌-◌, ◌*◌, Bool, ◌==◌, ◌||◌, ◌&&◌, nat_lt, nat_le}
use Rattle.std.specs.Prelude.{if◌then◌else◌, List, [], ◌∷◌, ◌++◌, length, codes, flat_map, IsUtf8}
use Rattle.std.specs.Char.{is_ascii_digit}

abbrev pub is_control : ℕ → Bool
is_control b = nat_lt b 32 || b == 127

abbrev pub hex_digit : ℕ → ℕ
hex_digit n = if nat_lt n 10 then 48 + n else 87 + n

-- a hexadecimal digit in lower case, and its number
abbrev pub is_hex : ℕ → Bool
is_hex b = is_ascii_digit b || (nat_le 97 b && nat_le b 102)

abbrev pub hex_value : ℕ → ℕ
hex_value b = if is_ascii_digit b then b - 48 else b - 87

-- the number of two digits, and whether they are digits, of a control character
abbrev pub hex_pair : ℕ → ℕ → ℕ
hex_pair a b = 16 * hex_value a + hex_value b

abbrev pub is_control_pair : ℕ → ℕ → Bool
is_control_pair a b = is_hex a && is_hex b && is_control (hex_pair a b)

-- a control character as \x and two digits; so no name or value begins a line
abbrev pub printable_byte : ℕ → List ℕ
printable_byte b = if is_control b then codes "\\x" ++ hex_digit (b / 16) ∷ hex_digit (b % 16) ∷ [] else b ∷ []

abbrev pub printable : List ℕ → List ℕ
printable = flat_map printable_byte

-- a text that may stand between quotes
pub record IsText (s : List ℕ) : Type 0 where
  pub utf8 : IsUtf8 s
  pub short : length s ≤ 8192

-- a quote or a backslash
abbrev pub is_escaped : ℕ → Bool
is_escaped b = b == 34 || b == 92

-- in a text between quotes, a quote and a backslash stand behind a backslash
abbrev pub quoted_byte : ℕ → List ℕ
quoted_byte b = if is_escaped b then 92 ∷ b ∷ [] else printable_byte b

abbrev pub quoted : List ℕ → List ℕ
quoted text = 34 ∷ (flat_map quoted_byte text ++ 34 ∷ [])
