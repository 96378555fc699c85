-- The line with which what is told of a place in a file begins.
use Rattle.std.specs.Prelude.{◌≡◌, ℕ, ◌/◌, ◌%◌, Bool, ◌&&◌, ◌||◌, ◌==◌, nat_le, if◌then◌else◌, List, [], ◌∷◌, ◌++◌}
use Rattle.std.specs.Prelude.{codes, chars}
use Rattle.std.specs.Prelude.{Option, Some, None, flat_map}
use Rattle.std.specs.Prelude.{encode_utf8, decimal}
use Rattle.std.specs.Char.{is_control}
use Rattle.mls_tokens.specs.Writing.{hex_digit}
use Rattle.mls_tokens.specs.Screen.{hex_escape}

-- a character that is invisible or turns a line round: U+061C, U+200B to U+200F, U+202A to U+202E, U+2060 to U+2069,
-- U+FEFF
abbrev pub is_unseen : ℕ → Bool
is_unseen c = c == 1564 || nat_le 8203 c && nat_le c 8207 || nat_le 8234 c && nat_le c 8238 || nat_le 8288 c
    && nat_le c 8297 || c == 65279

abbrev pub two_digits : ℕ → List ℕ
two_digits n = hex_digit (n / 16) ∷ hex_digit (n % 16) ∷ []

-- a number of four digits
abbrev pub number_escape : ℕ → List ℕ
number_escape n = codes "\\u" ++ (two_digits (n / 256) ++ two_digits (n % 256))

-- a character as a screen is given it
abbrev pub shown_char : ℕ → List ℕ
shown_char c = if is_control c then hex_escape c else if is_unseen c then number_escape c else encode_utf8 c

unfoldable pub shown : List ℕ → List ℕ
shown text = flat_map shown_char (chars text)

abbrev pub column_part : Option ℕ → List ℕ
column_part None = codes ": "
column_part (Some column) = codes ":" ++ (decimal column ++ codes ": ")

-- the file, the line, and the column where one is told
unfoldable pub place_line : List ℕ → ℕ → Option ℕ → List ℕ
place_line path line column = codes "  " ++ (shown path ++ (codes ":" ++ (decimal line ++ column_part column)))

-- a file of which no line is told
unfoldable pub file_line : List ℕ → List ℕ
file_line path = codes "  " ++ (shown path ++ codes "\n")

-- a text begins with another
abbrev pub Begins : List ℕ → List ℕ → Type 0
Begins front text = (rest : List ℕ) × (text ≡ front ++ rest)
