-- Texts as a screen is given them: no control character but line feeds, and none that is invisible or turns a line
-- round.
use Rattle.std.specs.Prelude.{◌≡◌, ℕ, zero, suc, ◌+◌, ◌*◌, ◌/◌, ◌%◌, Bool, false, not, ◌&&◌, ◌||◌, ◌==◌, nat_lt}
use Rattle.std.specs.Prelude.{nat_le, if◌then◌else◌, List, []}
use Rattle.std.specs.Prelude.{◌∷◌, ◌++◌, codes, slice_get, unwrap_or}
use Rattle.std.specs.List.{AllByRecursion}
use Rattle.mls_tokens.specs.Writing.{is_control, hex_digit}

-- a control character of one byte that does not end a line
abbrev pub is_hidden : ℕ → Bool
is_hidden b = is_control b && not (b == 10)

-- the characters of two bytes: the control characters U+0080 to U+009F; U+061C
abbrev pub is_hidden_pair : ℕ → ℕ → Bool
is_hidden_pair a b = a == 194 && (nat_le 128 b && nat_lt b 160) || a == 216 && b == 156

-- behind 226 128: U+200B to U+200F, U+202A to U+202E
abbrev pub is_mark : ℕ → Bool
is_mark c = nat_le 139 c && nat_lt c 144 || nat_le 170 c && nat_lt c 175

-- behind 226 129: U+2060 to U+2069
abbrev pub is_joiner : ℕ → Bool
is_joiner c = nat_le 160 c && nat_lt c 170

-- the characters of three bytes: those behind 226 128 and 226 129; U+FEFF
abbrev pub is_hidden_triple : ℕ → ℕ → ℕ → Bool
is_hidden_triple a b c = a == 226 && (b == 128 && is_mark c || b == 129 && is_joiner c) || a ==
    239 && (b == 187 && c == 191)

abbrev pub hex_escape : ℕ → List ℕ
hex_escape b = codes "\\x" ++ hex_digit (b / 16) ∷ hex_digit (b % 16) ∷ []

-- the number of a character of three bytes, four bits a digit: the first byte has four of them, each other one six
abbrev pub unicode_escape : ℕ → ℕ → ℕ → List ℕ
unicode_escape a b c = codes "\\u" ++ hex_digit (a % 16) ∷ hex_digit (b % 64 / 4) ∷ hex_digit (b % 4 * 4 + c % 64 / 16)
    ∷ hex_digit (c % 16) ∷ []

-- of two bytes, likewise
abbrev pub pair_escape : ℕ → ℕ → List ℕ
pair_escape a b = if a == 194 then hex_escape b else unicode_escape 0 a b

-- a byte of a text; behind its end 0, which is no part of a character of more bytes
abbrev pub byte_at : List ℕ → ℕ → ℕ
byte_at bs n = unwrap_or (slice_get bs n) 0

-- what a character begins with is shown as, given the two bytes behind it: a hidden one is shown whole
abbrev pub shown : ℕ → ℕ → ℕ → List ℕ
shown a b c =
    if is_hidden a then hex_escape a else if is_hidden_pair a b then pair_escape a b
    else if is_hidden_triple a b c then unicode_escape a b c else a ∷ []

-- how many bytes behind it are of the same hidden character
abbrev pub passed : ℕ → ℕ → ℕ → ℕ
passed a b c = if is_hidden_pair a b then 1 else if is_hidden_triple a b c then 2 else 0

-- so many bytes are shown already
abbrev pub escaped_from : ℕ → List ℕ → List ℕ
escaped_from n [] = []
escaped_from (suc n) (a ∷ bs) = escaped_from n bs
escaped_from zero (a ∷ bs) = shown a (byte_at bs 0) (byte_at bs 1) ++ escaped_from
    (passed a (byte_at bs 0) (byte_at bs 1)) bs

abbrev pub escaped : List ℕ → List ℕ
escaped = escaped_from 0

-- ---- what a screen may be given

-- no control character stands in a text but line feeds, and no character that is invisible or turns a line round
pub record IsHarmless (bytes : List ℕ) : Type 0 where
  pub single : AllByRecursion (λ b. is_hidden b ≡ false) bytes
  pub double : (front rest : List ℕ) (a b : ℕ) → bytes ≡ front ++ a ∷ b ∷ rest → is_hidden_pair a b ≡ false
  pub triple : (front rest : List ℕ) (a b c : ℕ) → bytes ≡ front ++ a ∷ b ∷ c ∷ rest → is_hidden_triple a b c ≡ false

abbrev pub EscapedTextsAreHarmless : Type 0
EscapedTextsAreHarmless = (bytes : List ℕ) → IsHarmless (escaped bytes)
