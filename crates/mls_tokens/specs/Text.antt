-- The tokens of a whole text, with no word of how it is scanned. A script line has no LF; where one stands, it is
-- blank.
use Rattle.std.specs.Prelude.{◌≡◌, ℕ, ◌<◌, ◌≤◌, ℤ, pos, neg_ℤ, true, false, Bool, not, ◌||◌, ◌==◌, ◌⊎◌, List, [], ◌∷◌}
use Rattle.std.specs.Prelude.{◌++◌, length, slice_index, FitsSigned, IsUtf8, flat_map}
use Rattle.std.specs.List.{AllByRecursion}
use Rattle.std.specs.Int.{w64}
use Rattle.std.specs.Char.{is_ascii_alphabetic, is_ascii_digit}
use Rattle.std.specs.Str.{all_ascii_digits}
use Rattle.std.specs.Str.Parse.{digits_value}
use Rattle.mls_lattice.specs.Name.{is_name_byte}
use Rattle.mls_tokens.specs.declared.token.Token.{Token}
use Rattle.mls_tokens.specs.declared.token.Token.TheVariants.{Word, Int, Text, Sign as Sign_token}
use Rattle.mls_tokens.specs.declared.sign.Sign.TheVariants.{Comma}
use Rattle.mls_tokens.specs.Sign.{sign_text, sign_goes_on}
use Rattle.mls_tokens.specs.Writing.{quoted, IsText}

-- ---- names and reserved words

-- a letter, and up to 31 letters, digits or `_`
pub record IsWord (text : List ℕ) : Type 0 where
  pub letter : is_ascii_alphabetic (slice_index text 0) ≡ true
  pub bytes : AllByRecursion (λ b. is_name_byte b ≡ true) text
  pub short : length text ≤ 32

-- ---- numbers

-- one digit or more
pub record IsDigits (text : List ℕ) : Type 0 where
  pub some : 0 < length text
  pub digits : all_ascii_digits text ≡ true

-- digits, or a minus and digits, within 64 signed bits
abbrev pub IsInt : List ℕ → ℤ → Type 0
IsInt text n =
    FitsSigned w64 n
    × ((IsDigits text × (n ≡ pos (digits_value 10 text)))
    ⊎ ((digits : List ℕ) × (text ≡ 45 ∷ digits) × IsDigits digits × (n ≡ neg_ℤ (pos (digits_value 10 digits)))))

-- ---- tokens

-- the text of a token
abbrev pub Spells : Token → List ℕ → Type 0
Spells (Word s) text = (text ≡ s) × IsWord s
Spells (Int n) text = IsInt text n
Spells (Text s) text = (text ≡ quoted s) × IsText s
Spells (Sign_token s) text = text ≡ sign_text s

-- whether a byte right behind a token makes another token of it
abbrev pub goes_on : Token → ℕ → Bool
goes_on (Word s) b = is_name_byte b
goes_on (Int n) b = is_ascii_digit b
goes_on (Text s) b = false
goes_on (Sign_token s) b = sign_goes_on s b

-- ---- lists

abbrev pub comma_tokens : {X : Type 0} → (X → List Token) → X → List Token
comma_tokens tokens x = Sign_token Comma ∷ tokens x

-- with a comma between each two
abbrev pub separated : {X : Type 0} → (X → List Token) → List X → List Token
separated tokens [] = []
separated tokens (x ∷ xs) = tokens x ++ flat_map (comma_tokens tokens) xs

-- ---- what stands between tokens

-- space, tab, LF and CR
abbrev pub is_blank : ℕ → Bool
is_blank b = b == 32 || b == 9 || b == 10 || b == 13

-- no LF
abbrev pub is_no_feed : ℕ → Bool
is_no_feed b = not (b == 10)

-- what stands behind a `#`, up to the end of its line
pub record IsComment (text : List ℕ) : Type 0 where
  pub one_line : AllByRecursion (λ b. is_no_feed b ≡ true) text
  pub utf8 : IsUtf8 text

-- a blank, or a comment with its LF
abbrev pub IsPiece : List ℕ → Type 0
IsPiece piece =
    ((b : ℕ) × (piece ≡ b ∷ []) × (is_blank b ≡ true))
    ⊎ ((text : List ℕ) × (piece ≡ 35 ∷ (text ++ 10 ∷ [])) × IsComment text)

pub record IsGap (gap : List ℕ) : Type 0 where
  pub pieces : List (List ℕ)
  pub whole : gap ≡ flat_map (λ p. p) pieces
  pub each : AllByRecursion IsPiece pieces

-- nothing, or a comment without LF
abbrev pub IsLast : List ℕ → Type 0
IsLast last = (last ≡ []) ⊎ ((text : List ℕ) × (last ≡ 35 ∷ text) × IsComment text)

-- ---- a whole text

-- a gap, the token, and the rest, which does not go on with the token
pub record Begins (bytes : List ℕ) (t : Token) (rest : List ℕ) : Type 0 where
  pub gap : List ℕ
  pub text : List ℕ
  pub parts : bytes ≡ gap ++ (text ++ rest)
  pub is_gap : IsGap gap
  pub spells : Spells t text
  pub ends : goes_on t (slice_index rest 0) ≡ false

-- a gap, and perhaps a comment
pub record IsOver (bytes : List ℕ) : Type 0 where
  pub gap : List ℕ
  pub last : List ℕ
  pub parts : bytes ≡ gap ++ last
  pub is_gap : IsGap gap
  pub is_last : IsLast last

-- the text is these tokens: no word of a scan, so that a printed text can be shown to read back
abbrev pub AreTokens : List Token → List ℕ → Type 0
AreTokens [] bytes = IsOver bytes
AreTokens (t ∷ ts) bytes = (rest : List ℕ) × Begins bytes t rest × AreTokens ts rest

-- a text is the tokens of one list at most
abbrev pub TextsAreOnce : Type 0
TextsAreOnce = (bytes : List ℕ) (ts us : List Token) → AreTokens ts bytes → AreTokens us bytes → ts ≡ us
