-- Signs: how each is written, and which stands at the front of bytes.
use Rattle.std.specs.Prelude.{ℕ, Bool, false, ◌||◌, nat_eq, List, [], ◌∷◌, codes, length, drop, Option, Some, None}
use Rattle.std.specs.Prelude.{if◌then◌else◌}
use Rattle.std.specs.List.{starts_with}
use Rattle.std.specs.Char.{is_ascii_digit}
use Rattle.mls_tokens.specs.declared.sign.Sign.{Sign}
use Rattle.mls_tokens.specs.declared.sign.Sign.TheVariants.{Becomes, Differs, AtMost, AtLeast, LeftParen, RightParen}
use Rattle.mls_tokens.specs.declared.sign.Sign.TheVariants.{LeftBrace, RightBrace, Comma, Semicolon, Colon, Dot, Equals}
use Rattle.mls_tokens.specs.declared.sign.Sign.TheVariants.{Less, Greater, Plus, Minus, Times}

abbrev pub sign_text : Sign → List ℕ
sign_text Becomes = codes ":="
sign_text Differs = codes "<>"
sign_text AtMost = codes "<="
sign_text AtLeast = codes ">="
sign_text LeftParen = codes "("
sign_text RightParen = codes ")"
sign_text LeftBrace = codes "{"
sign_text RightBrace = codes "}"
sign_text Comma = codes ","
sign_text Semicolon = codes ";"
sign_text Colon = codes ":"
sign_text Dot = codes "."
sign_text Equals = codes "="
sign_text Less = codes "<"
sign_text Greater = codes ">"
sign_text Plus = codes "+"
sign_text Minus = codes "-"
sign_text Times = codes "*"

-- whether a byte right behind a sign makes another token of it: a minus right before a digit belongs to the number
abbrev pub sign_goes_on : Sign → ℕ → Bool
sign_goes_on Colon b = nat_eq 61 b
sign_goes_on Less b = nat_eq 62 b || nat_eq 61 b
sign_goes_on Greater b = nat_eq 61 b
sign_goes_on Minus b = is_ascii_digit b
sign_goes_on _ b = false

-- ---- the sign at the front

-- those of two bytes first
abbrev pub signs : List Sign
signs =
    Becomes ∷ Differs ∷ AtMost ∷ AtLeast ∷ LeftParen ∷ RightParen ∷ LeftBrace ∷ RightBrace ∷ Comma ∷ Semicolon ∷ Colon
    ∷ Dot
    ∷ Equals ∷ Less ∷ Greater ∷ Plus ∷ Minus ∷ Times ∷ []

-- the first of some signs that bytes begin with, and what follows it
abbrev pub first_sign : List Sign → List ℕ → Option (Sign × List ℕ)
first_sign [] bytes = None
first_sign (s ∷ ss) bytes = if starts_with nat_eq bytes (sign_text s) then Some (
  s,
  drop (length (sign_text s)) bytes,
) else first_sign ss bytes

abbrev pub leading_sign : List ℕ → Option (Sign × List ℕ)
leading_sign = first_sign signs
