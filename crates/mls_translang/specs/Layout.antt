-- How tokens are laid out as a text.
use Rattle.std.specs.Prelude.{ℕ, zero, suc, ◌+◌, ◌-◌, if◌then◌else◌, List, [], ◌∷◌, ◌++◌, codes, bytes_eq}
use Rattle.std.specs.Fmt.{signed_decimal}
use Rattle.mls_tokens.specs.declared.token.Token.{Token}
use Rattle.mls_tokens.specs.declared.token.Token.TheVariants as token
use Rattle.mls_tokens.specs.declared.sign.Sign.{Sign}
use Rattle.mls_tokens.specs.declared.sign.Sign.TheVariants as sign
use Rattle.mls_tokens.specs.Sign.{sign_text}
use Rattle.mls_tokens.specs.Writing.{quoted}
use Rattle.mls_translang.specs.declared.layout.Before.{Before}
use Rattle.mls_translang.specs.declared.layout.Before.TheVariants.{Nothing, Opening, LineEnd, Brace, Other}
use Rattle.mls_translang.specs.declared.layout.Side.{Side}
use Rattle.mls_translang.specs.declared.layout.Side.TheVariants as side

-- a token as it is written: numbers without leading zeros
abbrev pub spelled : Token → List ℕ
spelled (token.Word s) = s
spelled (token.Int n) = signed_decimal n
spelled (token.Text s) = quoted s
spelled (token.Sign s) = sign_text s

-- ---- what a token is to its neighbours

-- no space stands before `)`, `,`, `;`, `:` and `.`
abbrev pub sign_side : Sign → Side
sign_side sign.RightParen = side.Tight
sign_side sign.Comma = side.Tight
sign_side sign.Semicolon = side.Tight
sign_side sign.Colon = side.Tight
sign_side sign.Dot = side.Tight
sign_side sign.RightBrace = side.Closing
sign_side _ = side.Apart

abbrev pub word_side : List ℕ → Side
word_side s = if bytes_eq s (codes "else") then side.Else else side.Apart

abbrev pub side_of : Token → Side
side_of (token.Word s) = word_side s
side_of (token.Int n) = side.Apart
side_of (token.Text s) = side.Apart
side_of (token.Sign s) = sign_side s

-- none after `(` and `.`; a line ends after `{`, `;` and `}`
abbrev pub sign_before : Sign → Before
sign_before sign.LeftParen = Opening
sign_before sign.Dot = Opening
sign_before sign.LeftBrace = LineEnd
sign_before sign.Semicolon = LineEnd
sign_before sign.RightBrace = Brace
sign_before _ = Other

abbrev pub before_of : Token → Before
before_of (token.Word s) = Other
before_of (token.Int n) = Other
before_of (token.Text s) = Other
before_of (token.Sign s) = sign_before s

-- how many braces are open
abbrev pub sign_depth : ℕ → Sign → ℕ
sign_depth depth sign.LeftBrace = depth + 1
sign_depth depth sign.RightBrace = depth - 1
sign_depth depth _ = depth

abbrev pub depth_after : ℕ → Token → ℕ
depth_after depth (token.Word s) = depth
depth_after depth (token.Int n) = depth
depth_after depth (token.Text s) = depth
depth_after depth (token.Sign s) = sign_depth depth s

-- ---- what stands between two tokens

-- two spaces for each open brace
unfoldable pub indent : ℕ → List ℕ
indent zero = []
indent (suc n) = indent n ++ codes "  "

-- a brace that closes is not counted
abbrev pub new_line : ℕ → Side → List ℕ
new_line depth side.Closing = codes "\n" ++ indent (depth - 1)
new_line depth _ = codes "\n" ++ indent depth

-- `} else {` is one line
abbrev pub gap : ℕ → Before → Side → List ℕ
gap depth Nothing side = []
gap depth Opening side = []
gap depth LineEnd side = new_line depth side
gap depth Brace side.Else = codes " "
gap depth Brace side = new_line depth side
gap depth Other side.Tight = []
gap depth Other _ = codes " "

-- ---- texts

-- tokens in lines, behind what stands before them
abbrev pub laid : ℕ → Before → List Token → List ℕ
laid depth before [] = codes "\n"
laid depth before (t ∷ ts) = gap depth before (side_of t) ++ (spelled t ++ laid (depth_after depth t) (before_of t) ts)

-- the text of tokens
abbrev pub layout : List Token → List ℕ
layout ts = laid 0 Nothing ts

-- ---- a text while it is written

pub record Laid : Type 0 where
  pub text : List ℕ
  pub depth : ℕ
  pub before : Before

abbrev pub put : Laid → Token → Laid
put l t = record {
  text = l.text ++ (gap l.depth l.before (side_of t) ++ spelled t);
  depth = depth_after l.depth t;
  before = before_of t;
}

abbrev pub puts : Laid → List Token → Laid
puts l [] = l
puts l (t ∷ ts) = puts (put l t) ts

abbrev pub start : Laid
start = record { text = []; depth = 0; before = Nothing }
