-- What single tokens are in a transaction: what an expression or a statement begins with, operators and kinds.
use Rattle.std.specs.Prelude.{ℕ, List, [], ◌∷◌, codes, Option, Some, None, option_map, Result, Ok, Err, if◌then◌else◌}
use Rattle.std.specs.Prelude.{bytes_eq}
use Rattle.mls_lattice.specs.Name.{is_name}
use Rattle.mls_scheme.specs.declared.value.Kind.{Kind}
use Rattle.mls_scheme.specs.declared.value.Kind.TheVariants as kinds
use Rattle.mls_scheme.specs.declared.value.Value.TheVariants as values
use Rattle.mls_tokens.specs.declared.fault.TokenCause.TheVariants.{Expected}
use Rattle.mls_tokens.specs.declared.fault.TokenFault.{TokenFault}
use Rattle.mls_tokens.specs.declared.token.Token.{Token}
use Rattle.mls_tokens.specs.declared.token.Token.TheVariants.{Word, Int, Text, Sign as Sign_token}
use Rattle.mls_tokens.specs.declared.token.Placed.{Placed}
use Rattle.mls_tokens.specs.declared.sign.Sign.{Sign}
use Rattle.mls_tokens.specs.declared.sign.Sign.TheVariants as signs
use Rattle.mls_tokens.specs.Scanning.{Left, fault_at}
use Rattle.mls_tokens.specs.Passing.{left, refuse}
use Rattle.mls_translang.specs.declared.operator.Operator.{Operator}
use Rattle.mls_translang.specs.declared.operator.Operator.TheVariants as operators
use Rattle.mls_parser.specs.declared.words.Head.{Head}
use Rattle.mls_parser.specs.declared.words.Head.TheVariants as heads
use Rattle.mls_parser.specs.declared.words.Opening.{Opening}
use Rattle.mls_parser.specs.declared.words.Opening.TheVariants as openings
use Rattle.mls_parser.specs.declared.words.Plain.{Plain}
use Rattle.mls_parser.specs.declared.words.Plain.TheVariants as plains

-- ---- what an expression begins with

abbrev pub head_of_sign : Sign → Option Head
head_of_sign signs.LeftParen = Some heads.Paren
head_of_sign _ = None

abbrev pub head_of_word : List ℕ → Option Head
head_of_word s =
    if bytes_eq s (codes "null") then Some heads.Null
    else (if bytes_eq s (codes "not") then Some heads.Not
    else (if is_name s then Some (heads.Name s) else None))

abbrev pub head_of : Token → Option Head
head_of (Word s) = head_of_word s
head_of (Int n) = Some (heads.Literal (values.Int n))
head_of (Text s) = Some (heads.Literal (values.Text s))
head_of (Sign_token s) = head_of_sign s

-- ---- what a statement begins with

abbrev pub plain_of_word : List ℕ → Option Plain
plain_of_word s =
    if bytes_eq s (codes "insert") then Some plains.Insert
    else (if bytes_eq s (codes "update") then Some plains.Update
    else (if bytes_eq s (codes "delete") then Some plains.Delete
    else (if bytes_eq s (codes "release") then Some plains.Release
    else (if bytes_eq s (codes "emit") then Some plains.Emit
    else (if is_name s then Some (plains.Assign s) else None)))))

abbrev pub opening_of_word : List ℕ → Option Opening
opening_of_word s =
    if bytes_eq s (codes "if") then Some openings.If
    else (if bytes_eq s (codes "for") then Some openings.For
    else option_map openings.Plain (plain_of_word s))

abbrev pub opening_of : Token → Option Opening
opening_of (Word s) = opening_of_word s
opening_of (Int n) = None
opening_of (Text s) = None
opening_of (Sign_token s) = None

-- ---- operators and kinds

abbrev pub operator_of_sign : Sign → Option Operator
operator_of_sign signs.Plus = Some operators.Plus
operator_of_sign signs.Minus = Some operators.Minus
operator_of_sign signs.Times = Some operators.Times
operator_of_sign signs.Equals = Some operators.Equal
operator_of_sign signs.Differs = Some operators.Unequal
operator_of_sign signs.Less = Some operators.Less
operator_of_sign signs.AtMost = Some operators.AtMost
operator_of_sign signs.Greater = Some operators.Greater
operator_of_sign signs.AtLeast = Some operators.AtLeast
operator_of_sign _ = None

abbrev pub operator_of_word : List ℕ → Option Operator
operator_of_word s = if bytes_eq s (codes "and") then Some operators.And else
    (if bytes_eq s (codes "or") then Some operators.Or else None)

abbrev pub operator_of : Token → Option Operator
operator_of (Word s) = operator_of_word s
operator_of (Int n) = None
operator_of (Text s) = None
operator_of (Sign_token s) = operator_of_sign s

abbrev pub kind_of_word : List ℕ → Option Kind
kind_of_word s = if bytes_eq s (codes "int") then Some kinds.Int else
    (if bytes_eq s (codes "text") then Some kinds.Text else None)

abbrev pub kind_of : Token → Option Kind
kind_of (Word s) = kind_of_word s
kind_of (Int n) = None
kind_of (Text s) = None
kind_of (Sign_token s) = None

-- ---- the next token as one of them

module _ {X : Type 0} where
  -- what it is, and its place
  abbrev pub known : ℕ → Left → Option X → Result ((X × ℕ) × Left) TokenFault
  known at rest (Some x) = Ok ((x, at), rest)
  known at rest None = Err (fault_at at Expected)

  abbrev pub pass_known_of : (Token → Option X) → List Placed → TokenFault → Result ((X × ℕ) × Left) TokenFault
  pass_known_of what [] stop = Err (refuse [] stop)
  pass_known_of what (p ∷ ps) stop = known p.at (left ps stop) (what p.token)

  abbrev pub pass_known : (Token → Option X) → Left → Result ((X × ℕ) × Left) TokenFault
  pass_known what l = pass_known_of what l.placed l.stop

  -- where a text may stand: one that is too long is refused as that
  abbrev pub pass_any_of : (Token → Option X) → List Placed → TokenFault → Result ((X × ℕ) × Left) TokenFault
  pass_any_of what [] stop = Err stop
  pass_any_of what (p ∷ ps) stop = known p.at (left ps stop) (what p.token)

  abbrev pub pass_any : (Token → Option X) → Left → Result ((X × ℕ) × Left) TokenFault
  pass_any what l = pass_any_of what l.placed l.stop

-- what an expression begins with
abbrev pub pass_head : Left → Result ((Head × ℕ) × Left) TokenFault
pass_head = pass_any head_of
