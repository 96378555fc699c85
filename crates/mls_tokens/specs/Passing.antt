-- The tokens that are left, passed one after another: what is taken, or the fault where the next may not stand.
use Rattle.std.specs.Prelude.{ℕ, Bool, true, false, List, [], ◌∷◌, Option, Some, None, Result, Ok, Err, if◌then◌else◌}
use Rattle.std.specs.Prelude.{bytes_eq}
use Rattle.mls_lattice.specs.Name.{is_name}
use Rattle.mls_tokens.specs.declared.fault.TokenCause.{TokenCause}
use Rattle.mls_tokens.specs.declared.fault.TokenCause.TheVariants.{Token as BadToken, Expected, TooLong, Memory}
use Rattle.mls_tokens.specs.declared.fault.TokenFault.{TokenFault}
use Rattle.mls_tokens.specs.declared.token.Token.{Token}
use Rattle.mls_tokens.specs.declared.token.Token.TheVariants.{Word, Int, Text, Sign as Sign_token}
use Rattle.mls_tokens.specs.declared.token.Placed.{Placed}
use Rattle.mls_tokens.specs.declared.sign.Sign.{Sign}
use Rattle.mls_tokens.specs.Sign.{sign_text}
use Rattle.mls_tokens.specs.Scanning.{Left, fault_at}

abbrev pub left : List Placed → TokenFault → Left
left placed stop = record { placed = placed; stop = stop }

-- a text that is too long is a token too
abbrev pub stop_as_token : ℕ → TokenCause → TokenFault
stop_as_token at BadToken = fault_at at BadToken
stop_as_token at Expected = fault_at at Expected
stop_as_token at TooLong = fault_at at Expected
stop_as_token at Memory = fault_at at Memory

abbrev pub refuse : List Placed → TokenFault → TokenFault
refuse [] stop = stop_as_token stop.at stop.cause
refuse (p ∷ ps) stop = fault_at p.at Expected

-- the next token may not stand here
abbrev pub refused : Left → TokenFault
refused l = refuse l.placed l.stop

-- ---- what is taken

abbrev pub is_word : List ℕ → Token → Bool
is_word w (Word s) = bytes_eq s w
is_word w (Int n) = false
is_word w (Text s) = false
is_word w (Sign_token s) = false

abbrev pub is_sign : Sign → Token → Bool
is_sign s (Word w) = false
is_sign s (Int n) = false
is_sign s (Text w) = false
is_sign s (Sign_token t) = bytes_eq (sign_text t) (sign_text s)

abbrev pub take_first : (Token → Bool) → List Placed → TokenFault → Option (ℕ × Left)
take_first test [] stop = None
take_first test (p ∷ ps) stop = if test p.token then Some (p.at, left ps stop) else None

-- the place of the next token and what is left behind it, if a test takes it
abbrev pub taken : (Token → Bool) → Left → Option (ℕ × Left)
taken test l = take_first test l.placed l.stop

abbrev pub or_refused : {X : Type 0} → Option X → Left → Result X TokenFault
or_refused (Some x) l = Ok x
or_refused None l = Err (refused l)

-- a word or a sign, which has to stand here
abbrev pub pass : (Token → Bool) → Left → Result (ℕ × Left) TokenFault
pass test l = or_refused (taken test l) l

-- ---- names

-- a name, and its place
abbrev pub PlacedName : Type 0
PlacedName = List ℕ × ℕ

abbrev pub name_of_token : Token → Option (List ℕ)
name_of_token (Word s) = if is_name s then Some s else None
name_of_token (Int n) = None
name_of_token (Text s) = None
name_of_token (Sign_token s) = None

abbrev pub named_first : ℕ → Left → Option (List ℕ) → Result (PlacedName × Left) TokenFault
named_first at rest (Some s) = Ok ((s, at), rest)
named_first at rest None = Err (fault_at at Expected)

abbrev pub pass_name_of : List Placed → TokenFault → Result (PlacedName × Left) TokenFault
pass_name_of [] stop = Err (refuse [] stop)
pass_name_of (p ∷ ps) stop = named_first p.at (left ps stop) (name_of_token p.token)

abbrev pub pass_name : Left → Result (PlacedName × Left) TokenFault
pass_name l = pass_name_of l.placed l.stop

-- ---- texts

abbrev pub is_text : Token → Bool
is_text (Word s) = false
is_text (Int n) = false
is_text (Text s) = true
is_text (Sign_token s) = false

abbrev pub text_first_of : List Placed → Bool
text_first_of [] = false
text_first_of (p ∷ ps) = is_text p.token

-- a text is next
abbrev pub starts_with_text : Left → Bool
starts_with_text l = text_first_of l.placed

-- a text and its place
abbrev pub PlacedText : Type 0
PlacedText = List ℕ × ℕ

abbrev pub text_first : ℕ → Token → List Placed → TokenFault → Option PlacedText × Left
text_first at (Text s) ps stop = (Some (s, at), left ps stop)
text_first at token ps stop = (None, left (record { token = token; at = at } ∷ ps) stop)

-- a text, if one is next, and what is left behind it; or what is answered where no token is left
abbrev pub pass_text_of : List Placed → TokenFault → Result (Option PlacedText × Left) TokenFault
pass_text_of [] stop = Err stop
pass_text_of (p ∷ ps) stop = Ok (text_first p.at p.token ps stop)

abbrev pub pass_text : Left → Result (Option PlacedText × Left) TokenFault
pass_text l = pass_text_of l.placed l.stop

-- ---- the end

abbrev pub is_expected : TokenCause → Bool
is_expected BadToken = false
is_expected Expected = true
is_expected TooLong = false
is_expected Memory = false

abbrev pub over_with : List Placed → TokenFault → Bool
over_with [] stop = is_expected stop.cause
over_with (p ∷ ps) stop = false

abbrev pub has_ended : Left → Bool
has_ended l = over_with l.placed l.stop

abbrev pub pass_end : Left → Result (Unit {0}) TokenFault
pass_end l = if has_ended l then Ok tt else Err (refused l)
