-- The tokens of a text, with their places, up to the first place where no token stands.
use Rattle.std.specs.Prelude.{◌≡◌, ◌↔◌, ℕ, zero, suc, ◌<◌, ◌+◌, ◌-◌, ◌^◌, ℤ, pos, neg_ℤ, true, false, Bool, ◌&&◌, ◌||◌}
use Rattle.std.specs.Prelude.{◌==◌, nat_lt, nat_le, if◌then◌else◌, List, [], ◌∷◌, ◌++◌, map, length, take, drop}
use Rattle.std.specs.Prelude.{slice_index, Option, Some, None, Result, Ok, Err}
use Rattle.std.specs.List.{prefix_len}
use Rattle.std.specs.Char.{is_ascii_alphabetic, is_ascii_digit}
use Rattle.std.specs.Str.{all_ascii_digits, is_utf8}
use Rattle.std.specs.Str.Lossy.{utf8_valid_len}
use Rattle.std.specs.Str.Parse.{digits_value}
use Rattle.mls_lattice.specs.Name.{is_name_byte}
use Rattle.mls_lattice.specs.Reading.{◌>>=◌, GivesUnless}
use Rattle.mls_lattice.specs.declared.failed.Failed.{Failed}
use Rattle.mls_lattice.specs.declared.failed.Failed.TheVariants as failed
use Rattle.mls_tokens.specs.declared.fault.ScanFault.{ScanFault}
use Rattle.mls_tokens.specs.declared.fault.ScanFault.TheVariants as scan
use Rattle.mls_tokens.specs.declared.fault.TokenCause.{TokenCause}
use Rattle.mls_tokens.specs.declared.fault.TokenCause.TheVariants.{Token as BadToken, Expected, TooLong, Memory}
use Rattle.mls_tokens.specs.declared.fault.TokenFault.{TokenFault}
use Rattle.mls_tokens.specs.declared.token.Token.{Token}
use Rattle.mls_tokens.specs.declared.token.Token.TheVariants.{Word, Int, Text, Sign as Sign_token}
use Rattle.mls_tokens.specs.declared.token.Placed.{Placed}
use Rattle.mls_tokens.specs.declared.sign.Sign.{Sign}
use Rattle.mls_tokens.specs.declared.quoted.Mode.{Mode}
use Rattle.mls_tokens.specs.declared.quoted.Mode.TheVariants.{Plain, Behind, Hex, Digit}
use Rattle.mls_tokens.specs.declared.quoted.Part.{Part}
use Rattle.mls_tokens.specs.declared.quoted.Part.TheVariants.{End, Bad, Goes, Byte}
use Rattle.mls_tokens.specs.Writing.{is_control, is_escaped, is_control_pair, hex_pair}
use Rattle.mls_tokens.specs.Sign.{leading_sign}
use Rattle.mls_tokens.specs.Text.{is_blank, is_no_feed, AreTokens}

-- What a function returned, seen by view, is what scanning gives, unless memory ran out.
abbrev pub Reads : {X Y : Type 0} → (X → Y) → Result X TokenFault → Result Y TokenFault → Type 0
Reads = GivesUnless (λ e. e.cause ≡ Memory)

-- the cause of the same name
abbrev pub cause_of : ScanFault → TokenCause
cause_of scan.Token = BadToken
cause_of scan.TooLong = TooLong

abbrev pub failed_cause_of : Failed ScanFault → TokenCause
failed_cause_of failed.Memory = Memory
failed_cause_of (failed.Fault fault) = cause_of fault

unfoldable pub leading_word : List ℕ → Result (List ℕ × List ℕ) ScanFault
leading_word bytes =
    let n = prefix_len is_name_byte bytes in
    if nat_lt 32 n then Err scan.Token else Ok (take n bytes, drop n bytes)

-- ---- numbers

-- the text after any minus
abbrev pub digits_of : List ℕ → List ℕ
digits_of text = if slice_index text 0 == 45 then drop 1 text else text

-- the number that digits, or a minus and digits, stand for
unfoldable pub int_value : List ℕ → Result ℤ ScanFault
int_value text =
    let n = digits_value 10 (digits_of text) in
    if slice_index text 0 == 45 then (if nat_le n (2 ^ 63) then Ok (neg_ℤ (pos n)) else Err scan.Token) else
    (if nat_lt n (2 ^ 63) then Ok (pos n) else Err scan.Token)

-- the text is such
pub record IsIntText (text : List ℕ) : Type 0 where
  pub some : 0 < length (digits_of text)
  pub digits : all_ascii_digits (digits_of text) ≡ true

-- a digit, or a minus and a digit
abbrev pub starts_int : List ℕ → Bool
starts_int bytes = is_ascii_digit (slice_index bytes 0) || (slice_index bytes 0 == 45 && is_ascii_digit
    (slice_index bytes 1))

unfoldable pub int_length : List ℕ → ℕ
int_length bytes = if slice_index bytes 0 == 45 then 1 + prefix_len is_ascii_digit
    (drop 1 bytes) else prefix_len is_ascii_digit bytes

unfoldable pub leading_int : List ℕ → Result (ℤ × List ℕ) ScanFault
leading_int bytes = int_value (take (int_length bytes) bytes) >>= λ n. Ok (n, drop (int_length bytes) bytes)

-- ---- texts

-- what a byte is to a reader of a text
abbrev pub step : Mode → ℕ → Part
step Plain b = if b == 34 then End else if b == 92 then Goes Behind else if is_control b then Bad else Byte b
step Behind b = if is_escaped b then Byte b else if b == 120 then Goes Hex else Bad
step Hex b = Goes (Digit b)
step (Digit a) b = if is_control_pair a b then Byte (hex_pair a b) else Bad

abbrev pub after_step : Part → List ℕ → List ℕ → (Mode → List ℕ → Result (List ℕ × List ℕ) ScanFault)
    → Result (List ℕ × List ℕ) ScanFault
after_step End front bs more = Ok (front, bs)
after_step Bad front bs more = Err scan.Token
after_step (Goes mode) front bs more = more mode front
after_step (Byte b) front bs more = more Plain (front ++ b ∷ [])

-- the text after what was read before, which may end inside an escape, and what follows its quote
abbrev pub text_at : Mode → List ℕ → List ℕ → Result (List ℕ × List ℕ) ScanFault
text_at mode front [] = Err scan.Token
text_at mode front (b ∷ bs) = after_step (step mode b) front bs (λ mode front. text_at mode front bs)

unfoldable pub utf8_of : List ℕ → Result (List ℕ) ScanFault
utf8_of bytes = if is_utf8 bytes then Ok bytes else Err scan.Token

unfoldable pub leading_quoted : List ℕ → Result (List ℕ × List ℕ) ScanFault
leading_quoted bytes = do
  x ← text_at Plain [] bytes
  text ← utf8_of x.0
  if nat_lt 8192 (length text) then Err scan.TooLong else Ok (text, x.1)

-- ---- any of them

-- a token and the bytes after it
abbrev pub Found : Type 0
Found = Token × List ℕ

abbrev pub found : {A : Type 0} → (A → Token) → A × List ℕ → Result Found ScanFault
found token x = Ok (token x.0, x.1)

abbrev pub sign_found : Option (Sign × List ℕ) → Result Found ScanFault
sign_found None = Err scan.Token
sign_found (Some x) = Ok (Sign_token x.0, x.1)

-- the token at the front of bytes
unfoldable pub leading_token : List ℕ → Result Found ScanFault
leading_token bytes =
    if is_ascii_alphabetic (slice_index bytes 0) then (leading_word bytes >>= λ x. found Word x)
    else (if starts_int bytes then (leading_int bytes >>= λ x. found Int x)
    else (if slice_index bytes 0 == 34 then (leading_quoted (drop 1 bytes) >>= λ x. found Text x)
    else sign_found (leading_sign bytes)))

-- ---- between tokens

-- a comment, up to its LF
abbrev pub after_comment : List ℕ → List ℕ
after_comment bytes = take (prefix_len is_no_feed bytes) bytes

-- how many bytes are left from the first of a comment that is not UTF-8
unfoldable pub comment_fault : List ℕ → Option ℕ
comment_fault bytes = if is_utf8 (after_comment bytes) then None else Some (length bytes - utf8_valid_len
    (after_comment bytes))

abbrev pub unless : {X : Type 0} → Option ℕ → Result X ℕ → Result X ℕ
unless None next = next
unless (Some left) next = Err left

-- what stands behind blanks and comments; or how many bytes are left from the first of a comment that is not UTF-8
abbrev pub after_gap : Bool → List ℕ → Result (List ℕ) ℕ
after_gap inside [] = Ok []
after_gap inside (b ∷ bs) =
    if inside then after_gap (is_no_feed b) bs
    else (if b == 35 then unless (comment_fault bs) (after_gap true bs)
    else (if is_blank b then after_gap false bs else Ok (b ∷ bs)))

-- ---- all tokens

-- tokens that are left, and what is answered where one more is wanted than there is: Expected at the end
pub record Left : Type 0 where
  pub placed : List Placed
  pub stop : TokenFault

abbrev pub with_front : List Placed → Left → Left
with_front front l = record { placed = front ++ l.placed; stop = l.stop }

abbrev pub fault_at : ℕ → TokenCause → TokenFault
fault_at at cause = record { at = at; cause = cause }

abbrev pub placed_at : ℕ → Result Found ScanFault → Result (Placed × List ℕ) TokenFault
placed_at at (Ok x) = Ok (record { token = x.0; at = at }, x.1)
placed_at at (Err fault) = Err (fault_at at (cause_of fault))

-- the token at the front of the last bytes of len, if there are any
abbrev pub token_or_end : ℕ → List ℕ → Result (Placed × List ℕ) TokenFault
token_or_end len front = if length front == 0 then Err (fault_at (len + 1) Expected) else placed_at
    (len - length front + 1) (leading_token front)

abbrev pub behind : ℕ → Result (List ℕ) ℕ → Result (Placed × List ℕ) TokenFault
behind len (Ok front) = token_or_end len front
behind len (Err left) = Err (fault_at (len - left + 1) BadToken)

-- the next token of the last bytes of len, and what follows it
unfoldable pub next_placed : ℕ → List ℕ → Result (Placed × List ℕ) TokenFault
next_placed len bytes = behind len (after_gap false bytes)

abbrev pub next_then : (List ℕ → Left) → Result (Placed × List ℕ) TokenFault → Left
next_then more (Ok x) = with_front (x.0 ∷ []) (more x.1)
next_then more (Err stop) = record { placed = []; stop = stop }

-- the tokens of the last bytes of len, n of them at most
abbrev pub tokens_from : ℕ → ℕ → List ℕ → Left
tokens_from zero len bytes = record { placed = []; stop = fault_at (len + 1) Expected }
tokens_from (suc n) len bytes = next_then (λ rest. tokens_from n len rest) (next_placed len bytes)

-- as many as there are bytes, and the end
unfoldable pub tokens_at : List ℕ → Left
tokens_at bytes = tokens_from (suc (length bytes)) (length bytes) bytes

abbrev pub without_places : List Placed → List Token
without_places = map (λ p. p.token)

-- scanning comes to the end with these tokens exactly where the text is these tokens
abbrev pub TokensAreExact : Type 0
TokensAreExact =
    (bytes : List ℕ) (ts : List Token) → ((without_places (tokens_at bytes).placed ≡ ts) × ((tokens_at bytes).stop.cause
    ≡ Expected)) ↔ AreTokens ts bytes
