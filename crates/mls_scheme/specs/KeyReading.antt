-- Reading from left to right, with the first fault that is met.
use Rattle.std.specs.Prelude.{◌≡◌, ℕ, zero, suc, ℤ, List, [], ◌∷◌, ◌++◌, length, take, drop, Result, Ok, Err, nat_lt}
use Rattle.std.specs.Prelude.{nat_le, ◌==◌, ◌&&◌, if◌then◌else◌}
use Rattle.std.specs.Str.{is_utf8}
use Rattle.std.specs.Int.{Width, w32, w64, byte_len, from_be_bytes, cast_signed}
use Rattle.mls_lattice.specs.Reading.{◌>>=◌, GivesUnless}
use Rattle.mls_scheme.specs.declared.value.Value.{Value}
use Rattle.mls_scheme.specs.declared.value.Value.TheVariants.{Int, Text}
use Rattle.mls_scheme.specs.declared.key_fault.KeyFault.{KeyFault}
use Rattle.mls_scheme.specs.declared.key_fault.KeyFault.TheVariants.{Short, BadTag, BadText, Trailing, Memory}

-- What a function returned, seen by view, is what reading gives, unless memory ran out.
abbrev pub GivesKey : {X Y : Type 0} → (X → Y) → Result X KeyFault → Result Y KeyFault → Type 0
GivesKey = GivesUnless (λ e. e ≡ Memory)

-- A field is a value and the bytes after it.
abbrev pub number_at : Width → List ℕ → Result (ℕ × List ℕ) KeyFault
number_at w bytes = if nat_lt (length bytes) (byte_len w) then Err Short else Ok
    (from_be_bytes w (take (byte_len w) bytes), drop (byte_len w) bytes)

unfoldable pub int_at : List ℕ → Result (ℤ × List ℕ) KeyFault
int_at bytes = do
  n ← number_at w64 bytes
  Ok (cast_signed w64 n.0, n.1)

unfoldable pub utf8_at : List ℕ → Result (List ℕ) KeyFault
utf8_at bytes = if is_utf8 bytes then Ok bytes else Err BadText

unfoldable pub text_at : List ℕ → Result (List ℕ × List ℕ) KeyFault
text_at bytes = do
  n ← number_at w32 bytes
  if nat_lt (length n.1) n.0 then Err Short else (utf8_at (take n.0 n.1) >>= λ s. Ok (s, drop n.0 n.1))

unfoldable pub value_at : List ℕ → Result (Value × List ℕ) KeyFault
value_at [] = Err Short
value_at (zero ∷ rest) = Err BadTag
value_at (suc zero ∷ rest) = do
  n ← int_at rest
  Ok (Int n.0, n.1)
value_at (suc (suc zero) ∷ rest) = do
  s ← text_at rest
  Ok (Text s.0, s.1)
value_at (suc (suc (suc b)) ∷ rest) = Err BadTag

-- as many values, after those read before
unfoldable pub values_at : List Value → ℕ → List ℕ → Result (List Value × List ℕ) KeyFault
values_at front zero bytes = Ok (front, bytes)
values_at front (suc n) bytes = value_at bytes >>= λ first. values_at (front ++ first.0 ∷ []) n first.1

-- all of the bytes
unfoldable pub key_at : List ℕ → Result (List Value) KeyFault
key_at [] = Err Short
key_at (count ∷ bytes) =
    if nat_le 1 count && nat_le count 4 then (values_at [] count bytes >>=
    (λ vs. if length vs.1 == 0 then Ok vs.0 else Err Trailing)) else Err BadTag
