-- Reading from left to right, with the first fault that is met.
use Rattle.std.specs.Prelude.{ℕ, zero, suc, Bool, true, false, List, [], ◌∷◌, length, take, drop, Option, None}
use Rattle.std.specs.Prelude.{Some, Result, Ok, Err}
use Rattle.std.specs.Prelude.{nat_lt, ◌==◌, if◌then◌else◌}
use Rattle.mls_lattice.specs.Reading.{◌>>=◌}
use Rattle.mls_lattice.specs.Time.{is_time}
use Rattle.mls_scheme.specs.declared.value.Value.{Value}
use Rattle.mls_scheme.specs.declared.key_fault.KeyFault.{KeyFault}
use Rattle.mls_scheme.specs.declared.key_fault.KeyFault.TheVariants.{Short, BadTag, BadText, Trailing}
use Rattle.mls_scheme.specs.KeyReading.{utf8_at, value_at}
use Rattle.mls_audit.specs.declared.entry.Entry.{Entry}
use Rattle.mls_audit.specs.declared.entry.Deed.{Deed}
use Rattle.mls_audit.specs.declared.entry.Deed.TheVariants.{Called, Denied, Released}
use Rattle.mls_audit.specs.declared.reading.Kind.{Kind}
use Rattle.mls_audit.specs.declared.reading.Kind.TheVariants as kinds
use Rattle.mls_audit.specs.declared.reading.Head.{Head}

-- A field is a value and the bytes after it.
abbrev pub byte_at : List ℕ → Result (ℕ × List ℕ) KeyFault
byte_at [] = Err Short
byte_at (byte ∷ rest) = Ok (byte, rest)

unfoldable pub name_at : List ℕ → Result (List ℕ × List ℕ) KeyFault
name_at bytes = do
  n ← byte_at bytes
  if nat_lt (length n.1) n.0 then Err Short else (utf8_at (take n.0 n.1) >>= λ s. Ok (s, drop n.0 n.1))

unfoldable pub nullable_at : List ℕ → Result (Option Value × List ℕ) KeyFault
nullable_at [] = Err Short
nullable_at (zero ∷ rest) = Ok (None, rest)
nullable_at (suc tag ∷ rest) = do
  v ← value_at (suc tag ∷ rest)
  Ok (Some v.0, v.1)

-- a time, where there is one
abbrev pub time_at : Bool → List ℕ → Result (Option (List ℕ) × List ℕ) KeyFault
time_at false bytes = Ok (None, bytes)
time_at true bytes =
    if nat_lt (length bytes) 20 then Err Short else
    (utf8_at (take 20 bytes) >>= λ t. if is_time t then Ok (Some t, drop 20 bytes) else Err BadText)

unfoldable pub head_at : Bool → List ℕ → Result (Head × List ℕ) KeyFault
head_at timed bytes = do
  label ← byte_at bytes
  time ← time_at timed label.1
  user ← name_at time.1
  session ← name_at user.1
  Ok (record { label = label.0; time = time.0; user = user.0; session = session.0 }, session.1)

abbrev pub deed_at : Kind → List ℕ → Result (Deed × List ℕ) KeyFault
deed_at kinds.Called bytes = name_at bytes >>= λ n. Ok (Called n.0, n.1)
deed_at kinds.Denied bytes = byte_at bytes >>= λ c. Ok (Denied c.0, c.1)
deed_at kinds.Released bytes = nullable_at bytes >>= λ v. Ok (Released v.0, v.1)

-- the tag tells whether there is a time, and what kind of entry it is
abbrev pub tag_at : ℕ → Result (Bool × Kind) KeyFault
tag_at zero = Err BadTag
tag_at (suc zero) = Ok (false, kinds.Called)
tag_at (suc (suc zero)) = Ok (false, kinds.Denied)
tag_at (suc (suc (suc zero))) = Ok (false, kinds.Released)
tag_at (suc (suc (suc (suc zero)))) = Ok (true, kinds.Called)
tag_at (suc (suc (suc (suc (suc zero))))) = Ok (true, kinds.Denied)
tag_at (suc (suc (suc (suc (suc (suc zero)))))) = Ok (true, kinds.Released)
tag_at (suc (suc (suc (suc (suc (suc (suc tag))))))) = Err BadTag

unfoldable pub front_at : List ℕ → Result (Entry × List ℕ) KeyFault
front_at bytes = do
  tag ← byte_at bytes
  kind ← tag_at tag.0
  head ← head_at kind.0 tag.1
  deed ← deed_at kind.1 head.1
  Ok (
    record { label = head.0.label; time = head.0.time; user = head.0.user; session = head.0.session; deed = deed.0 },
    deed.1,
  )

-- all of the bytes
unfoldable pub entry_at : List ℕ → Result Entry KeyFault
entry_at bytes = do
  front ← front_at bytes
  if length front.1 == 0 then Ok front.0 else Err Trailing
