-- How steps of a reader follow one another.
use Rattle.std.proofs.Common.{◌≡◌, ℕ, suc, ◌-◌, ◌+◌, ◌≤◌, ◌<◌, List, [], ◌∷◌, ◌++◌, Ok, Err, refl, arith, IsUtf8}
use Rattle.std.specs.Str.{is_utf8}
use Rattle.std.proofs.lemmas.Str.{is_utf8-from_IsUtf8, IsUtf8-from_is_utf8}
use Rattle.std.proofs.lemmas.Bool.{false_from_ne_true}
use Rattle.mls_scheme.specs.declared.value.Value.{Value}
use Rattle.mls_scheme.specs.declared.key_fault.KeyFault.{KeyFault}
use Rattle.mls_scheme.specs.declared.key_fault.KeyFault.TheVariants.{BadText}
use Rattle.mls_scheme.specs.KeyReading.{utf8_at, value_at, values_at}

pub utf8_at-ok : (bytes : List ℕ) → IsUtf8 bytes → utf8_at bytes ≡ Ok bytes
unfolding utf8_at
utf8_at-ok bytes h = rw (is_utf8-from_IsUtf8 bytes h) refl

pub utf8_at-err : (bytes : List ℕ) → (IsUtf8 bytes → ⊥) → utf8_at bytes ≡ Err BadText
unfolding utf8_at
utf8_at-err bytes h = rw (false_from_ne_true (is_utf8 bytes) (λ e. h (IsUtf8-from_is_utf8 bytes e))) refl

-- ---- a loop over values

one_less : (count i : ℕ) → i < count → count - i ≡ suc (count - (i + 1))
one_less count i lt = omega arith

pub values_at-more : (front : List Value) (count i : ℕ) (bytes : List ℕ) (v : Value) (after : List ℕ) → i < count
    → value_at bytes ≡ Ok (v, after) → values_at (front ++ v ∷ []) (count - (i + 1)) after
    ≡ values_at front (count - i) bytes
unfolding values_at
values_at-more front count i bytes v after lt h = rw (one_less count i lt, h) refl

pub values_at-err : (front : List Value) (count i : ℕ) (bytes : List ℕ) (e : KeyFault) → i < count → value_at bytes
    ≡ Err e → values_at front (count - i) bytes ≡ Err e
unfolding values_at
values_at-err front count i bytes e lt h = rw (one_less count i lt, h) refl

pub values_at-all : (front : List Value) (count i : ℕ) (bytes : List ℕ) → count ≤ i → values_at front (count - i) bytes
    ≡ Ok (front, bytes)
unfolding values_at
values_at-all front count i bytes le = let k : count - i ≡ 0 = omega arith in rw k refl

pub ruleset utf8_steps = (utf8_at-ok, utf8_at-err)

pub ruleset value_steps = (values_at-more, values_at-err, values_at-all)
