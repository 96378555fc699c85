-- Bytes that are ASCII, and the texts that they are.
use Rattle.std.proofs.Common.{◌≡◌, ℕ, ◌<◌, Bool, true, List, [], ◌∷◌, refl, arith, Result, Ok, Err, IsOk, MatchResult, IsUtf8, IsAscii}
use Rattle.std.specs.List.{list_all}
use Rattle.std.specs.Char.{is_ascii_digit}
use Rattle.std.proofs.lemmas.Bool.{and_parts}
use Rattle.std.proofs.lemmas.Bool.Decides.{nat_tests}
use Rattle.std.proofs.lemmas.Str.Ascii.{IsAscii-cons}
use Rattle.std.proofs.lemmas.Str.{IsUtf8-from_ascii}
use Rattle.mls_lattice.specs.Name.{is_name_byte}

pub name_byte_small : (b : ℕ) → is_name_byte b ≡ true → b < 128
name_byte_small b h = grind (arith, nat_tests)

pub digit_small : (b : ℕ) → is_ascii_digit b ≡ true → b < 128
digit_small b h = grind (arith, nat_tests)

-- bytes that pass a test which only ASCII passes
pub all_ascii : (p : ℕ → Bool) → ((b : ℕ) → p b ≡ true → b < 128) → (bytes : List ℕ) → list_all p bytes ≡ true
    → IsAscii bytes
all_ascii p small [] h = λ i. omega arith
all_ascii p small (b ∷ bytes) h = let both = and_parts _ _ h in IsAscii-cons b bytes (small b both.0)
    (all_ascii p small bytes both.1)

-- no answer to them is a fault
pub ok_from_utf8 : {A E : Type 0} (bytes : List ℕ) (P : A → Type 0) (Q : E → Type 0) (r : Result A E)
    → MatchResult r P (λ e. (IsUtf8 bytes → ⊥) × Q e) → IsAscii bytes → IsOk r
ok_from_utf8 bytes P Q (Ok x) h ascii = refl
ok_from_utf8 bytes P Q (Err e) h ascii = absurd (h.0 (IsUtf8-from_ascii bytes ascii))
