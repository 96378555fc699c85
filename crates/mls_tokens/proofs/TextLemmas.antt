-- Texts between quotes.
use Rattle.std.proofs.Common.{◌≡◌, ℕ, List, Ok, Err, refl, IsUtf8}
use Rattle.std.specs.Str.{is_utf8}
use Rattle.std.proofs.lemmas.Str.{is_utf8-from_IsUtf8, IsUtf8-from_is_utf8}
use Rattle.std.proofs.lemmas.Bool.{false_from_ne_true}
use Rattle.mls_tokens.specs.declared.fault.ScanFault.TheVariants.{Token as BadToken}
use Rattle.mls_tokens.specs.Scanning.{utf8_of}

pub utf8_of-ok : (bytes : List ℕ) → IsUtf8 bytes → utf8_of bytes ≡ Ok bytes
unfolding utf8_of
utf8_of-ok bytes h = rw (is_utf8-from_IsUtf8 bytes h) refl

pub utf8_of-err : (bytes : List ℕ) → (IsUtf8 bytes → ⊥) → utf8_of bytes ≡ Err BadToken
unfolding utf8_of
utf8_of-err bytes h = rw (false_from_ne_true (is_utf8 bytes) (λ e. h (IsUtf8-from_is_utf8 bytes e))) refl

pub ruleset utf8_steps = (utf8_of-ok, utf8_of-err)
