-- What is written of control characters.
use Rattle.std.proofs.Common.{◌≡◌, ℕ, List, ◌<◌, ◌-◌, ◌^◌, ◌/◌, ◌%◌, ◌∙◌, true, false, [], ◌++◌, ap, length, arith, codes, chars, IsUtf8, flat_map, encode_utf8}
use Rattle.std.specs.Char.{is_control}
use Rattle.std.specs.Fmt.{digits, padded_integral, format_spec}
use Rattle.std.proofs.lemmas.Bool.Decides.{nat_tests}
use Rattle.std.proofs.lemmas.Fmt.{hex_byte}
use Rattle.std.proofs.lemmas.Str.{chars_past_char, chars-nil}
use Rattle.std.proofs.lemmas.List.{nil_from_length}
use Rattle.mls_tokens.specs.Screen.{hex_escape}
use Rattle.mls_advice.specs.Excerpt.{is_unseen, two_digits, number_escape, shown_char, shown}

pub escape_written : (n : ℕ) → n < 256 → codes "\\x" ++ padded_integral (format_spec 32 0 4 2 (2 ^ 64 - 1)) false []
    (digits 16 false n) ≡ hex_escape n
escape_written n lt = ap (λ d. codes "\\x" ++ d) (hex_byte false n lt)

pub number_written : (n : ℕ) → n < 65536 → codes "\\u" ++ (padded_integral (format_spec 32 0 4 2 (2 ^ 64 - 1)) false []
    (digits 16 false (n / 256)) ++ padded_integral (format_spec 32 0 4 2 (2 ^ 64 - 1)) false []
    (digits 16 false (n % 256))) ≡ number_escape n
number_written n lt =
    ap (λ d. codes "\\u" ++ (d ++ padded_integral (format_spec 32 0 4 2 (2 ^ 64 - 1)) false []
    (digits 16 false (n % 256)))) (hex_byte false (n / 256) (omega arith))
    ∙ ap (λ d. codes "\\u" ++ (two_digits (n / 256) ++ d)) (hex_byte false (n % 256) (omega arith))

pub unseen_below : (c : ℕ) → is_unseen c ≡ true → c < 65536
unseen_below c e = grind (arith, nat_tests)

pub control_below : (c : ℕ) → is_control c ≡ true → c < 256
control_below c e = grind arith

pub shown_step : (text rest : List ℕ) (c : ℕ) → IsUtf8 text → text ≡ encode_utf8 c ++ rest → shown text ≡ shown_char c
    ++ shown rest
unfolding shown
shown_step text rest c utf8 parts = ap (flat_map shown_char) (chars_past_char text rest c utf8 parts)

pub shown_over : (text : List ℕ) → length text ≡ 0 → shown text ≡ []
unfolding shown
shown_over text none = ap (λ t. flat_map shown_char (chars t)) (nil_from_length text none)
    ∙ ap (flat_map shown_char) chars-nil
