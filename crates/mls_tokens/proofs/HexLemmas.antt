-- Control characters and their two digits.
use Rattle.std.proofs.Common.{◌≡◌, ℕ, ◌+◌, ◌*◌, ◌/◌, ◌%◌, ◌<◌, true, false, ◌&&◌, [], ◌∷◌, refl, arith}
use Rattle.std.proofs.Math.Nat.{div-add-mod}
use Rattle.std.proofs.lemmas.Bool.{and_parts}
use Rattle.std.proofs.lemmas.Bool.Decides.{nat_tests}
use Rattle.mls_tokens.specs.Writing.{is_control, is_escaped, hex_digit, is_hex, hex_value, hex_pair, is_control_pair, quoted_byte}

pub digit_hex : (n : ℕ) → n < 16 → (is_hex (hex_digit n) ≡ true) × (hex_value (hex_digit n) ≡ n)
digit_hex n small = (grind (arith, nat_tests), grind (arith, nat_tests))

pub hex_digit_of : (b : ℕ) → is_hex b ≡ true → (hex_digit (hex_value b) ≡ b) × (hex_value b < 16)
hex_digit_of b h = (grind (arith, nat_tests), grind (arith, nat_tests))

control_small : (c : ℕ) → is_control c ≡ true → c < 128
control_small c h = grind (arith, nat_tests)

pub control_unescaped : (c : ℕ) → is_control c ≡ true → is_escaped c ≡ false
control_unescaped c h = grind (arith, nat_tests)

-- a quotient and a rest
pair_parts : (m n : ℕ) → n < 16 → ((16 * m + n) / 16 ≡ m) × ((16 * m + n) % 16 ≡ n)
pair_parts m n small = (omega arith, omega arith)

-- what two digits spell
pub pair_quoted : (a b : ℕ) → is_control_pair a b ≡ true → quoted_byte (hex_pair a b) ≡ 92 ∷ 120 ∷ a ∷ b ∷ []
pair_quoted a b h =
    let p = and_parts (is_hex a && is_hex b) (is_control (hex_pair a b)) h in
    let q = and_parts (is_hex a) (is_hex b) p.0 in
    let high = hex_digit_of a q.0 in
    let low = hex_digit_of b q.1 in
    let parts = pair_parts (hex_value a) (hex_value b) low.1 in
    rw (control_unescaped (hex_pair a b) p.1, p.1, parts.0, parts.1, high.0, low.0) refl

-- the digits of a control character spell it
pub digits_pair : (c : ℕ) → is_control c ≡ true → (is_control_pair (hex_digit (c / 16)) (hex_digit (c % 16)) ≡ true)
    × (hex_pair (hex_digit (c / 16)) (hex_digit (c % 16)) ≡ c)
digits_pair c h =
    let small = control_small c h in
    let high = digit_hex (c / 16) (omega (arith, small)) in
    let low = digit_hex (c % 16) (omega arith) in
    let whole : 16 * (c / 16) + c % 16 ≡ c = div-add-mod c 16 in
    let pair : hex_pair (hex_digit (c / 16)) (hex_digit (c % 16)) ≡ c = rw (high.1, low.1) whole in
    (rw (high.0, low.0, pair, h) refl, pair)
