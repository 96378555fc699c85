-- The numbers in a label.
use Rattle.std.proofs.Common.{◌≡◌, ℕ, ◌<◌, true, not, ◌==◌, nat_lt, List, [], ◌∷◌, length, Result, Ok, Err, refl, sym, ap, rules, arith, MatchResult, IsAscii, lt-ltb, ltb-true}
use Rattle.std.specs.Str.Parse.{digits_value, ParsesUnsigned}
use Rattle.std.specs.Char.{is_ascii_digit}
use Rattle.std.proofs.lemmas.Bool.{and_parts, false_from_ne_true}
use Rattle.std.proofs.lemmas.Str.Parse.{IsNumeralModel, IsDigitsTest, numerals_by_value, parse_digits}
use Rattle.mls_lattice.proofs.AsciiLemmas.{digit_small, all_ascii}
use Rattle.mls_certcheck.specs.declared.fault.CertCause.TheVariants.{Label as BadLabel}
use Rattle.mls_certcheck.specs.Reading.{are_digits, is_decimal, number_in, refused}

digits_test : IsDigitsTest (λ ds. are_digits ds ≡ true)
digits_test = search rules

pub own : IsNumeralModel (λ ds. are_digits ds ≡ true) (digits_value 10)
own = numerals_by_value (λ ds. are_digits ds ≡ true) digits_test

pub decimal_ascii : (text : List ℕ) → is_decimal text ≡ true → IsAscii text
unfolding is_decimal
decimal_ascii text h = all_ascii is_ascii_digit digit_small text (and_parts _ _ (and_parts _ _ h).0).1

-- digits are there
pub some_digits : (text : List ℕ) → is_decimal text ≡ true → (0 < length text) × (are_digits text ≡ true)
unfolding is_decimal
some_digits text h =
    let p = and_parts _ _ (and_parts _ _ h).0 in (at text p.0, p.1)
  where
    at : (text : List ℕ) → not (length text == 0) ≡ true → 0 < length text
    at [] h = absurd cc
    at (b ∷ bs) h = omega arith

-- what `parse` answers to them
pub number_parsed : {E : Type 0} (line : ℕ) (text : List ℕ) (r : Result ℕ E) → is_decimal text ≡ true
    → ParsesUnsigned 8 10 text r → MatchResult r (λ n. number_in line text ≡ Ok n) (λ _. number_in line text
    ≡ refused line BadLabel)
unfolding number_in
number_parsed {E} line text (Ok n) is parsed =
    let h = parse_digits own {E = E} 8 text (Ok n) parsed (some_digits text is).1 in
    rw (lt-ltb (digits_value 10 text) 256 h.0.1) (ap (λ (m : ℕ). Ok m) (sym h.1))
number_parsed {E} line text (Err e) is parsed =
    let s = some_digits text is in
    let h = parse_digits own {E = E} 8 text (Err e) parsed s.1 in
    rw (false_from_ne_true (nat_lt (digits_value 10 text) 256) (λ t. h (s.0, ltb-true _ _ t))) refl
