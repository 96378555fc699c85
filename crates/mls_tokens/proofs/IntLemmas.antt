-- Numbers in a text.
use Rattle.std.proofs.Common.{◌≡◌, ◌≢◌, ℕ, ◌<◌, ◌^◌, ℤ, Bool, true, false, ◌||◌, ◌==◌, List, [], ◌∷◌, length, get_or, slice_index, take, drop, arith, refl, sym, ap, ◌∙◌, inl, inr, IsTrue, nat_lt, nat_le, one-add, Result, Ok, Err, MatchResult, IsAscii, w64, eqb-true, lt-ltb, le-leb, leb-true, ltb-true}
use Rattle.std.specs.Str.{all_ascii_digits}
use Rattle.std.specs.Str.Parse.{digits_value, ParsesSigned}
use Rattle.std.specs.Int.{IsInRange}
use Rattle.std.specs.List.{prefix_len}
use Rattle.std.specs.Char.{is_ascii_digit}
use Rattle.std.proofs.lemmas.Bool.{cases_Bool, false_from_ne_true}
use Rattle.std.proofs.lemmas.Bool.Decides.{nat_tests}
use Rattle.std.proofs.lemmas.Str.Parse.{IsNumeralModel, numerals_by_value, tells_all_ascii_digits, parse_signed_minus, parse_signed_plain, not_in_digits}
use Rattle.mls_tokens.specs.declared.fault.ScanFault.TheVariants.{Token as BadToken}
use Rattle.mls_tokens.specs.Scanning.{int_value, IsIntText, starts_int, int_length}
use Rattle.std.proofs.lemmas.Str.Ascii.{IsAscii-cons}
use Rattle.mls_tokens.proofs.RunLemmas.{digits_ascii}

own : IsNumeralModel (λ ds. all_ascii_digits ds ≡ true) (digits_value 10)
own = numerals_by_value (λ ds. all_ascii_digits ds ≡ true) tells_all_ascii_digits

-- digits begin with no sign
unsigned : (text : List ℕ) (c : ℕ) → (IsInRange 48 57 c → ⊥) → 0 < length text → all_ascii_digits text ≡ true
    → get_or text 0 0 ≢ c
unsigned text c out some digits = not_in_digits own text c digits out 0 some

-- what `parse` answers to such a text
pub int_parsed : {E : Type 0} (text : List ℕ) (r : Result ℤ E) → IsIntText text → ParsesSigned w64 10 text r
    → MatchResult r (λ n. int_value text ≡ Ok n) (λ _. int_value text ≡ Err BadToken)
unfolding int_value
int_parsed {E} text (Ok n) is parsed =
    elim (cases_Bool (slice_index text 0 == 45)) [
      | inl minus ↦
          let h = parse_signed_minus own {E = E} w64 text (Ok n) parsed (eqb-true _ 45 minus) in
          rw (minus, le-leb (digits_value 10 (drop 1 text)) (2 ^ 63) h.0.2) (ap (λ (z : ℤ). Ok z) (sym h.1))
      | inr plain ↦
          let digits : all_ascii_digits text ≡ true = rw plain at is.digits in
          let some : 0 < length text = rw plain at is.some in
          let h = parse_signed_plain own {E = E} w64 text (Ok n) parsed
          (unsigned text 43 (λ k. omega arith) some digits) (unsigned text 45 (λ k. omega arith) some digits) in
          rw (plain, lt-ltb (digits_value 10 text) (2 ^ 63) h.0.2) (ap (λ (z : ℤ). Ok z) (sym h.1))
    ]
int_parsed {E} text (Err e) is parsed =
    elim (cases_Bool (slice_index text 0 == 45)) [
      | inl minus ↦
          let digits : all_ascii_digits (drop 1 text) ≡ true = rw minus at is.digits in
          let some : 0 < length (drop 1 text) = rw minus at is.some in
          let h = parse_signed_minus own {E = E} w64 text (Err e) parsed (eqb-true _ 45 minus) in
          rw (
            minus,
            false_from_ne_true (nat_le (digits_value 10 (drop 1 text)) (2 ^ 63))
                (λ t. h (digits, some, leb-true _ _ t)),
          ) refl
      | inr plain ↦
          let digits : all_ascii_digits text ≡ true = rw plain at is.digits in
          let some : 0 < length text = rw plain at is.some in
          let h = parse_signed_plain own {E = E} w64 text (Err e) parsed
          (unsigned text 43 (λ k. omega arith) some digits) (unsigned text 45 (λ k. omega arith) some digits) in
          rw (
            plain,
            false_from_ne_true (nat_lt (digits_value 10 text) (2 ^ 63))
                (λ t. h (digits, some, ltb-true _ _ t)),
          ) refl
    ]

-- ---- the run of a number

pub digits_run : (bytes : List ℕ) → all_ascii_digits (take (prefix_len is_ascii_digit bytes) bytes) ≡ true
digits_run [] = refl
digits_run (b ∷ bs) =
    elim (cases_Bool (is_ascii_digit b)) [
      | inl digit ↦ rw (digit, one-add (prefix_len is_ascii_digit bs)) (rw (digit, digits_run bs) refl)
      | inr other ↦ rw other refl
    ]

pub int_ascii : (bytes : List ℕ) → IsAscii (take (int_length bytes) bytes)
unfolding int_length
int_ascii [] = λ i. omega arith
int_ascii (b ∷ bs) =
    elim (cases_Bool (b == 45)) [
      | inl minus ↦ rw (minus, one-add (prefix_len is_ascii_digit bs))
          (IsAscii-cons b (take (prefix_len is_ascii_digit bs) bs) (let e = eqb-true b 45 minus in omega arith)
          (digits_ascii bs))
      | inr plain ↦ rw plain (digits_ascii (b ∷ bs))
    ]

-- a run that begins with a digit has one
some_digit : (bs : List ℕ) → is_ascii_digit (slice_index bs 0) ≡ true
    → 0 < length (take (prefix_len is_ascii_digit bs) bs)
some_digit [] h = absurd cc
some_digit (b ∷ bs) h = rw (h, one-add (prefix_len is_ascii_digit bs)) (omega arith)

pub int_text : (bytes : List ℕ) → IsTrue (starts_int bytes) → IsIntText (take (int_length bytes) bytes)
unfolding int_length
int_text [] h = absurd cc
int_text (b ∷ bs) h =
    elim (cases_Bool (b == 45)) [
      | inl minus ↦
          let no_digit : is_ascii_digit b ≡ false = let e = eqb-true b 45 minus in grind (arith, nat_tests) in
          let digit : is_ascii_digit (slice_index bs 0) ≡ true = rw (no_digit, minus) at h in
          rw (minus, one-add (prefix_len is_ascii_digit bs)) (record {
            some = rw minus (some_digit bs digit);
            digits =
                rw minus (digits_run bs);
          })
      | inr plain ↦
          let digit : is_ascii_digit b ≡ true = or_false_end _ (rw plain at h) in
          let run : take (prefix_len is_ascii_digit (b ∷ bs)) (b ∷ bs) ≡ b ∷ take (prefix_len is_ascii_digit bs) bs =
          rw (digit, one-add (prefix_len is_ascii_digit bs)) refl in
          rw (plain, run) (record {
            some = rw plain (omega arith);
            digits = rw plain (sym (ap all_ascii_digits run)
                ∙ digits_run (b ∷ bs));
          })
    ]
  where
    or_false_end : (x : Bool) → (x || false) ≡ true → x ≡ true
    or_false_end true h = refl
    or_false_end false h = h

pub ruleset int_runs = (int_ascii, int_text)
