-- What the relation says is what is scanned.
use Rattle.std.proofs.Common.{◌≡◌, ℕ, zero, suc, Bool, ◌<◌, ◌≤◌, ◌^◌, ℤ, pos, neg_ℤ, true, false, ◌&&◌, ◌||◌, ◌==◌, List, [], ◌∷◌, ◌++◌, length, slice_index, Ok, inl, inr, refl, sym, ap, ◌∙◌, subst, arith, one-add, append_assoc, FitsSigned, w64, flat_map, le-ltb, le-leb, lt-ltb, take_at, drop_at, append-nil}
use Rattle.std.specs.Char.{is_ascii_alphabetic, is_ascii_digit}
use Rattle.std.specs.Str.{all_ascii_digits}
use Rattle.std.specs.Str.Parse.{digits_value}
use Rattle.std.proofs.lemmas.Str.{is_utf8-from_IsUtf8}
use Rattle.std.proofs.lemmas.Bool.{and_parts}
use Rattle.std.proofs.lemmas.Bool.Decides.{nat_tests}
use Rattle.mls_lattice.specs.Name.{is_name_byte}
use Rattle.mls_tokens.specs.declared.quoted.Mode.TheVariants.{Plain}
use Rattle.mls_tokens.specs.declared.token.Token.{Token}
use Rattle.mls_tokens.specs.declared.token.Token.TheVariants.{Word, Int, Text, Sign as Sign_token}
use Rattle.mls_tokens.specs.declared.sign.Sign.{Sign}
use Rattle.mls_tokens.specs.Sign.{sign_text, sign_goes_on}
use Rattle.mls_tokens.specs.Writing.{is_control, is_escaped, quoted_byte, quoted, IsText}
use Rattle.mls_tokens.specs.Text.{is_blank, IsWord, IsDigits, IsInt, Spells, goes_on}
use Rattle.mls_tokens.specs.Scanning.{leading_word, int_value, int_length, leading_int, starts_int, text_at, utf8_of, leading_quoted, leading_token}
use Rattle.mls_tokens.proofs.HexLemmas.{digits_pair}
use Rattle.mls_tokens.proofs.RunLemmas.{AllAre, run_len}
use Rattle.mls_tokens.proofs.SignLemmas.{sign_again, are_sign_bytes, sign_bytes}
use Rattle.mls_tokens.proofs.GapLemmas.{begins_gap}
use Rattle.mls_tokens.proofs.TokenLemmas.{word_some}

digits_all : (ds : List ℕ) → all_ascii_digits ds ≡ true → AllAre is_ascii_digit ds
digits_all [] h = tt
digits_all (d ∷ ds) h = let p = and_parts (is_ascii_digit d) (all_ascii_digits ds) h in (p.0, digits_all ds p.1)

word_again : (text rest : List ℕ) → IsWord text → is_name_byte (slice_index rest 0) ≡ false
    → leading_word (text ++ rest) ≡ Ok (text, rest)
unfolding leading_word
word_again text rest h ends = rw (
  run_len is_name_byte text rest h.bytes ends,
  le-ltb 32 (length text) h.short,
  take_at text rest (length text) refl,
  drop_at text rest (length text) refl,
) refl

-- ---- numbers

neg_fits : (n : ℕ) → FitsSigned w64 (neg_ℤ (pos n)) → n ≤ 2 ^ 63
neg_fits zero h = omega arith
neg_fits (suc n) h = let f = h.sfits in omega arith

no_minus : (b : ℕ) → is_ascii_digit b ≡ true → (b == 45) ≡ false
no_minus b h = grind (arith, nat_tests)

-- what begins a number
digits_front : (text : List ℕ) → IsDigits text → is_ascii_digit (slice_index text 0) ≡ true
digits_front [] h = absurd (let some = h.some in omega arith)
digits_front (b ∷ bs) h = (and_parts (is_ascii_digit b) (all_ascii_digits bs) h.digits).0

int_in_again : (text : List ℕ) (z : ℤ) → IsInt text z → int_value text ≡ Ok z
unfolding int_value
int_in_again text z (fits, inl (digits, is)) =
    let n = digits_value 10 text in
    let f : FitsSigned w64 (pos n) = subst (λ (x : ℤ). FitsSigned w64 x) is fits in
    rw (no_minus (slice_index text 0) (digits_front text digits), lt-ltb n (2 ^ 63) f.sfits)
    (ap (λ (x : ℤ). Ok x) (sym is))
int_in_again text z (fits, inr (ds, parts, digits, is)) =
    let n = digits_value 10 ds in
    let f : FitsSigned w64 (neg_ℤ (pos n)) = subst (λ (x : ℤ). FitsSigned w64 x) is fits in
    ap int_value parts ∙ rw (le-leb n (2 ^ 63) (neg_fits n f)) (ap (λ (x : ℤ). Ok x) (sym is))

int_len_again : (text rest : List ℕ) (z : ℤ) → IsInt text z → is_ascii_digit (slice_index rest 0) ≡ false
    → int_length (text ++ rest) ≡ length text
unfolding int_length
int_len_again [] rest z (fits, inl (digits, is)) ends = absurd (let some = digits.some in omega arith)
int_len_again (b ∷ bs) rest z (fits, inl (digits, is)) ends =
    rw (no_minus b (digits_front (b ∷ bs) digits)) (run_len is_ascii_digit (b ∷ bs) rest
    (digits_all (b ∷ bs) digits.digits) ends)
int_len_again text rest z (fits, inr (ds, parts, digits, is)) ends =
    rw parts (rw (run_len is_ascii_digit ds rest (digits_all ds digits.digits) ends) (one-add (length ds)))

int_again : (text rest : List ℕ) (z : ℤ) → IsInt text z → is_ascii_digit (slice_index rest 0) ≡ false
    → leading_int (text ++ rest) ≡ Ok (z, rest)
unfolding leading_int
int_again text rest z h ends = rw (
  int_len_again text rest z h ends,
  take_at text rest (length text) refl,
  drop_at text rest (length text) refl,
  int_in_again text z h,
) refl

slice_index-front : (xs ys : List ℕ) → 0 < length xs → slice_index (xs ++ ys) 0 ≡ slice_index xs 0
slice_index-front [] ys h = absurd (omega arith)
slice_index-front (x ∷ xs) ys h = refl

starts_again : (text rest : List ℕ) (z : ℤ) → IsInt text z → starts_int (text ++ rest) ≡ true
starts_again text rest z (fits, inl (digits, is)) = rw (
  slice_index-front text rest digits.some,
  digits_front text digits,
) refl
starts_again text rest z (fits, inr (ds, parts, digits, is)) = rw parts (rw (slice_index-front ds rest digits.some)
    (digits_front ds digits))

-- what begins a number begins neither a word nor a gap
starts_front : (b c : ℕ) → (is_ascii_digit b || (b == 45 && is_ascii_digit c)) ≡ true → (is_ascii_alphabetic b ≡ false)
    × ((b == 35) ≡ false) × (is_blank b ≡ false)
starts_front b c h = (grind (arith, nat_tests), grind (arith, nat_tests), grind (arith, nat_tests))

letter_front : (b : ℕ) → is_ascii_alphabetic b ≡ true → ((b == 35) ≡ false) × (is_blank b ≡ false)
letter_front b h = (grind (arith, nat_tests), grind (arith, nat_tests))

-- ---- texts

escaped_quote : (b : ℕ) → is_escaped b ≡ false → ((b == 34) ≡ false) × ((b == 92) ≡ false)
escaped_quote b h = (grind (arith, nat_tests), grind (arith, nat_tests))

-- a byte as it is written
byte_again : (b : ℕ) (front more : List ℕ) → text_at Plain front (quoted_byte b ++ more)
    ≡ text_at Plain (front ++ b ∷ []) more
byte_again b front more = go (is_escaped b) (is_control b) refl refl
  where
    go : (p q : Bool) → is_escaped b ≡ p → is_control b ≡ q → text_at Plain front (quoted_byte b ++ more)
        ≡ text_at Plain (front ++ b ∷ []) more
    go true q escaped control = rw (escaped, escaped) refl
    go false true escaped control = let d = digits_pair b control in rw (escaped, control, d.0, d.1) refl
    go false false escaped control = let p = escaped_quote b escaped in rw (escaped, control, p.0, p.1, control) refl

text_again : (s front rest : List ℕ) → text_at Plain front (flat_map quoted_byte s ++ 34 ∷ rest) ≡ Ok (front ++ s, rest)
text_again [] front rest = ap (λ (x : List ℕ). Ok (x, rest)) (sym (append-nil front))
text_again (b ∷ bs) front rest =
    ap (text_at Plain front) (append_assoc (quoted_byte b) (flat_map quoted_byte bs) (34 ∷ rest))
    ∙ byte_again b front (flat_map quoted_byte bs ++ 34 ∷ rest)
    ∙ text_again bs (front ++ b ∷ []) rest
    ∙ ap (λ (x : List ℕ). Ok (x, rest)) (append_assoc front (b ∷ []) bs)

quoted_again : (s rest : List ℕ) → IsText s → leading_quoted (flat_map quoted_byte s ++ 34 ∷ rest) ≡ Ok (s, rest)
unfolding leading_quoted utf8_of
quoted_again s rest h = rw (text_again s [] rest, is_utf8-from_IsUtf8 s h.utf8, le-ltb 8192 (length s) h.short) refl

-- ---- any of them

token_word : (text rest : List ℕ) → IsWord text → is_name_byte (slice_index rest 0) ≡ false
    → leading_token (text ++ rest) ≡ Ok (Word text, rest)
unfolding leading_token
token_word text rest h ends = rw (
  slice_index-front text rest (word_some text h),
  h.letter,
  word_again text rest h ends,
) refl

token_int : (text rest : List ℕ) (z : ℤ) → IsInt text z → is_ascii_digit (slice_index rest 0) ≡ false
    → leading_token (text ++ rest) ≡ Ok (Int z, rest)
unfolding leading_token
token_int text rest z h ends =
    let starts = starts_again text rest z h in
    rw (
      (starts_front (slice_index (text ++ rest) 0) (slice_index (text ++ rest) 1) starts).0,
      starts,
      int_again text rest z h ends,
    ) refl

token_text : (s rest : List ℕ) → IsText s → leading_token (quoted s ++ rest) ≡ Ok (Text s, rest)
unfolding leading_token
token_text s rest h = rw (append_assoc (flat_map quoted_byte s) (34 ∷ []) rest, quoted_again s rest h) refl

record IsPlain (b c : ℕ) : Type 0 where
  no_letter : is_ascii_alphabetic b ≡ false
  no_number : (is_ascii_digit b || (b == 45 && is_ascii_digit c)) ≡ false
  no_quote : (b == 34) ≡ false
  no_gap : begins_gap b ≡ false

plain_bytes : (b c : ℕ) → are_sign_bytes b c ≡ true → IsPlain b c
plain_bytes b c h = record {
  no_letter = grind (arith, nat_tests);
  no_number = grind (arith, nat_tests);
  no_quote =
      grind (arith, nat_tests);
  no_gap = grind (arith, nat_tests);
}

plain_sign : (s : Sign) (rest : List ℕ) → sign_goes_on s (slice_index rest 0) ≡ false
    → IsPlain (slice_index (sign_text s ++ rest) 0) (slice_index (sign_text s ++ rest) 1)
plain_sign s rest ends = plain_bytes _ _ (sign_bytes s rest ends)

token_sign : (s : Sign) (rest : List ℕ) → sign_goes_on s (slice_index rest 0) ≡ false
    → leading_token (sign_text s ++ rest) ≡ Ok (Sign_token s, rest)
unfolding leading_token
token_sign s rest ends =
    let plain = plain_sign s rest ends in
    rw (plain.no_letter, plain.no_number, plain.no_quote, sign_again s rest ends) refl

pub token_again : (text rest : List ℕ) (t : Token) → Spells t text → goes_on t (slice_index rest 0) ≡ false
    → leading_token (text ++ rest) ≡ Ok (t, rest)
token_again text rest (Word s) (same, h) ends = rw same (token_word s rest h ends)
token_again text rest (Int z) h ends = token_int text rest z h ends
token_again text rest (Text s) (same, h) ends = rw same (token_text s rest h)
token_again text rest (Sign_token s) same ends = rw same (token_sign s rest ends)

-- ---- no token begins a gap

letter_no_gap : (b : ℕ) → is_ascii_alphabetic b ≡ true → begins_gap b ≡ false
letter_no_gap b h = rw ((letter_front b h).0, (letter_front b h).1) refl

pub no_gap : (text rest : List ℕ) (t : Token) → Spells t text → goes_on t (slice_index rest 0) ≡ false
    → begins_gap (slice_index (text ++ rest) 0) ≡ false
no_gap text rest (Word s) (same, h) ends = rw same (rw (slice_index-front s rest (word_some s h))
    (letter_no_gap (slice_index s 0) h.letter))
no_gap text rest (Int z) h ends = let front = starts_front (slice_index (text ++ rest) 0) (slice_index (text ++ rest) 1)
    (starts_again text rest z h) in rw (front.1, front.2) refl
no_gap text rest (Text s) (same, h) ends = rw same refl
no_gap text rest (Sign_token s) same ends = rw same (plain_sign s rest ends).no_gap
