-- What is scanned is what the relation says.
use Rattle.std.proofs.Common.{◌≡◌, ℕ, zero, suc, ◌<◌, ◌≤◌, ◌^◌, Bor, ℤ, pos, neg_ℤ, Bool, true, false, ◌==◌, nat_lt, nat_le, cond, List, [], ◌∷◌, ◌++◌, length, slice_index, take, drop, Option, Some, None, Result, Ok, Err, ◌⊎◌, inl, inr, refl, sym, ap, ◌∙◌, subst, arith, one-add, append_assoc, FitsSigned, IfOk, IsUtf8, w64, flat_map, ltb-false, leb-true, ltb-true, eqb-true, take-append-drop, length-append, length-take, append-nil}
use Rattle.std.specs.List.{prefix_len}
use Rattle.std.specs.Char.{is_ascii_alphabetic, is_ascii_digit}
use Rattle.std.specs.Str.{all_ascii_digits, is_utf8}
use Rattle.std.specs.Str.Parse.{digits_value}
use Rattle.std.proofs.lemmas.Str.{IsUtf8-from_is_utf8}
use Rattle.std.proofs.lemmas.Bool.{cases_Bool}
use Rattle.std.proofs.lemmas.Bool.Decides.{nat_tests}
use Rattle.mls_lattice.specs.Name.{is_name_byte}
use Rattle.mls_lattice.specs.Reading.{◌>>=◌, Gives}
use Rattle.mls_lattice.specs.declared.failed.Failed.{Failed}
use Rattle.mls_tokens.specs.declared.fault.ScanFault.{ScanFault}
use Rattle.mls_tokens.specs.declared.fault.ScanFault.TheVariants.{Token as BadToken, TooLong}
use Rattle.mls_tokens.specs.declared.quoted.Mode.{Mode}
use Rattle.mls_tokens.specs.declared.quoted.Mode.TheVariants.{Plain, Behind, Hex, Digit}
use Rattle.mls_tokens.specs.declared.token.Token.{Token}
use Rattle.mls_tokens.specs.declared.token.Token.TheVariants.{Word, Int, Text, Sign as Sign_token}
use Rattle.mls_tokens.specs.declared.sign.Sign.{Sign}
use Rattle.mls_tokens.specs.Sign.{sign_text, leading_sign}
use Rattle.mls_tokens.specs.Writing.{is_control, is_escaped, hex_pair, is_control_pair, quoted_byte, quoted}
use Rattle.mls_tokens.specs.Text.{IsWord, IsInt, Spells, goes_on}
use Rattle.mls_tokens.specs.Scanning.{Found, found, IsIntText, leading_word, int_value, int_length, leading_int, starts_int, text_at, utf8_of, leading_quoted, sign_found, leading_token}
use Rattle.mls_lattice.proofs.ReadingLemmas.{ok_is, bind_ok, guard_ok, pass_ok}
use Rattle.mls_tokens.proofs.RunLemmas.{run_all, run_stops}
use Rattle.mls_tokens.proofs.HexLemmas.{pair_quoted}
use Rattle.mls_tokens.proofs.IntLemmas.{int_text}
use Rattle.mls_tokens.proofs.SignLemmas.{sign_parts, sign_ends, sign_some}

-- ---- steps

-- which way a test went
pub chosen : {X : Type 0} (b : Bool) (x y z : X) → cond b x y ≡ z → ((b ≡ true) × (x ≡ z)) ⊎ ((b ≡ false) × (y ≡ z))
chosen true x y z e = inl (refl, e)
chosen false x y z e = inr (refl, e)

-- ---- the token at the front of bytes

pub record First (bytes : List ℕ) (t : Token) (rest : List ℕ) : Type 0 where
  pub text : List ℕ
  pub parts : bytes ≡ text ++ rest
  pub spells : Spells t text
  pub ends : goes_on t (slice_index rest 0) ≡ false

letter_is_name : (b : ℕ) → is_ascii_alphabetic b ≡ true → is_name_byte b ≡ true
letter_is_name b h = grind (arith, nat_tests)

first_of_run : (bs : List ℕ) → is_ascii_alphabetic (slice_index bs 0) ≡ true
    → is_ascii_alphabetic (slice_index (take (prefix_len is_name_byte bs) bs) 0) ≡ true
first_of_run [] h = h
first_of_run (b ∷ bs) h = rw (letter_is_name b h, one-add (prefix_len is_name_byte bs)) h

word_found : (bs s rest : List ℕ) → is_ascii_alphabetic (slice_index bs 0) ≡ true → leading_word bs ≡ Ok (s, rest)
    → First bs (Word s) rest
unfolding leading_word
word_found bs s rest letter e =
    let short = guard_ok (nat_lt 32 (prefix_len is_name_byte bs)) _ _ (s, rest) e in
    let n = prefix_len is_name_byte bs in
    let few : n ≤ 32 = ltb-false _ _ short.0 in
    let len : length (take n bs) ≤ 32 = omega (arith, length-take n bs) in
    let pair : (take n bs, drop n bs) ≡ (s, rest) = ok_is _ _ short.1 in
    subst (λ (p : List ℕ × List ℕ). First bs (Word p.0) p.1) pair (record {
      text = take n bs;
      parts = sym (take-append-drop n bs);
      spells = (refl, record { letter = first_of_run bs letter; bytes = run_all is_name_byte bs; short = len });
      ends = run_stops is_name_byte refl bs;
    })

-- ---- numbers

fits_pos : (n : ℕ) → n < 2 ^ 63 → FitsSigned w64 (pos n)
fits_pos n h = record { sfits = h }

fits_neg : (n : ℕ) → n ≤ 2 ^ 63 → FitsSigned w64 (neg_ℤ (pos n))
fits_neg zero h = record { sfits = omega arith }
fits_neg (suc n) h = record { sfits = omega arith }

minus_front : (text : List ℕ) → slice_index text 0 ≡ 45 → text ≡ 45 ∷ drop 1 text
minus_front [] h = absurd (omega arith)
minus_front (b ∷ bs) h = ap (λ (x : ℕ). x ∷ bs) h

int_in_found : (text : List ℕ) (z : ℤ) → IsIntText text → int_value text ≡ Ok z → IsInt text z
unfolding int_value
int_in_found text z is e =
    elim (cases_Bool (slice_index text 0 == 45)) [
      | inl minus ↦
          let digits : all_ascii_digits (drop 1 text) ≡ true = rw minus at is.digits in
          let some : 0 < length (drop 1 text) = rw minus at is.some in
          let n = digits_value 10 (drop 1 text) in
          let fits = pass_ok (nat_le n (2 ^ 63)) BadToken (Ok (neg_ℤ (pos n))) z (rw minus at e) in
          let same : neg_ℤ (pos n) ≡ z = ok_is _ _ fits.1 in (
            rw (← same) (fits_neg n (leb-true _ _ fits.0)),
            inr (
              drop 1 text,
              minus_front text (eqb-true _ 45 minus),
              record { some = some; digits = digits },
              sym same,
            ),
          )
      | inr plain ↦
          let digits : all_ascii_digits text ≡ true = rw plain at is.digits in
          let some : 0 < length text = rw plain at is.some in
          let n = digits_value 10 text in
          let fits = pass_ok (nat_lt n (2 ^ 63)) BadToken (Ok (pos n)) z (rw plain at e) in
          let same : pos n ≡ z = ok_is _ _ fits.1 in
          (rw (← same) (fits_pos n (ltb-true _ _ fits.0)), inl (record { some = some; digits = digits }, sym same))
    ]

int_stops : (bs : List ℕ) → is_ascii_digit (slice_index (drop (int_length bs) bs) 0) ≡ false
unfolding int_length
int_stops [] = refl
int_stops (b ∷ bs) =
    elim (cases_Bool (b == 45)) [
      | inl minus ↦ rw (minus, one-add (prefix_len is_ascii_digit bs)) (run_stops is_ascii_digit refl bs)
      | inr plain ↦ rw plain (run_stops is_ascii_digit refl (b ∷ bs))
    ]

int_found : (bs : List ℕ) (z : ℤ) (rest : List ℕ) → starts_int bs ≡ true → leading_int bs ≡ Ok (z, rest)
    → First bs (Int z) rest
unfolding leading_int
int_found bs z rest starts e =
    let n = int_length bs in
    let b = bind_ok (int_value (take n bs)) (λ z. Ok (z, drop n bs)) (z, rest) e in
    let pair : (b.0, drop n bs) ≡ (z, rest) = ok_is _ _ b.2 in
    subst (λ (p : ℤ × List ℕ). First bs (Int p.0) p.1) pair (record {
      text = take n bs;
      parts = sym (take-append-drop n bs);
      spells = int_in_found (take n bs) b.0 (int_text bs starts) b.1;
      ends = int_stops bs;
    })

-- ---- texts

-- a text, read after others: these others, its own bytes, and what follows its quote
record Unquoted (bytes : List ℕ) (front s rest : List ℕ) : Type 0 where
  own : List ℕ
  whole : s ≡ front ++ own
  parts : bytes ≡ flat_map quoted_byte own ++ 34 ∷ rest

unquoted_end : (bs front s rest : List ℕ) (b : ℕ) → (b == 34) ≡ true → front ≡ s → bs ≡ rest
    → Unquoted (b ∷ bs) front s rest
unquoted_end bs front s rest b quote same after = record {
  own = [];
  whole = sym same ∙ sym (append-nil front);
  parts = λ i. eqb-true b 34 quote i ∷ after i;
}

unquoted_more : (bytes bs front s rest : List ℕ) (b : ℕ) → bytes ≡ quoted_byte b ++ bs
    → Unquoted bs (front ++ b ∷ []) s rest → Unquoted bytes front s rest
unquoted_more bytes bs front s rest b is u = record {
  own = b ∷ u.own;
  whole = u.whole ∙ append_assoc front (b ∷ []) u.own;
  parts = is ∙ ap (λ (x : List ℕ). quoted_byte b ++ x) u.parts
      ∙ sym (append_assoc (quoted_byte b) (flat_map quoted_byte u.own) (34 ∷ rest));
}

plain_byte : (b : ℕ) → (b == 34) ≡ false → (b == 92) ≡ false → is_control b ≡ false → quoted_byte b ≡ b ∷ []
plain_byte b p q r = rw (p, q, r) refl

-- what is left to read, with the part of an escape that was read last
abbrev left : Mode → List ℕ → List ℕ
left Plain bs = bs
left Behind bs = 92 ∷ bs
left Hex bs = 92 ∷ 120 ∷ bs
left (Digit a) bs = 92 ∷ 120 ∷ a ∷ bs

-- how the rest of a text is read
abbrev FoundIn : List ℕ → List ℕ → List ℕ → Type 0
FoundIn bs s rest = (mode : Mode) (front : List ℕ) → text_at mode front bs ≡ Ok (s, rest)
    → Unquoted (left mode bs) front s rest

bad : {X : Type 0} (x : List ℕ × List ℕ) → Path (Result (List ℕ × List ℕ) ScanFault) (Err BadToken) (Ok x) → X
bad x e = absurd cc

plain_found : (b : ℕ) (bs front s rest : List ℕ) → FoundIn bs s rest → text_at Plain front (b ∷ bs) ≡ Ok (s, rest)
    → Unquoted (b ∷ bs) front s rest
plain_found b bs front s rest more e = go (b == 34) (b == 92) (is_control b) refl refl refl
  where
    go : (p q r : Bool) → (b == 34) ≡ p → (b == 92) ≡ q → is_control b ≡ r → Unquoted (b ∷ bs) front s rest
    go true q r quote slash control =
        let pair : (front, bs) ≡ (s, rest) = ok_is _ _ (rw quote at e) in
        unquoted_end bs front s rest b quote (λ i. (pair i).0) (λ i. (pair i).1)
    go false true r quote slash control = subst (λ (x : ℕ). Unquoted (x ∷ bs) front s rest) (sym (eqb-true b 92 slash))
        (more Behind front (rw (quote, slash) at e))
    go false false true quote slash control = bad (s, rest) (rw (quote, slash, control) at e)
    go false false false quote slash control =
        unquoted_more (b ∷ bs) bs front s rest b (ap (λ (x : List ℕ). x ++ bs) (sym (plain_byte b quote slash control)))
        (more Plain (front ++ b ∷ []) (rw (quote, slash, control) at e))

behind_found : (b : ℕ) (bs front s rest : List ℕ) → FoundIn bs s rest → text_at Behind front (b ∷ bs) ≡ Ok (s, rest)
    → Unquoted (92 ∷ b ∷ bs) front s rest
behind_found b bs front s rest more e = go (is_escaped b) (b == 120) refl refl
  where
    go : (p q : Bool) → is_escaped b ≡ p → (b == 120) ≡ q → Unquoted (92 ∷ b ∷ bs) front s rest
    go true q escaped digits = unquoted_more (92 ∷ b ∷ bs) bs front s rest b (rw escaped refl)
        (more Plain (front ++ b ∷ []) (rw escaped at e))
    go false true escaped digits = subst (λ (x : ℕ). Unquoted (92 ∷ x ∷ bs) front s rest) (sym (eqb-true b 120 digits))
        (more Hex front (rw (escaped, digits) at e))
    go false false escaped digits = bad (s, rest) (rw (escaped, digits) at e)

digit_found : (a b : ℕ) (bs front s rest : List ℕ) → FoundIn bs s rest → text_at (Digit a) front (b ∷ bs) ≡ Ok (s, rest)
    → Unquoted (92 ∷ 120 ∷ a ∷ b ∷ bs) front s rest
digit_found a b bs front s rest more e = go (is_control_pair a b) refl
  where
    go : (p : Bool) → is_control_pair a b ≡ p → Unquoted (92 ∷ 120 ∷ a ∷ b ∷ bs) front s rest
    go true pair =
        unquoted_more (92 ∷ 120 ∷ a ∷ b ∷ bs) bs front s rest (hex_pair a b) (ap (λ (x : List ℕ). x ++ bs)
        (sym (pair_quoted a b pair)))
        (more Plain (front ++ hex_pair a b ∷ []) (rw pair at e))
    go false pair = bad (s, rest) (rw pair at e)

text_found : (bs s rest : List ℕ) → FoundIn bs s rest
text_found [] s rest mode front e = absurd cc
text_found (b ∷ bs) s rest Plain front e = plain_found b bs front s rest (text_found bs s rest) e
text_found (b ∷ bs) s rest Behind front e = behind_found b bs front s rest (text_found bs s rest) e
text_found (b ∷ bs) s rest Hex front e = text_found bs s rest (Digit b) front e
text_found (b ∷ bs) s rest (Digit a) front e = digit_found a b bs front s rest (text_found bs s rest) e

first_text : (bs s rest : List ℕ) → Unquoted bs [] s rest → IsUtf8 s → length s ≤ 8192 → First (34 ∷ bs) (Text s) rest
first_text bs s rest q utf8 few = record {
  text = quoted s;
  parts = ap (λ (x : List ℕ). 34 ∷ x) (q.parts ∙ ap (λ (x : List ℕ). flat_map quoted_byte x ++ 34 ∷ rest) (sym q.whole)
      ∙ sym (append_assoc (flat_map quoted_byte s) (34 ∷ []) rest));
  spells = (refl, record { utf8 = utf8; short = few });
  ends = refl;
}

quoted_found : (bs s rest : List ℕ) → leading_quoted bs ≡ Ok (s, rest) → First (34 ∷ bs) (Text s) rest
unfolding leading_quoted utf8_of
quoted_found bs s rest e =
    let read = bind_ok (text_at Plain [] bs) (λ x. utf8_of x.0 >>= λ text. cond (nat_lt 8192 (length text))
    (Err TooLong) (Ok (text, x.1))) (s, rest) e in
    let text = bind_ok (utf8_of read.0.0) (λ text. cond (nat_lt 8192 (length text)) (Err TooLong) (Ok (text, read.0.1)))
    (s, rest) read.2 in
    let utf8 = pass_ok (is_utf8 read.0.0) BadToken (Ok read.0.0) text.0 text.1 in
    let short = guard_ok (nat_lt 8192 (length text.0)) TooLong (Ok (text.0, read.0.1)) (s, rest) text.2 in
    let few : length text.0 ≤ 8192 = ltb-false _ _ short.0 in
    let same : read.0.0 ≡ text.0 = ok_is _ _ utf8.1 in
    let pair : (text.0, read.0.1) ≡ (s, rest) = ok_is _ _ short.1 in
    let is_text : IsUtf8 text.0 = subst (λ (x : List ℕ). IsUtf8 x) same (IsUtf8-from_is_utf8 read.0.0 utf8.0) in
    let q : Unquoted bs [] text.0 read.0.1 = subst (λ (x : List ℕ). Unquoted bs [] x read.0.1) same
    (text_found bs read.0.0 read.0.1 Plain [] read.1) in
    subst (λ (p : List ℕ × List ℕ). First (34 ∷ bs) (Text p.0) p.1) pair (first_text bs text.0 read.0.1 q is_text few)

-- ---- any of them

-- what stands before the rest of a token's text is the token
bound : {A : Type 0} (bs : List ℕ) (token : A → Token) (r : Result (A × List ℕ) ScanFault) (t : Token) (rest : List ℕ)
    → ((x : A) (after : List ℕ) → r ≡ Ok (x, after) → First bs (token x) after) → (r >>= λ x. found token x)
    ≡ Ok (t, rest) → First bs t rest
bound bs token (Err d) t rest h e = absurd cc
bound bs token (Ok x) t rest h e =
    let pair : (token x.0, x.1) ≡ (t, rest) = ok_is _ _ e in
    subst (λ (p : Found). First bs p.0 p.1) pair (h x.0 x.1 refl)

quote_front : (bs : List ℕ) → (slice_index bs 0 == 34) ≡ true → bs ≡ 34 ∷ drop 1 bs
quote_front [] h = absurd cc
quote_front (c ∷ bs) h = ap (λ (x : ℕ). x ∷ bs) (eqb-true c 34 h)

first_of_sign : (bs : List ℕ) (o : Option (Sign × List ℕ)) (t : Token) (rest : List ℕ) → leading_sign bs ≡ o
    → starts_int bs ≡ false → sign_found o ≡ Ok (t, rest) → First bs t rest
first_of_sign bs None t rest is plain e = absurd cc
first_of_sign bs (Some x) t rest is plain e =
    let pair : (Sign_token x.0, x.1) ≡ (t, rest) = ok_is _ _ e in
    subst (λ (p : Found). First bs p.0 p.1) pair (record {
      text = sign_text x.0;
      parts = sign_parts bs x.0 x.1 is;
      spells = refl;
      ends = sign_ends bs x.0 x.1 is plain;
    })

pub token_found : (bs : List ℕ) (t : Token) (rest : List ℕ) → leading_token bs ≡ Ok (t, rest) → First bs t rest
unfolding leading_token
token_found bs t rest e =
    elim (chosen (is_ascii_alphabetic (slice_index bs 0)) _ _ _ e) [
      | inl word ↦ bound bs Word (leading_word bs) t rest (λ s after h. word_found bs s after word.0 h) word.1
      | inr e ↦ elim (chosen (starts_int bs) _ _ _ e.1) [
        | inl number ↦ bound bs Int (leading_int bs) t rest (λ z after h. int_found bs z after number.0 h) number.1
        | inr plain ↦ elim (chosen (slice_index bs 0 == 34) _ _ _ plain.1) [
          | inl quote ↦
              subst (λ (x : List ℕ). First x t rest) (sym (quote_front bs quote.0)) (bound (34 ∷ drop 1 bs) Text
              (leading_quoted (drop 1 bs)) t rest (λ s after h. quoted_found (drop 1 bs) s after h) quote.1)
          | inr sign ↦ first_of_sign bs (leading_sign bs) t rest refl plain.0 sign.1
        ]
      ]
    ]

-- ---- a token has some bytes

pub word_some : (text : List ℕ) → IsWord text → 0 < length text
word_some [] h = absurd (let l = h.letter in cc)
word_some (b ∷ bs) h = omega arith

pub int_some : (text : List ℕ) (z : ℤ) → IsInt text z → 0 < length text
int_some text z (fits, inl (digits, is)) = digits.some
int_some text z (fits, inr (ds, parts, digits, is)) = rw parts (omega arith)

pub spells_some : (text : List ℕ) (t : Token) → Spells t text → 0 < length text
spells_some text (Word s) (same, h) = rw same (word_some s h)
spells_some text (Int z) h = int_some text z h
spells_some text (Text s) (same, h) = rw same (omega arith)
spells_some text (Sign_token s) same = rw same (sign_some s)

pub token_shorter : (bs : List ℕ) (t : Token) (rest : List ℕ) → leading_token bs ≡ Ok (t, rest) → length rest
    < length bs
token_shorter bs t rest e =
    let f = token_found bs t rest e in
    let some = spells_some f.text t f.spells in
    omega (arith, ap length f.parts, length-append f.text rest)

pub scan_shorter : (bs : List ℕ) (r : Result (Token × Bor (List ℕ)) (Failed ScanFault)) → Gives (λ x. (x.0, x.1.now)) r
    (leading_token bs) → IfOk r (λ x. length x.1.now < length bs)
scan_shorter bs (Ok x) given = token_shorter bs x.0 x.1.now given
scan_shorter bs (Err e) given = tt
