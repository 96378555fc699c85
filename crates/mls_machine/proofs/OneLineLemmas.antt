-- Texts in which no line feed stands.
use Rattle.std.proofs.Common.{◌≡◌, ℕ, zero, suc, ◌+◌, ◌*◌, ◌<◌, ◌/◌, ◌%◌, Bool, true, false, cond, ◌||◌, ◌==◌, List, [], ◌∷◌, ◌++◌, refl, sym, ap, ◌∙◌, subst, inl, inr, arith, ℤ, pos, negsuc, codes, nat_lt, slice_get, slice_index, option_map, ◌-◌, unwrap_or, flat_map, decimal}
use Rattle.std.specs.List.{list_all, AllByRecursion}
use Rattle.std.specs.Fmt.{signed_decimal, digits, digits_onto, digit_glyph}
use Rattle.std.proofs.lemmas.Bool.{cases_Bool, and_parts}
use Rattle.std.proofs.lemmas.Bool.Decides.{nat_tests}
use Rattle.std.proofs.lemmas.List.Folds.{list_any-append}
use Rattle.std.proofs.Math.ListN.{replicate}
use Rattle.mls_lattice.proofs.EachLemmas.{all}
use Rattle.mls_tokens.specs.Writing.{is_control, hex_digit, printable_byte, printable, is_escaped, quoted_byte, quoted}
use Rattle.mls_tokens.specs.Screen.{is_hidden, is_hidden_pair, is_hidden_triple, hex_escape, unicode_escape, pair_escape, byte_at, shown, passed, escaped_from, escaped}
use Rattle.mls_tokens.specs.Table.{columns, padding, padded, ruled}
use Rattle.mls_certcheck.proofs.NameLemmas.{name_bytes}
use Rattle.mls_machine.specs.Parting.{is_line_feed, IsOneLine}
use Rattle.mls_lattice.specs.Name.{is_name, is_name_byte}

-- ---- texts of texts

neither : (a b : Bool) → a ≡ false → b ≡ false → (a || b) ≡ false
neither true b p q = p
neither false b p q = q

pub one_line-append : (xs ys : List ℕ) → IsOneLine xs → IsOneLine ys → IsOneLine (xs ++ ys)
one_line-append xs ys p q = list_any-append is_line_feed xs ys ∙ neither _ _ p q

pub one_line-cons : (b : ℕ) (xs : List ℕ) → 10 < b → IsOneLine xs → IsOneLine (b ∷ xs)
one_line-cons b xs p q = neither (is_line_feed b) _ (grind (arith, nat_tests)) q

pub one_line-flat_map : {A : Type 0} (f : A → List ℕ) (xs : List A) → AllByRecursion (λ x. IsOneLine (f x)) xs
    → IsOneLine (flat_map f xs)
one_line-flat_map f [] h = refl
one_line-flat_map f (x ∷ xs) h = one_line-append (f x) (flat_map f xs) h.0 (one_line-flat_map f xs h.1)

-- ---- names by number

pub one_line-at : {A : Type 0} (f : A → List ℕ) (xs : List A) (n : ℕ) → AllByRecursion (λ x. IsOneLine (f x)) xs
    → IsOneLine (unwrap_or (option_map f (slice_get xs n)) [])
one_line-at f [] n h = refl
one_line-at f (x ∷ xs) zero h = h.0
one_line-at f (x ∷ xs) (suc n) h = one_line-at f xs n h.1

-- ---- bytes

hex_line : (n : ℕ) (xs : List ℕ) → IsOneLine xs → IsOneLine (hex_digit n ∷ xs)
hex_line n xs h =
    elim (cases_Bool (nat_lt n 10)) [
      | inl e ↦ subst (λ t. IsOneLine (t ∷ xs)) (sym (ap (λ t. cond t (48 + n) (87 + n)) e)) (one_line-cons (48 + n) xs
          (omega arith) h)
      | inr e ↦ subst (λ t. IsOneLine (t ∷ xs)) (sym (ap (λ t. cond t (48 + n) (87 + n)) e)) (one_line-cons (87 + n) xs
          (omega arith) h)
    ]

hex_escape_line : (b : ℕ) → IsOneLine (hex_escape b)
hex_escape_line b = hex_line (b / 16) (hex_digit (b % 16) ∷ []) (hex_line (b % 16) [] refl)

printable_byte_line : (b : ℕ) → IsOneLine (printable_byte b)
printable_byte_line b =
    elim (cases_Bool (is_control b)) [
      | inl e ↦ subst (λ t. IsOneLine (cond t (hex_escape b) (b ∷ []))) (sym e) (hex_escape_line b)
      | inr e ↦ subst (λ t. IsOneLine (cond t (hex_escape b) (b ∷ []))) (sym e)
          (one_line-cons b [] (grind (arith, nat_tests)) refl)
    ]

escaped_mark : (b : ℕ) → is_escaped b ≡ true → 10 < b
escaped_mark b e = grind (arith, nat_tests)

quoted_byte_line : (b : ℕ) → IsOneLine (quoted_byte b)
quoted_byte_line b =
    elim (cases_Bool (is_escaped b)) [
      | inl e ↦ subst (λ t. IsOneLine (cond t (92 ∷ b ∷ []) (printable_byte b))) (sym e)
          (one_line-cons b [] (escaped_mark b e) refl)
      | inr e ↦ subst (λ t. IsOneLine (cond t (92 ∷ b ∷ []) (printable_byte b))) (sym e) (printable_byte_line b)
    ]

pub one_line-printable : (text : List ℕ) → IsOneLine (printable text)
one_line-printable text = one_line-flat_map printable_byte text
    (all (λ b. IsOneLine (printable_byte b)) printable_byte_line text)

pub one_line-quoted : (text : List ℕ) → IsOneLine (quoted text)
one_line-quoted text = one_line-append (flat_map quoted_byte text) (34 ∷ []) (one_line-flat_map quoted_byte text
    (all (λ b. IsOneLine (quoted_byte b)) quoted_byte_line text)) refl

-- ---- numbers

glyph_line : (d : ℕ) (xs : List ℕ) → IsOneLine xs → IsOneLine (digit_glyph false d ∷ xs)
glyph_line d xs h =
    elim (cases_Bool (nat_lt d 10)) [
      | inl e ↦ subst (λ t. IsOneLine (t ∷ xs)) (sym (ap (λ t. cond t (48 + d) (87 + d)) e)) (one_line-cons (48 + d) xs
          (omega arith) h)
      | inr e ↦ subst (λ t. IsOneLine (t ∷ xs)) (sym (ap (λ t. cond t (48 + d) (87 + d)) e)) (one_line-cons (87 + d) xs
          (omega arith) h)
    ]

digits_line : (k n : ℕ) (xs : List ℕ) → IsOneLine xs → IsOneLine (digits_onto k 10 false n xs)
digits_line zero n xs h = h
digits_line (suc k) n xs h =
    let next = digit_glyph false (n % 10) ∷ xs in
    elim (n / 10 == 0) as (λ t. IsOneLine (cond t next (digits_onto k 10 false (n / 10) next))) [
      | true ↦ glyph_line (n % 10) xs h
      | false ↦ digits_line k (n / 10) next (glyph_line (n % 10) xs h)
    ]

pub one_line-decimal : (n : ℕ) → IsOneLine (decimal n)
unfolding digits
one_line-decimal n = digits_line 64 n [] refl

pub one_line-signed : (n : ℤ) → IsOneLine (signed_decimal n)
one_line-signed (pos n) = one_line-decimal n
one_line-signed (negsuc n) = one_line-decimal (suc n)

-- ---- texts for a screen

unicode_escape_line : (a b c : ℕ) → IsOneLine (unicode_escape a b c)
unicode_escape_line a b c =
    hex_line (a % 16) (hex_digit (b % 64 / 4) ∷ hex_digit (b % 4 * 4 + c % 64 / 16) ∷ hex_digit (c % 16) ∷ [])
    (hex_line (b % 64 / 4) (hex_digit (b % 4 * 4 + c % 64 / 16) ∷ hex_digit (c % 16) ∷ [])
    (hex_line (b % 4 * 4 + c % 64 / 16) (hex_digit (c % 16) ∷ []) (hex_line (c % 16) [] refl)))

pair_escape_line : (a b : ℕ) → IsOneLine (pair_escape a b)
pair_escape_line a b =
    elim (a == 194) as (λ t. IsOneLine (cond t (hex_escape b) (unicode_escape 0 a b))) [
      | true ↦ hex_escape_line b
      | false ↦ unicode_escape_line 0 a b
    ]

shown_line : (a b c : ℕ) → is_line_feed a ≡ false → IsOneLine (shown a b c)
shown_line a b c h =
    elim (is_hidden a) as (λ t. IsOneLine (cond t (hex_escape a) (cond (is_hidden_pair a b) (pair_escape a b)
    (cond (is_hidden_triple a b c) (unicode_escape a b c) (a ∷ []))))) [
      | true ↦ hex_escape_line a
      | false ↦ elim (is_hidden_pair a b) as (λ t. IsOneLine (cond t (pair_escape a b) (cond (is_hidden_triple a b c)
          (unicode_escape a b c) (a ∷ [])))) [
            | true ↦ pair_escape_line a b
            | false ↦ elim (is_hidden_triple a b c) as (λ t. IsOneLine (cond t (unicode_escape a b c) (a ∷ []))) [
              | true ↦ unicode_escape_line a b c
              | false ↦ neither (is_line_feed a) false h refl
            ]
          ]
    ]

-- of two that are both false
pub first_of : (a b : Bool) → (a || b) ≡ false → a ≡ false
first_of true b h = h
first_of false b h = refl

pub second_of : (a b : Bool) → (a || b) ≡ false → b ≡ false
second_of true b h = absurd (cc)
second_of false b h = h

escaped_from_line : (n : ℕ) (text : List ℕ) → IsOneLine text → IsOneLine (escaped_from n text)
escaped_from_line n [] h = refl
escaped_from_line (suc n) (a ∷ text) h = escaped_from_line n text (second_of (is_line_feed a) _ h)
escaped_from_line zero (a ∷ text) h =
    let b = byte_at text 0 in
    let c = byte_at text 1 in
    one_line-append (shown a b c) (escaped_from (passed a b c) text) (shown_line a b c (first_of (is_line_feed a) _ h))
    (escaped_from_line (passed a b c) text (second_of (is_line_feed a) _ h))

pub one_line-escaped : (text : List ℕ) → IsOneLine text → IsOneLine (escaped text)
one_line-escaped = escaped_from_line 0

-- ---- columns

replicate_line : (n b : ℕ) → is_line_feed b ≡ false → IsOneLine (replicate n b)
replicate_line zero b h = refl
replicate_line (suc n) b h = neither (is_line_feed b) _ h (replicate_line n b h)

pub one_line-padded : (widths : List ℕ) (k : ℕ) (cells : List (List ℕ)) → AllByRecursion IsOneLine cells
    → IsOneLine (padded widths k cells)
one_line-padded widths k [] h = refl
one_line-padded widths k (cell ∷ cells) h =
    let width = slice_index widths k in
    one_line-append (cell ++ padding width cell ++ codes " | ") (padded widths (k + 1) cells)
    (one_line-append (cell ++ padding width cell) (codes " | ") (one_line-append cell (padding width cell) h.0
    (replicate_line (width - columns cell) 32 refl)) refl)
    (one_line-padded widths (k + 1) cells h.1)

pub one_line-ruled : (widths : List ℕ) → IsOneLine (flat_map ruled widths)
one_line-ruled widths = one_line-flat_map ruled widths (all (λ w. IsOneLine (ruled w))
    (λ w. one_line-append (replicate w 45) (codes "-+-") (replicate_line w 45 refl) refl) widths)

-- ---- names

name_bytes_line : (text : List ℕ) → list_all is_name_byte text ≡ true → IsOneLine text
name_bytes_line [] h = refl
name_bytes_line (b ∷ text) h = let p = and_parts (is_name_byte b) _ h
    in neither (is_line_feed b) _ (grind (arith, nat_tests)) (name_bytes_line text p.1)

pub one_line-name : (text : List ℕ) → is_name text ≡ true → IsOneLine text
one_line-name text h = name_bytes_line text (name_bytes text h)
