-- What is written of labels is read again.
use Rattle.std.proofs.Common.{◌≡◌, ℕ, suc, ◌+◌, ◌-◌, ◌/◌, ◌%◌, ◌<◌, ◌≤◌, ◌^◌, ◌⊎◌, Bool, true, false, cond, ◌&&◌, ◌==◌, nat_lt, nat_le, List, [], ◌∷◌, ◌++◌, length, map, take, drop, codes, inl, inr, Result, Ok, refl, sym, ap, ◌∙◌, append_assoc, arith, ne_eqb, le-ltb, lt-ltb, slice_index, decimal, w32, All, flat_map, append-nil, length-append}
use Rattle.std.specs.Char.{is_ascii_digit, digit_char}
use Rattle.std.specs.Cmp.Lexicographic.{bytes_decides}
use Rattle.std.specs.Int.{to_be_bytes, from_be_bytes}
use Rattle.std.specs.List.{AllByRecursion}
use Rattle.std.specs.Str.Parse.{digits_value, AllDigits}
use Rattle.std.proofs.lemmas.Bool.{cases_lt, or_right}
use Rattle.std.proofs.lemmas.Bool.Decides.{nat_tests}
use Rattle.std.proofs.lemmas.Fmt.{decimal_is_IsNumeral, decimal_digit, first_decimal}
use Rattle.std.proofs.lemmas.List.Elements.{All-from_recursion}
use Rattle.std.proofs.lemmas.List.Splits.{slice_split_none, slice_split_at}
use Rattle.std.proofs.lemmas.Nat.{from_be_bytes-to_be_bytes_4}
use Rattle.std.proofs.lemmas.Str.Parse.{digit_from_value}
use Rattle.mls_lattice.specs.declared.label.Label.{Label}
use Rattle.mls_lattice.specs.Reading.{◌>>=◌}
use Rattle.mls_certcheck.proofs.CertificateLabelLemmas.{own}
use Rattle.mls_certcheck.specs.declared.fault.CertFault.{CertFault}
use Rattle.mls_certcheck.specs.Reading.{pieces, are_digits, is_decimal, number_in, rank_in, digit_in, byte_in, bytes_in, cats_in, label_in, labels_in, worded_in, line_in}
use Rattle.mls_certcheck.specs.Spelling.{byte_text, label_text, spaced_label, IsLabel, AreLabels}

abbrev pub done : {A : Type 0} → A → Result A CertFault
done x = Ok x

-- ---- bytes above a mark are cut nowhere

abbrev pub Above : ℕ → List ℕ → Type 0
Above m bytes = AllByRecursion (λ b. m < b) bytes

pub Above-append : (m : ℕ) (xs ys : List ℕ) → Above m xs → Above m ys → Above m (xs ++ ys)
Above-append m [] ys p q = q
Above-append m (x ∷ xs) ys p q = (p.0, Above-append m xs ys p.1 q)

pub Above-lower : (m n : ℕ) (xs : List ℕ) → m ≤ n → Above n xs → Above m xs
Above-lower m n [] le p = tt
Above-lower m n (x ∷ xs) le p = (omega (arith, p.0), Above-lower m n xs le p.1)

unmarked : (m : ℕ) (xs : List ℕ) → Above m xs → AllByRecursion (λ b. (b == m) ≡ false) xs
unmarked m [] p = tt
unmarked m (x ∷ xs) p = (ne_eqb x m (λ e. omega (arith, p.0)), unmarked m xs p.1)

pub no_mark : (m : ℕ) (xs : List ℕ) → Above m xs → All (λ b. (b == m) ≡ false) xs
no_mark m xs p = All-from_recursion (λ b. (b == m) ≡ false) xs (unmarked m xs p)

digits_above : (ds : List ℕ) → AllDigits 10 ds → Above 32 ds
digits_above [] d = tt
digits_above (c ∷ cs) d = (omega (arith, digit_from_value c d.0), digits_above cs d.1)

glyph_above : (d : ℕ) → 32 < digit_char d
glyph_above d = at (nat_lt d 10)
  where
    at : (b : Bool) → 32 < cond b (48 + d) (87 + d)
    at true = omega arith
    at false = omega arith

bytes_above : (bs : List ℕ) → Above 32 (flat_map byte_text bs)
bytes_above [] = tt
bytes_above (b ∷ bs) = (glyph_above (b / 16), (glyph_above (b % 16), bytes_above bs))

label_above : (l : Label) → IsLabel l → Above 32 (label_text l)
label_above l is =
    let digits = digits_above (decimal l.rank) (decimal_is_IsNumeral l.rank (omega (arith, is.0))).0.1 in
    Above-append 32 (decimal l.rank ++ codes ":") (flat_map byte_text (to_be_bytes w32 l.cats))
    (Above-append 32 (decimal l.rank) (codes ":") digits (omega arith, tt)) (bytes_above (to_be_bytes w32 l.cats))

pub labels_above : (ls : List Label) → AllByRecursion IsLabel ls → Above 10 (flat_map spaced_label ls)
labels_above [] is = tt
labels_above (l ∷ ls) is = Above-append 10 (spaced_label l) (flat_map spaced_label ls) (
  omega arith,
  Above-lower 10 32 (label_text l) (omega arith) (label_above l is.0),
) (labels_above ls is.1)

-- ---- labels

shown : (text : List ℕ) → 0 < length text → are_digits text ≡ true → (length text ≡ 1) ⊎ (48 < slice_index text 0)
    → is_decimal text ≡ true
unfolding is_decimal
shown text some digits (inl one) = rw (digits, one) refl
shown text some digits (inr more) =
    let full : (length text == 0) ≡ false = ne_eqb _ 0 (λ e. omega arith) in
    let lead : (slice_index text 0 == 48) ≡ false = ne_eqb _ 48 (λ e. omega arith) in
    rw (full, digits, lead) (or_right (length text == 1) true refl)

decimal_shown : (n : ℕ) → n < 256 → is_decimal (decimal n) ≡ true
decimal_shown n small =
    let h = decimal_is_IsNumeral n (omega arith) in
    shown (decimal n) h.0.0 (own.from (decimal n) h.0.1) (at (cases_lt n 10))
  where
    at : (n < 10) ⊎ (10 ≤ n) → (length (decimal n) ≡ 1) ⊎ (48 < slice_index (decimal n) 0)
    at (inl one) = inl (ap length (decimal_digit n one))
    at (inr more) = inr (first_decimal n (omega arith) (omega arith))

rank_again : (line n : ℕ) → n < 256 → rank_in line (decimal n) ≡ Ok n
unfolding rank_in number_in
rank_again line n small =
    let value : digits_value 10 (decimal n) ≡ n = (decimal_is_IsNumeral n (omega arith)).1 in
    rw (decimal_shown n small, value, lt-ltb n 256 small) refl

digit_again : (line d : ℕ) → d < 16 → digit_in line (digit_char d) ≡ Ok d
unfolding digit_in
digit_again line d small = at (cases_lt d 10)
  where
    at : (d < 10) ⊎ (10 ≤ d) → digit_in line (digit_char d) ≡ Ok d
    at (inl one) =
        let digit : is_ascii_digit (48 + d) ≡ true = grind (arith, nat_tests) in
        rw (lt-ltb d 10 one, digit) (ap (λ (n : ℕ). done n) (omega arith))
    at (inr more) =
        let digit : is_ascii_digit (87 + d) ≡ false = grind (arith, nat_tests) in
        let letter : (nat_le 97 (87 + d) && nat_le (87 + d) 102) ≡ true = grind (arith, nat_tests) in
        rw (le-ltb d 10 more, digit, letter) (ap (λ (n : ℕ). done n) (omega arith))

byte_again : (line b : ℕ) → b < 256 → byte_in line (digit_char (b / 16)) (digit_char (b % 16)) ≡ Ok b
unfolding byte_in
byte_again line b small = rw (digit_again line (b / 16) (omega arith), digit_again line (b % 16) (omega arith))
    (ap (λ (n : ℕ). done n) (omega arith))

bytes_again : (line a b c d : ℕ) → a < 256 → b < 256 → c < 256 → d < 256
    → bytes_in line (flat_map byte_text (a ∷ b ∷ c ∷ d ∷ [])) ≡ Ok (a ∷ b ∷ c ∷ d ∷ [])
unfolding bytes_in
bytes_again line a b c d a' b' c' d' = rw (
  byte_again line a a',
  byte_again line b b',
  byte_again line c c',
  byte_again line d d',
) refl

cats_again : (line c : ℕ) → c < 2 ^ 32 → cats_in line (flat_map byte_text (to_be_bytes w32 c)) ≡ Ok c
unfolding cats_in
cats_again line c fits =
    ap (λ (r : Result (List ℕ) CertFault). r >>= (λ bs. Ok (from_be_bytes w32 bs))) (bytes_again line _ _ _ _
    (omega arith) (omega arith) (omega arith) (omega arith))
    ∙ ap (λ (n : ℕ). done n) (from_be_bytes-to_be_bytes_4 c fits)

-- what stands before, at and after the end of a list
place_of : (xs : List ℕ) (b : ℕ) (ys : List ℕ) → slice_index (xs ++ b ∷ ys) (length xs) ≡ b
place_of [] b ys = refl
place_of (x ∷ xs) b ys = place_of xs b ys

front_of : (xs ys : List ℕ) → take (length xs) (xs ++ ys) ≡ xs
front_of [] ys = refl
front_of (x ∷ xs) ys = ap (λ (zs : List ℕ). x ∷ zs) (front_of xs ys)

back_of : (xs : List ℕ) (b : ℕ) (ys : List ℕ) → drop (length xs + 1) (xs ++ b ∷ ys) ≡ ys
back_of [] b ys = refl
back_of (x ∷ xs) b ys =
    let next : suc (length xs) + 1 ≡ suc (length xs + 1) = omega arith in
    ap (λ (n : ℕ). drop n (x ∷ (xs ++ b ∷ ys))) next ∙ back_of xs b ys

label_parts : (line : ℕ) (d h : List ℕ) → length h ≡ 8 → label_in line (d ++ 58 ∷ h)
    ≡ (rank_in line d >>= λ r. cats_in line h >>= λ c. Ok (record { rank = r; cats = c }))
unfolding label_in
label_parts line d h eight =
    let n : length (d ++ 58 ∷ h) ≡ length d + 9 = omega (arith, length-append d (58 ∷ h), eight) in
    let long : nat_lt (length (d ++ 58 ∷ h)) 9 ≡ false = le-ltb _ _ (omega (arith, n)) in
    let k : length (d ++ 58 ∷ h) - 9 ≡ length d = omega (arith, n) in
    rw (long, k, place_of d 58 h, front_of d (58 ∷ h), back_of d 58 h) refl

label_again : (line : ℕ) (l : Label) → IsLabel l → label_in line (label_text l) ≡ Ok l
label_again line l is =
    ap (label_in line) (append_assoc (decimal l.rank) (codes ":") (flat_map byte_text (to_be_bytes w32 l.cats)))
    ∙ label_parts line (decimal l.rank) (flat_map byte_text (to_be_bytes w32 l.cats)) refl
    ∙ rw (rank_again line l.rank is.0, cats_again line l.cats is.1) refl

-- ---- lines

labels_again : (line : ℕ) (front ls : List Label) → AllByRecursion IsLabel ls → labels_in line front (map label_text ls)
    ≡ Ok (front ++ ls)
labels_again line front [] is = ap (λ (xs : List Label). done xs) (sym (append-nil front))
labels_again line front (l ∷ ls) is =
    ap (λ (r : Result Label CertFault). r >>= (λ x. labels_in line (front ++ x ∷ []) (map label_text ls)))
    (label_again line l is.0)
    ∙ labels_again line (front ++ l ∷ []) ls is.1
    ∙ ap (λ (xs : List Label). done xs) (append_assoc front (l ∷ []) ls)

words_again : (word : List ℕ) (ls : List Label) → Above 32 word → AllByRecursion IsLabel ls
    → pieces 32 (word ++ flat_map spaced_label ls) ≡ word ∷ map label_text ls
words_again word [] above is = ap (pieces 32) (append-nil word) ∙ slice_split_none (λ b. b == 32) word
    (no_mark 32 word above)
words_again word (l ∷ ls) above is =
    slice_split_at (λ b. b == 32) word 32 (label_text l ++ flat_map spaced_label ls) (no_mark 32 word above) refl
    ∙ ap (λ (ps : List (List ℕ)). word ∷ ps) (words_again (label_text l) ls (label_above l is.0) is.1)

pub words_read : (word : List ℕ) (line : ℕ) (ls : List Label) → Above 32 word → AreLabels ls
    → line_in word line (word ++ flat_map spaced_label ls) ≡ Ok ls
unfolding worded_in
words_read word line ls above is =
    ap (worded_in word line) (words_again word ls above is)
    ∙ rw ((bytes_decides word word).1 refl) (labels_again line [] ls is)
