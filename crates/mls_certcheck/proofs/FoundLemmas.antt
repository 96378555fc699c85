-- What is read of a line is labels, and the text is their own.
use Rattle.std.proofs.Common.{◌≡◌, ℕ, zero, suc, ◌+◌, ◌-◌, ◌*◌, ◌/◌, ◌%◌, ◌<◌, ◌≤◌, ◌^◌, Bool, true, false, cond, not, ◌||◌, ◌&&◌, ◌==◌, nat_lt, nat_le, List, [], ◌∷◌, ◌++◌, length, map, take, drop, get_or, codes, Ok, refl, sym, ap, subst, ◌∙◌, append_assoc, arith, eq-eqb, eqb-true, ltb-true, ltb-false, slice_index, decimal, w32, flat_map, bytes_eq, le-ltb, lt-ltb, append-nil}
use Rattle.std.specs.Char.{is_ascii_digit, digit_char}
use Rattle.std.specs.Cmp.Lexicographic.{bytes_decides}
use Rattle.std.specs.Int.{to_be_bytes, from_be_bytes}
use Rattle.std.specs.List.{AllByRecursion, join_with_byte}
use Rattle.std.specs.Str.Parse.{digits_value}
use Rattle.std.proofs.lemmas.Bool.{and_parts}
use Rattle.std.proofs.lemmas.Bool.Decides.{nat_tests}
use Rattle.std.proofs.lemmas.Fmt.{decimal-digits_value}
use Rattle.std.proofs.lemmas.List.Splits.{join_with_byte-slice_split}
use Rattle.std.proofs.lemmas.Nat.{be_bytes_4}
use Rattle.mls_lattice.specs.declared.label.Label.{Label}
use Rattle.mls_lattice.specs.Reading.{◌>>=◌}
use Rattle.mls_lattice.proofs.ReadingLemmas.{bind_ok, guard_ok, pass_ok, ok_is}
use Rattle.mls_certcheck.proofs.CertificateLabelLemmas.{own, some_digits}
use Rattle.mls_certcheck.specs.declared.fault.CertCause.TheVariants.{Label as BadLabel}
use Rattle.mls_certcheck.specs.Reading.{refused, pieces, is_decimal, number_in, rank_in, digit_in, byte_in, bytes_in, cats_in, label_in, labels_in, worded_in, line_in}
use Rattle.mls_certcheck.specs.Spelling.{byte_text, label_text, spaced_label, IsLabel}

-- ---- ranks

lead : (a b : Bool) → (a || not b) ≡ true → b ≡ true → a ≡ true
lead true b h e = refl
lead false true h e = absurd cc
lead false false h e = absurd cc

alone : (text : List ℕ) → is_decimal text ≡ true → get_or text 0 0 ≡ 48 → length text ≡ 1
unfolding is_decimal
alone text is zero_first = eqb-true _ 1 (lead (length text == 1) (slice_index text 0 == 48) (and_parts _ _ is).1
    (eq-eqb _ _ zero_first))

rank_found : (line : ℕ) (text : List ℕ) (n : ℕ) → rank_in line text ≡ Ok n → (n < 256) × (text ≡ decimal n)
unfolding rank_in number_in
rank_found line text n e =
    let p = pass_ok (is_decimal text) _ (number_in line text) n e in
    let q = pass_ok (nat_lt (digits_value 10 text) 256) _ (Ok (digits_value 10 text)) n p.1 in
    let small : digits_value 10 text < 256 = ltb-true _ _ q.0 in
    let s = some_digits text p.0 in
    let spelled = decimal-digits_value own text s.1 s.0 (alone text p.0) (omega (arith, small)) in
    subst (λ (m : ℕ). (m < 256) × (text ≡ decimal m)) (ok_is (digits_value 10 text) n q.1) (small, sym spelled)

-- ---- categories

digit_found : (line b d : ℕ) → digit_in line b ≡ Ok d → (d < 16) × (b ≡ digit_char d)
unfolding digit_in
digit_found line b d e = at (is_ascii_digit b) refl e
  where
    letter : (t : Bool) → (nat_le 97 b && nat_le b 102) ≡ t → cond t (Ok (b - 87)) (refused line BadLabel) ≡ Ok d
        → (d < 16) × (b ≡ digit_char d)
    letter true is e =
        let low : 97 ≤ b = grind (arith, nat_tests) in
        let high : b ≤ 102 = grind (arith, nat_tests) in
        let value : b - 87 ≡ d = ok_is (b - 87) d e in
        let more : nat_lt d 10 ≡ false = le-ltb d 10 (omega arith) in
        (omega arith, rw more (omega arith))
    letter false is e = absurd cc

    at : (t : Bool) → is_ascii_digit b ≡ t → cond t (Ok (b - 48)) (cond (nat_le 97 b && nat_le b 102) (Ok (b - 87))
        (refused line BadLabel)) ≡ Ok d → (d < 16) × (b ≡ digit_char d)
    at true is e =
        let low : 48 ≤ b = grind (arith, nat_tests) in
        let high : b ≤ 57 = grind (arith, nat_tests) in
        let value : b - 48 ≡ d = ok_is (b - 48) d e in
        let one : nat_lt d 10 ≡ true = lt-ltb d 10 (omega arith) in
        (omega arith, rw one (omega arith))
    at false is e = letter (nat_le 97 b && nat_le b 102) refl e

record ByteFound (high low b : ℕ) : Type 0 where
  small : b < 256
  text : high ∷ low ∷ [] ≡ byte_text b

byte_found : (line high low b : ℕ) → byte_in line high low ≡ Ok b → ByteFound high low b
unfolding byte_in
byte_found line high low b e =
    let h = bind_ok (digit_in line high) _ b e in
    let l = bind_ok (digit_in line low) _ b h.2 in
    let value : 16 * h.0 + l.0 ≡ b = ok_is (16 * h.0 + l.0) b l.2 in
    let hs = digit_found line high h.0 h.1 in
    let ls = digit_found line low l.0 l.1 in
    let h' : h.0 ≡ b / 16 = omega (arith, hs.0, ls.0, value) in
    let l' : l.0 ≡ b % 16 = omega (arith, hs.0, ls.0, value) in
    let high' : high ≡ digit_char (b / 16) = hs.1 ∙ ap digit_char h' in
    let low' : low ≡ digit_char (b % 16) = ls.1 ∙ ap digit_char l' in
    record { small = omega (arith, hs.0, ls.0, value); text = λ i. high' i ∷ low' i ∷ [] }

record BytesFound (text bs : List ℕ) : Type 0 where
  four : length bs ≡ 4
  small : (i : ℕ) → get_or bs i 0 < 256
  spelled : text ≡ flat_map byte_text bs

small_4 : (a b c d : ℕ) → a < 256 → b < 256 → c < 256 → d < 256 → (i : ℕ) → get_or (a ∷ b ∷ c ∷ d ∷ []) i 0 < 256
small_4 a b c d a' b' c' d' zero = a'
small_4 a b c d a' b' c' d' (suc zero) = b'
small_4 a b c d a' b' c' d' (suc (suc zero)) = c'
small_4 a b c d a' b' c' d' (suc (suc (suc zero))) = d'
small_4 a b c d a' b' c' d' (suc (suc (suc (suc i)))) = omega arith

bytes_found : (line : ℕ) (text bs : List ℕ) → length text ≡ 8 → bytes_in line text ≡ Ok bs → BytesFound text bs
unfolding bytes_in
bytes_found line (p ∷ q ∷ r ∷ s ∷ t ∷ u ∷ v ∷ w ∷ []) bs l e =
    let a = bind_ok (byte_in line p q) _ bs e in
    let b = bind_ok (byte_in line r s) _ bs a.2 in
    let c = bind_ok (byte_in line t u) _ bs b.2 in
    let d = bind_ok (byte_in line v w) _ bs c.2 in
    let af = byte_found line p q a.0 a.1 in
    let bf = byte_found line r s b.0 b.1 in
    let cf = byte_found line t u c.0 c.1 in
    let df = byte_found line v w d.0 d.1 in
    subst (BytesFound (p ∷ q ∷ r ∷ s ∷ t ∷ u ∷ v ∷ w ∷ [])) (ok_is (a.0 ∷ b.0 ∷ c.0 ∷ d.0 ∷ []) bs d.2) (record {
      four = refl;
      small = small_4 a.0 b.0 c.0 d.0 af.small bf.small cf.small df.small;
      spelled = λ i. af.text i ++ bf.text i ++ cf.text i ++ df.text i;
    })
bytes_found line _ bs l e = absurd (omega arith)

below_32 : (bs : List ℕ) → length bs ≡ 4 → ((i : ℕ) → get_or bs i 0 < 256) → from_be_bytes w32 bs < 2 ^ 32
below_32 bs four small = omega (arith, small 0, small 1, small 2, small 3)

cats_found : (line : ℕ) (text : List ℕ) (c : ℕ) → cats_in line text ≡ Ok c → (c < 2 ^ 32)
    × (text ≡ flat_map byte_text (to_be_bytes w32 c))
unfolding cats_in
cats_found line text c e =
    let p = pass_ok (length text == 8) _ (bytes_in line text >>= λ bs. Ok (from_be_bytes w32 bs)) c e in
    let b = bind_ok (bytes_in line text) _ c p.1 in
    let f = bytes_found line text b.0 (eqb-true _ 8 p.0) b.1 in
    let spelled : to_be_bytes w32 (from_be_bytes w32 b.0) ≡ b.0 =
    be_bytes_4 b.0 (from_be_bytes w32 b.0) f.four f.small refl in
    subst (λ (n : ℕ). (n < 2 ^ 32) × (text ≡ flat_map byte_text (to_be_bytes w32 n)))
    (ok_is (from_be_bytes w32 b.0) c b.2) (
      below_32 b.0 f.four f.small,
      f.spelled ∙ ap (flat_map byte_text)
          (sym spelled),
    )

-- ---- labels

pub at_place : (k : ℕ) (xs : List ℕ) → k < length xs → xs ≡ take k xs ++ slice_index xs k ∷ drop (k + 1) xs
at_place k [] l = absurd (omega arith)
at_place zero (x ∷ xs) l = refl
at_place (suc k) (x ∷ xs) l =
    let next : suc (k + 1) ≡ suc k + 1 = omega arith in
    ap (λ (ys : List ℕ). x ∷ ys) (at_place k xs (omega arith)) ∙ ap (λ (n : ℕ). x ∷ (take k xs ++ slice_index xs k
    ∷ drop n (x ∷ xs))) next

label_found : (line : ℕ) (text : List ℕ) (l : Label) → label_in line text ≡ Ok l → IsLabel l × (text ≡ label_text l)
unfolding label_in
label_found line text l e =
    let k = length text - 9 in
    let g = guard_ok (nat_lt (length text) 9) _ _ l e in
    let p = pass_ok (slice_index text (length text - 9) == 58) _ _ l g.1 in
    let r = bind_ok (rank_in line (take (length text - 9) text)) _ l p.1 in
    let c = bind_ok (cats_in line (drop (length text - 9 + 1) text)) _ l r.2 in
    let rank = rank_found line (take (length text - 9) text) r.0 r.1 in
    let cats = cats_found line (drop (length text - 9 + 1) text) c.0 c.1 in
    let long : 9 ≤ length text = ltb-false _ _ g.0 in
    let colon : slice_index text (length text - 9) ≡ 58 = eqb-true _ 58 p.0 in
    let parts = at_place (length text - 9) text (omega (arith, long)) in
    subst (λ (m : Label). IsLabel m × (text ≡ label_text m)) (ok_is (record { rank = r.0; cats = c.0 }) l c.2) (
      (rank.0, cats.0),
      parts ∙ (λ i. rank.1 i ++ colon i ∷ cats.1 i) ∙ sym (append_assoc (decimal r.0) (codes ":")
          (flat_map byte_text (to_be_bytes w32 c.0))),
    )

-- ---- lines

record LabelsFound (front ls : List Label) (words : List (List ℕ)) : Type 0 where
  more : List Label
  whole : ls ≡ front ++ more
  fits : AllByRecursion IsLabel more
  text : words ≡ map label_text more

labels_found : (line : ℕ) (words : List (List ℕ)) (front ls : List Label) → labels_in line front words ≡ Ok ls
    → LabelsFound front ls words
labels_found line [] front ls e = record {
  more = [];
  whole = sym (ok_is front ls e) ∙ sym (append-nil front);
  fits =
      tt;
  text = refl;
}
labels_found line (word ∷ words) front ls e =
    let l = bind_ok (label_in line word) _ ls e in
    let f = label_found line word l.0 l.1 in
    let rest = labels_found line words (front ++ l.0 ∷ []) ls l.2 in
    record {
      more = l.0 ∷ rest.more;
      whole = rest.whole ∙ append_assoc front (l.0 ∷ []) rest.more;
      fits = (f.0, rest.fits);
      text = λ i. f.1 i ∷ rest.text i;
    }

joined : (word : List ℕ) (ls : List Label) → join_with_byte 32 (word ∷ map label_text ls) ≡ word
    ++ flat_map spaced_label ls
joined word [] = sym (append-nil word)
joined word (l ∷ ls) = ap (λ (bs : List ℕ). word ++ (32 ∷ bs)) (joined (label_text l) ls)

worded_found : (word : List ℕ) (line : ℕ) (words : List (List ℕ)) (ls : List Label) → worded_in word line words ≡ Ok ls
    → AllByRecursion IsLabel ls × (join_with_byte 32 words ≡ word ++ flat_map spaced_label ls)
unfolding worded_in
worded_found word line [] ls e = absurd cc
worded_found word line (first ∷ words) ls e =
    let p = pass_ok (bytes_eq first word) _ (labels_in line [] words) ls e in
    let f = labels_found line words [] ls p.1 in
    let same : first ≡ word = (bytes_decides first word).0 p.0 in (
      subst (AllByRecursion IsLabel) (sym f.whole) f.fits,
      (λ i. join_with_byte 32 (same i ∷ f.text i))
          ∙ joined word f.more ∙ ap (λ (ms : List Label). word ++ flat_map spaced_label ms) (sym f.whole),
    )

pub line_found : (word : List ℕ) (line : ℕ) (text : List ℕ) (ls : List Label) → line_in word line text ≡ Ok ls
    → AllByRecursion IsLabel ls × (text ≡ word ++ flat_map spaced_label ls)
line_found word line text ls e = let f = worded_found word line (pieces 32 text) ls e
    in (f.0, sym (join_with_byte-slice_split 32 text) ∙ f.1)
