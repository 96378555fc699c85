-- Lines, each escaped by itself.
use Rattle.std.proofs.Common.{◌≡◌, ℕ, zero, suc, ◌≤◌, ◌<◌, Bool, true, false, cond, List, [], ◌∷◌, ◌++◌, length, refl, sym, ap, ◌∙◌, subst, append_assoc, arith}
use Rattle.std.proofs.lemmas.Bool.Decides.{nat_tests}
use Rattle.mls_tokens.specs.Screen.{is_hidden, is_hidden_pair, is_hidden_triple, hex_escape, unicode_escape, pair_escape, byte_at, shown, passed, escaped_from, escaped}

-- a byte below 128 is no second and no third one
pub pair_short : (a b : ℕ) → b < 128 → is_hidden_pair a b ≡ false
pair_short a b h = grind (arith, nat_tests)

pub triple_short : (a b c : ℕ) → b < 128 → is_hidden_triple a b c ≡ false
triple_short a b c h = grind (arith, nat_tests)

pub triple_cut : (a b c : ℕ) → c < 128 → is_hidden_triple a b c ≡ false
triple_cut a b c h = grind (arith, nat_tests)

-- of two bytes
abbrev shown_pair : ℕ → ℕ → List ℕ
shown_pair a b = cond (is_hidden a) (hex_escape a) (cond (is_hidden_pair a b) (pair_escape a b) (a ∷ []))

abbrev shown_single : ℕ → List ℕ
shown_single a = cond (is_hidden a) (hex_escape a) (a ∷ [])

no_triple : (a b c : ℕ) → is_hidden_triple a b c ≡ false → shown a b c ≡ shown_pair a b
no_triple a b c q = ap (λ t. cond (is_hidden a) (hex_escape a) (cond (is_hidden_pair a b) (pair_escape a b)
    (cond t (unicode_escape a b c) (a ∷ [])))) q

no_pair : (a b : ℕ) → is_hidden_pair a b ≡ false → shown_pair a b ≡ shown_single a
no_pair a b q = ap (λ t. cond (is_hidden a) (hex_escape a) (cond t (pair_escape a b) (a ∷ []))) q

alone : (a b c : ℕ) → b < 128 → shown a b c ≡ shown_single a
alone a b c h = no_triple a b c (triple_short a b c h) ∙ no_pair a b (pair_short a b h)

none_passed : (a b c : ℕ) → b < 128 → passed a b c ≡ 0
none_passed a b c h =
    ap (λ t. cond t 1 (cond (is_hidden_triple a b c) 2 0)) (pair_short a b h) ∙ ap (λ t. cond t 2 0)
    (triple_short a b c h)

one_passed : (a b c : ℕ) → c < 128 → passed a b c ≡ cond (is_hidden_pair a b) 1 0
one_passed a b c h = ap (λ t. cond (is_hidden_pair a b) 1 (cond t 2 0)) (triple_cut a b c h)

-- the bytes of a character end before a line feed
shown_before : (a : ℕ) (text rest : List ℕ) → shown a (byte_at (text ++ 10 ∷ rest) 0) (byte_at (text ++ 10 ∷ rest) 1)
    ≡ shown a (byte_at text 0) (byte_at text 1)
shown_before a [] rest = alone a 10 (byte_at rest 0) (omega arith) ∙ sym (alone a 0 0 (omega arith))
shown_before a (x ∷ []) rest = no_triple a x 10 (triple_cut a x 10 (omega arith))
    ∙ sym (no_triple a x 0 (triple_cut a x 0 (omega arith)))
shown_before a (x ∷ y ∷ text) rest = refl

passed_before : (a : ℕ) (text rest : List ℕ) → passed a (byte_at (text ++ 10 ∷ rest) 0) (byte_at (text ++ 10 ∷ rest) 1)
    ≡ passed a (byte_at text 0) (byte_at text 1)
passed_before a [] rest = none_passed a 10 (byte_at rest 0) (omega arith) ∙ sym (none_passed a 0 0 (omega arith))
passed_before a (x ∷ []) rest = one_passed a x 10 (omega arith) ∙ sym (one_passed a x 0 (omega arith))
passed_before a (x ∷ y ∷ text) rest = refl

at_most : (n : ℕ) (t u : Bool) → cond t 1 (cond u 2 0) ≤ suc (suc n)
at_most n true u = omega arith
at_most n false true = omega arith
at_most n false false = omega arith

passed_within : (a : ℕ) (text : List ℕ) → passed a (byte_at text 0) (byte_at text 1) ≤ length text
passed_within a [] = subst (λ n. n ≤ 0) (sym (none_passed a 0 0 (omega arith))) (omega arith)
passed_within a (x ∷ []) =
    subst (λ n. n ≤ 1) (sym (one_passed a x 0 (omega arith)))
    (elim (is_hidden_pair a x) as (λ t. cond t 1 0 ≤ 1) [
      | true ↦ omega arith
      | false ↦ omega arith
    ])
passed_within a (x ∷ y ∷ text) = at_most (length text) (is_hidden_pair a x) (is_hidden_triple a x y)

line_from : (n : ℕ) (text rest : List ℕ) → n ≤ length text → escaped_from n (text ++ 10 ∷ rest) ≡ escaped_from n text
    ++ 10 ∷ escaped rest
line_from zero [] rest h = refl
line_from (suc n) [] rest h = absurd (omega arith)
line_from (suc n) (a ∷ text) rest h = line_from n text rest (omega arith)
line_from zero (a ∷ text) rest h =
    let b = byte_at text 0 in
    let c = byte_at text 1 in
    ap (λ l. l ++ escaped_from (passed a (byte_at (text ++ 10 ∷ rest) 0) (byte_at (text ++ 10 ∷ rest) 1))
    (text ++ 10 ∷ rest)) (shown_before a text rest)
    ∙ ap (λ n. shown a b c ++ escaped_from n (text ++ 10 ∷ rest)) (passed_before a text rest)
    ∙ ap (λ l. shown a b c ++ l) (line_from (passed a b c) text rest (passed_within a text))
    ∙ sym (append_assoc (shown a b c) (escaped_from (passed a b c) text) (10 ∷ escaped rest))

-- a line feed behind a text
pub escaped-line : (text rest : List ℕ) → escaped (text ++ 10 ∷ rest) ≡ escaped text ++ 10 ∷ escaped rest
escaped-line text rest = line_from 0 text rest (omega arith)
