-- Signs: what is found at the front is the sign that stands there.
use Rattle.std.proofs.Common.{◌≡◌, ℕ, Bool, true, false, ◌&&◌, ◌||◌, ◌==◌, not, List, [], ◌∷◌, ◌++◌, length, slice_index, take, drop, Some, inl, inr, refl, sym, ap, ◌∙◌, subst, arith, ◌<◌, nat_eq, take-append-drop}
use Rattle.std.specs.List.{starts_with}
use Rattle.std.specs.Char.{is_ascii_alphabetic, is_ascii_digit}
use Rattle.std.proofs.lemmas.Bool.{cases_Bool, or_parts}
use Rattle.std.proofs.lemmas.Option.{same_Some}
use Rattle.std.proofs.lemmas.Slice.Eq.{bytes_eq-Decides}
use Rattle.mls_tokens.specs.declared.sign.Sign.{Sign}
use Rattle.mls_tokens.specs.declared.sign.Sign.TheVariants.{Becomes, Differs, AtMost, AtLeast, Colon, Less, Greater, Minus}
use Rattle.mls_tokens.specs.Text.{is_blank}
use Rattle.mls_tokens.specs.Scanning.{starts_int}
use Rattle.mls_tokens.specs.Sign.{sign_text, sign_goes_on, signs, first_sign, leading_sign}

-- ---- what is found

text_front : (bytes text : List ℕ) → starts_with nat_eq bytes text ≡ true → bytes ≡ text ++ drop (length text) bytes
text_front bytes text h = sym (take-append-drop (length text) bytes)
    ∙ ap (λ (x : List ℕ). x ++ drop (length text) bytes) (sym ((bytes_eq-Decides text (take (length text) bytes)).0 h))

pub first_parts : (ss : List Sign) (bytes : List ℕ) (s : Sign) (rest : List ℕ) → first_sign ss bytes ≡ Some (s, rest)
    → bytes ≡ sign_text s ++ rest
first_parts [] bytes s rest e = absurd cc
first_parts (t ∷ ss) bytes s rest e =
    elim (cases_Bool (starts_with nat_eq bytes (sign_text t))) [
      | inl here ↦
          let same = same_Some (t, drop (length (sign_text t)) bytes) (s, rest) (rw here at e) in
          subst (λ (x : Sign × List ℕ). bytes ≡ sign_text x.0 ++ x.1) same (text_front bytes (sign_text t) here)
      | inr other ↦ first_parts ss bytes s rest (rw other at e)
    ]

pub sign_parts : (bytes : List ℕ) (s : Sign) (rest : List ℕ) → leading_sign bytes ≡ Some (s, rest) → bytes ≡ sign_text s
    ++ rest
sign_parts = first_parts signs

-- a sign that stands before the one that is found is not there
not_before : (t : Sign) (ss : List Sign) (bytes : List ℕ) (s : Sign) (rest : List ℕ) → (t ≡ s → ⊥)
    → first_sign (t ∷ ss) bytes ≡ Some (s, rest)
    → (starts_with nat_eq bytes (sign_text t) ≡ false) × (first_sign ss bytes ≡ Some (s, rest))
not_before t ss bytes s rest other e =
    elim (cases_Bool (starts_with nat_eq bytes (sign_text t))) [
      | inl here ↦
          let same = same_Some (t, drop (length (sign_text t)) bytes) (s, rest) (rw here at e) in
          absurd (other (ap (λ (x : Sign × List ℕ). x.0) same))
      | inr away ↦ (away, rw away at e)
    ]

abbrev begins : Sign → List ℕ → Bool
begins t bytes = starts_with nat_eq bytes (sign_text t)

and_true : (x : Bool) → (x && true) ≡ false → x ≡ false
and_true true h = h
and_true false h = refl

behind_colon : (rest : List ℕ) → begins Becomes (58 ∷ rest) ≡ false → sign_goes_on Colon (slice_index rest 0) ≡ false
behind_colon [] h = refl
behind_colon (c ∷ cs) h = and_true (nat_eq 61 c) h

behind_less : (rest : List ℕ) → begins Differs (60 ∷ rest) ≡ false → begins AtMost (60 ∷ rest) ≡ false
    → sign_goes_on Less (slice_index rest 0) ≡ false
behind_less [] h k = refl
behind_less (c ∷ cs) h k = rw (and_true (nat_eq 62 c) h, and_true (nat_eq 61 c) k) refl

behind_greater : (rest : List ℕ) → begins AtLeast (62 ∷ rest) ≡ false → sign_goes_on Greater (slice_index rest 0)
    ≡ false
behind_greater [] h = refl
behind_greater (c ∷ cs) h = and_true (nat_eq 61 c) h

-- and what follows it does not go on with it
pub sign_ends : (bytes : List ℕ) (s : Sign) (rest : List ℕ) → leading_sign bytes ≡ Some (s, rest) → starts_int bytes
    ≡ false → sign_goes_on s (slice_index rest 0) ≡ false
sign_ends bytes Colon rest e plain =
    let one = not_before Becomes (drop 1 signs) bytes Colon rest (λ e. absurd cc) e in
    behind_colon rest (subst (λ x. begins Becomes x ≡ false) (sign_parts bytes Colon rest e) one.0)
sign_ends bytes Less rest e plain =
    let one = not_before Becomes (drop 1 signs) bytes Less rest (λ e. absurd cc) e in
    let two = not_before Differs (drop 2 signs) bytes Less rest (λ e. absurd cc) one.1 in
    let three = not_before AtMost (drop 3 signs) bytes Less rest (λ e. absurd cc) two.1 in
    let parts = sign_parts bytes Less rest e in
    behind_less rest (subst (λ x. begins Differs x ≡ false) parts two.0)
    (subst (λ x. begins AtMost x ≡ false) parts three.0)
sign_ends bytes Greater rest e plain =
    let one = not_before Becomes (drop 1 signs) bytes Greater rest (λ e. absurd cc) e in
    let two = not_before Differs (drop 2 signs) bytes Greater rest (λ e. absurd cc) one.1 in
    let three = not_before AtMost (drop 3 signs) bytes Greater rest (λ e. absurd cc) two.1 in
    let four = not_before AtLeast (drop 4 signs) bytes Greater rest (λ e. absurd cc) three.1 in
    behind_greater rest (subst (λ x. begins AtLeast x ≡ false) (sign_parts bytes Greater rest e) four.0)
sign_ends bytes Minus rest e plain = behind_minus (subst (λ x. starts_int x ≡ false)
    (sign_parts bytes Minus rest e) plain)
  where
    behind_minus : starts_int (45 ∷ rest) ≡ false → is_ascii_digit (slice_index rest 0) ≡ false
    behind_minus h = h
sign_ends bytes _ rest e plain = refl

-- ---- what stands there is found

pub sign_again : (s : Sign) (rest : List ℕ) → sign_goes_on s (slice_index rest 0) ≡ false
    → leading_sign (sign_text s ++ rest) ≡ Some (s, rest)
sign_again Colon (c ∷ cs) ends = rw ends refl
sign_again Less (c ∷ cs) ends = let off = or_parts (nat_eq 62 c) (nat_eq 61 c) ends in rw (off.0, off.1) refl
sign_again Greater (c ∷ cs) ends = rw ends refl
sign_again _ _ ends = refl

pub sign_some : (s : Sign) → 0 < length (sign_text s)
sign_some Becomes = omega arith
sign_some _ = omega arith

-- with these bytes begins a sign, and nothing else
abbrev pub are_sign_bytes : ℕ → ℕ → Bool
are_sign_bytes b c = not (is_ascii_alphabetic b || is_ascii_digit b || is_blank b || b == 34 || b ==
    35 || (b == 45 && is_ascii_digit c))

pub sign_bytes : (s : Sign) (rest : List ℕ) → sign_goes_on s (slice_index rest 0) ≡ false
    → are_sign_bytes (slice_index (sign_text s ++ rest) 0) (slice_index (sign_text s ++ rest) 1) ≡ true
sign_bytes Minus rest ends = rw ends refl
sign_bytes _ rest ends = refl
