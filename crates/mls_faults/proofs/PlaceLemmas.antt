-- The tokens of a text stand one behind another.
use Rattle.std.proofs.Common.{◌≡◌, ℕ, zero, suc, ◌+◌, ◌-◌, ◌<◌, ◌≤◌, ◌==◌, Bool, true, false, if◌then◌else◌, List, [], ◌∷◌, ◌++◌, length, length-append, Option, Some, None, Result, Ok, Err, refl, ap, subst, arith, ne_eqb}
use Rattle.std.specs.List.{AllByRecursion}
use Rattle.std.specs.Str.{is_utf8}
use Rattle.std.specs.Str.Lossy.{utf8_valid_len}
use Rattle.mls_tokens.specs.declared.fault.TokenFault.{TokenFault}
use Rattle.mls_tokens.specs.declared.token.Placed.{Placed}
use Rattle.mls_tokens.specs.Scanning.{Left, unless, after_comment, comment_fault, after_gap, leading_token, placed_at, behind, next_placed, next_then, tokens_from, tokens_at}
use Rattle.mls_tokens.specs.Text.{is_blank, is_no_feed}
use Rattle.mls_tokens.proofs.GapLemmas.{gap_found}
use Rattle.mls_tokens.proofs.TokenLemmas.{token_shorter}

-- ---- one behind another, from a place on

abbrev pub Rise : ℕ → List Placed → ℕ → Type 0
Rise b [] end = b ≤ end
Rise b (p ∷ ps) end = (b ≤ p.at) × Rise (suc p.at) ps end

pub rise_lower : (b d : ℕ) (ps : List Placed) (end : ℕ) → d ≤ b → Rise b ps end → Rise d ps end
rise_lower b d [] end le h = omega (arith, le, h)
rise_lower b d (p ∷ ps) end le h = (omega (arith, le, h.0), h.1)

pub all_rise : (b : ℕ) (ps : List Placed) (end : ℕ) → Rise b ps end → AllByRecursion (λ p. b ≤ p.at) ps × (b ≤ end)
all_rise b [] end h = (tt, h)
all_rise b (p ∷ ps) end h =
    let rest = all_rise b ps end (rise_lower (suc p.at) b ps end (omega (arith, h.0)) h.1) in
    ((h.0, rest.0), rest.1)

pub all_below : (b : ℕ) (ps : List Placed) (end n : ℕ) → end ≤ n → Rise b ps end → AllByRecursion (λ p. p.at < n) ps
all_below b [] end n le h = tt
all_below b (p ∷ ps) end n le h =
    let rest = all_rise (suc p.at) ps end h.1 in
    (omega (arith, le, rest.1), all_below (suc p.at) ps end n le h.1)

-- behind some of them
pub rise_behind : (b : ℕ) (ps : List Placed) (p : Placed) (qs : List Placed) (end : ℕ)
    → Rise b ((ps ++ p ∷ []) ++ qs) end → Rise (suc p.at) qs end
rise_behind b [] p qs end h = h.1
rise_behind b (q ∷ ps) p qs end h = rise_behind (suc q.at) ps p qs end h.1

-- ---- gaps

comment_left : (bytes : List ℕ) (n : ℕ) → comment_fault bytes ≡ Some n → n ≤ length bytes
unfolding comment_fault
comment_left bytes n e = by_test (is_utf8 (after_comment bytes)) e
  where
    by_test : (b : Bool) → (if b then None else Some (length bytes - utf8_valid_len (after_comment bytes))) ≡ Some n
        → n ≤ length bytes
    by_test true e = absurd cc
    by_test false e =
        let is : length bytes - utf8_valid_len (after_comment bytes) ≡ n = cc in
        subst (λ m. m ≤ length bytes) is (omega arith)

module _ (b : ℕ) (bs : List ℕ) (n : ℕ)
    (more : (inside : Bool) (m : ℕ) → after_gap inside bs ≡ Err m → m ≤ length bs) where
  left_fault : (o : Option ℕ) → comment_fault bs ≡ o → unless o (after_gap true bs) ≡ Err n → n ≤ length (b ∷ bs)
  left_fault None is e = let h = more true n e in omega (arith, h)
  left_fault (Some m) is e =
      let same : m ≡ n = cc in
      let h = comment_left bs m is in
      omega (arith, h, same)

  left_blank : (t : Bool) → (if t then after_gap false bs else Ok (b ∷ bs)) ≡ Err n → n ≤ length (b ∷ bs)
  left_blank true e = let h = more false n e in omega (arith, h)
  left_blank false e = absurd cc

  left_comment : (t : Bool) → (if t then unless (comment_fault bs) (after_gap true bs)
      else (if is_blank b then after_gap false bs else Ok (b ∷ bs))) ≡ Err n → n ≤ length (b ∷ bs)
  left_comment true e = left_fault (comment_fault bs) refl e
  left_comment false e = left_blank (is_blank b) e

  left_behind : after_gap false (b ∷ bs) ≡ Err n → n ≤ length (b ∷ bs)
  left_behind e = left_comment (b == 35) e

gap_left : (inside : Bool) (bytes : List ℕ) (n : ℕ) → after_gap inside bytes ≡ Err n → n ≤ length bytes
gap_left inside [] n e = absurd cc
gap_left true (b ∷ bs) n e = let h = gap_left (is_no_feed b) bs n e in omega (arith, h)
gap_left false (b ∷ bs) n e = left_behind b bs n (λ inside m d. gap_left inside bs m d) e

-- ---- the next token

-- of bytes, as they are scanned
abbrev pub ScannedAs : {X : Type 0} → X → Type 0
ScannedAs {X = X} scanned = X

-- where it stands, or where none does, and what follows
abbrev IsNext : ℕ → List ℕ → Result (Placed × List ℕ) TokenFault → Type 0
IsNext len bytes (Ok x) = (len - length bytes + 1 ≤ x.0.at) × (x.0.at ≤ len - length x.1) × (length x.1 ≤ len)
IsNext len bytes (Err stop) = len - length bytes + 1 ≤ stop.at

next_of : (len : ℕ) (bytes front : List ℕ) (r : ScannedAs (leading_token front)) → leading_token front ≡ r
    → length front ≤ length bytes → length bytes ≤ len → IsNext len bytes (placed_at (len - length front + 1) r)
next_of len bytes front (Ok x) is few fit =
    let less = token_shorter front x.0 x.1 is in (
      omega (arith, few, fit, less),
      omega (arith, few, fit, less),
      omega (arith, few, fit, less),
    )
next_of len bytes front (Err f) is few fit = omega (arith, few, fit)

next_behind : (len : ℕ) (bytes : List ℕ) (r : Result (List ℕ) ℕ) → after_gap false bytes ≡ r → length bytes ≤ len
    → IsNext len bytes (behind len r)
next_behind len bytes (Ok []) is fit = omega (arith, fit)
next_behind len bytes (Ok (b ∷ front)) is fit =
    let gap = gap_found bytes b front is in
    let whole = ap length gap.1 in
    rw (ne_eqb (length (b ∷ front)) 0 (λ k. omega arith)) (next_of len bytes (b ∷ front)
    (leading_token (b ∷ front)) refl
    (omega (arith, whole, length-append gap.0 (b ∷ front))) fit)
next_behind len bytes (Err n) is fit = let h = gap_left false bytes n is in omega (arith, h, fit)

is_next : (len : ℕ) (bytes : List ℕ) → length bytes ≤ len → IsNext len bytes (next_placed len bytes)
unfolding next_placed
is_next len bytes fit = next_behind len bytes (after_gap false bytes) refl fit

-- ---- all tokens

abbrev AreRising : ℕ → Left → Type 0
AreRising b l = Rise b l.placed l.stop.at

rising_then : (n len : ℕ) (bytes : List ℕ) (r : Result (Placed × List ℕ) TokenFault) → IsNext len bytes r
    → ((rest : List ℕ) → length rest ≤ len → AreRising (len - length rest + 1) (tokens_from n len rest))
    → AreRising (len - length bytes + 1) (next_then (λ rest. tokens_from n len rest) r)
rising_then n len bytes (Ok x) h more = (
  h.0,
  rise_lower (len - length x.1 + 1) (suc x.0.at) (tokens_from n len x.1).placed (tokens_from n len x.1).stop.at
      (omega (arith, h.1)) (more x.1 h.2),
)
rising_then n len bytes (Err stop) h more = h

rising : (n len : ℕ) (bytes : List ℕ) → length bytes ≤ len → AreRising (len - length bytes + 1)
    (tokens_from n len bytes)
rising zero len bytes fit = omega (arith, fit)
rising (suc n) len bytes fit = rising_then n len bytes (next_placed len bytes) (is_next len bytes fit)
    (λ rest few. rising n len rest few)

pub tokens_rise : (bytes : List ℕ) → Rise 0 (tokens_at bytes).placed (tokens_at bytes).stop.at
unfolding tokens_at
tokens_rise bytes =
    let l = tokens_from (suc (length bytes)) (length bytes) bytes in
    rise_lower (length bytes - length bytes + 1) 0 l.placed l.stop.at (omega arith)
    (rising (suc (length bytes)) (length bytes) bytes (omega arith))
