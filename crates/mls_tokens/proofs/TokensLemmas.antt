-- A text token by token.
use Rattle.std.proofs.Common.{◌≡◌, ◌≢◌, ℕ, zero, suc, ◌<◌, ◌≤◌, ◌-◌, ◌+◌, length-append, false, List, [], ◌∷◌, ◌++◌, length, Result, Ok, Err, refl, sym, ap, ◌∙◌, subst, arith, append_assoc, append-nil, ne_eqb}
use Rattle.mls_tokens.specs.declared.fault.ScanFault.{ScanFault}
use Rattle.mls_tokens.specs.declared.fault.ScanFault.TheVariants as scan
use Rattle.mls_tokens.specs.declared.fault.TokenCause.TheVariants.{Token as BadToken, Expected, TooLong}
use Rattle.mls_tokens.specs.declared.fault.TokenFault.{TokenFault}
use Rattle.mls_tokens.specs.declared.token.Token.{Token}
use Rattle.mls_tokens.specs.Text.{Begins, IsOver, AreTokens, TextsAreOnce}
use Rattle.mls_tokens.specs.declared.token.Placed.{Placed}
use Rattle.mls_tokens.proofs.GapLemmas.{gap_found, over_found, front_again, front_over}
use Rattle.mls_tokens.proofs.TokenLemmas.{token_found, spells_some}
use Rattle.mls_tokens.proofs.AgainLemmas.{token_again, no_gap}
use Rattle.mls_tokens.specs.Scanning.{TokensAreExact, Found, leading_token, after_gap, fault_at, placed_at, behind, without_places, Left, with_front, next_placed, next_then, tokens_from, tokens_at}

-- what is left to scan, behind the tokens that were scanned, is the whole
pub record ScannedSoFar (text : List ℕ) (placed : List Placed) (rest : List ℕ) : Type 0 where
  pub most : ℕ
  pub enough : length rest ≤ most
  pub same : tokens_at text ≡ with_front placed (tokens_from (suc most) (length text) rest)

pub scanned_none : (text : List ℕ) → ScannedSoFar text [] text
unfolding tokens_at
scanned_none text = record { most = length text; enough = omega arith; same = refl }

module _ (text : List ℕ) (placed : List Placed) (rest : List ℕ) (h : ScannedSoFar text placed rest) where
  pub scanned_more : (p : Placed) (after : List ℕ) → next_placed (length text) rest ≡ Ok (p, after) → length after
      < length rest → ScannedSoFar text (placed ++ p ∷ []) after
  scanned_more p after e less = more h.most h.enough h.same
    where
      more : (most : ℕ) → length rest ≤ most → tokens_at text ≡ with_front placed
          (tokens_from (suc most) (length text) rest) → ScannedSoFar text (placed ++ p ∷ []) after
      more zero enough same = absurd (omega arith)
      more (suc most) enough same = record {
        most = most;
        enough = omega arith;
        same = same ∙ ap (λ r. with_front placed (next_then (λ x. tokens_from (suc most) (length text) x) r)) e
            ∙ ap (λ ps. record { placed = ps; stop = (tokens_from (suc most) (length text) after).stop })
            (sym (append_assoc placed (p ∷ []) (tokens_from (suc most) (length text) after).placed));
      }

  pub scanned_end : (stop : TokenFault) → next_placed (length text) rest ≡ Err stop
      → record { placed = placed; stop = stop } ≡ tokens_at text
  scanned_end stop e =
      sym (h.same ∙ ap (λ r. with_front placed (next_then (λ x. tokens_from h.most (length text) x) r)) e
      ∙ ap (λ ps. record { placed = ps; stop = stop }) (append-nil placed))

pub ruleset token_steps = (scanned_none, scanned_more, scanned_end)

-- ---- the next token

-- what scanning of the next token tells
abbrev Tells : List ℕ → Result (Placed × List ℕ) TokenFault → Type 0
Tells bytes (Ok x) = Begins bytes x.0.token x.1
Tells bytes (Err stop) = stop.cause ≡ Expected → IsOver bytes

tells_token : (bytes front : List ℕ) (b : ℕ) (at : ℕ) → after_gap false bytes ≡ Ok (b ∷ front)
    → (r : Result Found ScanFault) → leading_token (b ∷ front) ≡ r → Tells bytes (placed_at at r)
tells_token bytes front b at e (Ok x) h =
    let gap = gap_found bytes b front e in
    let f = token_found (b ∷ front) x.0 x.1 h in
    record {
      gap = gap.0;
      text = f.text;
      parts = gap.1 ∙ ap (λ (y : List ℕ). gap.0 ++ y) f.parts;
      is_gap = gap.2;
      spells = f.spells;
      ends = f.ends;
    }
tells_token bytes front b at e (Err scan.Token) h = λ same. absurd (let f : BadToken ≡ Expected = same in cc)
tells_token bytes front b at e (Err scan.TooLong) h = λ same. absurd (let f : TooLong ≡ Expected = same in cc)

tells_front : (len : ℕ) (bytes : List ℕ) (r : Result (List ℕ) ℕ) → after_gap false bytes ≡ r
    → Tells bytes (behind len r)
tells_front len bytes (Ok []) e = λ _. over_found bytes e
tells_front len bytes (Ok (b ∷ front)) e = rw (ne_eqb (length (b ∷ front)) 0 (λ k. omega arith))
    (tells_token bytes front b (len - length (b ∷ front) + 1) e (leading_token (b ∷ front)) refl)
tells_front len bytes (Err left) e = λ same. absurd (let f : BadToken ≡ Expected = same in cc)

next_tells : (len : ℕ) (bytes : List ℕ) → Tells bytes (next_placed len bytes)
unfolding next_placed
next_tells len bytes = tells_front len bytes (after_gap false bytes) refl

begins_shorter : (bytes : List ℕ) (t : Token) (rest : List ℕ) → Begins bytes t rest → length rest < length bytes
begins_shorter bytes t rest h =
    let some = spells_some h.text t h.spells in
    omega (arith, ap length h.parts, length-append h.gap (h.text ++ rest), length-append h.text rest)

next_again : (len : ℕ) (bytes : List ℕ) (t : Token) (rest : List ℕ) → Begins bytes t rest → (at : ℕ)
    × (next_placed len bytes ≡ Ok (record { token = t; at = at }, rest))
unfolding next_placed
next_again len bytes t rest h =
    let front = h.text ++ rest in
    let some = spells_some h.text t h.spells in
    let whole : length front ≢ 0 = λ e. omega (arith, length-append h.text rest) in (
      len - length front + 1,
      ap (λ x. behind len (after_gap false x)) h.parts ∙ ap (behind len) (front_again h.gap front h.is_gap
          (no_gap h.text rest t h.spells h.ends))
          ∙ rw (ne_eqb (length front) 0 whole) (ap (placed_at (len - length front + 1))
          (token_again h.text rest t h.spells h.ends)),
    )

next_over : (len : ℕ) (bytes : List ℕ) → IsOver bytes → next_placed len bytes ≡ Err (fault_at (len + 1) Expected)
unfolding next_placed
next_over len bytes h = ap (behind len) (front_over bytes h)

-- ---- all tokens

-- scanning comes to the end
abbrev IsScanned : List Token → Left → Type 0
IsScanned ts l = (without_places l.placed ≡ ts) × (l.stop.cause ≡ Expected)

abbrev SaysTokens : List ℕ → Left → Type 0
SaysTokens bytes l = l.stop.cause ≡ Expected → AreTokens (without_places l.placed) bytes

then_rest : (n len : ℕ) (bytes : List ℕ) (r : Result (Placed × List ℕ) TokenFault)
    → ((rest : List ℕ) → length rest < length bytes → SaysTokens rest (tokens_from n len rest)) → Tells bytes r
    → SaysTokens bytes (next_then (λ rest. tokens_from n len rest) r)
then_rest n len bytes (Ok x) more begins = λ e. (x.1, begins, more x.1 (begins_shorter bytes x.0.token x.1 begins) e)
then_rest n len bytes (Err stop) more over = over

scanned : (n len : ℕ) (bytes : List ℕ) → length bytes < n → SaysTokens bytes (tokens_from n len bytes)
scanned zero len bytes less = absurd (omega arith)
scanned (suc n) len bytes less = then_rest n len bytes (next_placed len bytes) (λ rest s. scanned n len rest
    (omega arith)) (next_tells len bytes)

scanned_again : (ts : List Token) (n len : ℕ) (bytes : List ℕ) → length bytes < n → AreTokens ts bytes
    → IsScanned ts (tokens_from n len bytes)
scanned_again ts zero len bytes less h = absurd (omega arith)
scanned_again [] (suc n) len bytes less h =
    subst (λ r. IsScanned [] (next_then (λ rest. tokens_from n len rest) r)) (sym (next_over len bytes h)) (refl, refl)
scanned_again (t ∷ ts) (suc n) len bytes less (rest, begins, h) =
    let next = next_again len bytes t rest begins in
    let more = scanned_again ts n len rest (let s = begins_shorter bytes t rest begins in omega arith) h in
    subst (λ r. IsScanned (t ∷ ts) (next_then (λ rest. tokens_from n len rest) r)) (sym next.1)
    (ap (λ us. t ∷ us) more.0, more.1)

pub tokens_exact : TokensAreExact
unfolding tokens_at
tokens_exact bytes ts = (
  (λ h. subst (λ us. AreTokens us bytes) h.0 (scanned (suc (length bytes)) (length bytes) bytes (omega arith) h.1)),
  scanned_again ts (suc (length bytes)) (length bytes) bytes (omega arith),
)

pub texts_once : TextsAreOnce
texts_once bytes ts us h k = sym ((tokens_exact bytes ts).1 h).0 ∙ ((tokens_exact bytes us).1 k).0
