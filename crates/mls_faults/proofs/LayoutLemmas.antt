-- A text whose tokens begin as those of another, as a text that begins with them at the same places.
use Rattle.std.proofs.Common.{◌≡◌, ◌≢◌, ℕ, zero, suc, ◌+◌, ◌-◌, ◌<◌, ◌≤◌, ◌==◌, Bool, true, false, if◌then◌else◌, List, [], ◌∷◌, ◌++◌, length, length-append, slice_index, Result, Ok, Err, refl, sym, ap, ◌∙◌, subst, arith, ne_eqb}
use Rattle.mls_tokens.specs.declared.fault.TokenCause.TheVariants.{Expected}
use Rattle.mls_tokens.specs.declared.fault.TokenFault.{TokenFault}
use Rattle.mls_tokens.specs.declared.token.Token.{Token}
use Rattle.mls_tokens.specs.declared.token.Placed.{Placed}
use Rattle.mls_tokens.specs.Scanning.{after_gap, leading_token, fault_at, placed_at, behind, next_placed, next_then, tokens_from, tokens_at, without_places}
use Rattle.mls_tokens.specs.Text.{Spells, goes_on, IsGap, Begins, AreTokens}
use Rattle.mls_tokens.proofs.AgainLemmas.{token_again, no_gap}
use Rattle.mls_tokens.proofs.GapLemmas.{gap_found, front_again}
use Rattle.mls_tokens.proofs.TokenLemmas.{token_found, spells_some}
use Rattle.mls_faults.specs.Faults.{BeginsWith}
use Rattle.mls_faults.proofs.PlaceLemmas.{ScannedAs}

-- ---- tokens that stand in a text

-- behind a gap, at its place in a text of so many bytes, and what follows
record Stands (len : ℕ) (bytes : List ℕ) (p : Placed) (mid : List ℕ) : Type 0 where
  gap : List ℕ
  text : List ℕ
  parts : bytes ≡ gap ++ (text ++ mid)
  is_gap : IsGap gap
  spells : Spells p.token text
  ends : goes_on p.token (slice_index mid 0) ≡ false
  at : p.at ≡ len - length (text ++ mid) + 1

module _ (len : ℕ) (bytes : List ℕ) (p : Placed) (mid : List ℕ) where
  stands_token : (b : ℕ) (front : List ℕ) → after_gap false bytes ≡ Ok (b ∷ front)
      → (r : ScannedAs (leading_token (b ∷ front))) → leading_token (b ∷ front) ≡ r
      → placed_at (len - length (b ∷ front) + 1) r ≡ Ok (p, mid) → Stands len bytes p mid
  stands_token b front e (Err fault) is h = absurd cc
  stands_token b front e (Ok x) is h =
      let gap = gap_found bytes b front e in
      let f = token_found (b ∷ front) x.0 x.1 is in
      let here : Placed = record { token = x.0; at = len - length (b ∷ front) + 1 } in
      let same : (here, x.1) ≡ (p, mid) = cc in
      subst (λ (z : Placed × List ℕ). Stands len bytes z.0 z.1) same (record {
        gap = gap.0;
        text = f.text;
        parts = gap.1 ∙ ap (λ (y : List ℕ). gap.0 ++ y) f.parts;
        is_gap = gap.2;
        spells = f.spells;
        ends = f.ends;
        at = ap (λ (y : List ℕ). len - length y + 1) f.parts;
      })

  not_over : (t : Bool) (r : Result (Placed × List ℕ) TokenFault) → t ≡ false
      → (if t then Err (fault_at (len + 1) Expected) else r) ≡ Ok (p, mid) → r ≡ Ok (p, mid)
  not_over true r off e = absurd cc
  not_over false r off e = e

  stands_front : (r : Result (List ℕ) ℕ) → after_gap false bytes ≡ r → behind len r ≡ Ok (p, mid)
      → Stands len bytes p mid
  stands_front (Err left) is e = absurd cc
  stands_front (Ok []) is e = absurd cc
  stands_front (Ok (b ∷ front)) is e =
      stands_token b front is (leading_token (b ∷ front)) refl
      (not_over (length (b ∷ front) == 0) (placed_at (len - length (b ∷ front) + 1) (leading_token (b ∷ front)))
      (ne_eqb (length (b ∷ front)) 0 (λ k. omega arith)) e)

  stands_next : next_placed len bytes ≡ Ok (p, mid) → Stands len bytes p mid
  unfolding next_placed
  stands_next e = stands_front (after_gap false bytes) refl e

-- one after another, and what follows them
abbrev Scans : ℕ → List ℕ → List Placed → List ℕ → Type 0
Scans len bytes [] rest = bytes ≡ rest
Scans len bytes (p ∷ ps) rest = (mid : List ℕ) × Stands len bytes p mid × Scans len mid ps rest

scans_then : (n len : ℕ) (bytes : List ℕ) (p : Placed) (ps xs : List Placed) (r : Result (Placed × List ℕ) TokenFault)
    → next_placed len bytes ≡ r → (next_then (λ rest. tokens_from n len rest) r).placed ≡ p ∷ (ps ++ xs)
    → ((mid : List ℕ) → (tokens_from n len mid).placed ≡ ps ++ xs → (rest : List ℕ) × Scans len mid ps rest)
    → (rest : List ℕ) × Scans len bytes (p ∷ ps) rest
scans_then n len bytes p ps xs (Err stop) is e more = absurd cc
scans_then n len bytes p ps xs (Ok x) is e more =
    let first : x.0 ≡ p = cc in
    let others : (tokens_from n len x.1).placed ≡ ps ++ xs = cc in
    let tail = more x.1 others in
    (tail.0, (x.1, subst (λ (q : Placed). Stands len bytes q x.1) first (stands_next len bytes x.0 x.1 is), tail.1))

scans : (n len : ℕ) (bytes : List ℕ) (ps xs : List Placed) → (tokens_from n len bytes).placed ≡ ps ++ xs
    → (rest : List ℕ) × Scans len bytes ps rest
scans n len bytes [] xs e = (bytes, refl)
scans zero len bytes (p ∷ ps) xs e = absurd cc
scans (suc n) len bytes (p ∷ ps) xs e =
    scans_then n len bytes p ps xs (next_placed len bytes) refl e (λ mid d. scans n len mid ps xs d)

-- ---- another text that begins with them

next_laid : (len : ℕ) (gap text mid : List ℕ) (t : Token) → IsGap gap → Spells t text
    → goes_on t (slice_index mid 0) ≡ false → next_placed len (gap ++ (text ++ mid))
    ≡ Ok (record { token = t; at = len - length (text ++ mid) + 1 }, mid)
unfolding next_placed
next_laid len gap text mid t g s ends =
    let front = text ++ mid in
    let some = spells_some text t s in
    let whole : length front ≢ 0 = λ e. omega (arith, some, length-append text mid, e) in
    ap (behind len) (front_again gap front g (no_gap text mid t s ends)) ∙ rw (ne_eqb (length front) 0 whole)
    (ap (placed_at (len - length front + 1)) (token_again text mid t s ends))

first_same : (gap text x y : List ℕ) → 0 < length text
    → slice_index (gap ++ (text ++ x)) 0 ≡ slice_index (gap ++ (text ++ y)) 0
first_same [] [] x y some = absurd (omega (arith, some))
first_same [] (c ∷ cs) x y some = refl
first_same (c ∷ cs) text x y some = refl

-- the bytes with another tail behind the tokens
record Laid (len : ℕ) (bytes : List ℕ) (ps : List Placed) (tail : List ℕ) : Type 0 where
  text : List ℕ
  first : slice_index text 0 ≡ slice_index bytes 0
  tokens : (us : List Token) → AreTokens us tail → AreTokens (without_places ps ++ us) text
  placed : (new n : ℕ) → length bytes ≤ len → length text ≤ new → new + length bytes ≡ len + length text
      → length text < n
      → (rest : List Placed) × ((tokens_from n new text).placed ≡ ps ++ rest)

module _ (len : ℕ) (bytes : List ℕ) (p : Placed) (mid : List ℕ) (s : Stands len bytes p mid) (after : List ℕ)
    (ends : goes_on p.token (slice_index after 0) ≡ false) where
  abbrev laid : List ℕ
  laid = s.gap ++ (s.text ++ after)

  laid_first : slice_index laid 0 ≡ slice_index bytes 0
  laid_first = first_same s.gap s.text after mid (spells_some s.text p.token s.spells)
      ∙ ap (λ (x : List ℕ). slice_index x 0) (sym s.parts)

  laid_begins : Begins laid p.token after
  laid_begins = record {
    gap = s.gap;
    text = s.text;
    parts = refl;
    is_gap = s.is_gap;
    spells = s.spells;
    ends = ends;
  }

  laid_longer : length after < length laid
  laid_longer =
      let some = spells_some s.text p.token s.spells in
      omega (arith, some, length-append s.gap (s.text ++ after), length-append s.text after)

  -- so far apart as before
  laid_apart : (new : ℕ) → new + length bytes ≡ len + length laid → new + length mid ≡ len + length after
  laid_apart new e = omega (
    arith,
    e,
    ap length s.parts,
    length-append s.gap (s.text ++ after),
    length-append s.text after,
    length-append s.gap (s.text ++ mid),
    length-append s.text mid,
  )

  laid_next : (new : ℕ) → length bytes ≤ len → length laid ≤ new → new + length bytes ≡ len + length laid
      → next_placed new laid ≡ Ok (p, after)
  laid_next new fit also e =
      let place : new - length (s.text ++ after) + 1 ≡ p.at = omega (
        arith,
        fit,
        also,
        e,
        s.at,
        ap length s.parts,
        length-append s.gap (s.text ++ after),
        length-append s.text after,
        length-append s.gap (s.text ++ mid),
        length-append s.text mid,
      ) in
      next_laid new s.gap s.text after p.token s.is_gap s.spells ends
      ∙ ap (λ (n : ℕ). Ok (record { token = p.token; at = n }, after)) place

  laid_placed : (new n : ℕ) (ps rest : List Placed) → length bytes ≤ len → length laid ≤ new
      → new + length bytes ≡ len + length laid → (tokens_from n new after).placed ≡ ps ++ rest
      → (tokens_from (suc n) new laid).placed ≡ p ∷ (ps ++ rest)
  laid_placed new n ps rest fit also e more =
      ap (λ r. (next_then (λ x. tokens_from n new x) r).placed) (laid_next new fit also e)
      ∙ ap (λ (l : List Placed). p ∷ l) more

shorter : (len : ℕ) (bytes : List ℕ) (p : Placed) (mid : List ℕ) → Stands len bytes p mid → length mid ≤ length bytes
shorter len bytes p mid s =
    omega (arith, ap length s.parts, length-append s.gap (s.text ++ mid), length-append s.text mid)

-- the last of them
module _ (len : ℕ) (bytes : List ℕ) (p : Placed) (mid : List ℕ) (s : Stands len bytes p mid) (tail : List ℕ)
    (ends : goes_on p.token (slice_index tail 0) ≡ false) where
  placed_last : (new n : ℕ) → length bytes ≤ len → length (laid len bytes p mid s tail ends) ≤ new
      → new + length bytes ≡ len + length (laid len bytes p mid s tail ends)
      → length (laid len bytes p mid s tail ends) < n
      → (rest : List Placed) × ((tokens_from n new (laid len bytes p mid s tail ends)).placed ≡ (p ∷ []) ++ rest)
  placed_last new zero fit also e less = absurd (omega (arith, less))
  placed_last new (suc n) fit also e less = (
    (tokens_from n new tail).placed,
    laid_placed len bytes p mid s tail ends new n [] (tokens_from n new tail).placed fit also e refl,
  )

  lay_last : Laid len bytes (p ∷ []) tail
  lay_last = record {
    text = laid len bytes p mid s tail ends;
    first = laid_first len bytes p mid s tail ends;
    tokens = λ us h. (tail, laid_begins len bytes p mid s tail ends, h);
    placed = placed_last;
  }

-- one before others
module _ (len : ℕ) (bytes : List ℕ) (q : Placed) (mid : List ℕ) (s : Stands len bytes q mid) (ps : List Placed)
    (tail : List ℕ) (l : Laid len mid ps tail) where
  stays_apart : goes_on q.token (slice_index l.text 0) ≡ false
  stays_apart = ap (goes_on q.token) l.first ∙ s.ends

  abbrev before : List ℕ
  before = laid len bytes q mid s l.text stays_apart

  placed_before : (new n : ℕ) → length bytes ≤ len → length before ≤ new → new + length bytes ≡ len + length before
      → length before < n → (rest : List Placed) × ((tokens_from n new before).placed ≡ (q ∷ ps) ++ rest)
  placed_before new zero fit also e less = absurd (omega (arith, less))
  placed_before new (suc n) fit also e less =
      let longer = laid_longer len bytes q mid s l.text stays_apart in
      let few = shorter len bytes q mid s in
      let others = l.placed new n (omega (arith, fit, few)) (omega (arith, also, longer))
      (laid_apart len bytes q mid s l.text stays_apart new e) (omega (arith, less, longer)) in (
        others.0,
        laid_placed len bytes q mid s l.text stays_apart new n ps others.0 fit also e others.1,
      )

  lay_before : Laid len bytes (q ∷ ps) tail
  lay_before = record {
    text = before;
    first = laid_first len bytes q mid s l.text stays_apart;
    tokens = λ us h. (l.text, laid_begins len bytes q mid s l.text stays_apart, l.tokens us h);
    placed = placed_before;
  }

lay : (len : ℕ) (bytes rest : List ℕ) (ps : List Placed) (p : Placed) (tail : List ℕ)
    → Scans len bytes (ps ++ p ∷ []) rest → goes_on p.token (slice_index tail 0) ≡ false
    → Laid len bytes (ps ++ p ∷ []) tail
lay len bytes rest [] p tail (mid, s, is) ends = lay_last len bytes p mid s tail ends
lay len bytes rest (q ∷ ps) p tail (mid, s, more) ends =
    lay_before len bytes q mid s (ps ++ p ∷ []) tail (lay len mid rest ps p tail more ends)

-- ---- a text of such tokens

-- what follows the tokens in a text of them and others
behind_tokens : (ps : List Placed) (p : Placed) (us : List Token) (other : List ℕ)
    → AreTokens (without_places (ps ++ p ∷ []) ++ us) other
    → (tail : List ℕ) × (goes_on p.token (slice_index tail 0) ≡ false) × AreTokens us tail
behind_tokens [] p us other (rest, begins, h) = (rest, begins.ends, h)
behind_tokens (q ∷ ps) p us other (rest, begins, h) = behind_tokens ps p us rest h

-- such a text with the same tokens, which begins with these at the same places
pub record LaidAs (ps : List Placed) (us : List Token) : Type 0 where
  pub text : List ℕ
  pub begins : BeginsWith ps text
  pub tokens : AreTokens (without_places ps ++ us) text

pub laid_as : (bytes other : List ℕ) (ps : List Placed) (p : Placed) (us : List Token) → BeginsWith (ps ++ p ∷ []) bytes
    → AreTokens (without_places (ps ++ p ∷ []) ++ us) other → LaidAs (ps ++ p ∷ []) us
unfolding tokens_at
laid_as bytes other ps p us begins h =
    let tail = behind_tokens ps p us other h in
    let found = scans (suc (length bytes)) (length bytes) bytes (ps ++ p ∷ []) begins.0 begins.1 in
    let l = lay (length bytes) bytes found.0 ps p tail.0 found.1 tail.1 in
    record {
      text = l.text;
      begins = l.placed (length l.text) (suc (length l.text)) (omega arith) (omega arith) (omega arith) (omega arith);
      tokens = l.tokens us tail.2;
    }
