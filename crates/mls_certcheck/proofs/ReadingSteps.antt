-- How lines, rows and blocks follow one another.
use Rattle.std.proofs.Common.{◌≡◌, ℕ, zero, suc, ◌+◌, ◌-◌, ◌<◌, true, false, List, [], ◌∷◌, ◌++◌, length, map, take, drop, codes, Ok, Err, refl, sym, ap, ◌∙◌, arith, Bor, take_all, length-drop}
use Rattle.std.proofs.lemmas.List.{drop-map}
use Rattle.mls_lattice.specs.declared.label.Label.{Label}
use Rattle.mls_certcheck.specs.declared.fault.CertFault.{CertFault}
use Rattle.mls_certcheck.specs.Reading.{Block, line_at, is_past_end, rows_at, lines_of, block_at, blocks_at}

-- what is left of lines that are lent
pub left_lent : (xs : List (Bor (List ℕ))) (i : ℕ) → map (λ x. x.now) (take (length xs - i) (drop i xs))
    ≡ drop i (map (λ x. x.now) xs)
left_lent xs i =
    ap (map (λ (x : Bor (List ℕ)). x.now)) (take_all (length xs - i) (drop i xs) (omega (arith, length-drop i xs)))
    ∙ sym (drop-map (λ (x : Bor (List ℕ)). x.now) i xs)

-- ---- the loop over blocks, of which a number may still come

pub blocks_over : (n : ℕ) (front : List Block) (lines : List (List ℕ)) (i : ℕ) → is_past_end (drop i lines) ≡ true
    → blocks_at n front lines i ≡ Ok front
unfolding blocks_at
blocks_over zero front lines i over = refl
blocks_over (suc n) front lines i over = rw over refl

pub blocks_next : (n m : ℕ) (ds front more : List Block) (lines : List (List ℕ)) (i j : ℕ) (b : Block) → n ≡ suc m
    → ds ≡ front → more ≡ front ++ b ∷ [] → j ≡ i + 1 + lines_of b.1 → is_past_end (drop i lines) ≡ false
    → block_at ds lines i ≡ Ok b → blocks_at m more lines j ≡ blocks_at n front lines i
unfolding blocks_at
blocks_next n m ds front more lines i j b some same grown moved left e =
    let read : block_at front lines i ≡ Ok b = ap (λ (bs : List Block). block_at bs lines i) (sym same) ∙ e in
    let step : blocks_at (suc m) front lines i ≡ blocks_at m (front ++ b ∷ []) lines (i + 1 + lines_of b.1) =
    rw (left, read) refl in
    (λ k. blocks_at m (grown k) lines (moved k)) ∙ sym step ∙ ap (λ (k : ℕ). blocks_at k front lines i) (sym some)

pub blocks_err : (n m : ℕ) (ds front : List Block) (lines : List (List ℕ)) (i : ℕ) (e : CertFault) → n ≡ suc m
    → ds ≡ front → is_past_end (drop i lines) ≡ false → block_at ds lines i ≡ Err e → blocks_at n front lines i ≡ Err e
unfolding blocks_at
blocks_err n m ds front lines i e some same left h =
    let read : block_at front lines i ≡ Err e = ap (λ (bs : List Block). block_at bs lines i) (sym same) ∙ h in
    ap (λ (k : ℕ). blocks_at k front lines i) some ∙ rw (left, read) refl

-- lines are left where they are not over
pub left_some : (xs : List (Bor (List ℕ))) (i : ℕ) → is_past_end (drop i (map (λ x. x.now) xs)) ≡ false → i < length xs
left_some xs i h = at (drop i xs) (length-drop i xs) (ap is_past_end (sym (drop-map (λ (x : Bor (List ℕ)). x.now) i xs))
    ∙ h)
  where
    at : (ls : List (Bor (List ℕ))) → length ls ≡ length xs - i → is_past_end (map (λ x. x.now) ls) ≡ false
        → i < length xs
    at [] l h = absurd cc
    at (t ∷ ls) l h = omega (arith, l)

-- ---- the loop over rows

pub rows_all : (n : ℕ) (front : List (List Label)) (lines : List (List ℕ)) (i : ℕ) → n ≡ 0 → rows_at front n lines i
    ≡ Ok front
unfolding rows_at
rows_all n front lines i none = ap (λ (k : ℕ). rows_at front k lines i) none

pub rows_next : (n m : ℕ) (front more : List (List Label)) (row : List Label) (lines : List (List ℕ)) (i : ℕ)
    → n ≡ suc m → more ≡ front ++ row ∷ [] → line_at (codes "row") lines i ≡ Ok row → rows_at more m lines (i + 1)
    ≡ rows_at front n lines i
unfolding rows_at
rows_next n m front more row lines i some grown e =
    let step : rows_at front (suc m) lines i ≡ rows_at (front ++ row ∷ []) m lines (i + 1) = rw e refl in
    ap (λ (rs : List (List Label)). rows_at rs m lines (i + 1)) grown ∙ sym step
    ∙ ap (λ (k : ℕ). rows_at front k lines i) (sym some)

pub rows_err : (n m : ℕ) (front : List (List Label)) (lines : List (List ℕ)) (i : ℕ) (e : CertFault) → n ≡ suc m
    → line_at (codes "row") lines i ≡ Err e → rows_at front n lines i ≡ Err e
unfolding rows_at
rows_err n m front lines i e some h = ap (λ (k : ℕ). rows_at front k lines i) some ∙ rw h refl
