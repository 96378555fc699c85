-- The values of a key, one after another.
use Rattle.std.proofs.Common.{◌≡◌, ℕ, zero, suc, ◌+◌, ◌<◌, ◌++◌, List, [], ◌∷◌, length, take, get_or, Option, Some, None, refl, sym, ap, ◌∙◌, arith, filter_map}
use Rattle.std.proofs.lemmas.Option.{none-some}

module _ {X : Type 0} where
  abbrev there : Option X → Option X
  there v = v

  by_suc : (xs : List (Option X)) (i : ℕ) → filter_map there (take (i + 1) xs) ≡ filter_map there (take (suc i) xs)
  by_suc xs i = let n : i + 1 ≡ suc i = omega arith in ap (λ k. filter_map there (take k xs)) n

  none_suc : (xs : List (Option X)) (i : ℕ) (d : Option X) → i < length xs → get_or xs i d ≡ None
      → filter_map there (take (suc i) xs) ≡ filter_map there (take i xs)
  none_suc [] i d l h = absurd (omega arith)
  none_suc (None ∷ xs) zero d l h = refl
  none_suc (Some x ∷ xs) zero d l h = absurd (none-some x (sym h))
  none_suc (None ∷ xs) (suc i) d l h = none_suc xs i d (omega arith) h
  none_suc (Some x ∷ xs) (suc i) d l h = ap (λ ys. x ∷ ys) (none_suc xs i d (omega arith) h)

  some_suc : (xs : List (Option X)) (i : ℕ) (d : Option X) (v : X) → i < length xs → get_or xs i d ≡ Some v
      → filter_map there (take (suc i) xs) ≡ filter_map there (take i xs) ++ v ∷ []
  some_suc [] i d v l h = absurd (omega arith)
  some_suc (None ∷ xs) zero d v l h = absurd (none-some v h)
  some_suc (Some x ∷ xs) zero d v l h = let same : x ≡ v = cc in ap (λ y. y ∷ []) same
  some_suc (None ∷ xs) (suc i) d v l h = some_suc xs i d v (omega arith) h
  some_suc (Some x ∷ xs) (suc i) d v l h = ap (λ ys. x ∷ ys) (some_suc xs i d v (omega arith) h)

  -- a value that is missing adds nothing
  pub key_none : (xs : List (Option X)) (i : ℕ) (d : Option X) → i < length xs → get_or xs i d ≡ None
      → filter_map there (take (i + 1) xs) ≡ filter_map there (take i xs)
  key_none xs i d l h = by_suc xs i ∙ none_suc xs i d l h

  -- another stands at the end
  pub key_some : (xs : List (Option X)) (i : ℕ) (d : Option X) (v : X) → i < length xs → get_or xs i d ≡ Some v
      → filter_map there (take (i + 1) xs) ≡ filter_map there (take i xs) ++ v ∷ []
  key_some xs i d v l h = by_suc xs i ∙ some_suc xs i d v l h
