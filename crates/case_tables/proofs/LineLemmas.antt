-- The first elements of a list that pass a test, found one after another.
use Rattle.std.proofs.Common.{◌≡◌, ℕ, suc, ◌+◌, ◌<◌, Bool, true, false, cond, List, [], ◌∷◌, ◌++◌, take, drop, length, get_or, append_assoc, add-one, ap, sym, ◌∙◌, take_while, append-nil}
use Rattle.std.proofs.lemmas.List.Sums.{take_while-cons}
use Rattle.std.proofs.Math.Seq.{drop-cons, take-suc}

module _ {X : Type 0} (p : X → Bool) (xs : List X) (i : ℕ) (d : X) where
  -- the elements from a place on that pass, where the one there does or doesn't
  at_place : (b : Bool) → i < length xs → p (get_or xs i d) ≡ b → take_while p (drop i xs)
      ≡ cond b (get_or xs i d ∷ take_while p (drop (suc i) xs)) []
  at_place b l is = ap (take_while p) (drop-cons xs i d l) ∙ take_while-cons p (get_or xs i d) (drop (suc i) xs)
      ∙ ap (λ c. cond c (get_or xs i d ∷ take_while p (drop (suc i) xs)) []) is

  pub stops : i < length xs → p (get_or xs i d) ≡ false → take_while p xs ≡ take i xs ++ take_while p (drop i xs)
      → take i xs ≡ take_while p xs
  stops l is so_far = sym (so_far ∙ ap (λ ys. take i xs ++ ys) (at_place false l is) ∙ append-nil (take i xs))

  pub goes : i < length xs → p (get_or xs i d) ≡ true → take_while p xs ≡ take i xs ++ take_while p (drop i xs)
      → take_while p xs ≡ take (i + 1) xs ++ take_while p (drop (i + 1) xs)
  goes l is so_far = so_far ∙ ap (λ ys. take i xs ++ ys) (at_place true l is)
      ∙ sym (append_assoc (take i xs) (get_or xs i d ∷ []) (take_while p (drop (suc i) xs)))
      ∙ ap (λ ys. ys ++ take_while p (drop (suc i) xs)) (sym (take-suc xs i d l))
      ∙ ap (λ j. take j xs ++ take_while p (drop j xs)) (sym (add-one i))
