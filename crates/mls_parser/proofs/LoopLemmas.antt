-- Lists that loops make, an item at a time.
use Rattle.std.proofs.Common.{◌≡◌, ℕ, ◌+◌, ◌<◌, List, [], ◌∷◌, ◌++◌, length, get_or, take, sym, ap, ◌∙◌}
use Rattle.std.proofs.lemmas.List.{take_more}

module _ {X : Type 0} (xs : List X) (i : ℕ) (x : X) (within : i < length xs) (is : x ≡ get_or xs i x) where
  front : take (i + 1) xs ≡ take i xs ++ x ∷ []
  front = take_more xs i x within ∙ ap (λ z. take i xs ++ z ∷ []) (sym is)

  -- copies, behind a first
  pub copy_more : (first : X) (ys zs : List X) (y : X) → ys ≡ first ∷ take i xs → y ≡ x → zs ≡ ys ++ y ∷ []
      → zs ≡ first ∷ take (i + 1) xs
  copy_more first ys zs y so_far one push = push ∙ (λ j. so_far j ++ one j ∷ []) ∙ ap (λ l. first ∷ l) (sym front)
