-- One item more of a list that a loop makes.
use Rattle.std.proofs.Common.{◌≡◌, ℕ, suc, ◌+◌, ◌<◌, arith, List, [], ◌∷◌, ◌++◌, length, drop, get_or, sym, ap, ◌∙◌, append_assoc}
use Rattle.std.proofs.lemmas.List.{drop_more}

-- of the items numbered from k
pub numbered_more : {A B : Type 0} (f : ℕ → A → B) (F : ℕ → List A → List B) → ((k : ℕ) (x : A) (xs : List A)
    → F k (x ∷ xs) ≡ f k x ∷ F (suc k) xs)
    → (front : List B) (xs : List A) (i : ℕ) (d : A) → i < length xs → (front ++ f i (get_or xs i d) ∷ []) ++ F (i + 1)
    (drop (i + 1) xs) ≡ front ++ F i (drop i xs)
numbered_more f F step front xs i d l =
    let n : i + 1 ≡ suc i = omega arith in
    append_assoc front (f i (get_or xs i d) ∷ []) (F (i + 1) (drop (i + 1) xs))
    ∙ ap (λ k. front ++ f i (get_or xs i d) ∷ F k (drop (i + 1) xs)) n
    ∙ ap (λ ys. front ++ ys) (sym (ap (F i) (drop_more xs i d l) ∙ step i (get_or xs i d) (drop (i + 1) xs)))
