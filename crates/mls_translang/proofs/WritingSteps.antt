-- Items written one after another, a comma before each.
use Rattle.std.proofs.Common.{◌≡◌, ℕ, ◌<◌, ◌+◌, List, [], ◌∷◌, ◌++◌, length, get_or, take, codes, sym, ap, ◌∙◌, append_assoc, append-nil, flat_map}
use Rattle.std.proofs.lemmas.List.{take_more}
use Rattle.std.proofs.lemmas.List.Concat.{flat_map-append}
use Rattle.mls_translang.specs.Writing.{behind_comma}

module _ {X : Type 0} (f : X → List ℕ) (xs : List X) (i : ℕ) (x : X) (within : i < length xs) (is : x
    ≡ get_or xs i x) where
  taken_more : flat_map (behind_comma f) (take (i + 1) xs) ≡ flat_map (behind_comma f) (take i xs) ++ behind_comma f x
  taken_more =
      ap (flat_map (behind_comma f)) (take_more xs i x within)
      ∙ flat_map-append (behind_comma f) (take i xs) (get_or xs i x ∷ [])
      ∙ ap (λ b. flat_map (behind_comma f) (take i xs) ++ b) (append-nil (behind_comma f (get_or xs i x))
      ∙ ap (behind_comma f) (sym is))

  pub one_more : (front text comma next : List ℕ) → text ≡ front ++ flat_map (behind_comma f) (take i xs)
      → comma ≡ text ++ codes ", " → next ≡ comma ++ f x
      → next ≡ front ++ flat_map (behind_comma f) (take (i + 1) xs)
  one_more front text comma next written first second =
      second ∙ ap (λ b. b ++ f x) first ∙ append_assoc text (codes ", ") (f x) ∙ ap (λ b. b ++ behind_comma f x) written
      ∙ append_assoc front (flat_map (behind_comma f) (take i xs)) (behind_comma f x) ∙ ap (λ b. front ++ b)
      (sym taken_more)
