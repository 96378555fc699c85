-- What holds of each element of a list.
use Rattle.std.proofs.Common.{ℕ, zero, suc, ◌+◌, ◌<◌, List, [], ◌∷◌, ◌++◌, length, take, map, get_or, arith, flat_map}
use Rattle.std.specs.List.{AllByRecursion}

module _ {A : Type 0} where
  pub all : (P : A → Type 0) → ((x : A) → P x) → (xs : List A) → AllByRecursion P xs
  all P h [] = tt
  all P h (x ∷ xs) = (h x, all P h xs)

  pub all_if : (P Q : A → Type 0) → ((x : A) → P x → Q x) → (xs : List A) → AllByRecursion P xs → AllByRecursion Q xs
  all_if P Q f [] h = tt
  all_if P Q f (x ∷ xs) h = (f x h.0, all_if P Q f xs h.1)

  pub all_zip : (P Q R : A → Type 0) → ((x : A) → P x → Q x → R x) → (xs : List A) → AllByRecursion P xs
      → AllByRecursion Q xs → AllByRecursion R xs
  all_zip P Q R f [] h k = tt
  all_zip P Q R f (x ∷ xs) h k = (f x h.0 k.0, all_zip P Q R f xs h.1 k.1)

  pub all_append : (P : A → Type 0) (xs ys : List A) → AllByRecursion P xs → AllByRecursion P ys
      → AllByRecursion P (xs ++ ys)
  all_append P [] ys h k = k
  all_append P (x ∷ xs) ys h k = (h.0, all_append P xs ys h.1 k)

  pub all_front : (P : A → Type 0) (xs ys : List A) → AllByRecursion P (xs ++ ys) → AllByRecursion P xs
  all_front P [] ys h = tt
  all_front P (x ∷ xs) ys h = (h.0, all_front P xs ys h.1)

  pub all_back : (P : A → Type 0) (xs ys : List A) → AllByRecursion P (xs ++ ys) → AllByRecursion P ys
  all_back P [] ys h = h
  all_back P (x ∷ xs) ys h = all_back P xs ys h.1

  pub all_at : (P : A → Type 0) (xs : List A) (i : ℕ) (d : A) → i < length xs → AllByRecursion P xs → P (get_or xs i d)
  all_at P [] i d lt h = absurd (omega arith)
  all_at P (x ∷ xs) zero d lt h = h.0
  all_at P (x ∷ xs) (suc i) d lt h = all_at P xs i d (omega (arith, lt)) h.1

  pub all_take : (P : A → Type 0) (xs : List A) (i : ℕ) → AllByRecursion P xs → AllByRecursion P (take i xs)
  all_take P xs zero h = tt
  all_take P [] (suc i) h = tt
  all_take P (x ∷ xs) (suc i) h = (h.0, all_take P xs i h.1)

-- of what is made of each element, and of each element of each piece
module _ {A B : Type 0} (P : B → Type 0) where
  pub all_map : (f : A → B) (xs : List A) → AllByRecursion (λ x. P (f x)) xs → AllByRecursion P (map f xs)
  all_map f [] h = tt
  all_map f (x ∷ xs) h = (h.0, all_map f xs h.1)

  pub flat_each : (f : A → List B) (xs : List A) → AllByRecursion P (flat_map f xs)
      → AllByRecursion (λ x. AllByRecursion P (f x)) xs
  flat_each f [] h = tt
  flat_each f (x ∷ xs) h = (all_front P (f x) (flat_map f xs) h, flat_each f xs (all_back P (f x) (flat_map f xs) h))

  pub each_flat : (f : A → List B) (xs : List A) → AllByRecursion (λ x. AllByRecursion P (f x)) xs
      → AllByRecursion P (flat_map f xs)
  each_flat f [] h = tt
  each_flat f (x ∷ xs) h = all_append P (f x) (flat_map f xs) h.0 (each_flat f xs h.1)
