-- Membership in lists.
use Rattle.std.proofs.Common.{◌≡◌, ℕ, zero, suc, ◌<◌, length, get_or, Bool, true, false, cond, ◌||◌, List, [], ◌∷◌, ◌++◌, map, refl, sym, ap, subst, ◌∙◌, inl, inr, arith, ◌⊎◌, ◌↔◌, IsPermutation, Contains, filter, flat_map, true≢false}
use Rattle.std.specs.List.{list_any, AllByRecursion}
use Rattle.std.proofs.lemmas.List.Sorted.{Contains-permutation, IsPermutation-sym}
use Rattle.std.proofs.lemmas.Bool.{or_parts, or_from}
use Rattle.mls_filterview.specs.View.{IsAmong}

pub among_map : {A B : Type 0} (f : A → B) (xs : List A) (y : B) → IsAmong y (map f xs) → (x : A) × IsAmong x xs
    × (y ≡ f x)
among_map f [] y h = absurd h
among_map f (x ∷ xs) y (inl e) = (x, inl refl, e)
among_map f (x ∷ xs) y (inr h) = let r = among_map f xs y h in (r.0, inr r.1, r.2)

pub map_among : {A B : Type 0} (f : A → B) (xs : List A) (x : A) → IsAmong x xs → IsAmong (f x) (map f xs)
map_among f [] x h = h
map_among f (y ∷ xs) x (inl e) = inl (ap f e)
map_among f (y ∷ xs) x (inr h) = inr (map_among f xs x h)

pub among_filter : {A : Type 0} (p : A → Bool) (xs : List A) (x : A) → IsAmong x (filter p xs) → IsAmong x xs
    × (p x ≡ true)
among_filter p [] x h = absurd h
among_filter p (y ∷ xs) x h =
    elim (p y) as (λ b. p y ≡ b → IsAmong x (cond b (y ∷ filter p xs) (filter p xs)) → IsAmong x (y ∷ xs)
    × (p x ≡ true)) [
      | true ↦ λ e k. elim k [ inl q ↦ (inl q, ap p q ∙ e) | inr q ↦ (let r = among_filter p xs x q in (inr r.0, r.1)) ]
      | false ↦ λ e k. (let r = among_filter p xs x k in (inr r.0, r.1))
    ] refl h

pub filter_among : {A : Type 0} (p : A → Bool) (xs : List A) (x : A) → IsAmong x xs → p x ≡ true
    → IsAmong x (filter p xs)
filter_among p [] x h e = h
filter_among p (y ∷ xs) x h e =
    elim (p y) as (λ b. p y ≡ b → IsAmong x (cond b (y ∷ filter p xs) (filter p xs))) [
      | true ↦ λ q. elim h [ inl k ↦ inl k | inr k ↦ inr (filter_among p xs x k e) ]
      | false ↦ λ q. elim h [ inl k ↦ absurd (true≢false (sym e ∙ ap p k ∙ q)) | inr k ↦ filter_among p xs x k e ]
    ] refl

pub none_of : {A : Type 0} (p : A → Bool) (xs : List A) → list_any p xs ≡ false → (x : A) → IsAmong x xs → p x ≡ false
none_of p [] h x i = absurd i
none_of p (y ∷ xs) h x (inl e) = ap p e ∙ (or_parts _ _ h).0
none_of p (y ∷ xs) h x (inr i) = none_of p xs (or_parts _ _ h).1 x i

pub all_none : {A : Type 0} (p : A → Bool) (xs : List A) → ((x : A) → IsAmong x xs → p x ≡ false) → list_any p xs
    ≡ false
all_none p [] h = refl
all_none p (y ∷ xs) h = or_from _ _ (h y (inl refl)) (all_none p xs (λ x i. h x (inr i)))

pub each_among : {A : Type 0} (P : A → Type 0) (xs : List A) → ((x : A) → IsAmong x xs → P x) → AllByRecursion P xs
each_among P [] h = tt
each_among P (x ∷ xs) h = (h x (inl refl), each_among P xs (λ y i. h y (inr i)))

pub all_at : {A : Type 0} (P : A → Type 0) (xs : List A) → AllByRecursion P xs → (x : A) → IsAmong x xs → P x
all_at P [] h x i = absurd i
all_at P (y ∷ ys) h x (inl e) = subst P (sym e) h.0
all_at P (y ∷ ys) h x (inr i) = all_at P ys h.1 x i

pub among_here : {A : Type 0} (xs : List A) (i : ℕ) (d : A) → i < length xs → IsAmong (get_or xs i d) xs
among_here [] i d l = absurd (omega arith)
among_here (x ∷ xs) zero d l = inl refl
among_here (x ∷ xs) (suc i) d l = inr (among_here xs i d (omega arith))

-- ---- appending, and the membership of std

pub among_append : {A : Type 0} (xs ys : List A) (x : A) → IsAmong x (xs ++ ys) → IsAmong x xs ⊎ IsAmong x ys
among_append [] ys x h = inr h
among_append (z ∷ xs) ys x (inl e) = inl (inl e)
among_append (z ∷ xs) ys x (inr h) = elim (among_append xs ys x h) [ inl k ↦ inl (inr k) | inr k ↦ inr k ]

pub among_left : {A : Type 0} (xs ys : List A) (x : A) → IsAmong x xs → IsAmong x (xs ++ ys)
among_left [] ys x h = absurd h
among_left (z ∷ xs) ys x (inl e) = inl e
among_left (z ∷ xs) ys x (inr h) = inr (among_left xs ys x h)

pub among_right : {A : Type 0} (xs ys : List A) (x : A) → IsAmong x ys → IsAmong x (xs ++ ys)
among_right [] ys x h = h
among_right (z ∷ xs) ys x h = inr (among_right xs ys x h)

pub among_push : {A : Type 0} (xs : List A) (y x : A) → IsAmong x (xs ++ y ∷ []) → IsAmong x xs ⊎ (x ≡ y)
among_push xs y x h = elim (among_append xs
    (y ∷ []) x h) [ inl k ↦ inl k | inr k ↦ elim k [ inl e ↦ inr e | inr n ↦ absurd n ] ]

pub push_last : {A : Type 0} (xs : List A) (y : A) → IsAmong y (xs ++ y ∷ [])
push_last xs y = among_right xs (y ∷ []) y (inl refl)

to_contains : {A : Type 0} (xs : List A) (x : A) → IsAmong x xs → Contains xs x
to_contains [] x h = absurd h
to_contains (y ∷ xs) x (inl e) = (0, omega arith, sym e)
to_contains (y ∷ xs) x (inr h) = let r = to_contains xs x h in (suc r.0, omega arith, r.2)

from_contains : {A : Type 0} (xs : List A) (x : A) → Contains xs x → IsAmong x xs
from_contains [] x h = absurd (omega arith)
from_contains (y ∷ xs) x (zero, l, e) = inl (sym e)
from_contains (y ∷ xs) x (suc k, l, e) = inr (from_contains xs x (k, omega arith, e))

pub among_permutation : {A : Type 0} (xs ys : List A) → IsPermutation xs ys → (x : A) → IsAmong x xs ↔ IsAmong x ys
among_permutation xs ys p x = (
  (λ h. from_contains ys x (Contains-permutation xs ys x p (to_contains xs x h))),
  (λ h. from_contains xs x (Contains-permutation ys xs x (IsPermutation-sym xs ys p) (to_contains ys x h))),
)

pub among_flat_map : {A B : Type 0} (f : A → List B) (xs : List A) (y : B) → IsAmong y (flat_map f xs) → (x : A)
    × IsAmong x xs × IsAmong y (f x)
among_flat_map f [] y h = absurd h
among_flat_map f (x ∷ xs) y h =
    elim (among_append (f x) (flat_map f xs) y h) [
      | inl k ↦ (x, inl refl, k)
      | inr k ↦ (let r = among_flat_map f xs y k
          in (r.0, inr r.1, r.2))
    ]

pub flat_map_among : {A B : Type 0} (f : A → List B) (xs : List A) (x : A) (y : B) → IsAmong x xs → IsAmong y (f x)
    → IsAmong y (flat_map f xs)
flat_map_among f [] x y h k = absurd h
flat_map_among f (z ∷ xs) x y (inl e) k = among_left (f z) (flat_map f xs) y (subst (λ w. IsAmong y (f w)) e k)
flat_map_among f (z ∷ xs) x y (inr h) k = among_right (f z) (flat_map f xs) y (flat_map_among f xs x y h k)

-- one of two lists has none that passes a test
pub any_left : {A : Type 0} (p : A → Bool) (xs ys : List A) → ((d : A) → IsAmong d ys → p d ≡ false)
    → list_any p (xs ++ ys) ≡ list_any p xs
any_left p [] [] h = refl
any_left p [] (y ∷ ys) h = (λ i. h y (inl refl) i || list_any p ys) ∙ any_left p [] ys (λ d j. h d (inr j))
any_left p (x ∷ xs) ys h = ap (λ b. p x || b) (any_left p xs ys h)

pub any_right : {A : Type 0} (p : A → Bool) (xs ys : List A) → ((d : A) → IsAmong d xs → p d ≡ false)
    → list_any p (xs ++ ys) ≡ list_any p ys
any_right p [] ys h = refl
any_right p (x ∷ xs) ys h = (λ i. h x (inl refl) i || list_any p (xs ++ ys)) ∙ any_right p xs ys (λ d j. h d (inr j))
