-- Filters of lists.
use Rattle.std.proofs.Common.{◌≡◌, Bool, true, false, cond, ◌||◌, List, [], ◌∷◌, ◌++◌, map, refl, sym, ap, ◌∙◌, append_assoc, filter, true≢false}
use Rattle.std.specs.List.{list_any, AllByRecursion}
use Rattle.std.proofs.lemmas.Bool.{false_from_ne_true}

-- a filter in a filter, by a test that says the same of what passes the other
pub within_filter : {A : Type 0} (h p q : A → Bool) → ((x : A) → h x ≡ true → p x ≡ q x) → (xs : List A)
    → filter p (filter h xs) ≡ filter h (filter q xs)
within_filter h p q same [] = refl
within_filter h p q same (x ∷ xs) =
    elim (h x) as (λ b. h x ≡ b → filter p (cond b (x ∷ filter h xs) (filter h xs))
    ≡ filter h (cond (q x) (x ∷ filter q xs) (filter q xs))) [
      | true ↦ λ e.
          ap (λ b. cond b (x ∷ filter p (filter h xs)) (filter p (filter h xs))) (same x e)
          ∙ ap (λ ys. cond (q x) (x ∷ ys) ys) (within_filter h p q same xs)
          ∙ (elim (q x) as (λ b. cond b (x ∷ filter h (filter q xs)) (filter h (filter q xs))
          ≡ filter h (cond b (x ∷ filter q xs) (filter q xs))) [
            | true ↦ ap (λ b. cond b (x ∷ filter h (filter q xs)) (filter h (filter q xs))) (sym e)
            | false ↦ refl
          ])
      | false ↦ λ e.
          within_filter h p q same xs
          ∙ (elim (q x) as (λ b. filter h (filter q xs) ≡ filter h (cond b (x ∷ filter q xs) (filter q xs))) [
            | true ↦ ap (λ b. cond b (x ∷ filter h (filter q xs)) (filter h (filter q xs))) (sym e)
            | false ↦ refl
          ])
    ] refl

-- whether one of them passes a test that the filter lets through
pub any_filter : {A : Type 0} (h r : A → Bool) → ((x : A) → r x ≡ true → h x ≡ true) → (xs : List A)
    → list_any r (filter h xs) ≡ list_any r xs
any_filter h r through [] = refl
any_filter h r through (x ∷ xs) =
    elim (h x) as (λ b. h x ≡ b → list_any r (cond b (x ∷ filter h xs) (filter h xs)) ≡ (r x || list_any r xs)) [
      | true ↦ λ e. ap (λ b. r x || b) (any_filter h r through xs)
      | false ↦ λ e.
          any_filter h r through xs ∙ ap (λ b. b || list_any r xs)
          (sym (false_from_ne_true (r x) (λ t. true≢false (sym (through x t) ∙ e))))
    ] refl

-- a filter in a filter that lets through what passes of the list
pub filter_where : {A : Type 0} (p q : A → Bool) (xs : List A) → AllByRecursion (λ x. p x ≡ true → q x ≡ true) xs
    → filter p (filter q xs) ≡ filter p xs
filter_where p q [] h = refl
filter_where p q (x ∷ xs) h =
    elim (q x) as (λ b. q x ≡ b → filter p (cond b (x ∷ filter q xs) (filter q xs)) ≡ filter p (x ∷ xs)) [
      | true ↦ λ e. ap (λ ys. cond (p x) (x ∷ ys) ys) (filter_where p q xs h.1)
      | false ↦ λ e. filter_where p q xs h.1 ∙ ap (λ b. cond b (x ∷ filter p xs) (filter p xs))
          (sym (false_from_ne_true (p x) (λ t. true≢false (sym (h.0 t) ∙ e))))
    ] refl

pub map_filter : {A B : Type 0} (f : A → B) (g : B → Bool) (xs : List A) → map f (filter (λ x. g (f x)) xs)
    ≡ filter g (map f xs)
map_filter f g [] = refl
map_filter f g (x ∷ xs) =
    elim (g (f x)) as (λ b. map f (cond b (x ∷ filter (λ x. g (f x)) xs) (filter (λ x. g (f x)) xs))
    ≡ cond b (f x ∷ filter g (map f xs)) (filter g (map f xs))) [
      | true ↦ ap (λ ys. f x ∷ ys) (map_filter f g xs)
      | false ↦ map_filter f g xs
    ]

-- tests that say the same
pub filter_same : {A : Type 0} (p q : A → Bool) → ((x : A) → p x ≡ q x) → (xs : List A) → filter p xs ≡ filter q xs
filter_same p q same [] = refl
filter_same p q same (x ∷ xs) = λ i. cond (same x i) (x ∷ filter_same p q same xs i) (filter_same p q same xs i)

pub filter_append : {A : Type 0} (p : A → Bool) (xs ys : List A) → filter p (xs ++ ys) ≡ filter p xs ++ filter p ys
filter_append p [] ys = refl
filter_append p (x ∷ xs) ys =
    elim (p x) as (λ b. cond b (x ∷ filter p (xs ++ ys)) (filter p (xs ++ ys)) ≡ cond b (x ∷ filter p xs) (filter p xs)
    ++ filter p ys) [
      | true ↦ ap (λ zs. x ∷ zs) (filter_append p xs ys)
      | false ↦ filter_append p xs ys
    ]

-- none of them passes
pub filter_none : {A : Type 0} (p : A → Bool) (xs : List A) → AllByRecursion (λ x. p x ≡ false) xs → filter p xs ≡ []
filter_none p [] h = refl
filter_none p (x ∷ xs) h = ap (λ b. cond b (x ∷ filter p xs) (filter p xs)) h.0 ∙ filter_none p xs h.1

pub filter_turned : {A : Type 0} (p q : A → Bool) (xs : List A) → filter p (filter q xs) ≡ filter q (filter p xs)
filter_turned p q xs = within_filter q p p (λ x h. refl) xs

-- one item more is done
pub filter_step : {A : Type 0} (p : A → Bool) (done new xs rest all : List A) (x : A) → xs ≡ x ∷ rest
    → done ++ filter p xs ≡ all → new ≡ done ++ filter p (x ∷ []) → new ++ filter p rest ≡ all
filter_step p done new xs rest all x here way is =
    ap (λ ys. ys ++ filter p rest) is ∙ append_assoc done (filter p (x ∷ [])) (filter p rest)
    ∙ ap (λ ys. done ++ ys) (sym (filter_append p (x ∷ []) rest) ∙ ap (filter p) (sym here)) ∙ way
