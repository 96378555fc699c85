-- Lists of items, joined one behind another, and how many there are.
use Rattle.std.proofs.Common.{◌≡◌, ℕ, zero, suc, ◌+◌, ◌*◌, List, [], ◌∷◌, ◌++◌, length, map, flat_map, get_or, refl, sym, ap, subst, ◌∙◌, arith}
use Rattle.std.specs.Prelude.{Contains}
use Rattle.std.proofs.lemmas.List.{get_or_default}
use Rattle.std.proofs.lemmas.List.Elements.{Contains-append_left, Contains-append_right}

-- ---- what lists contain

here : {X : Type 0} (x : X) (xs : List X) → Contains (x ∷ xs) x
here x xs = (0, omega arith, refl)

there : {X : Type 0} (y x : X) (xs : List X) → Contains xs x → Contains (y ∷ xs) x
there y x xs has = (suc has.0, omega (arith, has.1), has.2)

has_map : {X Y : Type 0} (f : X → Y) (xs : List X) (x : X) → Contains xs x → Contains (map f xs) (f x)
has_map f [] x (k, within, is) = absurd (omega (arith, within))
has_map f (y ∷ xs) x (zero, within, is) = subst (λ z. Contains (map f (y ∷ xs)) (f z)) is (here (f y) (map f xs))
has_map f (y ∷ xs) x (suc k, within, is) = there (f y) (f x) (map f xs) (has_map f xs x (k, omega (arith, within), is))

has_flat : {X Y : Type 0} (f : X → List Y) (xs : List X) (x : X) (y : Y) → Contains xs x → Contains (f x) y
    → Contains (flat_map f xs) y
has_flat f [] x y (k, within, is) has = absurd (omega (arith, within))
has_flat f (z ∷ xs) x y (zero, within, is) has = Contains-append_left (f z) (flat_map f xs) y
    (subst (λ w. Contains (f w) y) (sym is) has)
has_flat f (z ∷ xs) x y (suc k, within, is) has = Contains-append_right (f z) (flat_map f xs) y
    (has_flat f xs x y (k, omega (arith, within), is) has)

long_map : {X Y : Type 0} (f : X → Y) (xs : List X) → length (map f xs) ≡ length xs
long_map f [] = refl
long_map f (x ∷ xs) = ap suc (long_map f xs)

long_append : {X : Type 0} (xs ys : List X) → length (xs ++ ys) ≡ length xs + length ys
long_append [] ys = omega arith
long_append (x ∷ xs) ys = let more = long_append xs ys in omega (arith, more)

-- each of these, and each of those behind it
pub joined : {X Y Z : Type 0} → (X → Y → Z) → List X → List Y → List Z
joined f heads tails = flat_map (λ h. map (f h) tails) heads

pub long_joined : {X Y Z : Type 0} (f : X → Y → Z) (heads : List X) (tails : List Y) → length (joined f heads tails)
    ≡ length heads * length tails
unfolding joined
long_joined f [] tails = omega arith
long_joined f (h ∷ heads) tails =
    let whole = long_append (map (f h) tails) (joined f heads tails) in
    let first = long_map (f h) tails in
    let more = long_joined f heads tails in
    omega (arith, whole, first, more)

pub has_joined : {X Y Z : Type 0} (f : X → Y → Z) (heads : List X) (tails : List Y) (h : X) (t : Y) → Contains heads h
    → Contains tails t → Contains (joined f heads tails) (f h t)
unfolding joined
has_joined f heads tails h t one two = has_flat (λ h. map (f h) tails) heads h (f h t) one (has_map (f h) tails t two)

-- ---- places

-- what stands at one place is one
pub same_place : {X : Type 0} (xs : List X) (x y : X) (a : Contains xs x) (b : Contains xs y) → a.0 ≡ b.0 → x ≡ y
same_place xs x y a b one =
    let at_y : get_or xs a.0 y ≡ y = ap (λ (k : ℕ). get_or xs k y) one ∙ b.2 in
    sym a.2 ∙ get_or_default xs a.0 x y a.1 ∙ at_y
