-- The declared labels, those that dominate the fewest first: each once, and each behind those that it dominates.
use Rattle.std.proofs.Common.{◌≡◌, ℕ, zero, suc, ◌<◌, ◌≤◌, Bool, true, false, cond, List, [], ◌∷◌, ◌++◌, length, refl, sym, ap, ◌∙◌, subst, inl, inr, ◌⊎◌, arith, nat_eq, nat_lt, ltb-true, ltb-false, eqb-true, eq-eqb, filter, flat_map, true≢false}
use Rattle.std.proofs.lemmas.Bool.{cases_Bool}
use Rattle.std.proofs.lemmas.Grind.{flat_map-append}
use Rattle.mls_lattice.specs.Labels.{Labels, below, AreDistinct}
use Rattle.mls_lattice.proofs.LatticeLemmas.{below-refl, below-trans, below-antisym}
use Rattle.mls_filterview.specs.View.{IsAmong}
use Rattle.mls_filterview.specs.Reach.{numbers, reach, of_reach, upward}
use Rattle.mls_filterview.proofs.AmongLemmas.{among_filter, filter_among, among_append, among_left, among_right, among_flat_map, flat_map_among}

-- ---- lists that rise

module _ {A : Type 0} (R : A → A → Type 0) where
  -- each element stands before each later one
  abbrev pub Rises : List A → Type 0
  Rises [] = Unit {0}
  Rises (x ∷ xs) = ((y : A) → IsAmong y xs → R x y) × Rises xs

  pub rises_append : (xs ys : List A) → Rises xs → Rises ys → ((x y : A) → IsAmong x xs → IsAmong y ys → R x y)
      → Rises (xs ++ ys)
  rises_append [] ys h k across = k
  rises_append (x ∷ xs) ys h k across = (
    (λ y i. elim (among_append xs ys y i) [ inl l ↦ h.0 y l | inr r ↦ across x y (inl refl) r ]),
    rises_append xs ys h.1 k (λ z y i j. across z y (inr i) j),
  )

  pub rises_filter : (p : A → Bool) (xs : List A) → Rises xs → Rises (filter p xs)
  rises_filter p [] h = tt
  rises_filter p (x ∷ xs) h =
      elim (p x) as (λ b. Rises (cond b (x ∷ filter p xs) (filter p xs))) [
        | true ↦ ((λ y i. h.0 y (among_filter p xs y i).0), rises_filter p xs h.1)
        | false ↦ rises_filter p xs h.1
      ]

  -- what stands before an element of a list that rises, and behind it
  pub before_all : (xs ys : List A) (x : A) → Rises (xs ++ x ∷ ys) → (y : A) → IsAmong y xs → R y x
  before_all [] ys x h y i = absurd i
  before_all (z ∷ xs) ys x h y (inl e) = subst (λ w. R w x) (sym e) (h.0 x (among_right xs (x ∷ ys) x (inl refl)))
  before_all (z ∷ xs) ys x h y (inr i) = before_all xs ys x h.1 y i

  pub behind_all : (xs ys : List A) (x : A) → Rises (xs ++ x ∷ ys) → (y : A) → IsAmong y ys → R x y
  behind_all [] ys x h y i = h.0 y i
  behind_all (z ∷ xs) ys x h y i = behind_all xs ys x h.1 y i

pub rises_weaker : {A : Type 0} (R S : A → A → Type 0) → (xs : List A) → ((x y : A) → IsAmong x xs → IsAmong y xs
    → R x y → S x y) → Rises R xs → Rises S xs
rises_weaker R S [] k h = tt
rises_weaker R S (x ∷ xs) k h = (
  (λ y i. k x y (inl refl) (inr i) (h.0 y i)),
  rises_weaker R S xs (λ a b i j r. k a b (inr i) (inr j) r) h.1,
)

-- ---- numbers

abbrev Less : ℕ → ℕ → Type 0
Less a b = a < b

number_among : (n k : ℕ) → IsAmong k (numbers n) → k < n
number_among zero k h = absurd h
number_among (suc n) k h =
    elim (among_append (numbers n) (n ∷ []) k h) [
      | inl l ↦ (let less = number_among n k l in omega (arith, less))
      | inr (inl e) ↦ omega (arith, e)
      | inr (inr none) ↦ absurd none
    ]

among_numbers : (n k : ℕ) → k < n → IsAmong k (numbers n)
among_numbers zero k h = absurd (omega (arith, h))
among_numbers (suc n) k h =
    elim (cases_Bool (nat_eq k n)) [
      | inl e ↦ among_right (numbers n) (n ∷ []) k (inl (eqb-true k n e))
      | inr ne ↦ among_left (numbers n) (n ∷ []) k (among_numbers n k (less_or (cases_Bool (nat_lt k n))
          (λ e. true≢false (sym (eq-eqb k n e) ∙ ne))))
    ]
  where
    less_or : (nat_lt k n ≡ true) ⊎ (nat_lt k n ≡ false) → (k ≡ n → ⊥) → k < n
    less_or (inl b) ne = ltb-true k n b
    less_or (inr b) ne = let more = ltb-false k n b in absurd (ne (omega (arith, h, more)))

numbers_rise : (n : ℕ) → Rises Less (numbers n)
numbers_rise zero = tt
numbers_rise (suc n) =
    rises_append Less (numbers n) (n ∷ []) (numbers_rise n) ((λ y none. absurd none), tt)
    (λ x y i j. elim j [ inl e ↦ (let less = number_among n x i in omega (arith, less, e)) | inr none ↦ absurd none ])

-- ---- how many labels a label dominates

filter_few : (p : ℕ → Bool) (xs : List ℕ) → length (filter p xs) ≤ length xs
filter_few p [] = omega arith
filter_few p (x ∷ xs) =
    let more = filter_few p xs in
    elim (p x) as (λ b. length (cond b (x ∷ filter p xs) (filter p xs)) ≤ suc (length xs)) [
      | true ↦ omega (
        arith,
        more,
      )
      | false ↦ omega (arith, more)
    ]

longer : {A : Type 0} (b : Bool) (ys : List A) (y : A) → length ys ≤ length (cond b (y ∷ ys) ys)
longer true ys y = omega arith
longer false ys y = omega arith

-- what passes the first test passes the second
filter_within : {A : Type 0} (p q : A → Bool) → ((x : A) → p x ≡ true → q x ≡ true) → (xs : List A)
    → length (filter p xs) ≤ length (filter q xs)
filter_within p q h [] = omega arith
filter_within p q h (x ∷ xs) =
    let more = filter_within p q h xs in
    elim (cases_Bool (p x)) [
      | inl e ↦ (let one : length (filter p (x ∷ xs)) ≡ suc (length (filter p xs)) =
          ap (λ b. length (cond b (x ∷ filter p xs) (filter p xs))) e in
          let two : length (filter q (x ∷ xs)) ≡ suc (length (filter q xs)) =
          ap (λ b. length (cond b (x ∷ filter q xs) (filter q xs))) (h x e) in
          omega (arith, more, one, two))
      | inr e ↦ (let one : length (filter p (x ∷ xs)) ≡ length (filter p xs) =
          ap (λ b. length (cond b (x ∷ filter p xs) (filter p xs))) e in
          let two : length (filter q xs) ≤ length (filter q (x ∷ xs)) = longer (q x) (filter q xs) x in
          omega (arith, more, one, two))
    ]

-- and one that stands there passes the second alone
pub filter_less : {A : Type 0} (p q : A → Bool) → ((x : A) → p x ≡ true → q x ≡ true) → (m : A) → p m ≡ false
    → q m ≡ true → (xs : List A) → IsAmong m xs → length (filter p xs) < length (filter q xs)
filter_less p q h m out into [] i = absurd i
filter_less p q h m out into (x ∷ xs) (inl e) =
    let more = filter_within p q h xs in
    let one : length (filter p (x ∷ xs)) ≡ length (filter p xs) =
    ap (λ b. length (cond b (x ∷ filter p xs) (filter p xs))) (ap p (sym e) ∙ out) in
    let two : length (filter q (x ∷ xs)) ≡ suc (length (filter q xs)) =
    ap (λ b. length (cond b (x ∷ filter q xs) (filter q xs))) (ap q (sym e) ∙ into) in
    omega (arith, more, one, two)
filter_less p q h m out into (x ∷ xs) (inr i) =
    let more = filter_less p q h m out into xs i in
    elim (cases_Bool (p x)) [
      | inl e ↦ (let one : length (filter p (x ∷ xs)) ≡ suc (length (filter p xs)) =
          ap (λ b. length (cond b (x ∷ filter p xs) (filter p xs))) e in
          let two : length (filter q (x ∷ xs)) ≡ suc (length (filter q xs)) =
          ap (λ b. length (cond b (x ∷ filter q xs) (filter q xs))) (h x e) in
          omega (arith, more, one, two))
      | inr e ↦ (let one : length (filter p (x ∷ xs)) ≡ length (filter p xs) =
          ap (λ b. length (cond b (x ∷ filter p xs) (filter p xs))) e in
          let two : length (filter q xs) ≤ length (filter q (x ∷ xs)) = longer (q x) (filter q xs) x in
          omega (arith, more, one, two))
    ]

long_numbers : (n : ℕ) → length (numbers n) ≡ n
long_numbers zero = refl
long_numbers (suc n) = long_push (numbers n) n ∙ ap suc (long_numbers n)
  where
    long_push : (xs : List ℕ) (x : ℕ) → length (xs ++ x ∷ []) ≡ suc (length xs)
    long_push [] x = refl
    long_push (y ∷ xs) x = ap suc (long_push xs x)

module _ (ls : Labels) where
  abbrev count : ℕ
  count = length ls

  reach_within : (m : ℕ) → reach ls m < suc count
  reach_within m =
      let few = filter_few (λ k. below ls k m) (numbers count) in
      let long = long_numbers count in
      omega (arith, few, long)

  -- by how many it dominates, and then by number
  abbrev pub Before : ℕ → ℕ → Type 0
  Before a b = (reach ls a < reach ls b) ⊎ ((reach ls a ≡ reach ls b) × (a < b))

  pub before_itself : (a : ℕ) → Before a a → ⊥
  before_itself a (inl l) = omega (arith, l)
  before_itself a (inr e) = let l = e.1 in omega (arith, l)

  of_reach_among : (r m : ℕ) → IsAmong m (of_reach ls r) → (m < count) × (reach ls m ≡ r)
  of_reach_among r m h =
      let k = among_filter (λ m. nat_eq (reach ls m) r) (numbers count) m h in
      (number_among count m k.0, eqb-true (reach ls m) r k.1)

  bucket_rises : (r : ℕ) → Rises Before (of_reach ls r)
  bucket_rises r =
      rises_weaker Less Before (of_reach ls r) (λ x y i j l. inr (
        (of_reach_among r x i).1
            ∙ sym (of_reach_among r y j).1,
        l,
      ))
      (rises_filter Less (λ m. nat_eq (reach ls m) r) (numbers count) (numbers_rise count))

  none_behind : (xs : List ℕ) → xs ++ [] ≡ xs
  none_behind [] = refl
  none_behind (x ∷ xs) = ap (λ l. x ∷ l) (none_behind xs)

  buckets_rise : (n : ℕ) → Rises Before (flat_map (of_reach ls) (numbers n))
  buckets_rise zero = tt
  buckets_rise (suc n) =
      subst (Rises Before) (sym (flat_map-append (of_reach ls) (numbers n) (n ∷ [])
      ∙ ap (λ l. flat_map (of_reach ls) (numbers n) ++ l) (none_behind (of_reach ls n))))
      (rises_append Before (flat_map (of_reach ls) (numbers n)) (of_reach ls n) (buckets_rise n) (bucket_rises n)
      (λ x y i j.
      let r = among_flat_map (of_reach ls) (numbers n) x i in
      let less = number_among n r.0 r.1 in
      let one = (of_reach_among r.0 x r.2).1 in
      let two = (of_reach_among n y j).1 in
      inl (omega (arith, less, one, two))))

  pub upward_rises : Rises Before (upward ls)
  upward_rises = buckets_rise (suc count)

  pub upward_declared : (m : ℕ) → IsAmong m (upward ls) → m < count
  upward_declared m h = let r = among_flat_map (of_reach ls) (numbers (suc count)) m h in (of_reach_among r.0 m r.2).0

  pub upward_all : (m : ℕ) → m < count → IsAmong m (upward ls)
  upward_all m declared =
      flat_map_among (of_reach ls) (numbers (suc count)) (reach ls m) m (among_numbers (suc count) (reach ls m)
      (reach_within m))
      (filter_among (λ k. nat_eq (reach ls k) (reach ls m)) (numbers count) m (among_numbers count m declared)
      (eq-eqb (reach ls m) (reach ls m) refl))

  -- another label below one dominates fewer
  reach_less : AreDistinct ls → (k m : ℕ) → k < count → m < count → below ls k m ≡ true → (k ≡ m → ⊥) → reach ls k
      < reach ls m
  reach_less distinct k m dk dm under ne =
      filter_less (λ j. below ls j k) (λ j. below ls j m) (λ j h. below-trans ls j k m h under) m
      (elim (cases_Bool (below ls m k)) [
        | inl h ↦ absurd
            (ne (below-antisym ls distinct k m dk dm under h))
        | inr h ↦ h
      ]) (below-refl ls m) (numbers count)
      (among_numbers count m dm)

  -- ---- at one label of them

  module _ (xs ys : List ℕ) (m : ℕ) (parts : upward ls ≡ xs ++ m ∷ ys) where
    rising : Rises Before (xs ++ m ∷ ys)
    rising = subst (Rises Before) parts upward_rises

    pub not_before : IsAmong m xs → ⊥
    not_before i = before_itself m (before_all Before xs ys m rising m i)

    pub here_declared : m < count
    here_declared = upward_declared m (subst (IsAmong m) (sym parts) (among_right xs (m ∷ ys) m (inl refl)))

    pub lower_before : AreDistinct ls → (k : ℕ) → k < count → below ls k m ≡ true → (k ≡ m → ⊥) → IsAmong k xs
    lower_before distinct k dk under ne =
        let less = reach_less distinct k m dk here_declared under ne in
        elim (among_append xs (m ∷ ys) k (subst (IsAmong k) parts (upward_all k dk))) [
          | inl i ↦ i
          | inr (inl e) ↦ absurd (ne e)
          | inr (inr i) ↦ absurd (elim (behind_all Before xs ys m rising k i) [
            | inl l ↦ omega (arith, less, l)
            | inr l ↦
                (let same = l.0 in omega (arith, less, same))
          ])
        ]
