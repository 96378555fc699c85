-- A list has one order in which it is sorted, where only equal elements tie.
use Rattle.std.proofs.Common.{◌≡◌, ℕ, suc, ◌+◌, ◌<◌, Bool, true, false, cond, List, [], ◌∷◌, filter, length, get_or, Less, Equal, Greater, Ordering, refl, sym, ap, subst, ◌∙◌, arith, true≢false, IsPermutation, nat_eq, Decides, is_eq, is_lt, IsSorted, eq-eqb}
use Rattle.std.specs.Ordering.{ordering_reverse}
use Rattle.std.specs.Cmp.{IsTotalOrder}
use Rattle.std.specs.FinMap.{IsAntisymmetric}
use Rattle.std.proofs.lemmas.Cmp.{tied_itself}
use Rattle.std.proofs.lemmas.List.Sorted.{length_permutation, ranks_by, sorted_far, IsPermutation-trans, IsPermutation-sym}
use Rattle.sqlite_trees.proofs.ListLemmas.{filter-filter, IsPermutation-filter}
use Rattle.mls_scheme.proofs.OrderLemmas.{is_eq-true}
use Rattle.mls_rows.specs.Finding.{AreAlike}

module _ {X : Type 0} (cmp : X → X → Ordering) (total : IsTotalOrder cmp) (exact : IsAntisymmetric cmp) where
  abbrev ties : X → X → Bool
  ties k x = is_eq (cmp k x)

  -- how often an element stands in a list
  abbrev count : X → List X → ℕ
  count k xs = length (filter (ties k) xs)

  one_more : (b : Bool) (x : X) (xs : List X) → b ≡ true → length (cond b (x ∷ xs) xs) ≡ suc (length xs)
  one_more b x xs e = ap (λ c. length (cond c (x ∷ xs) xs)) e

  count_head : (x : X) (xs : List X) → count x (x ∷ xs) ≡ suc (count x xs)
  count_head x xs = one_more (ties x x) x (filter (ties x) xs) (ap is_eq (tied_itself total x))

  -- no element after the first is less than it
  abbrev Rises : List X → Type 0
  Rises xs = (i : ℕ) (d : X) → i < length xs → is_lt (cmp (get_or xs i d) (get_or xs 0 d)) ≡ false

  rises : (xs : List X) → IsSorted cmp xs → Rises xs
  rises xs s i d l = sorted_far (λ x y. is_lt (cmp x y)) (ranks_by total (λ x. x)) xs s 0 i d (omega arith) l

  later : (x : X) (xs : List X) → IsSorted cmp (x ∷ xs) → IsSorted cmp xs
  later x xs s k d a b = subst (λ n. is_lt (cmp (get_or (x ∷ xs) n d) (get_or (x ∷ xs) (suc k) d)) ≡ false) {x =
      suc k + 1} {y = suc (k + 1)} (omega arith) (s (suc k) d (omega arith) (omega (arith, b)))

  not_less : (x y : X) (xs : List X) → IsSorted cmp (y ∷ xs) → cmp x y ≡ Less → (i : ℕ) (d : X) → i < length (y ∷ xs)
      → ties x (get_or (y ∷ xs) i d) ≡ false
  not_less x y xs s e i d l = go (cmp x z) refl
    where
      z : X
      z = get_or (y ∷ xs) i d

      low : is_lt (cmp z y) ≡ false
      low = rises (y ∷ xs) s i d l

      go : (o : Ordering) → cmp x z ≡ o → is_eq (cmp x z) ≡ false
      go Less q = ap is_eq q
      go Equal q = absurd (true≢false (sym (ap is_lt (sym (ap (λ w. cmp w y) (exact x z q)) ∙ e)) ∙ low))
      go Greater q = ap is_eq q

  none_tie : (x : X) (xs : List X) → ((i : ℕ) (d : X) → i < length xs → ties x (get_or xs i d) ≡ false) → count x xs ≡ 0
  none_tie x [] h = refl
  none_tie x (y ∷ xs) h = ap (λ b. length (cond b (y ∷ filter (ties x) xs) (filter (ties x) xs))) (h 0 y (omega arith))
      ∙ none_tie x xs (λ i d l. h (suc i) d (omega (arith, l)))

  same_sorted : (xs ys : List X) → IsSorted cmp xs → IsSorted cmp ys → ((k : X) → count k xs ≡ count k ys) → xs ≡ ys
  same_sorted [] [] s t alike = refl
  same_sorted [] (y ∷ ys) s t alike = absurd (let a = alike y in omega (arith, a, count_head y ys))
  same_sorted (x ∷ xs) [] s t alike = absurd (let a = alike x in omega (arith, a, count_head x xs))
  same_sorted (x ∷ xs) (y ∷ ys) s t alike = go (same_sorted xs ys (later x xs s) (later y ys t)) (cmp x y) refl
    where
      without : (k : X) (b : Bool) → length (cond b (x ∷ filter (ties k) xs) (filter (ties k) xs))
          ≡ length (cond b (x ∷ filter (ties k) ys) (filter (ties k) ys)) → count k xs ≡ count k ys
      without k true h = omega (arith, h)
      without k false h = h

      go : (((k : X) → count k xs ≡ count k ys) → xs ≡ ys) → (o : Ordering) → cmp x y ≡ o → x ∷ xs ≡ y ∷ ys
      go same Less e = absurd (let a = alike x in omega (
        arith,
        a,
        count_head x xs,
        none_tie x (y ∷ ys) (not_less x y ys t e),
      ))
      go same Greater e = absurd (let a = alike y in let less : cmp y x ≡ Less = total.antisymm y x
          ∙ ap ordering_reverse e in omega (arith, a, count_head y ys, none_tie y (x ∷ xs) (not_less y x xs s less)))
      go same Equal e =
          let head : x ≡ y = exact x y e in
          let rest : xs ≡ ys = same (λ k. without k (ties k x) (subst (λ z. count k (x ∷ xs) ≡ count k (z ∷ ys))
          (sym head) (alike k))) in
          λ i. head i ∷ rest i

  same_count : (k : X) (xs ys : List X) → IsPermutation xs ys → count k xs ≡ count k ys
  same_count k xs ys same = sym (length_permutation (filter (ties k) xs) (filter (ties k) ys)
      (IsPermutation-filter (ties k) xs ys same))

  -- sorted lists with the same elements are one list
  pub one_sorted : (xs ys : List X) → IsSorted cmp xs → IsSorted cmp ys → IsPermutation xs ys → xs ≡ ys
  one_sorted xs ys s t same = same_sorted xs ys s t (λ k. same_count k xs ys same)

  module _ (rel_of : X → ℕ) where
    -- those that tie with an element are of its relation
    of_one : (k : X) (xs : List X) → count k xs ≡ count k (filter (λ r. nat_eq (rel_of r) (rel_of k)) xs)
    of_one k xs = ap length (sym (filter-filter (ties k) (λ r. nat_eq (rel_of r) (rel_of k)) (λ r h. eq-eqb (rel_of r)
        (rel_of k) (ap rel_of (sym (exact k r (is_eq-true (cmp k r) h))))) xs))

    -- sorted lists with the same elements of each relation are one list
    alike_sorted : (xs ys us vs : List X) → IsPermutation xs us → IsPermutation ys vs → IsSorted cmp us
        → IsSorted cmp vs → AreAlike rel_of xs ys → us ≡ vs
    alike_sorted xs ys us vs left right s t alike = same_sorted us vs s t (λ k.
        sym (same_count k xs us left) ∙ of_one k xs ∙ same_count k _ _ (alike (rel_of k)) ∙ sym (of_one k ys)
        ∙ same_count k ys vs right)

-- two lists are sorted and compared
module _ {X : Type 0} (xs ys us vs left right : List X) (r : Bool) (sorted_left : IsPermutation xs us)
    (sorted_right : IsPermutation ys vs) (as_left : left ≡ us) (as_right : right ≡ vs)
    (decides : Decides r (left ≡ right)) where
  pub same_sorted_rows : r ≡ true → IsPermutation xs ys
  same_sorted_rows t = IsPermutation-trans xs us ys sorted_left (subst (λ l. IsPermutation l ys)
      (sym (sym as_left ∙ decides.0 t ∙ as_right)) (IsPermutation-sym ys vs sorted_right))

  pub alike_sorted_rows : (cmp : X → X → Ordering) → IsTotalOrder cmp → IsAntisymmetric cmp → IsSorted cmp us
      → IsSorted cmp vs → (rel_of : X → ℕ) → AreAlike rel_of xs ys → r ≡ true
  alike_sorted_rows cmp total exact s t rel_of alike =
      decides.1 (as_left ∙ alike_sorted cmp total exact rel_of xs ys us vs sorted_left sorted_right s t alike
      ∙ sym as_right)
