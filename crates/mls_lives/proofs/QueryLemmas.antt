-- What queries find of the rows of a view.
use Rattle.std.proofs.Common.{◌≡◌, ℕ, zero, suc, ◌<◌, Bool, true, false, cond, not, ◌||◌, List, [], ◌∷◌, length, take, Option, Some, None, refl, sym, ap, ◌∙◌, inl, inr, arith, filter, true≢false}
use Rattle.std.specs.List.{list_any}
use Rattle.std.proofs.lemmas.Bool.{cases_Bool, and_parts, and_from, false_from_ne_true}
use Rattle.mls_lattice.specs.Labels.{Labels}
use Rattle.mls_lattice.specs.Lattice.{◌⊑◌, Dominates}
use Rattle.mls_lattice.proofs.LatticeLemmas.{⊑-Dominates, Dominates-⊑, Dominates-refl, Dominates-trans}
use Rattle.mls_scheme.specs.declared.tuple.Tuple.{Tuple}
use Rattle.mls_scheme.specs.Tuple.{tuple_class}
use Rattle.mls_filterview.specs.View.{rows, IsAmong}
use Rattle.mls_filterview.proofs.AmongLemmas.{filter_among}
use Rattle.mls_queries.specs.Query.{is_key, is_above, tops, highest_of, has_class, meets, first_of}
use Rattle.mls_queries.proofs.TopLemmas.{same_key, key_same}
use Rattle.mls_lives.specs.Queries.{IsSublist, FoundAreRowsInOrder, CountsAreLengths, HighestKeepEachKey}
use Rattle.mls_lives.proofs.UpwardLemmas.{filter_less}

-- ---- order

module _ {A : Type 0} where
  sub_itself : (xs : List A) → IsSublist xs xs
  sub_itself [] = tt
  sub_itself (x ∷ xs) = inl (refl, sub_itself xs)

  -- with one more in front
  sub_more : (xs ys : List A) (y : A) → IsSublist xs ys → IsSublist xs (y ∷ ys)
  sub_more [] ys y h = tt
  sub_more (x ∷ xs) ys y h = inr h

  sub_cut : (x : A) (xs ys : List A) → IsSublist (x ∷ xs) ys → IsSublist xs ys
  sub_cut x xs [] h = absurd h
  sub_cut x xs (y ∷ ys) (inl h) = sub_more xs ys y h.1
  sub_cut x xs (y ∷ ys) (inr h) = sub_more xs ys y (sub_cut x xs ys h)

  sub_trans : (xs ys zs : List A) → IsSublist xs ys → IsSublist ys zs → IsSublist xs zs
  sub_trans [] ys zs h k = tt
  sub_trans (x ∷ xs) [] zs h k = absurd h
  sub_trans (x ∷ xs) (y ∷ ys) [] h k = absurd k
  sub_trans (x ∷ xs) (y ∷ ys) (z ∷ zs) (inl h) (inl k) = inl (h.0 ∙ k.0, sub_trans xs ys zs h.1 k.1)
  sub_trans (x ∷ xs) (y ∷ ys) (z ∷ zs) (inr h) (inl k) = inr (sub_trans (x ∷ xs) ys zs h k.1)
  sub_trans (x ∷ xs) (y ∷ ys) (z ∷ zs) (inl h) (inr k) = inr (sub_trans (x ∷ xs) (y ∷ ys) zs (inl h) k)
  sub_trans (x ∷ xs) (y ∷ ys) (z ∷ zs) (inr h) (inr k) = inr (sub_trans (x ∷ xs) (y ∷ ys) zs (inr h) k)

  sub_filter : (p : A → Bool) (xs : List A) → IsSublist (filter p xs) xs
  sub_filter p [] = tt
  sub_filter p (x ∷ xs) = elim (p x) as (λ b. IsSublist (cond b (x ∷ filter p xs) (filter p xs)) (x ∷ xs)) [
    | true ↦ inl
        (refl, sub_filter p xs)
    | false ↦ sub_more (filter p xs) xs x (sub_filter p xs)
  ]

  sub_take : (n : ℕ) (xs : List A) → IsSublist (take n xs) xs
  sub_take zero xs = tt
  sub_take (suc n) [] = tt
  sub_take (suc n) (x ∷ xs) = inl (refl, sub_take n xs)

  sub_first : (n : Option ℕ) (xs : List A) → IsSublist (first_of n xs) xs
  sub_first None xs = sub_itself xs
  sub_first (Some n) xs = sub_take n xs

sub_highest : (ls : Labels) (b : Bool) (ts : List Tuple) → IsSublist (highest_of ls b ts) ts
sub_highest ls true ts = sub_filter (λ t. not (list_any (λ s. is_above ls s t) ts)) ts
sub_highest ls false ts = sub_itself ts

pub found_in_order : FoundAreRowsInOrder
found_in_order ls q ts =
    let high = highest_of ls q.highest ts in
    let of_class = filter (has_class ls q.class) high in
    let all = filter (meets q.test) of_class in
    sub_trans (first_of q.first all) all ts (sub_first q.first all)
    (sub_trans all of_class ts (sub_filter (meets q.test) of_class)
    (sub_trans of_class high ts (sub_filter (has_class ls q.class) high) (sub_highest ls q.highest ts)))

pub counts_are_lengths : CountsAreLengths
counts_are_lengths site session relation label q ts = refl

-- ---- the highest

module _ (ls : Labels) where
  -- what stands above a tuple, and what stands above that
  above_key : (s t : Tuple) → is_above ls s t ≡ true → s.key ≡ t.key
  above_key s t h = same_key s.key t.key (and_parts (is_key s.key t.key) _ h).0

  above_class : (s t : Tuple) → is_above ls s t ≡ true → Dominates (tuple_class ls s) (tuple_class ls t)
  above_class s t h = ⊑-Dominates (tuple_class ls t) (tuple_class ls s)
      (and_parts (tuple_class ls t ⊑ tuple_class ls s) _ (and_parts (is_key s.key t.key) _ h).1).0

  above_not : (s t : Tuple) → is_above ls s t ≡ true → tuple_class ls s ⊑ tuple_class ls t ≡ false
  above_not s t h = not_so _ (and_parts (tuple_class ls t ⊑ tuple_class ls s) _
      (and_parts (is_key s.key t.key) _ h).1).1
    where
      not_so : (b : Bool) → not b ≡ true → b ≡ false
      not_so true e = sym e
      not_so false e = refl

  above_trans : (r s t : Tuple) → is_above ls s t ≡ true → is_above ls r s ≡ true → is_above ls r t ≡ true
  above_trans r s t h k =
      let key : r.key ≡ t.key = above_key r s k ∙ above_key s t h in
      let up : Dominates (tuple_class ls r) (tuple_class ls t) = Dominates-trans (tuple_class ls r) (tuple_class ls s)
      (tuple_class ls t) (above_class r s k) (above_class s t h) in
      let other : tuple_class ls r ⊑ tuple_class ls t ≡ false
      = false_from_ne_true (tuple_class ls r ⊑ tuple_class ls t) (λ e.
      true≢false (sym (Dominates-⊑ (tuple_class ls r) (tuple_class ls s) (Dominates-trans (tuple_class ls s)
      (tuple_class ls t) (tuple_class ls r) (above_class s t h) (⊑-Dominates (tuple_class ls r)
      (tuple_class ls t) e))) ∙ above_not r s k)) in
      and_from (is_key r.key t.key) _ (key_same r.key t.key key)
      (and_from (tuple_class ls t ⊑ tuple_class ls r) _ (Dominates-⊑ (tuple_class ls t) (tuple_class ls r) up)
      (ap not other))

  not_above_itself : (t : Tuple) → is_above ls t t ≡ false
  not_above_itself t = false_from_ne_true (is_above ls t t)
      (λ h. true≢false (sym (Dominates-⊑ (tuple_class ls t) (tuple_class ls t) (Dominates-refl (tuple_class ls t)))
      ∙ above_not t t h))

  abbrev HasTop : List Tuple → Tuple → Type 0
  HasTop ts t = (s : Tuple) × IsAmong s (tops ls ts) × (s.key ≡ t.key) × (tuple_class ls t ⊑ tuple_class ls s ≡ true)

  any_among : (p : Tuple → Bool) (ts : List Tuple) → list_any p ts ≡ true → (t : Tuple) × IsAmong t ts × (p t ≡ true)
  any_among p [] h = absurd (true≢false (sym h))
  any_among p (t ∷ ts) h =
      elim (cases_Bool (p t)) [
        | inl b ↦ (t, inl refl, b)
        | inr b ↦ (let r = any_among p ts (sym (ap (λ x. x || list_any p ts) b) ∙ h) in (r.0, inr r.1, r.2))
      ]

  -- so many stand above a tuple at most
  top_within : (n : ℕ) (ts : List Tuple) (t : Tuple) → IsAmong t ts → length (filter (λ s. is_above ls s t) ts) < n
      → HasTop ts t
  top_within zero ts t i l = absurd (omega (arith, l))
  top_within (suc n) ts t i l =
      elim (cases_Bool (list_any (λ s. is_above ls s t) ts)) [
        | inl b ↦
            let r = any_among (λ s. is_above ls s t) ts b in
            let s = r.0 in
            let fewer = filter_less (λ x. is_above ls x s) (λ x. is_above ls x t) (λ x h. above_trans x s t r.2 h) s
            (not_above_itself s) r.2 ts r.1 in
            let up = top_within n ts s r.1 (omega (arith, l, fewer)) in (
              up.0,
              up.1,
              up.2 ∙ above_key s t r.2,
              Dominates-⊑ (tuple_class ls t) (tuple_class ls up.0)
                  (Dominates-trans (tuple_class ls up.0) (tuple_class ls s) (tuple_class ls t)
                  (⊑-Dominates (tuple_class ls s) (tuple_class ls up.0) up.3) (above_class s t r.2)),
            )
        | inr b ↦ (
          t,
          filter_among (λ x. not (list_any (λ s. is_above ls s x) ts)) ts t i (ap not b),
          refl,
          Dominates-⊑ (tuple_class ls t) (tuple_class ls t) (Dominates-refl (tuple_class ls t)),
        )
      ]

pub highest_keep : HighestKeepEachKey
highest_keep ls ts t i = top_within ls (suc (length (filter (λ s. is_above ls s t) ts))) ts t i (omega arith)
