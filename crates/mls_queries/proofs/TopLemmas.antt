-- Rows in the order of keys: the highest of a key are found among those of the key.
use Rattle.std.proofs.Common.{◌≡◌, ℕ, zero, suc, ◌+◌, ◌<◌, ◌≤◌, Bool, true, false, cond, not, ◌&&◌, List, [], ◌∷◌, ◌++◌, length, map, take, drop, get_or, refl, sym, ap, ◌∙◌, subst, inl, inr, arith, ◌⊎◌, filter, nat_cmp, is_lt, is_eq, true≢false, take-append-drop, drop-drop}
use Rattle.std.specs.List.{prefix_len, AllByRecursion}
use Rattle.std.specs.Ordering.{ordering_then, ordering_reverse}
use Rattle.std.specs.Cmp.Lexicographic.{slice_cmp}
use Rattle.std.specs.FinMap.{entries, entries_sorted, is_sorted, slice_cmp-IsAntisymmetric}
use Rattle.std.specs.FinMap.Entries.{below_all}
use Rattle.std.specs.declared.cmp.Ordering.{Ordering}
use Rattle.std.specs.declared.cmp.Ordering.TheVariants.{Less, Equal, Greater}
use Rattle.std.proofs.lemmas.Cmp.{tied_itself, lists_total}
use Rattle.std.proofs.lemmas.Bool.{and_parts, false_from_ne_true}
use Rattle.std.proofs.lemmas.List.{map-append}
use Rattle.mls_lattice.specs.Labels.{Labels}
use Rattle.mls_lattice.proofs.EachLemmas.{all_append}
use Rattle.mls_scheme.specs.declared.value.Value.{Value}
use Rattle.mls_scheme.specs.declared.tuple.Tuple.{Tuple}
use Rattle.mls_scheme.specs.declared.place.Place.{Place}
use Rattle.mls_scheme.specs.Value.{value_cmp}
use Rattle.mls_scheme.specs.Tuple.{tuple_class, no_tuple}
use Rattle.mls_scheme.specs.Table.{place_cmp, Table, tuple_at}
use Rattle.mls_scheme.proofs.OrderLemmas.{value_total, value_exact, is_eq-true}
use Rattle.mls_filterview.specs.Subsumption.{is_max_among}
use Rattle.mls_filterview.specs.View.{low, rows, IsAmong}
use Rattle.mls_filterview.proofs.AmongLemmas.{all_at, any_left, any_right}
use Rattle.mls_filterview.proofs.EntryLemmas.{Entry, sorted_filter, so_true}
use Rattle.mls_queries.specs.Query.{is_key, is_above, is_strictly_below, tops}
use Rattle.mls_queries.specs.Places.{rows_at, AreWithin, AreByKey, is_top, places_from}
use Rattle.mls_queries.proofs.PlaceLemmas.{rows_from, from_within}

-- ---- keys

abbrev key_cmp : List Value → List Value → Ordering
key_cmp = slice_cmp value_cmp

pub own_key : (key : List Value) → is_key key key ≡ true
own_key key = ap is_eq (tied_itself (lists_total value_total) key)

pub same_key : (a b : List Value) → is_key a b ≡ true → a ≡ b
same_key a b h = slice_cmp-IsAntisymmetric value_exact a b (is_eq-true _ h)

pub key_same : (a b : List Value) → a ≡ b → is_key a b ≡ true
key_same a b e = ap (λ k. is_key k b) e ∙ own_key b

-- neither comes before the other
tied : (h z : List Value) → (key_cmp h z ≡ Greater → ⊥) → (key_cmp z h ≡ Greater → ⊥) → (o : Ordering) → key_cmp h z ≡ o
    → h ≡ z
tied h z p q Less e = absurd (q ((lists_total value_total).antisymm z h ∙ ap ordering_reverse e))
tied h z p q Equal e = slice_cmp-IsAntisymmetric value_exact h z e
tied h z p q Greater e = absurd (p e)

-- ---- the rows at the front that have a key, and the others

abbrev Has : List Value → Tuple → Bool
Has h t = is_key t.key h

front : (h : List Value) (ts : List Tuple) (t : Tuple) → IsAmong t (take (prefix_len (Has h) ts) ts) → t.key ≡ h
front h [] t i = absurd i
front h (d ∷ ts) t i = by_test (is_key d.key h) refl (front h ts t) i
  where
    one_more : IsAmong t (take (suc (prefix_len (Has h) ts)) (d ∷ ts)) → (t ≡ d)
        ⊎ IsAmong t (take (prefix_len (Has h) ts) ts)
    one_more j = j

    by_test : (b : Bool) → is_key d.key h ≡ b → (IsAmong t (take (prefix_len (Has h) ts) ts) → t.key ≡ h)
        → IsAmong t (take (cond b (1 + prefix_len (Has h) ts) 0) (d ∷ ts)) → t.key ≡ h
    by_test true e rest k =
        let n : 1 + prefix_len (Has h) ts ≡ suc (prefix_len (Has h) ts) = omega arith in
        elim (one_more (subst (λ m. IsAmong t (take m (d ∷ ts))) n k)) [
          | inl q ↦ ap (λ (x : Tuple). x.key) q
              ∙ same_key d.key h e
          | inr j ↦ rest j
        ]
    by_test false e rest k = absurd k

-- where no row has a key before h
after : (h : List Value) (ts : List Tuple) → AllByRecursion (λ d. key_cmp h d.key ≡ Greater → ⊥) ts → AreByKey ts
    → (t : Tuple) → IsAmong t (drop (prefix_len (Has h) ts) ts) → t.key ≡ h → ⊥
after h [] b s t i q = absurd i
after h (d ∷ ts) b s t i q = by_test (is_key d.key h) refl (after h ts b.1 s.1 t) i
  where
    other : is_key d.key h ≡ false → d.key ≡ h → ⊥
    other e k = true≢false (sym (key_same d.key h k) ∙ e)

    by_test : (b : Bool) → is_key d.key h ≡ b → (IsAmong t (drop (prefix_len (Has h) ts) ts) → t.key ≡ h → ⊥)
        → IsAmong t (drop (cond b (1 + prefix_len (Has h) ts) 0) (d ∷ ts)) → ⊥
    by_test true e rest k = (let n : 1 + prefix_len (Has h) ts ≡ suc (prefix_len (Has h) ts) = omega arith
        in rest (subst (λ m. IsAmong t (drop m (d ∷ ts))) n k) q)
    by_test false e rest (inl k) = other e (sym (ap (λ (x : Tuple). x.key) k) ∙ q)
    by_test false e rest (inr k) =
        other e (sym (tied h d.key b.0 (subst (λ x. key_cmp d.key x ≡ Greater → ⊥) q (all_at (λ x. key_cmp d.key x.key
        ≡ Greater → ⊥) ts s.0 t k)) (key_cmp h d.key) refl))

-- ---- two parts of a list that have no key in common

filter_two : (p q r : Tuple → Bool) (xs ys : List Tuple) → ((t : Tuple) → IsAmong t xs → p t ≡ q t)
    → ((t : Tuple) → IsAmong t ys → p t ≡ r t) → filter p (xs ++ ys) ≡ filter q xs ++ filter r ys
filter_two p q r [] [] h k = refl
filter_two p q r [] (y ∷ ys) h k = λ i. cond (k y (inl refl) i) (y ∷ filter_two p q r [] ys h (λ t j. k t (inr j)) i)
    (filter_two p q r [] ys h (λ t j. k t (inr j)) i)
filter_two p q r (x ∷ xs) ys h k =
    (λ i. cond (h x (inl refl) i) (x ∷ filter_two p q r xs ys (λ t j. h t (inr j)) k i)
    (filter_two p q r xs ys (λ t j. h t (inr j)) k i))
    ∙ (elim (q x) as (λ b. cond b (x ∷ (filter q xs ++ filter r ys)) (filter q xs ++ filter r ys)
    ≡ cond b (x ∷ filter q xs) (filter q xs) ++ filter r ys) [ true ↦ refl | false ↦ refl ])

module _ (ls : Labels) (h : List Value) (xs ys : List Tuple) (ins : (t : Tuple) → IsAmong t xs → t.key ≡ h)
    (outs : (t : Tuple) → IsAmong t ys → t.key ≡ h → ⊥) where
  misses : (s t : Tuple) → (s.key ≡ t.key → ⊥) → is_above ls s t ≡ false
  misses s t n = ap (λ b. b && is_strictly_below (tuple_class ls t) (tuple_class ls s))
      (false_from_ne_true (is_key s.key t.key) (λ e. n (same_key s.key t.key e)))

  top_front : (t : Tuple) → IsAmong t xs → is_top ls (xs ++ ys) t ≡ is_top ls xs t
  top_front t i = ap not (any_left (λ s. is_above ls s t) xs ys (λ s j. misses s t (λ e. outs s j (e ∙ ins t i))))

  top_rest : (t : Tuple) → IsAmong t ys → is_top ls (xs ++ ys) t ≡ is_top ls ys t
  top_rest t i = ap not (any_right (λ s. is_above ls s t) xs ys (λ s j. misses s t (λ e. outs t i (sym e ∙ ins s j))))

  tops_two : tops ls (xs ++ ys) ≡ tops ls xs ++ tops ls ys
  tops_two = filter_two (is_top ls (xs ++ ys)) (is_top ls xs) (is_top ls ys) xs ys top_front top_rest

-- ---- one key after another

by_key_drop : (n : ℕ) (ts : List Tuple) → AreByKey ts → AreByKey (drop n ts)
by_key_drop zero ts h = h
by_key_drop (suc n) [] h = h
by_key_drop (suc n) (t ∷ ts) h = by_key_drop n ts h.1

tops_split : (ls : Labels) (t : Tuple) (ts : List Tuple) → AreByKey (t ∷ ts) → (n : ℕ)
    → n ≡ prefix_len (Has t.key) (t ∷ ts)
    → tops ls (t ∷ ts) ≡ tops ls (take n (t ∷ ts)) ++ tops ls (drop n (t ∷ ts))
tops_split ls t ts s n is =
    sym (ap (tops ls) (take-append-drop n (t ∷ ts)))
    ∙ tops_two ls t.key (take n (t ∷ ts)) (drop n (t ∷ ts))
    (λ e i. front t.key (t ∷ ts) e (subst (λ k. IsAmong e (take k (t ∷ ts))) is i))
    (λ e i q. after t.key (t ∷ ts) (own, s.0) s e (subst (λ k. IsAmong e (drop k (t ∷ ts))) is i) q)
  where
    own : key_cmp t.key t.key ≡ Greater → ⊥
    own e = true≢false (sym (own_key t.key) ∙ ap is_eq e)

some_front : (t : Tuple) (ts : List Tuple) (n : ℕ) → n ≡ prefix_len (Has t.key) (t ∷ ts) → 0 < n
some_front t ts n is =
    let e : n ≡ 1 + prefix_len (Has t.key) ts = is ∙ ap (λ b. cond b (1 + prefix_len (Has t.key) ts) 0) (own_key t.key)
    in
    omega (arith, e)

append_three : (xs ys zs : List Tuple) → (xs ++ ys) ++ zs ≡ xs ++ (ys ++ zs)
append_three [] ys zs = refl
append_three (x ∷ xs) ys zs = ap (λ ws. x ∷ ws) (append_three xs ys zs)

-- what the places found so far stand for, and what is left
pub record AreTops (ls : Labels) (ts : List Tuple) (start : ℕ) (ps : List ℕ) : Type 0 where
  pub within : AreWithin ts ps
  pub rows : AreByKey ts → rows_at ts ps ++ tops ls (drop start ts) ≡ tops ls ts

module _ (ls : Labels) (ts : List Tuple) (start count : ℕ) (l : start < length ts) (ps qs : List ℕ)
    (are : AreTops ls ts start ps) where
  length_front : (n : ℕ) (xs : List Tuple) → n ≤ length xs → n ≡ length (take n xs)
  length_front zero xs h = refl
  length_front (suc n) [] h = absurd (omega (arith, h))
  length_front (suc n) (x ∷ xs) h = ap suc (length_front n xs (omega (arith, h)))

  pub tops_more : (rest : List Tuple) → rest ≡ drop start ts → (h : Tuple) → 0 < length rest → h ≡ get_or rest 0 h
      → count ≡ prefix_len (Has h.key) rest
      → qs ≡ ps ++ places_from (is_top ls (take count rest)) start (take count rest) → AreTops ls ts (start + count) qs
      × (0 < count)
  tops_more [] r h some head is e = absurd (omega (arith, some))
  tops_more (t ∷ rest) r h some head is e = (
    subst (AreTops ls ts (start + count)) (sym e) (record {
      within = all_append (λ p. p < length ts) ps (places_from p start run) are.within
          (from_within p ts left (take start ts) run start parts here);
      rows = λ s.
          ap (λ xs. xs ++ tops ls (drop (start + count) ts)) (map-append (λ p. get_or ts p no_tuple) ps
          (places_from p start run)
          ∙ ap (λ xs. rows_at ts ps ++ xs) (rows_from p ts left (take start ts) run start parts here))
          ∙ done s;
    }),
    some_front t rest count own,
  )
    where
      own : count ≡ prefix_len (Has t.key) (t ∷ rest)
      own = is ∙ ap (λ (x : Tuple). prefix_len (Has x.key) (t ∷ rest)) head

      run : List Tuple
      run = take count (t ∷ rest)

      left : List Tuple
      left = drop count (t ∷ rest)

      p : Tuple → Bool
      p = is_top ls run

      parts : ts ≡ take start ts ++ (run ++ left)
      parts = sym (take-append-drop start ts) ∙ ap (λ xs. take start ts ++ xs)
          (sym r ∙ sym (take-append-drop count (t ∷ rest)))

      here : start ≡ length (take start ts)
      here = length_front start ts (omega (arith, l))

      on : drop (start + count) ts ≡ left
      on = sym (drop-drop count start ts) ∙ ap (drop count) (sym r)

      done : AreByKey ts → (rows_at ts ps ++ tops ls run) ++ tops ls (drop (start + count) ts) ≡ tops ls ts
      done s =
          let split = tops_split ls t rest (subst AreByKey (sym r) (by_key_drop start ts s)) count own in
          ap (λ xs. (rows_at ts ps ++ tops ls run) ++ tops ls xs) on
          ∙ append_three (rows_at ts ps) (tops ls run) (tops ls left)
          ∙ ap (λ xs. rows_at ts ps ++ xs) (sym split)
          ∙ ap (λ xs. rows_at ts ps ++ tops ls xs) r
          ∙ are.rows s

-- ---- views come in the order of keys

not_after : (p q : Place) → is_lt (place_cmp p q) ≡ true → key_cmp p.key q.key ≡ Greater → ⊥
unfolding place_cmp
not_after p q h e = true≢false (sym h ∙ ap (λ o. is_lt (ordering_then o (ordering_then (nat_cmp p.key_class q.key_class)
    (nat_cmp p.class q.class)))) e)

entries_by_key : (es : List Entry) → is_sorted place_cmp es ≡ true → AreByKey (map (λ e. tuple_at e.0 e.1) es)
entries_by_key [] s = tt
entries_by_key (e ∷ es) s = let p = and_parts (below_all place_cmp e.0 es) (is_sorted place_cmp es) s
    in (later es p.0, entries_by_key es p.1)
  where
    later : (ds : List Entry) → below_all place_cmp e.0 ds ≡ true → AllByRecursion (λ d. key_cmp e.0.key d.key ≡ Greater
        → ⊥) (map (λ d. tuple_at d.0 d.1) ds)
    later [] h = tt
    later (d ∷ ds) h = let p = and_parts (is_lt (place_cmp e.0 d.0)) (below_all place_cmp e.0 ds) h
        in (not_after e.0 d.0 p.0, later ds p.1)

pub rows_by_key : (ls : Labels) (c : ℕ) (T : Table) → AreByKey (rows ls c T)
unfolding rows
rows_by_key ls c T =
    let es = entries (low ls c T) in
    entries_by_key (filter (is_max_among es) es) (sorted_filter (is_max_among es) es
    (so_true _ (entries_sorted (low ls c T))))
