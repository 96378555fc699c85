-- Cells set one after another.
use Rattle.std.proofs.Common.{◌≡◌, ℕ, zero, suc, ◌+◌, ◌<◌, arith, Bool, true, false, cond, not, ◌&&◌, List, [], ◌∷◌, length, drop, get_or, Option, Some, None, refl, sym, ap, ◌∙◌, subst, inl, inr, nat_eq, option_map, eqb-true, eq-eqb, ext_get_or}
use Rattle.std.specs.List.{list_any, AllByRecursion}
use Rattle.std.specs.FinMap.{get}
use Rattle.std.proofs.lemmas.Bool.{cases_Bool, cond-true, cond-false, and_parts, eqb-false, false_from_ne_true, not-false, or_parts}
use Rattle.std.proofs.lemmas.List.{drop_more}
use Rattle.mls_scheme.specs.declared.value.Value.{Value}
use Rattle.mls_scheme.specs.declared.tuple.Element.{Element}
use Rattle.mls_scheme.specs.Tuple.{at, null_element}
use Rattle.mls_scheme.specs.Table.{Table, change}
use Rattle.mls_scheme.specs.declared.place.Place.{Place}
use Rattle.mls_scheme.proofs.TableLemmas.{same_table, get_change}
use Rattle.mls_filterview.specs.Stored.{is_entity}
use Rattle.mls_filterview.specs.Fragment.{set_from, set_in, HasCell}
use Rattle.mls_filterview.proofs.EntityTests.{entity_decides}
use Rattle.mls_updates.specs.Writes.{Sets, set_element, updated, update_in}
use Rattle.mls_updates.specs.Steps.{set_each}
use Rattle.mls_updates.proofs.SetLemmas.{set_cases, length-updated, at-updated}

-- ---- one cell

module _ (attr label : ℕ) (v : Option Value) where
  length-set_from : (k : ℕ) (es : List Element) → length (set_from attr label v k es) ≡ length es
  length-set_from k [] = refl
  length-set_from k (e ∷ es) = ap suc (length-set_from (suc k) es)

  abbrev new_at : ℕ → Element → Element
  new_at i e = cond (nat_eq i attr && nat_eq e.class label) (record { value = v; class = label }) e

  at-set_from : (k : ℕ) (es : List Element) (i : ℕ) → i < length es → at (set_from attr label v k es) i
      ≡ new_at (k + i) (at es i)
  at-set_from k [] i l = absurd (omega arith)
  at-set_from k (e ∷ es) zero l = let n : k ≡ k + 0 = omega arith in ap (λ j. new_at j e) n
  at-set_from k (e ∷ es) (suc i) l = let n : suc k + i ≡ k + suc i = omega arith
      in at-set_from (suc k) es i (omega arith) ∙ ap (λ j. new_at j (at es i)) n

  at-set : (es : List Element) (i : ℕ) → i < length es → at (set_from attr label v 0 es) i ≡ new_at i (at es i)
  at-set es i l = let n : 0 + i ≡ i = omega arith in at-set_from 0 es i l ∙ ap (λ j. new_at j (at es i)) n

  class_kept : (i : ℕ) (e : Element) → (new_at i e).class ≡ e.class
  class_kept i e =
      elim (nat_eq i attr && nat_eq e.class label) as (λ b. (nat_eq i attr && nat_eq e.class label) ≡ b
      → (cond b (record { value = v; class = label }) e).class ≡ e.class) [
        | true ↦ λ h. sym (eqb-true e.class label (and_parts (nat_eq i attr) (nat_eq e.class label) h).1)
        | false ↦ λ h. refl
      ] refl

-- ---- the other cells, then one

module _ (w a : ℕ) (v : Option Value) (sets : Sets) where
  abbrev both : Sets
  both = (a, v) ∷ sets

  abbrev set_now : Element
  set_now = record { value = v; class = w }

  -- an element of class w that is set or stays is of class w
  class_stays : (i : ℕ) (x : Element) → x.class ≡ w → (set_element w sets i x).class ≡ w
  class_stays i x own = elim (set_cases w sets i x) [
    | inl e ↦ ap (λ y. y.class) e ∙ own
    | inr e ↦ ap
        (λ y. y.class) e.2
  ]

  one_element : (i : ℕ) (x : Element) → new_at a w v i (cond (nat_eq x.class w) (set_element w sets i x) x)
      ≡ cond (nat_eq x.class w) (set_element w both i x) x
  one_element i x = elim (cases_Bool (nat_eq x.class w)) [
    | inr b ↦ ap (new_at a w v i) (cond-false (nat_eq x.class w) (set_element w sets i x) x b)
        ∙ cond-false (nat_eq i a && nat_eq x.class w) set_now x (false_from_ne_true (nat_eq i a && nat_eq x.class w)
        (λ t. eqb-false x.class w b (eqb-true x.class w (and_parts (nat_eq i a) (nat_eq x.class w) t).1)))
        ∙ sym (cond-false (nat_eq x.class w) (set_element w both i x) x b)
    | inl b ↦ (let y = set_element w sets i x in
        let here : new_at a w v i (cond (nat_eq x.class w) y x) ≡ new_at a w v i y = ap (new_at a w v i)
        (cond-true (nat_eq x.class w) y x b) in
        let own : nat_eq y.class w ≡ true = eq-eqb y.class w (class_stays i x (eqb-true x.class w b)) in
        elim (cases_Bool (nat_eq a i)) [
          | inl n ↦ here ∙ cond-true (nat_eq i a && nat_eq y.class w) set_now y
              (λ j. eq-eqb i a (sym (eqb-true a i n)) j && own j)
              ∙ sym (cond-true (nat_eq x.class w) (set_element w both i x) x b ∙ cond-true (nat_eq a i) set_now y n)
          | inr n ↦ here
              ∙ cond-false (nat_eq i a && nat_eq y.class w) set_now y
              (false_from_ne_true (nat_eq i a && nat_eq y.class w)
              (λ t. eqb-false a i n (sym (eqb-true i a (and_parts (nat_eq i a) (nat_eq y.class w) t).0))))
              ∙ sym (cond-true (nat_eq x.class w) (set_element w both i x) x b ∙ cond-false (nat_eq a i) set_now y n)
        ])
  ]

  one_tuple : (es : List Element) → set_from a w v 0 (updated w sets es) ≡ updated w both es
  one_tuple es =
      let set = updated w sets es in
      let n : length (set_from a w v 0 set) ≡ length es = length-set_from a w v 0 set ∙ length-updated w sets es in
      ext_get_or null_element (set_from a w v 0 set) (updated w both es) (n ∙ sym (length-updated w both es)) (λ i l.
      let there : i < length es = subst (λ k. i < k) n l in
      at-set a w v set i (subst (λ k. i < k) (length-set_from a w v 0 set) l)
      ∙ ap (new_at a w v i) (at-updated w sets es i there) ∙ one_element i (at es i)
      ∙ sym (at-updated w both es i there))

none_updated : (w : ℕ) (es : List Element) → updated w [] es ≡ es
none_updated w es = ext_get_or null_element (updated w [] es) es (length-updated w [] es) (λ i l.
    let here : i < length es = subst (λ k. i < k) (length-updated w [] es) l in
    at-updated w [] es i here ∙ same (nat_eq (at es i).class w) (at es i))
  where
    same : (b : Bool) (x : Element) → cond b x x ≡ x
    same true x = refl
    same false x = refl

-- ---- the table

module _ (p : Place) where
  in_place : (a : ℕ) (v : Option Value) (sets : Sets) (q : Place) (es : List Element)
      → set_in p a v q (update_in p sets q es) ≡ update_in p ((a, v) ∷ sets) q es
  in_place a v sets q es =
      elim (is_entity p q) as (λ b. cond b (set_from a p.class v 0 (cond b (updated p.class sets es) es))
      (cond b (updated p.class sets es) es) ≡ cond b (updated p.class ((a, v) ∷ sets) es) es) [
        | true ↦ one_tuple p.class a v sets es
        | false ↦ refl
      ]

  -- all cells set are the update
  pub all_set : (sets : Sets) (T : Table) → set_each p sets T ≡ change (update_in p sets) T
  all_set [] T = same_table _ _ (λ q. by_look q (get T q) ∙ sym (get_change (update_in p []) T q))
    where
      none : (q : Place) (es : List Element) → update_in p [] q es ≡ es
      none q es = elim (is_entity p q) as (λ b. cond b (updated p.class [] es) es
          ≡ es) [ true ↦ none_updated p.class es | false ↦ refl ]

      by_look : (q : Place) (o : Option (List Element)) → o ≡ option_map (update_in p [] q) o
      by_look q None = refl
      by_look q (Some es) = ap Some (sym (none q es))
  all_set (s ∷ ss) T =
      ap (change (set_in p s.0 s.1)) (all_set ss T)
      ∙ same_table _ _ (λ q.
      get_change (set_in p s.0 s.1) (change (update_in p ss) T) q ∙ ap (option_map (set_in p s.0 s.1 q))
      (get_change (update_in p ss) T q)
      ∙ by_look q (get T q) ∙ sym (get_change (update_in p (s ∷ ss)) T q))
    where
      by_look : (q : Place) (o : Option (List Element)) → option_map (set_in p s.0 s.1 q)
          (option_map (update_in p ss q) o) ≡ option_map (update_in p (s ∷ ss) q) o
      by_look q None = refl
      by_look q (Some es) = ap Some (in_place s.0 s.1 ss q es)

  -- ---- cells that are there stay there
  still_there : (T : Table) (a : ℕ) (v : Option Value) (attr : ℕ) → HasCell T p attr
      → HasCell (change (set_in p a v) T) p attr
  still_there T a v attr h =
      let q = h.0 in
      let es = h.1 in
      let entity : is_entity p q ≡ true = h.2 in
      let new = set_from a p.class v 0 es in
      let l : attr < length es = h.4 in (
        q,
        new,
        entity,
        get_change (set_in p a v) T q ∙ ap (option_map (set_in p a v q)) h.3
            ∙ ap Some (cond-true (is_entity p q) new es entity),
        subst (λ k. attr < k) (sym (length-set_from a p.class v 0 es)) l,
        ap (λ x. x.class) (at-set a p.class v es attr l) ∙ class_kept a p.class v attr (at es attr) ∙ h.5,
      )

  there_after : (sets : Sets) (T : Table) (attr : ℕ) → HasCell T p attr → HasCell (set_each p sets T) p attr
  there_after [] T attr h = h
  there_after (s ∷ ss) T attr h = still_there (set_each p ss T) s.0 s.1 attr (there_after ss T attr h)

  -- the named cells of a tuple at p
  pub cells_there : (T : Table) (es : List Element) → get T p ≡ Some es → (sets : Sets)
      → AllByRecursion (λ s. s.0 < length es) sets → list_any (λ s. not (nat_eq (at es s.0).class p.class)) sets ≡ false
      → AllByRecursion (λ s. HasCell T p s.0) sets
  cells_there T es g [] l h = tt
  cells_there T es g (s ∷ ss) l h =
      let parts = or_parts _ _ h in (
        (p, es, (entity_decides p p).1 (refl, refl), g, l.0, eqb-true (at es s.0).class p.class (not-false _ parts.0)),
        cells_there T es g ss l.1 parts.1,
      )

  cell_at : (T : Table) (sets : Sets) (i : ℕ) (d : ℕ × Option Value) → i < length sets
      → AllByRecursion (λ s. HasCell T p s.0) sets → HasCell T p (get_or sets i d).0
  cell_at T [] i d l h = absurd (omega arith)
  cell_at T (s ∷ ss) zero d l h = h.0
  cell_at T (s ∷ ss) (suc i) d l h = cell_at T ss i d (omega arith) h.1

-- ---- one after another

module _ (p : Place) (sets : Sets) (i : ℕ) (d : ℕ × Option Value) (within : i < length sets) where
  -- the next cell to set is there
  pub cell_now : (T U : Table) → U ≡ set_each p (drop (i + 1) sets) T → AllByRecursion (λ s. HasCell T p s.0) sets
      → HasCell U p (get_or sets i d).0
  cell_now T U is h = subst (λ X. HasCell X p (get_or sets i d).0) (sym is) (there_after p (drop (i + 1) sets) T
      (get_or sets i d).0 (cell_at p T sets i d within h))

  pub set_next : (T : Table) → set_each p (drop i sets) T ≡ change (set_in p (get_or sets i d).0 (get_or sets i d).1)
      (set_each p (drop (i + 1) sets) T)
  set_next T = ap (λ ss. set_each p ss T) (drop_more sets i d within)
