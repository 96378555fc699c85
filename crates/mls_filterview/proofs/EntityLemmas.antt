-- Rows in the order of places: those of one entity stand together.
use Rattle.std.proofs.Common.{◌≡◌, ◌⊎◌, ℕ, zero, suc, ◌+◌, ◌<◌, get_or, arith, Bool, true, false, cond, not, ◌&&◌, List, [], ◌∷◌, ◌++◌, map, take, drop, length, refl, sym, ap, ◌∙◌, subst, inl, inr, nat_eq, filter, nat_cmp, is_lt, is_eq, true≢false}
use Rattle.std.specs.List.{prefix_len, AllByRecursion}
use Rattle.std.specs.Ordering.{ordering_then, ordering_reverse}
use Rattle.std.specs.Cmp.{IsTotalOrder}
use Rattle.std.specs.Cmp.Lexicographic.{slice_cmp}
use Rattle.std.specs.FinMap.{is_sorted}
use Rattle.std.specs.FinMap.Entries.{below_all}
use Rattle.std.specs.declared.cmp.Ordering.{Ordering}
use Rattle.std.specs.declared.cmp.Ordering.TheVariants.{Less, Equal, Greater}
use Rattle.std.proofs.lemmas.Cmp.{on_total, then_total, nat_cmp_total, lists_total, tied_itself}
use Rattle.std.proofs.lemmas.Bool.{and_parts, false_from_ne_true, cond-true}
use Rattle.mls_scheme.specs.declared.place.Place.{Place}
use Rattle.mls_scheme.specs.Value.{value_cmp}
use Rattle.mls_scheme.specs.Table.{place_cmp, tuple_at}
use Rattle.mls_scheme.specs.declared.tuple.Tuple.{Tuple}
use Rattle.mls_scheme.proofs.OrderLemmas.{value_total, is_place-true}
use Rattle.mls_filterview.specs.Subsumption.{all_cover, subsumes_entry, is_max_among, flagged, entity_cmp, AreByEntity}
use Rattle.mls_filterview.specs.Stored.{with_class, is_entity}
use Rattle.mls_filterview.specs.View.{IsAmong}
use Rattle.mls_filterview.proofs.AmongLemmas.{all_at, any_left, any_right}
use Rattle.mls_filterview.proofs.EntryLemmas.{Entry}

-- ---- entities in order

pub ent_total : IsTotalOrder entity_cmp
ent_total = then_total (on_total (λ (p : Place). p.key) (lists_total value_total))
    (on_total (λ (p : Place). p.key_class) nat_cmp_total)

then_assoc : (a b c : Ordering) → ordering_then a (ordering_then b c) ≡ ordering_then (ordering_then a b) c
then_assoc Less b c = refl
then_assoc Equal b c = refl
then_assoc Greater b c = refl

pub by_entity : (p q : Place) → place_cmp p q ≡ ordering_then (entity_cmp p q) (nat_cmp p.class q.class)
unfolding place_cmp
by_entity p q = then_assoc (slice_cmp value_cmp p.key q.key) (nat_cmp p.key_class q.key_class) (nat_cmp p.class q.class)

-- whether the first place is of the second one's entity
abbrev pub same : Place → Place → Bool
same p q = is_entity p q

pub same_ent : (p q : Place) → same p q ≡ true → entity_cmp p q ≡ Equal
same_ent p q h = ap (λ r. entity_cmp r q) (is_place-true p (with_class q p.class) h) ∙ tied_itself ent_total q

pub ent_same : (p q : Place) → entity_cmp p q ≡ Equal → same p q ≡ true
ent_same p q e =
    ap is_eq (by_entity p (with_class q p.class) ∙ ap (λ o. ordering_then o (nat_cmp p.class p.class)) e
    ∙ tied_itself nat_cmp_total p.class)

not_after : (p q : Place) → is_lt (place_cmp p q) ≡ true → entity_cmp p q ≡ Greater → ⊥
not_after p q h e = true≢false (sym h ∙ ap is_lt (by_entity p q
    ∙ ap (λ o. ordering_then o (nat_cmp p.class q.class)) e))

-- entries in the order of places are in the order of entities
pub entities_sorted : (es : List Entry) → is_sorted place_cmp es ≡ true → AreByEntity es
entities_sorted [] s = tt
entities_sorted (e ∷ es) s = let p = and_parts (below_all place_cmp e.0 es) (is_sorted place_cmp es) s
    in (after es p.0, entities_sorted es p.1)
  where
    after : (ds : List Entry) → below_all place_cmp e.0 ds ≡ true → AllByRecursion (λ d. entity_cmp e.0 d.0 ≡ Greater
        → ⊥) ds
    after [] h = tt
    after (d ∷ ds) h = let p = and_parts (is_lt (place_cmp e.0 d.0)) (below_all place_cmp e.0 ds) h
        in (not_after e.0 d.0 p.0, after ds p.1)

pub ent_turned : (p q : Place) → entity_cmp p q ≡ Equal → entity_cmp q p ≡ Equal
ent_turned p q e = ent_total.antisymm q p ∙ ap ordering_reverse e

-- z comes after h and before y: where y is of the entity of h, so is z
last_step : (h z y : Place) → (entity_cmp z y ≡ Greater → ⊥) → entity_cmp h y ≡ Equal → entity_cmp h z ≡ Less
    → (o : Ordering) → entity_cmp z y ≡ o → ⊥
last_step h z y zy hy e Less f = true≢false (sym (ap is_lt (ent_total.trans h z y e f)) ∙ ap is_lt hy)
last_step h z y zy hy e Equal f =
    true≢false (sym (ap is_eq (ent_turned h y hy)) ∙ ap is_eq (sym (ent_total.congr z y h f) ∙ ent_total.antisymm z h
    ∙ ap ordering_reverse e))
last_step h z y zy hy e Greater f = zy f

between : (h z y : Place) → (entity_cmp h z ≡ Greater → ⊥) → (entity_cmp z y ≡ Greater → ⊥) → entity_cmp h y ≡ Equal
    → (o : Ordering) → entity_cmp h z ≡ o → entity_cmp h z ≡ Equal
between h z y hz zy hy Less e = absurd (last_step h z y zy hy e (entity_cmp z y) refl)
between h z y hz zy hy Equal e = e
between h z y hz zy hy Greater e = absurd (hz e)

-- ---- the rows at the front that are of one entity, and the others

abbrev Test : Place → Entry → Bool
Test h d = same d.0 h

taken : (h : Place) (es : List Entry) (e : Entry) → IsAmong e (take (prefix_len (Test h) es) es) → entity_cmp e.0 h
    ≡ Equal
taken h [] e i = absurd i
taken h (d ∷ es) e i = by_test (same d.0 h) refl (taken h es e) i
  where
    one_more : IsAmong e (take (suc (prefix_len (Test h) es)) (d ∷ es)) → (e ≡ d)
        ⊎ IsAmong e (take (prefix_len (Test h) es) es)
    one_more j = j

    by_test : (b : Bool) → same d.0 h ≡ b → (IsAmong e (take (prefix_len (Test h) es) es) → entity_cmp e.0 h ≡ Equal)
        → IsAmong e (take (cond b (1 + prefix_len (Test h) es) 0) (d ∷ es)) → entity_cmp e.0 h ≡ Equal
    by_test true t rest k =
        let n : 1 + prefix_len (Test h) es ≡ suc (prefix_len (Test h) es) = omega arith in
        elim (one_more (subst (λ m. IsAmong e (take m (d ∷ es))) n k)) [
          | inl q ↦ ap (λ x. entity_cmp x.0 h) q
              ∙ same_ent d.0 h t
          | inr j ↦ rest j
        ]
    by_test false t rest k = absurd k

-- where the front row of h's entity is before all of these
left_out : (h : Place) (es : List Entry) → AllByRecursion (λ d. entity_cmp h d.0 ≡ Greater → ⊥) es → AreByEntity es
    → (e : Entry) → IsAmong e (drop (prefix_len (Test h) es) es) → entity_cmp e.0 h ≡ Equal → ⊥
left_out h [] b s e i q = absurd i
left_out h (d ∷ es) b s e i q =
    by_test (same d.0 h) refl (left_out h es b.1 s.1 e) i
  where
    by_test : (t : Bool) → same d.0 h ≡ t → (IsAmong e (drop (prefix_len (Test h) es) es) → entity_cmp e.0 h ≡ Equal
        → ⊥) → IsAmong e (drop (cond t (1 + prefix_len (Test h) es) 0) (d ∷ es)) → ⊥
    by_test true t rest k = (let n : 1 + prefix_len (Test h) es ≡ suc (prefix_len (Test h) es) = omega arith
        in rest (subst (λ m. IsAmong e (drop m (d ∷ es))) n k) q)
    by_test false t rest (inl k) = true≢false (sym (ent_same d.0 h (sym (ap (λ x. entity_cmp x.0 h) k) ∙ q)) ∙ t)
    by_test false t rest (inr k) =
        true≢false (sym (ent_same d.0 h (ent_turned h d.0
        (between h d.0 e.0 b.0 (all_at (λ x. entity_cmp d.0 x.0 ≡ Greater → ⊥) es s.0 e k) (ent_turned e.0 h q)
        (entity_cmp h d.0) refl))) ∙ t)

-- ---- maximal rows

map_two : (p q r : Entry → Bool) (xs ys : List Entry) → ((e : Entry) → IsAmong e xs → p e ≡ q e)
    → ((e : Entry) → IsAmong e ys → p e ≡ r e) → map p (xs ++ ys) ≡ map q xs ++ map r ys
map_two p q r [] [] h k = refl
map_two p q r [] (y ∷ ys) h k = λ i. k y (inl refl) i ∷ map_two p q r [] ys h (λ e j. k e (inr j)) i
map_two p q r (x ∷ xs) ys h k = λ i. h x (inl refl) i ∷ map_two p q r xs ys (λ e j. h e (inr j)) k i

module _ (h : Place) (xs ys : List Entry) (ins : (d : Entry) → IsAmong d xs → entity_cmp d.0 h ≡ Equal)
    (outs : (e : Entry) → IsAmong e ys → entity_cmp e.0 h ≡ Equal → ⊥) where
  abbrev Hits : Entry → Entry → Bool
  Hits e d = subsumes_entry d e && not (subsumes_entry e d)

  misses : (d e : Entry) → same d.0 e.0 ≡ false → Hits e d ≡ false
  misses d e n = ap (λ b. (b && all_cover d.1 e.1) && not (subsumes_entry e d)) n

  max_front : (e : Entry) → IsAmong e xs → is_max_among (xs ++ ys) e ≡ is_max_among xs e
  max_front e i = ap not (any_left (Hits e) xs ys (λ d j. misses d e (false_from_ne_true _ (λ t.
      outs d j (ent_total.congr d.0 e.0 h (same_ent d.0 e.0 t) ∙ ins e i)))))

  max_rest : (e : Entry) → IsAmong e ys → is_max_among (xs ++ ys) e ≡ is_max_among ys e
  max_rest e i = ap not (any_right (Hits e) xs ys (λ d j. misses d e (false_from_ne_true _ (λ t.
      outs e i (sym (ent_total.congr d.0 e.0 h (same_ent d.0 e.0 t)) ∙ ins d j)))))

  flags_both : map (is_max_among (xs ++ ys)) (xs ++ ys) ≡ map (is_max_among xs) xs ++ map (is_max_among ys) ys
  flags_both = map_two (is_max_among (xs ++ ys)) (is_max_among xs) (is_max_among ys) xs ys max_front max_rest

-- the flags of rows are those of the first entity, and those of the others
abbrev pub flags : List Entry → List Bool
flags es = map (is_max_among es) es

abbrev pub maximal : List Entry → List Entry
maximal es = filter (is_max_among es) es

pub flagged_by : (p : Entry → Bool) (es : List Entry) → flagged (map p es) es ≡ filter p es
flagged_by p [] = refl
flagged_by p (e ∷ es) = λ i. cond (p e) (e ∷ flagged_by p es i) (flagged_by p es i)

take_drop : (n : ℕ) (es : List Entry) → take n es ++ drop n es ≡ es
take_drop zero es = refl
take_drop (suc n) [] = refl
take_drop (suc n) (e ∷ es) = ap (λ xs. e ∷ xs) (take_drop n es)

flags_split : (d : Entry) (es : List Entry) → AreByEntity (d ∷ es) → (n : ℕ) → n ≡ prefix_len (λ e. same e.0 d.0)
    (d ∷ es)
    → flags (d ∷ es) ≡ flags (take n (d ∷ es)) ++ flags (drop n (d ∷ es))
flags_split d es s n is =
    sym (ap flags (take_drop n (d ∷ es)))
    ∙ flags_both d.0 (take n (d ∷ es)) (drop n (d ∷ es))
    (λ e i. taken d.0 (d ∷ es) e (subst (λ k. IsAmong e (take k (d ∷ es))) is i))
    (λ e i q. rest e (subst (λ k. IsAmong e (drop k (d ∷ es))) (is ∙ first_one) i) q)
  where
    own : same d.0 d.0 ≡ true
    own = ent_same d.0 d.0 (tied_itself ent_total d.0)

    first_one : prefix_len (λ e. same e.0 d.0) (d ∷ es) ≡ suc (prefix_len (Test d.0) es)
    first_one = let n : 1 + prefix_len (Test d.0) es ≡ suc (prefix_len (Test d.0) es) = omega arith
        in cond-true (same d.0 d.0) (1 + prefix_len (Test d.0) es) 0 own ∙ n

    rest : (e : Entry) → IsAmong e (drop (suc (prefix_len (Test d.0) es)) (d ∷ es)) → entity_cmp e.0 d.0 ≡ Equal → ⊥
    rest e i q = left_out d.0 es s.0 s.1 e i q

-- ---- one entity after another

sorted_drop : (n : ℕ) (es : List Entry) → AreByEntity es → AreByEntity (drop n es)
sorted_drop zero es h = h
sorted_drop (suc n) [] h = h
sorted_drop (suc n) (e ∷ es) h = sorted_drop n es h.1

append_three : {X : Type 0} (xs ys zs : List X) → (xs ++ ys) ++ zs ≡ xs ++ (ys ++ zs)
append_three [] ys zs = refl
append_three (x ∷ xs) ys zs = ap (λ ws. x ∷ ws) (append_three xs ys zs)

abbrev pub tuples_of : List Entry → List Tuple
tuples_of es = map (λ e. tuple_at e.0 e.1) es

-- the front entity is done, and the rows that are left are fewer
pub flags_more : (xs : List Entry) (h : Entry) → 0 < length xs → h ≡ get_or xs 0 h → AreByEntity xs → (n : ℕ)
    → n ≡ prefix_len (λ e. same e.0 h.0) xs
    → (front done all : List Bool) → done ≡ front ++ flags (take n xs) → front ++ flags xs ≡ all
    → AreByEntity (drop n xs) × (done ++ flags (drop n xs) ≡ all) × (0 < n)
flags_more [] h l is s n len front done all new way = absurd (omega arith)
flags_more (d ∷ es) h l is s n len front done all new way = (
  sorted_drop n (d ∷ es) s,
  ap (λ bs. bs ++ flags (drop n (d ∷ es))) new
      ∙ append_three front (flags (take n (d ∷ es))) (flags (drop n (d ∷ es)))
      ∙ ap (λ bs. front ++ bs) (sym (flags_split d es s n at_front)) ∙ way,
  some,
)
  where
    at_front : n ≡ prefix_len (λ e. same e.0 d.0) (d ∷ es)
    at_front = len ∙ ap (λ (x : Entry). prefix_len (λ e. same e.0 x.0) (d ∷ es)) is

    own : same d.0 d.0 ≡ true
    own = ent_same d.0 d.0 (tied_itself ent_total d.0)

    some : 0 < n
    some = let k = at_front ∙ cond-true (same d.0 d.0) (1 + prefix_len (λ e. same e.0 d.0) es) 0 own in omega (arith, k)

pub front_some : (xs : List Entry) (h : Entry) → 0 < length xs → h ≡ get_or xs 0 h
    → 0 < prefix_len (λ e. same e.0 h.0) xs
front_some [] h l is = absurd (omega arith)
front_some (d ∷ es) h l is =
    let own : same d.0 h.0 ≡ true = ap (λ (x : Entry). same d.0 x.0) is ∙ ent_same d.0 d.0 (tied_itself ent_total d.0)
    in
    let k = cond-true (same d.0 h.0) (1 + prefix_len (λ e. same e.0 h.0) es) 0 own in omega (arith, k)

pub not_empty : (n : ℕ) → nat_eq n 0 ≡ false → 0 < n
not_empty zero h = absurd (true≢false h)
not_empty (suc n) h = omega arith
