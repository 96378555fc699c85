-- Rows of some entities, and of tables that agree outside of one.
use Rattle.std.proofs.Common.{◌≡◌, ℕ, Bool, true, false, cond, not, ◌&&◌, List, [], ◌∷◌, ◌++◌, map, Some, None, refl, sym, ap, ◌∙◌, append_assoc, filter, is_lt, is_eq, is_gt, true≢false}
use Rattle.std.specs.List.{AllByRecursion}
use Rattle.std.specs.Ordering.{ordering_reverse}
use Rattle.std.specs.declared.cmp.Ordering.{Ordering}
use Rattle.std.specs.declared.cmp.Ordering.TheVariants.{Less, Equal, Greater}
use Rattle.std.specs.FinMap.{get, entries, entries_sorted, retain_keys}
use Rattle.std.proofs.lemmas.Bool.{and_parts, false_from_ne_true}
use Rattle.std.proofs.lemmas.Option.{none-some}
use Rattle.mls_lattice.specs.Labels.{Labels, below}
use Rattle.mls_scheme.specs.declared.value.Value.{Value}
use Rattle.mls_scheme.specs.declared.tuple.Tuple.{Tuple}
use Rattle.mls_scheme.specs.declared.place.Place.{Place}
use Rattle.mls_scheme.specs.Table.{Table, tuple_at, place_of}
use Rattle.mls_scheme.proofs.OrderLemmas.{is_place-true, is_eq-true}
use Rattle.mls_scheme.proofs.TableLemmas.{get_kept, same_table}
use Rattle.mls_filterview.specs.View.{low, rows, IsAmong}
use Rattle.mls_filterview.specs.Stored.{with_class, is_entity}
use Rattle.mls_filterview.specs.Subsumption.{subsumes_entry, is_max_among, entity_cmp, AreByEntity}
use Rattle.mls_filterview.specs.Entities.{of_entity, AgreeOutside, is_of, is_before, is_behind, mended}
use Rattle.mls_filterview.specs.Laws.{ViewsAreMended}
use Rattle.mls_filterview.proofs.LowLemmas.{get_low}
use Rattle.mls_filterview.proofs.AmongLemmas.{among_filter, filter_among}
use Rattle.mls_filterview.proofs.EntryLemmas.{Entry, among_entries, entries_among, sorted_filter, so_true, so_from, entries_are}
use Rattle.mls_filterview.proofs.EntityLemmas.{ent_total, same_ent, ent_same, ent_turned, entities_sorted, tuples_of}
use Rattle.mls_filterview.proofs.FilteredLemmas.{within_filter, any_filter, map_filter, filter_same, filter_none}
use Rattle.mls_filterview.proofs.PartLemmas.{those}

-- ---- the rows of some entities

entries_kept : (T : Table) (test : Place → Bool) → entries (retain_keys T test) ≡ filter (λ e. test e.0) (entries T)
entries_kept T test =
    sym (entries_are (retain_keys T test) (filter (λ e. test e.0) (entries T))
    (so_from _ (sorted_filter (λ e. test e.0) (entries T) (so_true _ (entries_sorted T))))
    (λ e. (to e, from e)))
  where
    to : (e : Entry) → IsAmong e (filter (λ e. test e.0) (entries T)) → get (retain_keys T test) e.0 ≡ Some e.1
    to e i = let r = among_filter (λ e. test e.0) (entries T) e i in get_kept T test e.0
        ∙ ap (λ b. cond b (get T e.0) None) r.1 ∙ among_entries T e r.0

    from : (e : Entry) → get (retain_keys T test) e.0 ≡ Some e.1 → IsAmong e (filter (λ e. test e.0) (entries T))
    from e g =
        elim (test e.0) as (λ b. test e.0 ≡ b → cond b (get T e.0) None ≡ Some e.1
        → IsAmong e (filter (λ e. test e.0) (entries T))) [
          | true ↦ λ t k. filter_among (λ e. test e.0) (entries T) e (entries_among T e.0 e.1 k) t
          | false ↦ λ t k. absurd (none-some e.1 k)
        ] refl (sym (get_kept T test e.0) ∙ g)

module _ (ls : Labels) (c : ℕ) (test : List Value → ℕ → Bool) (T : Table) where
  exchanged : (a b : Bool) (p : Place) → cond a (cond b (get T p) None) None ≡ cond b (cond a (get T p) None) None
  exchanged true true p = refl
  exchanged true false p = refl
  exchanged false true p = refl
  exchanged false false p = refl

  low_of_those : low ls c (those test T) ≡ those test (low ls c T)
  low_of_those = same_table _ _ (λ p.
      get_low ls c (those test T) p
      ∙ ap (λ o. cond (below ls p.class c) o None) (get_kept T (λ q. test q.key q.key_class) p)
      ∙ exchanged (below ls p.class c) (test p.key p.key_class) p
      ∙ ap (λ o. cond (test p.key p.key_class) o None) (sym (get_low ls c T p))
      ∙ sym (get_kept (low ls c T) (λ q. test q.key q.key_class) p))

  -- what subsumes an entry is of its entity
  subsumed_test : (d e : Entry) → subsumes_entry d e ≡ true → test d.0.key d.0.key_class ≡ test e.0.key e.0.key_class
  subsumed_test d e h = ap (λ p. test p.key p.key_class) (is_place-true d.0 (with_class e.0 d.0.class)
      (and_parts _ _ h).0)

  max_in_those : (es : List Entry) (e : Entry) → test e.0.key e.0.key_class ≡ true
      → is_max_among (filter (λ d. test d.0.key d.0.key_class) es) e ≡ is_max_among es e
  max_in_those es e h =
      ap not (any_filter (λ d. test d.0.key d.0.key_class) (λ d. subsumes_entry d e && not (subsumes_entry e d))
      (λ d t. subsumed_test d e (and_parts _ _ t).0 ∙ h) es)

  -- the rows of the tuples of some entities are those of the rows that are theirs
  pub rows_of_those : rows ls c (those test T) ≡ filter (λ t. test t.key t.key_class) (rows ls c T)
  unfolding rows
  rows_of_those =
      let es = entries (low ls c T) in
      let has = λ (e : Entry). test e.0.key e.0.key_class in
      ap (λ xs. map (λ e. tuple_at e.0 e.1) (filter (is_max_among xs) xs)) (ap entries low_of_those ∙ entries_kept
      (low ls c T) (λ p. test p.key p.key_class))
      ∙ ap (map (λ e. tuple_at e.0 e.1)) (within_filter has (is_max_among (filter has es)) (is_max_among es)
      (max_in_those es) es)
      ∙ map_filter (λ e. tuple_at e.0 e.1) (λ t. test t.key t.key_class) (filter (is_max_among es) es)

-- ---- entries before an entity, of it and behind it

less : (o : Ordering) → is_lt o ≡ true → o ≡ Less
less Less t = refl
less Equal t = absurd (true≢false (sym t))
less Greater t = absurd (true≢false (sym t))

module _ (p : Place) where
  abbrev stands : Entry → Ordering
  stands e = entity_cmp e.0 p

  -- what does not come before an entry that is not before the entity is not before it either
  not_before : (e d : Entry) → (entity_cmp e.0 d.0 ≡ Greater → ⊥) → (stands e ≡ Less → ⊥) → (o : Ordering)
      → entity_cmp e.0 d.0 ≡ o → is_lt (stands d) ≡ false
  not_before e d h k Less q = false_from_ne_true _ (λ t. k (ent_total.trans e.0 d.0 p q (less (stands d) t)))
  not_before e d h k Equal q = false_from_ne_true _ (λ t. k (ent_total.congr e.0 d.0 p q ∙ less (stands d) t))
  not_before e d h k Greater q = absurd (h q)

  -- what does not come before an entry behind the entity is not of it
  not_equal : (e d : Entry) → (entity_cmp e.0 d.0 ≡ Greater → ⊥) → stands e ≡ Greater → is_eq (stands d) ≡ false
  not_equal e d h k = false_from_ne_true _ (λ t. h (
      ent_total.antisymm e.0 d.0
      ∙ ap ordering_reverse (ent_total.congr d.0 p e.0 (is_eq-true (stands d) t) ∙ ent_total.antisymm p e.0
      ∙ ap ordering_reverse k)))

  all_false : (test : Entry → Bool) (P : Entry → Type 0) (es : List Entry) → ((d : Entry) → P d → test d ≡ false)
      → AllByRecursion P es → AllByRecursion (λ d. test d ≡ false) es
  all_false test P [] f h = tt
  all_false test P (e ∷ es) f h = (f e h.0, all_false test P es f h.1)

  abbrev three : List Entry → List Entry
  three es = filter (λ e. is_lt (stands e)) es ++ (filter (λ e. is_eq (stands e)) es
      ++ filter (λ e. is_gt (stands e)) es)

  abbrev Behind : Entry → Entry → Type 0
  Behind e d = entity_cmp e.0 d.0 ≡ Greater → ⊥

  none_before : (e : Entry) (es : List Entry) → AllByRecursion (Behind e) es → (stands e ≡ Less → ⊥)
      → filter (λ d. is_lt (stands d)) es ≡ []
  none_before e es h k = filter_none _ es (all_false (λ d. is_lt (stands d)) (Behind e) es (λ d b. not_before e d b k
      (entity_cmp e.0 d.0) refl) h)

  none_equal : (e : Entry) (es : List Entry) → AllByRecursion (Behind e) es → stands e ≡ Greater
      → filter (λ d. is_eq (stands d)) es ≡ []
  none_equal e es h k = filter_none _ es (all_false (λ d. is_eq (stands d)) (Behind e) es (λ d b. not_equal e d b k) h)

  other : {A : Type 0} → Equal ≡ Less → A
  other h = absurd cc

  greater_less : {A : Type 0} → Greater ≡ Less → A
  greater_less h = absurd cc

  in_order : (e : Entry) (es : List Entry) → AllByRecursion (Behind e) es → es ≡ three es → (o : Ordering)
      → stands e ≡ o → e ∷ es ≡ three (e ∷ es)
  in_order e es s whole Less q = rw q (ap (λ xs. e ∷ xs) whole)
  in_order e es s whole Equal q =
      let none = none_before e es s (λ l. other (sym q ∙ l)) in
      let rest : es ≡ filter (λ d. is_eq (stands d)) es ++ filter (λ d. is_gt (stands d)) es =
      whole ∙ ap (λ xs. xs ++ (filter (λ d. is_eq (stands d)) es ++ filter (λ d. is_gt (stands d)) es)) none in
      rw (q, none) (ap (λ xs. e ∷ xs) rest)
  in_order e es s whole Greater q =
      let none = none_before e es s (λ l. greater_less (sym q ∙ l)) in
      let no_more = none_equal e es s q in
      let rest : es ≡ filter (λ d. is_gt (stands d)) es =
      whole ∙ (λ i. none i ++ (no_more i ++ filter (λ d. is_gt (stands d)) es)) in
      rw (q, none, no_more) (ap (λ xs. e ∷ xs) rest)

  -- entries in the order of entities are those before it, those of it and those behind it
  in_three : (es : List Entry) → AreByEntity es → es ≡ three es
  in_three [] s = refl
  in_three (e ∷ es) s = in_order e es s.0 (in_three es s.1) (stands e) refl

-- ---- rows before an entity, of it and behind it

-- an entity that comes before that of p, or behind it, is another
pub other_entity : (p q : Place) → is_eq (entity_cmp q p) ≡ false → is_entity p q ≡ false
other_entity p q h = false_from_ne_true _ (λ t. true≢false (sym (ap is_eq (ent_turned p q (same_ent p q t))) ∙ h))

equal_of : (p q : Place) → is_eq (entity_cmp q p) ≡ is_entity p q
equal_of p q =
    elim (is_eq (entity_cmp q p)) as (λ b. is_eq (entity_cmp q p) ≡ b → b ≡ is_entity p q) [
      | true ↦ λ t. sym (ent_same p q (ent_turned q p (is_eq-true (entity_cmp q p) t)))
      | false ↦ λ f. sym (other_entity p q f)
    ] refl

lower_other : (o : Ordering) → is_lt o ≡ true → is_eq o ≡ false
lower_other Less h = refl
lower_other Equal h = absurd (true≢false (sym h))
lower_other Greater h = absurd (true≢false (sym h))

higher_other : (o : Ordering) → is_gt o ≡ true → is_eq o ≡ false
higher_other Less h = absurd (true≢false (sym h))
higher_other Equal h = absurd (true≢false (sym h))
higher_other Greater h = refl

pub before_other : (p : Place) (t : Tuple) → is_before p t ≡ true → is_of p t ≡ false
before_other p t h = other_entity p (place_of 0 t) (lower_other (entity_cmp (place_of 0 t) p) h)

pub behind_other : (p : Place) (t : Tuple) → is_behind p t ≡ true → is_of p t ≡ false
behind_other p t h = other_entity p (place_of 0 t) (higher_other (entity_cmp (place_of 0 t) p) h)

tuples_append : (xs ys : List Entry) → tuples_of (xs ++ ys) ≡ tuples_of xs ++ tuples_of ys
tuples_append [] ys = refl
tuples_append (x ∷ xs) ys = ap (λ ts. tuple_at x.0 x.1 ∷ ts) (tuples_append xs ys)

module _ (p : Place) (es : List Entry) where
  the_tuples : (test : Tuple → Bool) → tuples_of (filter (λ e. test (tuple_at e.0 e.1)) es) ≡ filter test (tuples_of es)
  the_tuples test = map_filter (λ e. tuple_at e.0 e.1) test es

  tuples_in_three : AreByEntity es → tuples_of es ≡ filter (is_before p) (tuples_of es)
      ++ (filter (is_of p) (tuples_of es) ++ filter (is_behind p) (tuples_of es))
  tuples_in_three s =
      let before : List Entry = filter (λ e. is_lt (entity_cmp e.0 p)) es in
      let own : List Entry = filter (λ e. is_eq (entity_cmp e.0 p)) es in
      let behind : List Entry = filter (λ e. is_gt (entity_cmp e.0 p)) es in
      ap tuples_of (in_three p es s)
      ∙ tuples_append before (own ++ behind) ∙ ap (λ ts. tuples_of before ++ ts) (tuples_append own behind)
      ∙ (λ i. the_tuples (is_before p) i ++ ((ap tuples_of (filter_same (λ e. is_eq (entity_cmp e.0 p))
      (λ e. is_of p (tuple_at e.0 e.1)) (λ e. equal_of p e.0) es) ∙ the_tuples (is_of p)) i ++ the_tuples
      (is_behind p) i))

pub rows_in_three : (ls : Labels) (c : ℕ) (p : Place) (T : Table) → rows ls c T ≡ filter (is_before p) (rows ls c T)
    ++ (filter (is_of p) (rows ls c T) ++ filter (is_behind p) (rows ls c T))
unfolding rows
rows_in_three ls c p T =
    let es = entries (low ls c T) in
    tuples_in_three p (filter (is_max_among es) es)
    (entities_sorted (filter (is_max_among es) es) (sorted_filter (is_max_among es) es
    (so_true _ (entries_sorted (low ls c T)))))

-- ---- tables that agree outside of an entity

abbrev at_entity : (Place → Bool) → List Value → ℕ → Bool
at_entity test key key_class = test (record { key = key; key_class = key_class; class = 0 })

-- the rows of an entity are those of its tuples alone
pub own_rows : (ls : Labels) (c : ℕ) (p : Place) (T : Table) → rows ls c (of_entity p T) ≡ filter (is_of p)
    (rows ls c T)
own_rows ls c p T = rows_of_those ls c (at_entity (is_entity p)) T

same_those : (test : List Value → ℕ → Bool) (S T : Table) → ((q : Place) → test q.key q.key_class ≡ true
    → get S q ≡ get T q) → those test S ≡ those test T
same_those test S T h = same_table _ _ (λ q.
    get_kept S (λ r. test r.key r.key_class) q
    ∙ (elim (test q.key q.key_class) as (λ b. test q.key q.key_class ≡ b → cond b (get S q) None
    ≡ cond b (get T q) None) [
      | true ↦ λ t. h q t
      | false ↦ λ t. refl
    ] refl)
    ∙ sym (get_kept T (λ r. test r.key r.key_class) q))

module _ (ls : Labels) (c : ℕ) (p : Place) (S T : Table) (agree : AgreeOutside p S T) where
  -- the rows of entities that are others
  rows_stay : (test : List Value → ℕ → Bool) → ((q : Place) → test q.key q.key_class ≡ true → is_entity p q ≡ false)
      → filter (λ t. test t.key t.key_class) (rows ls c T) ≡ filter (λ t. test t.key t.key_class) (rows ls c S)
  rows_stay test apart =
      sym (rows_of_those ls c test T) ∙ ap (rows ls c) (sym (same_those test S T (λ q t. agree q (apart q t))))
      ∙ rows_of_those ls c test S

  pub others_stay : filter (λ t. not (is_of p t)) (rows ls c T) ≡ filter (λ t. not (is_of p t)) (rows ls c S)
  others_stay = rows_stay (at_entity (λ q. not (is_entity p q))) (λ q t. not_true (is_entity p q) t)
    where
      not_true : (b : Bool) → not b ≡ true → b ≡ false
      not_true true h = sym h
      not_true false h = refl

  rows_mended : rows ls c T ≡ mended p (rows ls c (of_entity p T)) (rows ls c S)
  rows_mended =
      rows_in_three ls c p T
      ∙ (λ i. rows_stay (at_entity (λ q. is_lt (entity_cmp q p)))
      (λ q t. other_entity p q (lower_other (entity_cmp q p) t)) i
      ++ (sym (own_rows ls c p T) i
      ++ rows_stay (at_entity (λ q. is_gt (entity_cmp q p)))
      (λ q t. other_entity p q (higher_other (entity_cmp q p) t)) i))
      ∙ sym (append_assoc (filter (is_before p) (rows ls c S)) (rows ls c (of_entity p T))
      (filter (is_behind p) (rows ls c S)))

pub views_are_mended : ViewsAreMended
views_are_mended = rows_mended
