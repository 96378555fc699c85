-- A list whose rows keep all rules has the tuples of a table of the stored form, and the other way round.
use Rattle.std.proofs.Common.{◌≡◌, ℕ, zero, suc, ◌<◌, true, false, cond, List, [], ◌∷◌, length, Some, None, refl, sym, ap, ◌∙◌, subst, arith, inl, inr, ◌↔◌}
use Rattle.std.specs.Prelude.{⊤}
use Rattle.std.specs.List.{AllByRecursion}
use Rattle.std.specs.FinMap.{get, empty, insert, get-empty}
use Rattle.std.proofs.lemmas.Option.{same_Some, none-some}
use Rattle.std.proofs.lemmas.Slice.Zip.{AllZip-long}
use Rattle.mls_lattice.specs.Lattice.{Dominates}
use Rattle.mls_lattice.specs.Labels.{Labels, label_of, below, AreDistinct}
use Rattle.mls_lattice.proofs.LatticeLemmas.{below-refl, Dominates-antisym}
use Rattle.mls_scheme.specs.declared.tuple.Element.{Element}
use Rattle.mls_scheme.specs.declared.tuple.Tuple.{Tuple}
use Rattle.mls_scheme.specs.declared.place.Place.{Place}
use Rattle.mls_scheme.specs.Tuple.{at, tuple_class, HasClassesBelow}
use Rattle.mls_scheme.specs.Table.{place_cmp, Table, IsIn, place_of}
use Rattle.mls_scheme.specs.Scheme.{Scheme}
use Rattle.mls_scheme.specs.Fits.{Fits}
use Rattle.mls_scheme.proofs.OrderLemmas.{is_place, is_place-true, is_place-same}
use Rattle.mls_scheme.proofs.TableLemmas.{get_put}
use Rattle.mls_filterview.specs.declared.rule.Rule.{Rule}
use Rattle.mls_filterview.specs.declared.rule.Rule.TheVariants.{Entity, Null, Interval, Poly, Closure}
use Rattle.mls_filterview.specs.View.{IsAmong}
use Rattle.mls_filterview.specs.Stored.{with_class, AgreesBelow, IsStoredTuple, IsContent}
use Rattle.mls_filterview.specs.Filtering.{EachOnce, class_number}
use Rattle.mls_filterview.specs.Rules.{row_at, OccursIn, AreOfOneEntity, IsOfClass, IsFirstOfClass, HasBelow, IsClosed, Keeps, IsFirstBroken, IsStoredList}
use Rattle.mls_filterview.specs.Checking.{broken_rule}
use Rattle.mls_filterview.proofs.AmongLemmas.{all_at}
use Rattle.mls_filterview.proofs.ClassLemmas.{IsTop, class_top, join_of-first, join_of-each, join_of-least, below-Dominates, class_of_stored}
use Rattle.mls_filterview.proofs.SubsumptionLemmas.{same_tuple}
use Rattle.mls_filterview.proofs.RuleLemmas.{row-among, among-row, none_broken, one_broken}

-- ---- the class of a tuple whose classes are comparable

-- the tuple's class is that of its greatest class
class_is : (ls : Labels) (t : Tuple) (m : ℕ) → IsTop ls t.key_class t.elements m → tuple_class ls t ≡ label_of ls m
class_is ls t m top =
    Dominates-antisym (tuple_class ls t) (label_of ls m)
    (elim top.own [
      | inl e ↦ subst (λ k. Dominates (tuple_class ls t) (label_of ls k)) (sym e)
          (join_of-first ls (label_of ls t.key_class) t.elements)
      | inr e ↦ subst (λ k. Dominates (tuple_class ls t) (label_of ls k)) (sym e.2)
          (join_of-each ls (label_of ls t.key_class) t.elements e.0 e.1)
    ])
    (join_of-least ls (label_of ls t.key_class) (label_of ls m) t.elements (below-Dominates ls t.key_class m
    (top.greatest t.key_class (inl refl))) (λ i l. below-Dominates ls (at t.elements i).class m
    (top.greatest (at t.elements i).class (inr (i, l, refl)))))

-- ---- classes are declared

class_bound : (n : ℕ) (es : List Element) → AllByRecursion (λ e. e.class < n) es → (i : ℕ) → i < length es
    → (at es i).class < n
class_bound n [] h i l = absurd (omega arith)
class_bound n (e ∷ es) h zero l = h.0
class_bound n (e ∷ es) h (suc i) l = class_bound n es h.1 i (omega arith)

pub occurs_bound : (n : ℕ) (t : Tuple) → HasClassesBelow n t → (m : ℕ) → OccursIn t m → m < n
occurs_bound n t h m (inl e) = subst (λ x. x < n) (sym e) h.key_class
occurs_bound n t h m (inr o) = subst (λ x. x < n) (sym o.2) (class_bound n t.elements h.elements o.0 o.1)

-- ---- the table of a list of tuples

module _ (ls : Labels) where
  abbrev place : Tuple → Place
  place t = place_of (class_number ls t) t

  abbrev table_of : List Tuple → Table
  table_of [] = empty
  table_of (t ∷ ts) = insert (table_of ts) (place t) t.elements

  abbrev PlacesOnce : List Tuple → Type 0
  PlacesOnce [] = ⊤
  PlacesOnce (t ∷ ts) = ((s : Tuple) → IsAmong s ts → place t ≡ place s → ⊥) × PlacesOnce ts

  found-among : (ts : List Tuple) (p : Place) (es : List Element) → get (table_of ts) p ≡ Some es → (t : Tuple)
      × IsAmong t ts × (place t ≡ p) × (t.elements ≡ es)
  found-among [] p es h = absurd (none-some es (sym (get-empty place_cmp p) ∙ h))
  found-among (t ∷ ts) p es h =
      elim (is_place p (place t)) as (λ b. is_place p (place t) ≡ b → cond b (Some t.elements) (get (table_of ts) p)
      ≡ Some es → (s : Tuple) × IsAmong s (t ∷ ts) × (place s ≡ p) × (s.elements ≡ es)) [
        | true ↦ λ e k. (t, inl refl, sym (is_place-true p (place t) e), same_Some t.elements es k)
        | false ↦ λ e k. (let r = found-among ts p es k in (r.0, inr r.1, r.2, r.3))
      ] refl (sym (get_put (table_of ts) (place t) t.elements p) ∙ h)

  among-found : (ts : List Tuple) → PlacesOnce ts → (t : Tuple) → IsAmong t ts → get (table_of ts) (place t)
      ≡ Some t.elements
  among-found [] o t i = absurd i
  among-found (s ∷ ts) o t (inl e) =
      get_put (table_of ts) (place s) s.elements (place t)
      ∙ ap (λ b. cond b (Some s.elements) (get (table_of ts) (place t))) (is_place-same (place t) (place s)
      (ap place e))
      ∙ ap (λ (x : Tuple). Some x.elements) (sym e)
  among-found (s ∷ ts) o t (inr i) =
      elim (is_place (place t) (place s)) as (λ b. is_place (place t) (place s) ≡ b → get (table_of (s ∷ ts)) (place t)
      ≡ Some t.elements) [
        | true ↦ λ e. absurd (o.0 t i (sym (is_place-true (place t) (place s) e)))
        | false ↦ λ e.
            get_put (table_of ts) (place s) s.elements (place t)
            ∙ ap (λ b. cond b (Some s.elements) (get (table_of ts) (place t))) e
            ∙ among-found ts o.1 t i
      ] refl

  places_once : (ts : List Tuple) → ((i j : ℕ) → i < j → j < length ts → place (row_at ts i) ≡ place (row_at ts j) → ⊥)
      → PlacesOnce ts
  places_once [] h = tt
  places_once (t ∷ ts) h = (
    (λ s i e. let r = among-row ts s i in h 0 (suc r.0) (omega arith) (let l = r.1 in omega arith) (e ∙ ap place r.2)),
    places_once ts (λ i j l k e. h (suc i) (suc j) (omega arith) (omega arith) e),
  )

  each_once : (ts : List Tuple) → PlacesOnce ts → EachOnce ts
  unfolding EachOnce
  each_once [] o = tt
  each_once (t ∷ ts) o = ((λ i. o.0 t i refl), each_once ts o.1)

rows_once : (ts : List Tuple) → EachOnce ts → (i j : ℕ) → i < j → j < length ts → row_at ts i ≡ row_at ts j → ⊥
unfolding EachOnce
rows_once [] o i j l k e = absurd (omega arith)
rows_once (t ∷ ts) o i zero l k e = absurd (omega arith)
rows_once (t ∷ ts) o zero (suc j) l k e = o.0 (subst (λ x. IsAmong x ts) (sym e) (row-among ts j (omega arith)))
rows_once (t ∷ ts) o (suc i) (suc j) l k e = rows_once ts o.1 i j (omega arith) (omega arith) e

-- ---- rows that keep all rules

module _ (ls : Labels) (distinct : AreDistinct ls) (scheme : Scheme) (ts : List Tuple) (bounded : AllByRecursion
    (HasClassesBelow (length ls)) ts) where
  module _ (keep : (i : ℕ) → i < length ts → (r : Rule) → Keeps ls scheme ts i r) where
    -- what holds of each row holds of each tuple
    closed : (t : Tuple) → IsAmong t ts → IsClosed ls ts t
    closed t h = let r = among-row ts t h in subst (IsClosed ls ts) (sym r.2) (keep r.0 r.1 Closure)

    top : (t : Tuple) → IsAmong t ts → IsTop ls t.key_class t.elements (class_number ls t)
    top t h = class_top ls t (closed t h).comparable

    has_class : (t : Tuple) → IsAmong t ts → tuple_class ls t ≡ label_of ls (class_number ls t)
    has_class t h = class_is ls t (class_number ls t) (top t h)

    declared : (t : Tuple) → IsAmong t ts → (m : ℕ) → OccursIn t m → m < length ls
    declared t h m o = occurs_bound (length ls) t (all_at (HasClassesBelow (length ls)) ts bounded t h) m o

    once : PlacesOnce ls ts
    once = places_once ls ts (λ i j l k e.
        let x = row-among ts i (omega arith) in
        let y = row-among ts j k in
        (keep j k Poly).alone i l (ap (λ (p : Place). p.key) e, ap (λ (p : Place). p.key_class) e)
        (has_class (row_at ts i) x ∙ ap (λ (p : Place). label_of ls p.class) e ∙ sym (has_class (row_at ts j) y)))

    abbrev T : Table
    T = table_of ls ts

    members : (t : Tuple) → IsAmong t ts ↔ IsIn T t
    members t = (
      (λ h. (class_number ls t, among-found ls ts once t h)),
      (λ h.
          let r = found-among ls ts (place_of h.0 t) t.elements h.1 in
          subst (λ x. IsAmong x ts) (same_tuple r.0 t (ap (λ (p : Place). p.key) r.2)
          (ap (λ (p : Place). p.key_class) r.2) r.3) r.1),
    )

    closed_at : (t : Tuple) → IsAmong t ts → (m : ℕ) → OccursIn t m → (fs : List Element)
        × (get T (with_class (place ls t) m) ≡ Some fs) × AgreesBelow ls m t.elements fs
    closed_at t h m o =
        let c = (closed t h).each m o in
        let s = c.0 in
        let k : class_number ls s ≡ m = distinct (class_number ls s) m (declared s c.1 (class_number ls s)
        (top s c.1).own) (declared t h m o) (sym (has_class s c.1) ∙ c.2.1) in
        let p : place ls s ≡ with_class (place ls t) m = λ i. record {
          key = c.2.0.0 i;
          key_class = c.2.0.1 i;
          class =
              k i;
        } in (
          s.elements,
          sym (ap (get T) p) ∙ among-found ls ts once s c.1,
          agrees (among-row ts t h)
              (among-row ts s c.1) c.2,
        )
      where
        agrees : {s : Tuple} → (i : ℕ) × (i < length ts) × (t ≡ row_at ts i) → (j : ℕ) × (j < length ts)
            × (s ≡ row_at ts j) → IsOfClass ls s t m → AgreesBelow ls m t.elements s.elements
        agrees {s = s} (i, l, e) (j, k, q) is x b d = (has x b d).1
          where
            first : IsFirstOfClass ls ts t m j
            first = record {
              within = k;
              here = subst (λ x. IsOfClass ls x t m) q is;
              none_before = λ a b g.
                  (keep j k Poly).alone a b (
                    g.0.0 ∙ sym is.0.0 ∙ ap (λ (x : Tuple). x.key) q,
                    g.0.1 ∙ sym is.0.1
                        ∙ ap (λ (x : Tuple). x.key_class) q,
                  )
                  (g.1 ∙ sym is.1 ∙ ap (tuple_class ls) q);
            }

            at_row : HasBelow ls m (row_at ts i).elements (row_at ts j).elements
            at_row = (keep i l Poly).agrees m j (subst (λ x. OccursIn x m) e o)
                (subst (λ x. IsFirstOfClass ls ts x m j) e first)

            has : HasBelow ls m t.elements s.elements
            has = subst (λ x. HasBelow ls m x s.elements) (sym (ap (λ (x : Tuple). x.elements) e))
                (subst (λ x. HasBelow ls m (row_at ts i).elements x) (sym (ap (λ (x : Tuple). x.elements) q)) at_row)

    fits_at : (t : Tuple) → IsAmong t ts → Fits ls scheme (place_of 0 t) t.elements
    fits_at t h = let r = among-row ts t h in subst (λ (x : Tuple). Fits ls scheme (place_of 0 x) x.elements) (sym r.2)
        (keep r.0 r.1 Interval)

    above_at : (t : Tuple) → IsAmong t ts → (k : ℕ) → k < length t.elements
        → below ls t.key_class (at t.elements k).class ≡ true
    above_at t h = let r = among-row ts t h in subst (λ (x : Tuple). (k : ℕ) → k < length x.elements
        → below ls x.key_class (at x.elements k).class ≡ true) (sym r.2) (keep r.0 r.1 Entity)

    nulls_at : (t : Tuple) → IsAmong t ts → (k : ℕ) → k < length t.elements → (at t.elements k).value ≡ None
        → (at t.elements k).class ≡ t.key_class
    nulls_at t h = let r = among-row ts t h in subst (λ (x : Tuple). (k : ℕ) → k < length x.elements
        → (at x.elements k).value ≡ None → (at x.elements k).class ≡ x.key_class) (sym r.2) (keep r.0 r.1 Null)

    above_key : (t : Tuple) → IsAmong t ts → (m : ℕ) → OccursIn t m → below ls t.key_class m ≡ true
    above_key t h m (inl e) = ap (below ls t.key_class) e ∙ below-refl ls t.key_class
    above_key t h m (inr o) = ap (below ls t.key_class) o.2 ∙ above_at t h o.0 o.1

    stored_tuple : (t : Tuple) → IsAmong t ts → IsStoredTuple ls (length scheme.others) T (place ls t) t.elements
    stored_tuple t h = record {
      count = AllZip-long _ scheme.others t.elements (fits_at t h).others;
      declared = declared t h;
      above_key = above_key t h;
      null_at_key = nulls_at t h;
      comparable = (closed t h).comparable;
      greatest = (top t h).greatest;
      own = (top t h).own;
      closed = closed_at t h;
    }

    content : IsContent ls scheme T
    content = record {
      stored = λ p es h.
          let r = found-among ls ts p es h in
          subst (λ (e : Place × List Element). IsStoredTuple ls (length scheme.others) T e.0 e.1) (λ i. (r.2 i, r.3 i))
          (stored_tuple r.0 r.1);
      fits = λ p es h.
          let r = found-among ls ts p es h in
          let f = fits_at r.0 r.1 in
          subst (λ (e : Place × List Element). Fits ls scheme e.0 e.1) (λ i. (r.2 i, r.3 i))
          (record { key = f.key; others = f.others });
    }

    stored_list : IsStoredList ls scheme ts
    stored_list = (each_once ls ts once, (T, members, content))

  -- ---- lists of the stored form

  module _ (stored : IsStoredList ls scheme ts) where
    abbrev S : Table
    S = stored.1.0

    in_table : (t : Tuple) → IsAmong t ts → IsIn S t
    in_table t h = (stored.1.1 t).0 h

    row_stored : (t : Tuple) (i : IsIn S t) → IsStoredTuple ls (length scheme.others) S (place_of i.0 t) t.elements
    row_stored t i = stored.1.2.stored (place_of i.0 t) t.elements i.1

    class_at : (t : Tuple) (i : IsIn S t) → tuple_class ls t ≡ label_of ls i.0
    class_at t i = class_of_stored ls (length scheme.others) S stored.1.2.stored i.0 t i.1

    -- a tuple of the entity of t stands at the place of its class
    at_place : (s t : Tuple) (i : IsIn S s) (m : ℕ) → m < length ls → AreOfOneEntity s t → tuple_class ls s
        ≡ label_of ls m → get S (place_of m t) ≡ Some s.elements
    at_place s t i m l e c =
        let st = row_stored s i in
        let k : i.0 ≡ m = distinct i.0 m (st.declared i.0 st.own) l (sym (class_at s i) ∙ c) in
        sym (ap (get S) (λ j. record { key = e.0 j; key_class = e.1 j; class = k j })) ∙ i.1

    module _ (i : ℕ) (l : i < length ts) where
      abbrev t : Tuple
      t = row_at ts i

      abbrev in_here : IsIn S t
      in_here = in_table t (row-among ts i l)

      abbrev st : IsStoredTuple ls (length scheme.others) S (place_of in_here.0 t) t.elements
      st = row_stored t in_here

      alone : (j : ℕ) → j < i → AreOfOneEntity (row_at ts j) t → tuple_class ls (row_at ts j) ≡ tuple_class ls t → ⊥
      alone j k e c =
          let s = row_at ts j in
          let g = at_place s t (in_table s (row-among ts j (omega arith))) in_here.0 (st.declared in_here.0 st.own) e
          (c ∙ class_at t in_here) in
          rows_once ts stored.0 j i k l (same_tuple s t e.0 e.1 (same_Some s.elements t.elements (sym g ∙ in_here.1)))

      agrees : (m j : ℕ) → OccursIn t m → IsFirstOfClass ls ts t m j → HasBelow ls m t.elements (row_at ts j).elements
      agrees m j o f k b d =
          let s = row_at ts j in
          let c = st.closed m o in
          let in_s = in_table s (row-among ts j f.within) in
          let g = at_place s t in_s m (st.declared m o) f.here.0 f.here.1 in
          let e : c.0 ≡ s.elements = same_Some c.0 s.elements (sym c.1 ∙ g) in
          let n : length s.elements ≡ length t.elements = (row_stored s in_s).count ∙ sym st.count in
          (subst (λ x. k < x) (sym n) b, sym (ap (λ x. at x k) e) ∙ c.2 k b d)

      each : (m : ℕ) → OccursIn t m → (s : Tuple) × IsAmong s ts × IsOfClass ls s t m
      each m o =
          let c = st.closed m o in
          let s : Tuple = record { key = t.key; key_class = t.key_class; elements = c.0 } in
          (s, (stored.1.1 s).1 (m, c.1), ((refl, refl), class_at s (m, c.1)))

      keeps : (r : Rule) → Keeps ls scheme ts i r
      keeps Entity = λ k b. st.above_key (at t.elements k).class (inr (k, b, refl))
      keeps Null = st.null_at_key
      keeps Interval = let f = stored.1.2.fits (place_of in_here.0 t) t.elements in_here.1
          in record { key = f.key; others = f.others }
      keeps Poly = record { alone = alone; agrees = agrees }
      keeps Closure = record { comparable = st.comparable; each = each }

  -- ---- what the first row says that breaks a rule

  pub all_unbroken : ((j : ℕ) → j < length ts → broken_rule ls scheme ts j ≡ None) → IsStoredList ls scheme ts
  all_unbroken h = stored_list (λ j l. none_broken ls scheme ts j l (h j l))

  pub first_broken : (i : ℕ) (r : Rule) → i < length ts → ((j : ℕ) → j < i → broken_rule ls scheme ts j ≡ None)
      → broken_rule ls scheme ts i ≡ Some r → IsFirstBroken ls scheme ts i r
  first_broken i r l h e =
      let b = one_broken ls scheme ts i l r e in
      record {
        within = l;
        breaks = b.0;
        rules_before = b.1;
        rows_before = λ j k. none_broken ls scheme ts j
            (omega arith) (h j k);
      }

  pub not_stored : (i : ℕ) (r : Rule) → IsFirstBroken ls scheme ts i r → IsStoredList ls scheme ts → ⊥
  not_stored i r b stored = b.breaks (keeps stored i b.within r)
