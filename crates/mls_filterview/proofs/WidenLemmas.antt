-- What is seen of widened tuples is what is seen of the tuples, widened.
use Rattle.std.proofs.Common.{◌≡◌, ℕ, zero, suc, ◌+◌, ◌-◌, ◌<◌, ◌≤◌, true, false, cond, List, ◌∷◌, ◌++◌, length, map, Option, Some, None, refl, sym, ap, ◌∙◌, subst, arith, inl, inr, ◌↔◌, option_map, length-append, get_or-append-add}
use Rattle.std.specs.FinMap.{get}
use Rattle.std.proofs.lemmas.Bool.{cases_lt}
use Rattle.std.proofs.lemmas.Option.{none-some, same_Some}
use Rattle.std.proofs.lemmas.List.{map-append, length-replicate, append_cancel_right, get_or_append_left, get_or-replicate}
use Rattle.mls_lattice.specs.Labels.{Labels, below}
use Rattle.mls_scheme.specs.declared.tuple.Element.{Element}
use Rattle.mls_scheme.specs.declared.tuple.Tuple.{Tuple}
use Rattle.mls_scheme.specs.declared.place.Place.{Place}
use Rattle.mls_scheme.specs.Tuple.{at, null_element}
use Rattle.mls_scheme.specs.Table.{Table, IsIn, tuple_at, place_of}
use Rattle.mls_filterview.specs.Subsumption.{Covers, Subsumes, IsMax}
use Rattle.mls_filterview.specs.View.{hide, filtered, Filter, View}
use Rattle.mls_filterview.specs.Widen.{nulls, widened, Widen, IsWidened, ViewOfWidened, ViewOfWidenedTable}
use Rattle.mls_filterview.proofs.SubsumptionLemmas.{same_tuple}
use Rattle.mls_filterview.proofs.LevelLemmas.{SameTuples, max_of_same, View-same}

-- ---- the elements of a widened tuple

abbrev pub null_of : ℕ → Element
null_of m = record { value = None; class = m }

pub length-widened : (n m : ℕ) (es : List Element) → length (es ++ nulls n m) ≡ length es + n
length-widened n m es = length-append es (nulls n m) ∙ ap (λ k. length es + k) (length-replicate n (null_of m))

pub at_first : (n m : ℕ) (es : List Element) (i : ℕ) → i < length es → at (es ++ nulls n m) i ≡ at es i
at_first n m es i l = get_or_append_left es (nulls n m) null_element i l

pub at_null : (n m : ℕ) (es : List Element) (i : ℕ) → length es ≤ i → i < length (es ++ nulls n m)
    → at (es ++ nulls n m) i ≡ null_of m
at_null n m es i from to =
    let j : ℕ = i - length es in
    let same : i ≡ length es + j = omega arith in
    ap (λ k. at (es ++ nulls n m) k) same ∙ get_or-append-add es (nulls n m) j null_element
    ∙ get_or-replicate n j (null_of m) null_element (omega (arith, length-widened n m es))

pub widened-injective : (n : ℕ) (s t : Tuple) → widened n s ≡ widened n t → s ≡ t
widened-injective n s t e =
    let k : s.key_class ≡ t.key_class = ap (λ (x : Tuple). x.key_class) e in
    same_tuple s t (ap (λ (x : Tuple). x.key) e) k
    (append_cancel_right s.elements t.elements (nulls n t.key_class) (ap (λ m. s.elements ++ nulls n m) (sym k)
    ∙ ap (λ (x : Tuple). x.elements) e))

-- ---- filtering

null_hidden : (ls : Labels) (c m : ℕ) → hide ls c m (null_of m) ≡ null_of m
null_hidden ls c m = elim (below ls m c) as (λ b. cond b (null_of m) (null_of m)
    ≡ null_of m) [ true ↦ refl | false ↦ refl ]

nulls_hidden : (ls : Labels) (c m n : ℕ) → map (hide ls c m) (nulls n m) ≡ nulls n m
nulls_hidden ls c m zero = refl
nulls_hidden ls c m (suc n) = λ i. null_hidden ls c m i ∷ nulls_hidden ls c m n i

filtered-widened : (ls : Labels) (c n : ℕ) (t : Tuple) → filtered ls c (widened n t) ≡ widened n (filtered ls c t)
filtered-widened ls c n t =
    same_tuple (filtered ls c (widened n t)) (widened n (filtered ls c t)) refl refl
    (map-append (hide ls c t.key_class) t.elements (nulls n t.key_class)
    ∙ ap (λ es. map (hide ls c t.key_class) t.elements ++ es) (nulls_hidden ls c t.key_class n))

-- ---- subsumption

Subsumes-widened : (n : ℕ) (s t : Tuple) → Subsumes s t → Subsumes (widened n s) (widened n t)
Subsumes-widened n s t h = record { key = h.key; key_class = h.key_class; count = count; each = each }
  where
    count : length (s.elements ++ nulls n s.key_class) ≡ length (t.elements ++ nulls n t.key_class)
    count = length-widened n s.key_class s.elements ∙ ap (λ k. k + n) h.count
        ∙ sym (length-widened n t.key_class t.elements)

    each : (i : ℕ) → i < length (t.elements ++ nulls n t.key_class) → Covers (at (s.elements ++ nulls n s.key_class) i)
        (at (t.elements ++ nulls n t.key_class) i)
    each i l =
        elim (cases_lt i (length t.elements)) [
          | inl a ↦
              (let a' : i < length s.elements = subst (λ k. i < k) (sym h.count) a in
              subst (λ x. Covers x (at (t.elements ++ nulls n t.key_class) i))
              (sym (at_first n s.key_class s.elements i a'))
              (subst (λ x. Covers (at s.elements i) x) (sym (at_first n t.key_class t.elements i a)) (h.each i a)))
          | inr b ↦
              inl
              (at_null n s.key_class s.elements i (subst (λ k. k ≤ i) (sym h.count) b)
              (subst (λ k. i < k) (sym count) l)
              ∙ ap null_of h.key_class ∙ sym (at_null n t.key_class t.elements i b l))
        ]

Subsumes-narrowed : (n : ℕ) (s t : Tuple) → Subsumes (widened n s) (widened n t) → Subsumes s t
Subsumes-narrowed n s t h = record { key = h.key; key_class = h.key_class; count = count; each = each }
  where
    count : length s.elements ≡ length t.elements
    count = omega (arith, length-widened n s.key_class s.elements, length-widened n t.key_class t.elements, h.count)

    each : (i : ℕ) → i < length t.elements → Covers (at s.elements i) (at t.elements i)
    each i a =
        let a' : i < length s.elements = subst (λ k. i < k) (sym count) a in
        let l : i < length (t.elements ++ nulls n t.key_class) = omega (arith, length-widened n t.key_class t.elements)
        in
        subst (λ x. Covers x (at t.elements i)) (at_first n s.key_class s.elements i a')
        (subst (λ x. Covers (at (s.elements ++ nulls n s.key_class) i) x) (at_first n t.key_class t.elements i a)
        (h.each i l))

-- ---- views

filter-widened : (ls : Labels) (n : ℕ) (X : Tuple → Type 0) (c : ℕ) → SameTuples (Filter ls (Widen n X) c)
    (Widen n (Filter ls X c))
filter-widened ls n X c t = (
  (λ f.
      let u = f.1.0 in
      let same = f.1.2 in (
        filtered ls c u,
        (u, f.1.1, subst (λ (x : Tuple). below ls x.key_class c ≡ true) same f.2, refl),
        f.3 ∙ ap (filtered ls c) same ∙ filtered-widened ls c n u,
      )),
  (λ w.
      let u = w.1.0 in
      (widened n u, (u, w.1.1, refl), w.1.2, w.2 ∙ ap (widened n) w.1.3 ∙ sym (filtered-widened ls c n u))),
)

max-widened : (n : ℕ) (Y : Tuple → Type 0) (t : Tuple) → IsMax (Widen n Y) t ↔ Widen n (IsMax Y) t
max-widened n Y t = (
  (λ m.
      let u = m.0.0 in
      let e : t ≡ widened n u = m.0.2 in (
        u,
        (
          m.0.1,
          λ s y k. widened-injective n s u (m.1 (widened n s) (s, y, refl) (subst (Subsumes (widened n s))
              (sym e) (Subsumes-widened n s u k)) ∙ e),
        ),
        e,
      )),
  (λ w.
      let u = w.0 in
      let e : t ≡ widened n u = w.2 in (
        (u, w.1.0, e),
        λ s y k.
            let v = y.0 in
            let q : s ≡ widened n v = y.2 in
            q ∙ ap (widened n) (w.1.1 v y.1 (Subsumes-narrowed n v u (subst (λ x. Subsumes x (widened n u)) q
            (subst (Subsumes s) e k)))) ∙ sym e,
      )),
)

-- it holds of any tuples
pub View-Widen : (ls : Labels) (n : ℕ) (X : Tuple → Type 0) (c : ℕ) → SameTuples (View ls (Widen n X) c)
    (Widen n (View ls X c))
View-Widen ls n X c t = (
  (λ v. (max-widened n (Filter ls X c) t).0 (max_of_same (Filter ls (Widen n X) c) (Widen n (Filter ls X c))
      (filter-widened ls n X c) t v)),
  (λ w.
      max_of_same (Widen n (Filter ls X c)) (Filter ls (Widen n X) c) (λ u. (
        (filter-widened ls n X c u).1,
        (filter-widened ls n X c u).0,
      )) t
      ((max-widened n (Filter ls X c) t).1 w)),
)

pub view_of_widened : ViewOfWidened
view_of_widened ls n T = View-Widen ls n (IsIn T)

-- ---- tables

module _ (n : ℕ) (T W : Table) (wide : IsWidened n T W) where
  pub widened_at : (p : Place) (es : List Element) → get T p ≡ Some es → get W p ≡ Some (es ++ nulls n p.key_class)
  widened_at p es h = wide p ∙ ap (option_map (λ xs. xs ++ nulls n p.key_class)) h

  -- where the widened table has elements, the table had their first ones
  pub was_at : (p : Place) (ws : List Element) → get W p ≡ Some ws → (es : List Element) × (get T p ≡ Some es)
      × (ws ≡ es ++ nulls n p.key_class)
  was_at p ws h = cases (get T p) refl
    where
      cases : (o : Option (List Element)) → get T p ≡ o → (es : List Element) × (get T p ≡ Some es)
          × (ws ≡ es ++ nulls n p.key_class)
      cases None e = absurd (none-some ws (sym (ap (option_map (λ xs. xs ++ nulls n p.key_class)) e) ∙ sym (wide p)
          ∙ h))
      cases (Some es) e = (es, e, same_Some ws (es ++ nulls n p.key_class) (sym h ∙ widened_at p es e))

  in_widened : SameTuples (IsIn W) (Widen n (IsIn T))
  in_widened t = (
    (λ h.
        let p = place_of h.0 t in
        let w = was_at p t.elements h.1 in
        let s : Tuple = tuple_at p w.0 in
        (s, (h.0, w.1), same_tuple t (widened n s) refl refl w.2)),
    (λ h. subst (IsIn W) (sym h.2) (h.1.0, widened_at (place_of h.1.0 h.0) h.0.elements h.1.1)),
  )

pub view_of_widened_table : ViewOfWidenedTable
view_of_widened_table ls n T W wide c t =
    let same = View-same ls c (IsIn W) (Widen n (IsIn T)) (in_widened n T W wide) t in
    let law = View-Widen ls n (IsIn T) c t in
    ((λ v. law.0 (same.0 v)), (λ v. same.1 (law.1 v)))
