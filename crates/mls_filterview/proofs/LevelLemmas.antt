-- The view at a level and the stored tuples of classes that it dominates determine each other.
use Rattle.std.proofs.Common.{◌≡◌, ℕ, ◌<◌, true, List, length, Option, Some, None, refl, sym, ap, ◌∙◌, subst, inl, inr, ◌↔◌}
use Rattle.std.specs.FinMap.{get}
use Rattle.std.proofs.lemmas.Option.{same_Some}
use Rattle.mls_lattice.specs.Labels.{Labels, label_of, below, AreDistinct}
use Rattle.mls_lattice.proofs.LatticeLemmas.{below-refl, below-antisym}
use Rattle.mls_scheme.specs.declared.tuple.Element.{Element}
use Rattle.mls_scheme.specs.declared.tuple.Tuple.{Tuple}
use Rattle.mls_scheme.specs.Tuple.{at, tuple_class}
use Rattle.mls_scheme.specs.Table.{Table, Has, IsIn, tuple_at, place_of}
use Rattle.mls_scheme.specs.declared.place.Place.{Place}
use Rattle.mls_filterview.specs.Subsumption.{Covers, Subsumes, IsMax}
use Rattle.mls_filterview.specs.View.{Filter, View, low}
use Rattle.mls_filterview.specs.Stored.{Occurs, IsStoredTuple, IsStored}
use Rattle.mls_filterview.specs.Laws.{ViewsAndLowAgree}
use Rattle.mls_filterview.proofs.LowLemmas.{same_low, from_low, to_low}
use Rattle.mls_filterview.proofs.SubsumptionLemmas.{no_value, same_tuple}
use Rattle.mls_filterview.proofs.ClassLemmas.{class_of_stored}
use Rattle.mls_filterview.proofs.ViewLemmas.{view-low, view_stored}
use Rattle.mls_filterview.proofs.IntegrityLemmas.{inter_instance_integrity}

-- X and Y have the same tuples
abbrev pub SameTuples : (Tuple → Type 0) → (Tuple → Type 0) → Type 0
SameTuples X Y = (t : Tuple) → X t ↔ Y t

pub max_of_same : (X Y : Tuple → Type 0) → SameTuples X Y → (t : Tuple) → IsMax X t → IsMax Y t
max_of_same X Y h t m = ((h t).0 m.0, λ s y k. m.1 s ((h s).1 y) k)

pub View-same : (ls : Labels) (c : ℕ) (X Y : Tuple → Type 0) → SameTuples X Y → SameTuples (View ls X c) (View ls Y c)
View-same ls c X Y h t = (
  max_of_same (Filter ls X c) (Filter ls Y c) both t,
  max_of_same (Filter ls Y c) (Filter ls X c) (λ u. ((both u).1, (both u).0)) t,
)
  where
    both : SameTuples (Filter ls X c) (Filter ls Y c)
    both u = ((λ f. (f.0, (h f.0).0 f.1, f.2, f.3)), (λ f. (f.0, (h f.0).1 f.1, f.2, f.3)))

module _ (ls : Labels) (distinct : AreDistinct ls) (n : ℕ) (T : Table) (stored : IsStored ls n T) where
  -- the class of a stored tuple is a class of what subsumes it
  class_occurs : (p q : Place) (es vs : List Element) → get T p ≡ Some es → get T q ≡ Some vs
      → Subsumes (tuple_at q vs) (tuple_at p es) → Occurs q vs p.class
  class_occurs p q es vs e f k = go (stored p es e).own
    where
      st : IsStoredTuple ls n T p es
      st = stored p es e

      covered : (i : ℕ) → i < length es → p.class ≡ (at es i).class → Covers (at vs i) (at es i) → Occurs q vs p.class
      covered i l o (inl c) = inr (i, subst (λ n. i < n) (sym k.count) l, o ∙ ap (λ x. x.class) (sym c))
      covered i l o (inr c) = inl (o ∙ st.null_at_key i l (no_value (at es i).value c.1) ∙ sym k.key_class)

      go : Occurs p es p.class → Occurs q vs p.class
      go (inl o) = inl (o ∙ sym k.key_class)
      go (inr o) = covered o.0 o.1 o.2 (k.each o.0 o.1)

  -- a stored tuple of no greater class that subsumes another one is it
  same_at_class : (m k : ℕ) (s t : Tuple) → Has T m s → Has T k t → below ls m k ≡ true → Subsumes s t → s ≡ t
  same_at_class m k s t h g b u =
      let p = place_of k t in
      let q = place_of m s in
      let st = stored q s.elements h in
      let o = class_occurs p q t.elements s.elements g h u in
      let e : m ≡ k = below-antisym ls distinct m k (st.declared m st.own) ((stored p t.elements g).declared k
      (stored p t.elements g).own) b (st.greatest k o) in
      same_tuple s t u.key u.key_class (same_Some s.elements t.elements
      (sym h ∙ (λ i. get T (record { key = u.key i; key_class = u.key_class i; class = e i })) ∙ g))

  -- so it stands in the view at its class
  in_own_view : (m : ℕ) (t : Tuple) → Has T m t → View ls (IsIn T) m t
  in_own_view m t h = (view-low ls n T stored m t).1 (
    (m, to_low ls m T t m h (below-refl ls m)),
    λ s i k. (let f = from_low ls m T s i.0 i.1 in same_at_class i.0 m s t f.0 h f.1 k),
  )

  -- and no other tuple of its class does
  of_class : (m : ℕ) (t : Tuple) → View ls (IsIn T) m t → tuple_class ls t ≡ label_of ls m → m < length ls → Has T m t
  of_class m t v e d =
      let w = view_stored ls n T stored m t v in
      let st = stored (place_of w.0 t) t.elements w.1 in
      let same : w.0 ≡ m = distinct w.0 m (st.declared w.0 st.own) d (sym (class_of_stored ls n T stored w.0 t w.1) ∙ e)
      in
      subst (λ k. Has T k t) same w.1

  -- the stored tuples of a class m that c dominates are those of that class in the view at m of the view at c
  pub stored-view : (c m : ℕ) (t : Tuple) → m < length ls → below ls m c ≡ true → Has T m t
      ↔ (View ls (View ls (IsIn T) c) m t × (tuple_class ls t ≡ label_of ls m))
  stored-view c m t d b =
      let between = inter_instance_integrity ls n T stored c m b t in (
        (λ h. (between.0 (in_own_view m t h), class_of_stored ls n T stored m t h)),
        (λ v. of_class m t (between.1 v.0) v.1 d),
      )

-- ---- two tables
one_way : (ls : Labels) (distinct : AreDistinct ls) (n m : ℕ) (S T : Table) → IsStored ls n S → IsStored ls m T
    → (c : ℕ)
    → SameTuples (View ls (IsIn S) c) (View ls (IsIn T) c) → (q : Place) (es : List Element) → below ls q.class c ≡ true
    → get S q ≡ Some es → get T q ≡ Some es
one_way ls distinct n m S T s t c h q es b e =
    let st = s q es e in
    let d = st.declared q.class st.own in
    let x = (stored-view ls distinct n S s c q.class (tuple_at q es) d b).0 e in
    (stored-view ls distinct m T t c q.class (tuple_at q es) d b).1
    ((View-same ls q.class (View ls (IsIn S) c) (View ls (IsIn T) c) h (tuple_at q es)).0 x.0, x.1)

-- equal views leave no hidden difference among the tuples of classes that c dominates
pub low_from_views : (ls : Labels) (distinct : AreDistinct ls) (n m : ℕ) (S T : Table) → IsStored ls n S
    → IsStored ls m T → (c : ℕ)
    → SameTuples (View ls (IsIn S) c) (View ls (IsIn T) c) → low ls c S ≡ low ls c T
low_from_views ls distinct n m S T s t c h = same_low ls c S T (λ q b. same q b (get S q) (get T q) refl refl)
  where
    same : (q : Place) → below ls q.class c ≡ true → (o p : Option (List Element)) → get S q ≡ o → get T q ≡ p
        → get S q ≡ get T q
    same q b None None d e = d ∙ sym e
    same q b None (Some es) d e = one_way ls distinct m n T S t s c (λ u. ((h u).1, (h u).0)) q es b e ∙ sym e
    same q b (Some es) p d e = d ∙ sym (one_way ls distinct n m S T s t c h q es b d)

pub views_from_low : (ls : Labels) (n m : ℕ) (S T : Table) → IsStored ls n S → IsStored ls m T → (c : ℕ)
    → low ls c S ≡ low ls c T → SameTuples (View ls (IsIn S) c) (View ls (IsIn T) c)
views_from_low ls n m S T s t c h u = (
  (λ v. (view-low ls m T t c u).1 (subst (λ L. IsMax (IsIn L) u) h ((view-low ls n S s c u).0 v))),
  (λ v. (view-low ls n S s c u).1 (subst (λ L. IsMax (IsIn L) u) (sym h) ((view-low ls m T t c u).0 v))),
)

pub views_and_low_agree : ViewsAndLowAgree
views_and_low_agree ls distinct n S T s t c = (
  low_from_views ls distinct n n S T s t c,
  views_from_low ls n n S T s t c,
)
