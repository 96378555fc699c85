-- Tuples dropped one after another, the higher ones first.
use Rattle.std.proofs.Common.{◌≡◌, ℕ, ◌<◌, true, false, cond, not, ◌+◌, List, [], ◌∷◌, length, drop, get_or, Option, Some, None, refl, sym, ap, ◌∙◌, subst, inl, inr, ◌≢◌, true≢false}
use Rattle.std.specs.List.{AllByRecursion}
use Rattle.std.specs.FinMap.{get, remove, get-remove, retain_keys}
use Rattle.std.proofs.lemmas.Bool.{cases_Bool, cond-true, cond-false, and_parts, and_from, false_from_ne_true}
use Rattle.std.proofs.lemmas.List.{drop_more}
use Rattle.std.proofs.lemmas.Option.{none-some}
use Rattle.mls_lattice.specs.Labels.{Labels, below}
use Rattle.mls_lattice.proofs.LatticeLemmas.{below-trans}
use Rattle.mls_scheme.specs.declared.tuple.Element.{Element}
use Rattle.mls_scheme.specs.Tuple.{at}
use Rattle.mls_scheme.specs.Table.{Table}
use Rattle.mls_scheme.specs.declared.place.Place.{Place}
use Rattle.mls_scheme.proofs.OrderLemmas.{place_total, is_place, is_place-true, is_place-same}
use Rattle.mls_scheme.proofs.TableLemmas.{same_table, get_kept}
use Rattle.mls_filterview.specs.Stored.{with_class, is_entity, IsStored}
use Rattle.mls_filterview.specs.View.{IsAmong}
use Rattle.mls_filterview.specs.Fragment.{IsAlone}
use Rattle.mls_filterview.proofs.EntityTests.{entity_decides}
use Rattle.mls_filterview.proofs.AmongLemmas.{all_at}
use Rattle.mls_updates.specs.Writes.{is_above}
use Rattle.mls_updates.specs.Steps.{drop_each, AreAlone, AreDownwards, AreAbove}

-- ---- a tuple less

pub get_removed : (T : Table) (p q : Place) → q ≡ p → get (remove T p) q ≡ None
get_removed T p q e = get-remove place_total T p q ∙ cond-true _ _ _ (is_place-same q p e)

pub get_left : (T : Table) (p q : Place) → (q ≡ p → ⊥) → get (remove T p) q ≡ get T q
get_left T p q ne = get-remove place_total T p q ∙ cond-false _ _ _ (false_from_ne_true (is_place q p)
    (λ b. ne (is_place-true q p b)))

pub left_cases : (T : Table) (p q : Place) (es : List Element) → get (remove T p) q ≡ Some es → (q ≡ p → ⊥)
    × (get T q ≡ Some es)
left_cases T p q es h =
    let ne : q ≡ p → ⊥ = λ e. none-some es (sym (get_removed T p q e) ∙ h) in
    (ne, sym (get_left T p q ne) ∙ h)

-- a place of the entity of p is known by its class
pub of_entity : (p q : Place) → is_entity p q ≡ true → q ≡ with_class p q.class
of_entity p q h = let d = (entity_decides p q).0 h in λ i. record {
  key = sym d.0 i;
  key_class = sym d.1 i;
  class =
      q.class;
}

entity_of : (p q : Place) (m : ℕ) → q ≡ with_class p m → is_entity p q ≡ true
entity_of p q m e = (entity_decides p q).1 (sym (ap (λ r. r.key) e), sym (ap (λ r. r.key_class) e))

module _ (p : Place) where
  none_stays : (ms : List ℕ) (T : Table) (q : Place) → get T q ≡ None → get (drop_each p ms T) q ≡ None
  none_stays [] T q h = h
  none_stays (m ∷ ms) T q h = none_stays ms (remove T (with_class p m)) q
      (elim (cases_Bool (is_place q (with_class p m))) [
        | inl b ↦ get_removed T (with_class p m) q (is_place-true q (with_class p m) b)
        | inr b ↦ get_left T (with_class p m) q (λ e. true≢false (sym (is_place-same q (with_class p m) e) ∙ b)) ∙ h
      ])

  dropped : (ms : List ℕ) (T : Table) (q : Place) → is_entity p q ≡ true → IsAmong q.class ms → get (drop_each p ms T) q
      ≡ None
  dropped [] T q e h = absurd h
  dropped (m ∷ ms) T q e (inl same) = none_stays ms (remove T (with_class p m)) q (get_removed T (with_class p m) q
      (of_entity p q e ∙ ap (with_class p) same))
  dropped (m ∷ ms) T q e (inr h) = dropped ms (remove T (with_class p m)) q e h

  stays : (ms : List ℕ) (T : Table) (q : Place) → (is_entity p q ≡ true → IsAmong q.class ms → ⊥)
      → get (drop_each p ms T) q ≡ get T q
  stays [] T q out = refl
  stays (m ∷ ms) T q out =
      stays ms (remove T (with_class p m)) q (λ e h. out e (inr h))
      ∙ get_left T (with_class p m) q (λ e. out (entity_of p q m e) (inl (ap (λ r. r.class) e)))

  module _ (ls : Labels) where
    -- the classes of a tuple's elements are dominated by that of the tuple
    abbrev AllTop : Table → Type 0
    AllTop T = (q : Place) (es : List Element) → get T q ≡ Some es → (i : ℕ) → i < length es
        → below ls (at es i).class q.class ≡ true

    -- the tuples of the entity of classes that dominate that of p have their classes in a list
    abbrev AllIn : List ℕ → Table → Type 0
    AllIn ms T = (q : Place) (es : List Element) → get T q ≡ Some es → is_entity p q ≡ true → below ls p.class q.class
        ≡ true → IsAmong q.class ms

    alone : (ms : List ℕ) (T : Table) → AreDownwards ls ms → AllByRecursion (λ m. below ls p.class m ≡ true) ms
        → AllTop T → AllIn ms T → AreAlone p ms T
    alone [] T d a top in' = tt
    alone (m ∷ ms) T d a top in' = (
      (λ q es g e ne i l same.
          let up : below ls m q.class ≡ true = subst (λ k. below ls k q.class ≡ true) same (top q es g i l) in
          later q ne up (in' q es g ((entity_decides p q).1 ((entity_decides (with_class p m) q).0 e))
          (below-trans ls p.class m q.class a.0 up))),
      alone ms (remove T (with_class p m)) d.1 a.1
          (λ q es g. top q es (left_cases T (with_class p m) q es g).1)
          (λ q es g e b. (let old = left_cases T (with_class p m) q es g in
          rest q (λ same. old.0 (of_entity p q e ∙ ap (with_class p) same)) (in' q es old.1 e b))),
    )
      where
        later : (q : Place) → q.class ≢ m → below ls m q.class ≡ true → IsAmong q.class (m ∷ ms) → ⊥
        later q ne up (inl same) = ne same
        later q ne up (inr h) = true≢false (sym up ∙ all_at (λ k. below ls m k ≡ false) ms d.0 q.class h)

        rest : (q : Place) → (q.class ≡ m → ⊥) → IsAmong q.class (m ∷ ms) → IsAmong q.class ms
        rest q ne (inl same) = absurd (ne same)
        rest q ne (inr h) = h

    -- without these tuples the table is as the delete says
    without : (ms : List ℕ) (T : Table) → AllByRecursion (λ m. below ls p.class m ≡ true) ms → AllIn ms T
        → drop_each p ms T ≡ retain_keys T (λ q. not (is_above ls p q))
    without ms T a in' = same_table _ _ (λ q. by_place q ∙ sym (get_kept T (λ q. not (is_above ls p q)) q))
      where
        by_look : (q : Place) → is_above ls p q ≡ true → (o : Option (List Element)) → get T q ≡ o
            → get (drop_each p ms T) q ≡ None
        by_look q b None g = none_stays ms T q g
        by_look q b (Some es) g = let c = and_parts (is_entity p q) (below ls p.class q.class) b
            in dropped ms T q c.0 (in' q es g c.0 c.1)

        by_place : (q : Place) → get (drop_each p ms T) q ≡ cond (not (is_above ls p q)) (get T q) None
        by_place q = elim (cases_Bool (is_above ls p q)) [
          | inl b ↦ by_look q b (get T q) refl ∙ sym (ap (λ x. cond (not x) (get T q) None) b)
          | inr b ↦ stays ms T q (λ e h. true≢false (sym (and_from (is_entity p q) (below ls p.class q.class) e
              (all_at (λ m. below ls p.class m ≡ true) ms a q.class h)) ∙ b))
              ∙ sym (ap (λ x. cond (not x) (get T q) None) b)
        ]

-- so of the labels that dominate the class of p, the higher ones first
module _ (ls : Labels) (n : ℕ) (T : Table) (stored : IsStored ls n T) (p : Place) (ms : List ℕ)
    (above : AreAbove ls p.class ms) where
  tops : AllTop p ls T
  tops q es g i l = (stored q es g).greatest (at es i).class (inr (i, l, refl))

  ins : AllIn p ls ms T
  ins q es g e b = above.all q.class ((stored q es g).declared q.class (stored q es g).own) b

  pub dropped_alone : AreAlone p ms T
  dropped_alone = alone p ls ms T above.downwards above.above tops ins

  pub dropped_all : drop_each p ms T ≡ retain_keys T (λ q. not (is_above ls p q))
  dropped_all = without p ls ms T above.above ins

-- ---- one after another

-- the next tuple to drop, at a place that has the key, the key class and this class
module _ (p q : Place) (ms : List ℕ) (i d : ℕ) (within : i < length ms) (key : q.key ≡ p.key) (key_class : q.key_class
    ≡ p.key_class) (class : q.class ≡ get_or ms i d) where
  here : q ≡ with_class p (get_or ms i d)
  here = λ j. record { key = key j; key_class = key_class j; class = class j }

  pub drop_next : (T : Table) → drop_each p (drop i ms) T ≡ drop_each p (drop (i + 1) ms) (remove T q)
  drop_next T = ap (λ ks. drop_each p ks T) (drop_more ms i d within) ∙ ap (λ r. drop_each p (drop (i + 1) ms)
      (remove T r)) (sym here)

  pub alone_now : (T : Table) → AreAlone p (drop i ms) T → IsAlone T q
  alone_now T h = subst (IsAlone T) (sym here) (subst (λ ks. AreAlone p ks T) (drop_more ms i d within) h).0

  pub alone_next : (T U : Table) → U ≡ remove T q → AreAlone p (drop i ms) T → AreAlone p (drop (i + 1) ms) U
  alone_next T U e h =
      subst (AreAlone p (drop (i + 1) ms)) (ap (remove T) (sym here) ∙ sym e) (subst (λ ks. AreAlone p ks T)
      (drop_more ms i d within) h).1
