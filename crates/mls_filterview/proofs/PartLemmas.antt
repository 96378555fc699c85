-- The parts of one entity, put together.
use Rattle.std.proofs.Common.{◌≡◌, ◌+◌, ◌<◌, ℕ, Bool, true, false, cond, List, ◌++◌, length, map, Some, None, refl, sym, ap, subst, ◌∙◌, inl, inr, arith, ◌&&◌, ◌↔◌, ◌⊎◌, true≢false}
use Rattle.std.specs.FinMap.{get, entries, retain_keys}
use Rattle.std.proofs.lemmas.Bool.{and_from, cases_lt}
use Rattle.std.proofs.lemmas.Option.{none-some}
use Rattle.mls_lattice.specs.Labels.{Labels, below}
use Rattle.mls_scheme.specs.declared.value.Value.{Value}
use Rattle.mls_scheme.specs.declared.place.Place.{Place}
use Rattle.mls_scheme.specs.declared.tuple.Element.{Element}
use Rattle.mls_scheme.specs.Table.{Table}
use Rattle.mls_scheme.proofs.OrderLemmas.{is_place, is_place-true, is_place-same}
use Rattle.mls_scheme.proofs.TableLemmas.{get_kept}
use Rattle.mls_filterview.specs.declared.fragment.Node.{Node}
use Rattle.mls_filterview.specs.declared.fragment.Cell.{Cell}
use Rattle.mls_filterview.specs.declared.fragment.Fragment.{Fragment}
use Rattle.mls_filterview.specs.View.{IsAmong}
use Rattle.mls_filterview.specs.Stored.{IsStored, with_class, is_entity}
use Rattle.mls_filterview.specs.Fragment.{at_place, node_of, cells_of, IsEntityPart}
use Rattle.mls_filterview.specs.Assembly.{AreOf, AreLow, IsLowEntry}
use Rattle.mls_filterview.specs.Entities.{IsOfEntity, of_entity}
use Rattle.mls_filterview.proofs.AmongLemmas.{among_map, map_among, among_filter, filter_among, among_append, among_left, among_right, among_permutation, among_flat_map, flat_map_among}
use Rattle.mls_filterview.proofs.EntryLemmas.{Entry, among_entries, entries_among}
use Rattle.mls_filterview.proofs.MovedLemmas.{moved}

-- ---- parts of tuples

module _ (In New Both : Entry → Type 0) where
  pub parts_more : (first : (e : Entry) → In e → Both e) (second : (e : Entry) → New e → Both e) (each : (e : Entry)
      → Both e → In e ⊎ New e) → (ns ms : List Node) (ds cs : List Cell)
      → AreOf In ns ds → AreOf New ms cs → AreOf Both (ns ++ ms) (ds ++ cs)
  parts_more first second each ns ms ds cs a b = record {
    nodes = λ n. (
      (λ i. elim (among_append ns ms n i) [
        | inl j ↦ (let h = (a.nodes n).0 j in (h.0, first h.0 h.1, h.2))
        | inr j ↦
            (let h = (b.nodes n).0 j in (h.0, second h.0 h.1, h.2))
      ]),
      (λ h. elim (each h.0 h.1) [
        | inl j ↦ among_left ns ms n ((a.nodes n).1 (h.0, j, h.2))
        | inr j ↦ among_right ns ms n
            ((b.nodes n).1 (h.0, j, h.2))
      ]),
    );
    cells = λ d. (
      (λ i. elim (among_append ds cs d i) [
        | inl j ↦ (let h = (a.cells d).0 j in (h.0, first h.0 h.1, h.2))
        | inr j ↦
            (let h = (b.cells d).0 j in (h.0, second h.0 h.1, h.2))
      ]),
      (λ h. elim (each h.0 h.1) [
        | inl j ↦ among_left ds cs d ((a.cells d).1 (h.0, j, h.2))
        | inr j ↦ among_right ds cs d
            ((b.cells d).1 (h.0, j, h.2))
      ]),
    );
  }

pub parts_same : (In Same : Entry → Type 0) → ((e : Entry) → In e → Same e) → ((e : Entry) → Same e → In e)
    → (ns : List Node) (ds : List Cell) → AreOf In ns ds → AreOf Same ns ds
parts_same In Same to from ns ds a = record {
  nodes = λ n. (
    (λ i. (let h = (a.nodes n).0 i in (h.0, to h.0 h.1, h.2))),
    (λ h. (a.nodes n).1 (h.0, from h.0 h.1, h.2)),
  );
  cells = λ d. (
    (λ i. (let h = (a.cells d).0 i in (h.0, to h.0 h.1, h.2))),
    (λ h. (a.cells d).1 (h.0, from h.0 h.1, h.2)),
  );
}

-- ---- the part of one place

in_place : (T : Table) (p : Place) (e : Entry) → IsAmong e (at_place p T) ↔ ((get T e.0 ≡ Some e.1) × (e.0 ≡ p))
in_place T p e = (
  (λ i. (let f = among_filter (λ (e : Entry). is_place e.0 p) (entries T) e i
      in (among_entries T e f.0, is_place-true e.0 p f.1))),
  (λ h. filter_among (λ (e : Entry). is_place e.0 p) (entries T) e (entries_among T e.0 e.1 h.0)
      (is_place-same e.0 p h.1)),
)

pub part_of : (T : Table) (p : Place) (f : Fragment) → IsEntityPart T p f → AreOf (λ e. (get T e.0 ≡ Some e.1)
    × (e.0 ≡ p)) f.nodes f.cells
part_of T p f is = record {
  nodes = λ n. (
    (λ i. (let h = among_map node_of (at_place p T) n ((among_permutation _ _ is.nodes n).1 i)
        in (h.0, (in_place T p h.0).0 h.1, h.2))),
    (λ h. (among_permutation _ _ is.nodes n).0 (subst (λ x. IsAmong x (map node_of (at_place p T))) (sym h.2)
        (map_among node_of (at_place p T) h.0 ((in_place T p h.0).1 h.1)))),
  );
  cells = λ d. (
    (λ i. (let h = among_flat_map cells_of (at_place p T) d ((among_permutation _ _ is.cells d).1 i)
        in (h.0, (in_place T p h.0).0 h.1, h.2))),
    (λ h. (among_permutation _ _ is.cells d).0 (flat_map_among cells_of (at_place p T) h.0 d
        ((in_place T p h.0).1 h.1) h.2)),
  );
}

-- ---- class by class

module _ (ls : Labels) (T : Table) (c : ℕ) (key : List Value) where
  abbrev pub OfEntity : ℕ → ℕ → Entry → Type 0
  OfEntity kc m = IsOfEntity ls T c key kc m

  module _ (kc m : ℕ) where
    wider : (e : Entry) → OfEntity kc m e → OfEntity kc (m + 1) e
    wider e h = let l = h.class in record {
      has = h.has;
      key = h.key;
      key_class = h.key_class;
      class = omega (arith, l);
      low = h.low;
    }

    -- its part of the class is added, where c dominates it
    pub entity_more : (ns : List Node) (ds : List Cell) (p : Place) (f : Fragment) → p.key ≡ key → p.key_class ≡ kc
        → p.class ≡ m → below ls m c ≡ true → IsEntityPart T p f
        → AreOf (OfEntity kc m) ns ds → AreOf (OfEntity kc (m + 1)) (ns ++ f.nodes) (ds ++ f.cells)
    entity_more ns ds p f own_key own_key_class own_class low is a =
        parts_more (OfEntity kc m) (λ e. (get T e.0 ≡ Some e.1) × (e.0 ≡ p))
        (OfEntity kc (m + 1)) wider second each ns f.nodes ds f.cells a (part_of T p f is)
      where
        second : (e : Entry) → (get T e.0 ≡ Some e.1) × (e.0 ≡ p) → OfEntity kc (m + 1) e
        second e h =
            let q : e.0.class ≡ m = ap (λ (x : Place). x.class) h.1 ∙ own_class in
            record {
              has = h.0;
              key = ap (λ (x : Place). x.key) h.1 ∙ own_key;
              key_class = ap (λ (x : Place). x.key_class) h.1 ∙ own_key_class;
              class = omega (arith, q);
              low = subst (λ n. below ls n c ≡ true) (sym q) low;
            }

        each : (e : Entry) → OfEntity kc (m + 1) e → OfEntity kc m e ⊎ ((get T e.0 ≡ Some e.1) × (e.0 ≡ p))
        each e h =
            let l = h.class in
            elim (cases_lt e.0.class m) [
              | inl less ↦ inl (record { has = h.has; key = h.key; key_class = h.key_class; class = less; low = h.low })
              | inr more ↦ (
                  let q : e.0.class ≡ m = omega (arith, l, more) in
                  inr (
                    h.has,
                    λ i. record {
                      key = (h.key ∙ sym own_key) i;
                      key_class =
                          (h.key_class ∙ sym own_key_class) i;
                      class = (q ∙ sym own_class) i;
                    },
                  )
                  )
            ]

  module _ (n : ℕ) (stored : IsStored ls n T) where
    pub own_class : (e : Entry) → get T e.0 ≡ Some e.1 → e.0.class < length ls
    own_class e h = let st = stored e.0 e.1 h in st.declared e.0.class st.own

    pub own_key_class : (e : Entry) → get T e.0 ≡ Some e.1 → e.0.key_class < length ls
    own_key_class e h = (stored e.0 e.1 h).declared e.0.key_class (inl refl)

    pub over_key : (e : Entry) → get T e.0 ≡ Some e.1 → below ls e.0.key_class e.0.class ≡ true
    over_key e h = let st = stored e.0 e.1 h in st.above_key e.0.class st.own

    -- a class that is not between the key class and c adds nothing
    pub entity_same : (kc m : ℕ) (ns : List Node) (ds : List Cell) → (below ls kc m && below ls m c) ≡ false
        → AreOf (OfEntity kc m) ns ds → AreOf (OfEntity kc (m + 1)) ns ds
    entity_same kc m ns ds out = parts_same (OfEntity kc m) (OfEntity kc (m + 1)) (wider kc m) from ns ds
      where
        from : (e : Entry) → OfEntity kc (m + 1) e → OfEntity kc m e
        from e h =
            let l = h.class in
            elim (cases_lt e.0.class m) [
              | inl less ↦ record { has = h.has; key = h.key; key_class = h.key_class; class = less; low = h.low }
              | inr more ↦ (
                  let q : e.0.class ≡ m = omega (arith, l, more) in
                  absurd (true≢false (sym (and_from (below ls e.0.key_class e.0.class) (below ls e.0.class c)
                  (over_key e h.has) h.low)
                  ∙ (λ i. below ls (h.key_class i) (q i) && below ls (q i) c) ∙ out))
                  )
            ]

-- ---- the tuples of some entities

-- the tuples whose key and key class pass a test
abbrev pub those : (List Value → ℕ → Bool) → Table → Table
those test T = retain_keys T (λ p. test p.key p.key_class)

module _ (T : Table) (test : List Value → ℕ → Bool) where
  pub in_those : (p : Place) (es : List Element) → get (those test T) p ≡ Some es → (get T p ≡ Some es)
      × (test p.key p.key_class ≡ true)
  in_those p es g =
      elim (test p.key p.key_class) as (λ b. test p.key p.key_class ≡ b → cond b (get T p) None ≡ Some es
      → (get T p ≡ Some es) × (test p.key p.key_class ≡ true)) [
        | true ↦ λ t k. (k, t)
        | false ↦ λ t k. absurd (none-some es k)
      ] refl (sym (get_kept T (λ q. test q.key q.key_class) p) ∙ g)

  pub those_have : (p : Place) (es : List Element) → get T p ≡ Some es → test p.key p.key_class ≡ true
      → get (those test T) p ≡ Some es
  those_have p es g t = get_kept T (λ q. test q.key q.key_class) p ∙ ap (λ b. cond b (get T p) None) t ∙ g

  -- they are of the stored form
  pub those_stored : (ls : Labels) (n : ℕ) → IsStored ls n T → IsStored ls n (those test T)
  those_stored ls n stored p es g =
      let h = in_those p es g in
      moved ls n T (those test T) p es (stored p es h.0) (λ m fs o k. those_have (with_class p m) fs k h.1)

-- ---- the tuples of one entity

pub same_entity : (p q : Place) → is_entity p q ≡ true → (p.key ≡ q.key) × (p.key_class ≡ q.key_class)
same_entity p q h = let e = is_place-true p (with_class q p.class) h in (ap (λ r. r.key) e, ap (λ r. r.key_class) e)

pub entity_same_as : (p q : Place) → p.key ≡ q.key → p.key_class ≡ q.key_class → is_entity p q ≡ true
entity_same_as p q key key_class = is_place-same p (with_class q p.class) (λ i. record {
  key = key i;
  key_class =
      key_class i;
  class = p.class;
})

module _ (ls : Labels) (T : Table) (c n : ℕ) (stored : IsStored ls n T) (p : Place) where
  abbrev test : List Value → ℕ → Bool
  test key key_class = is_entity p (record { key = key; key_class = key_class; class = 0 })

  -- its parts are those of its low tuples
  pub entity_low : (ns : List Node) (ds : List Cell) → AreOf (IsOfEntity ls T c p.key p.key_class (length ls)) ns ds
      → AreLow ls (of_entity p T) c (length ls) ns ds
  entity_low ns ds = parts_same (IsOfEntity ls T c p.key p.key_class (length ls)) (IsLowEntry ls (of_entity p T) c
      (length ls)) to from ns ds
    where
      to : (e : Entry) → IsOfEntity ls T c p.key p.key_class (length ls) e → IsLowEntry ls (of_entity p T) c
          (length ls) e
      to e h = (those_have T test e.0 e.1 h.has (entity_same_as p e.0 (sym h.key) (sym h.key_class)), h.class, h.low)

      from : (e : Entry) → IsLowEntry ls (of_entity p T) c (length ls) e → IsOfEntity ls T c p.key p.key_class
          (length ls) e
      from e h =
          let g = in_those T test e.0 e.1 h.0 in
          let own = same_entity p e.0 g.1 in
          record { has = g.0; key = sym own.0; key_class = sym own.1; class = h.1; low = h.2 }

  pub of_entity_stored : IsStored ls n (of_entity p T)
  of_entity_stored = those_stored T test ls n stored
