-- A dump makes class by class what it is of, and has each tuple once.
use Rattle.std.proofs.Common.{◌≡◌, ℕ, ◌<◌, Bool, true, false, cond, List, [], ◌∷◌, ◌++◌, length, map, Option, Some, None, refl, sym, ap, ◌∙◌, subst, inl, inr, ◌⊎◌, append_assoc, append-nil, nat_eq, eqb-true, eq-eqb, filter, ◌&&◌, is_lt, flat_map, true≢false}
use Rattle.std.specs.FinMap.{get, insert, empty, get-empty, entries, entries_sorted, is_sorted}
use Rattle.std.specs.FinMap.Entries.{below_all}
use Rattle.std.proofs.lemmas.Cmp.{tied_itself}
use lib.Dec.{T as IsSo}
use Rattle.std.proofs.lemmas.Bool.{cases_Bool}
use Rattle.std.proofs.lemmas.Option.{none-some}
use Rattle.mls_lattice.specs.Labels.{Labels, below, AreDistinct}
use Rattle.mls_lattice.specs.Policy.{Name}
use Rattle.mls_lattice.proofs.LatticeLemmas.{below-trans}
use Rattle.mls_scheme.specs.declared.tuple.Element.{Element}
use Rattle.mls_scheme.specs.declared.place.Place.{Place}
use Rattle.mls_scheme.specs.declared.tuple.Tuple.{Tuple}
use Rattle.mls_scheme.specs.Table.{place_cmp, Table, IsIn, place_of, tuple_at}
use Rattle.mls_scheme.proofs.OrderLemmas.{place_total}
use Rattle.mls_scheme.proofs.TableLemmas.{same_table, get_kept}
use Rattle.mls_filterview.specs.View.{low, IsAmong}
use Rattle.mls_filterview.specs.Filtering.{EachOnce, class_number}
use Rattle.mls_filterview.specs.Stored.{IsStored, IsContent, Occurs, with_class}
use Rattle.mls_filterview.specs.Reach.{of_class, upward, low_tuples}
use Rattle.mls_filterview.proofs.AmongLemmas.{among_map, map_among, among_filter, filter_among, among_flat_map, flat_map_among, among_append, among_left, among_right}
use Rattle.mls_filterview.proofs.EntryLemmas.{Entry, among_entries, entries_among}
use Rattle.mls_filterview.proofs.FilterLemmas.{class_number-stored}
use Rattle.mls_updates.proofs.ChangeLemmas.{get_new, get_old, kept_cases}
use Rattle.mls_translang.specs.declared.event.Event.{Event}
use Rattle.mls_certcheck.specs.Site.{Site, site_labels, site_scheme}
use Rattle.mls_machine.specs.Dumping.{dump_event, dump_command}
use Rattle.mls_lives.specs.Loading.{made_by, Make, DumpsLoadBack, DumpsHaveEach}
use Rattle.mls_lives.proofs.UpwardLemmas.{Rises, rises_append, rises_filter, Before, before_itself, not_before, lower_before, upward_all, upward_rises}
use Rattle.mls_lives.proofs.MadeLemmas.{number, made}

-- ---- entries in order stand at different places

so_first : (a b : Bool) → IsSo (a && b) → IsSo a
so_first true b h = tt
so_first false b h = h

so_second : (a b : Bool) → IsSo (a && b) → IsSo b
so_second true b h = h
so_second false b h = absurd h

abbrev Other : Entry → Entry → Type 0
Other d e = d.0 ≡ e.0 → ⊥

below_each : (p : Place) (es : List Entry) → IsSo (below_all place_cmp p es) → (e : Entry) → IsAmong e es → p ≡ e.0 → ⊥
below_each p [] h e i same = absurd i
below_each p (d ∷ es) h e (inl q) same =
    subst (λ o. IsSo (is_lt o)) (ap (place_cmp p) (sym (ap (λ x. x.0) q) ∙ sym same) ∙ tied_itself place_total p)
    (so_first (is_lt (place_cmp p d.0)) (below_all place_cmp p es) h)
below_each p (d ∷ es) h e (inr i) same = below_each p es (so_second (is_lt (place_cmp p d.0))
    (below_all place_cmp p es) h) e i same

sorted_rises : (es : List Entry) → IsSo (is_sorted place_cmp es) → Rises Other es
sorted_rises [] h = tt
sorted_rises (d ∷ es) h = (
  (λ e i. below_each d.0 es (so_first (below_all place_cmp d.0 es) (is_sorted place_cmp es) h) e i),
  sorted_rises es (so_second (below_all place_cmp d.0 es) (is_sorted place_cmp es) h),
)

-- ---- tables with entries more

put_all : List Entry → Table → Table
put_all [] U = U
put_all (e ∷ es) U = put_all es (insert U e.0 e.1)

get_put_other : (es : List Entry) (U : Table) (q : Place) → ((e : Entry) → IsAmong e es → e.0 ≡ q → ⊥)
    → get (put_all es U) q ≡ get U q
unfolding put_all
get_put_other [] U q h = refl
get_put_other (e ∷ es) U q h = get_put_other es (insert U e.0 e.1) q (λ d i. h d (inr i)) ∙ get_old U e.0 e.1 q
    (λ same. h e (inl refl) (sym same))

get_put_own : (es : List Entry) (U : Table) → Rises Other es → (e : Entry) → IsAmong e es → get (put_all es U) e.0
    ≡ Some e.1
unfolding put_all
get_put_own [] U h e i = absurd i
get_put_own (d ∷ es) U h e (inl q) =
    get_put_other es (insert U d.0 d.1) e.0 (λ x i same. h.0 x i (sym (ap (λ y. y.0) q) ∙ sym same))
    ∙ get_new U d.0 d.1 e.0 (ap (λ y. y.0) q) ∙ ap Some (sym (ap (λ y. y.1) q))
get_put_own (d ∷ es) U h e (inr i) = get_put_own es (insert U d.0 d.1) h.1 e i

-- a number stands in a list, or doesn't
decide : (k : ℕ) (xs : List ℕ) → (IsAmong k xs) ⊎ (IsAmong k xs → ⊥)
decide k [] = inr (λ h. h)
decide k (x ∷ xs) =
    elim (cases_Bool (nat_eq k x)) [
      | inl b ↦ inl (inl (eqb-true k x b))
      | inr b ↦ elim (decide k xs) [
        | inl i ↦ inl (inr i)
        | inr n ↦ inr
            (λ h. elim h [ inl e ↦ true≢false (sym (eq-eqb k x e) ∙ b) | inr i ↦ n i ])
      ]
    ]

-- ---- the tuples of a dump

module _ (ls : Labels) (c : ℕ) (T : Table) where
  abbrev L : Table
  L = low ls c T

  pub low_held : (q : Place) (es : List Element) → get L q ≡ Some es → (below ls q.class c ≡ true) × (get T q ≡ Some es)
  unfolding low
  low_held q es h = kept_cases T (λ p. below ls p.class c) q es h

  pub held_low : (q : Place) → below ls q.class c ≡ true → get L q ≡ get T q
  unfolding low
  held_low q h = get_kept T (λ p. below ls p.class c) q ∙ ap (λ b. cond b (get T q) None) h

  abbrev pub of_number : ℕ → List Entry
  of_number m = filter (λ e. nat_eq e.0.class m) (entries L)

  pub in_number : (m : ℕ) (e : Entry) → IsAmong e (of_number m) → (get L e.0 ≡ Some e.1) × (e.0.class ≡ m)
  in_number m e i =
      let r = among_filter (λ (e : Entry). nat_eq e.0.class m) (entries L) e i in
      (among_entries L e r.0, eqb-true e.0.class m r.1)

  number_in : (q : Place) (es : List Element) → get L q ≡ Some es → IsAmong (q, es) (of_number q.class)
  number_in q es h = filter_among (λ (e : Entry). nat_eq e.0.class q.class) (entries L) (q, es) (entries_among L q es h)
      (eq-eqb q.class q.class refl)

  numbers_rise : (m : ℕ) → Rises Other (of_number m)
  numbers_rise m = rises_filter Other (λ (e : Entry). nat_eq e.0.class m) (entries L) (sorted_rises (entries L)
      (entries_sorted L))

  -- ---- each once

  abbrev Different : Tuple → Tuple → Type 0
  Different s t = s ≡ t → ⊥

  once_of : (ts : List Tuple) → Rises Different ts → EachOnce ts
  unfolding EachOnce
  once_of [] h = tt
  once_of (t ∷ ts) h = ((λ i. h.0 t i refl), once_of ts h.1)

  module _ (distinct : AreDistinct ls) (n : ℕ) (stored : IsStored ls n T) where
    pub has_number : (m : ℕ) (t : Tuple) → IsAmong t (of_class (entries L) m) → class_number ls t ≡ m
    has_number m t i =
        let (e, j, same) = among_map (λ (e : Entry). tuple_at e.0 e.1) (of_number m) t i in
        let r = in_number m e j in
        ap (class_number ls) same ∙ class_number-stored ls distinct n T stored e.0.class (tuple_at e.0 e.1)
        (low_held e.0 e.1 r.0).1 ∙ r.1

    tuples_differ : (m : ℕ) (es : List Entry) → ((e : Entry) → IsAmong e es → e.0.class ≡ m) → Rises Other es
        → Rises Different (map (λ (e : Entry). tuple_at e.0 e.1) es)
    tuples_differ m [] h k = tt
    tuples_differ m (d ∷ es) h k = (
      (λ t i same.
          let (e, j, is) = among_map (λ (e : Entry). tuple_at e.0 e.1) es t i in
          let both : tuple_at d.0 d.1 ≡ tuple_at e.0 e.1 = same ∙ is in
          let class : d.0.class ≡ e.0.class = h d (inl refl) ∙ sym (h e (inr j)) in
          k.0 e j (λ x. record { key = (both x).key; key_class = (both x).key_class; class = class x })),
      tuples_differ m es (λ e i. h e (inr i)) k.1,
    )

    classes_differ : (ms : List ℕ) → Rises (Before ls) ms → Rises Different (flat_map (of_class (entries L)) ms)
    classes_differ [] h = tt
    classes_differ (m ∷ ms) h =
        rises_append Different (of_class (entries L) m) (flat_map (of_class (entries L)) ms)
        (tuples_differ m (of_number m) (λ e i. (in_number m e i).1) (numbers_rise m)) (classes_differ ms h.1)
        (λ s t i j same.
        let r = among_flat_map (of_class (entries L)) ms t j in
        before_itself ls m (subst (Before ls m) (sym (has_number r.0 t r.2) ∙ sym (ap (class_number ls) same)
        ∙ has_number m s i) (h.0 r.0 r.1)))

    each_once : EachOnce (low_tuples ls c T)
    unfolding low_tuples
    each_once = once_of (flat_map (of_class (entries L)) (upward ls)) (classes_differ (upward ls) (upward_rises ls))

    -- ---- and all

    all_in : (t : Tuple) → IsAmong t (low_tuples ls c T) → IsIn L t
    unfolding low_tuples
    all_in t i =
        let r = among_flat_map (of_class (entries L)) (upward ls) t i in
        let (e, j, same) = among_map (λ (e : Entry). tuple_at e.0 e.1) (of_number r.0) t r.2 in
        subst (IsIn L) (sym same) (e.0.class, (in_number r.0 e j).0)

    in_all : (t : Tuple) → IsIn L t → IsAmong t (low_tuples ls c T)
    unfolding low_tuples
    in_all t (class, held) =
        let st = stored (place_of class t) t.elements (low_held (place_of class t) t.elements held).1 in
        flat_map_among (of_class (entries L)) (upward ls) class t (upward_all ls class (st.declared class st.own))
        (map_among (λ (e : Entry). tuple_at e.0 e.1) (of_number class) (place_of class t, t.elements)
        (number_in (place_of class t) t.elements held))

pub dumps_have_each : DumpsHaveEach
dumps_have_each ls distinct n c T stored = (
  each_once ls c T distinct n stored,
  λ t. (
    all_in ls c T distinct n stored t,
    in_all ls c T distinct n stored t,
  ),
)

-- ---- loading

map_pieces : {A B : Type 0} (g : Tuple → B) (f : A → Tuple) (X : ℕ → List A) (ms : List ℕ)
    → map g (flat_map (λ m. map f (X m)) ms) ≡ map (λ a. g (f a)) (flat_map X ms)
map_pieces g f X [] = refl
map_pieces g f X (m ∷ ms) =
    map_two g (map f (X m)) (flat_map (λ k. map f (X k)) ms)
    ∙ (λ i. map_map (X m) i ++ map_pieces g f X ms i)
    ∙ sym (map_two (λ a. g (f a)) (X m) (flat_map X ms))
  where
    map_two : {C D : Type 0} (h : C → D) (xs ys : List C) → map h (xs ++ ys) ≡ map h xs ++ map h ys
    map_two h [] ys = refl
    map_two h (x ∷ xs) ys = ap (λ l. h x ∷ l) (map_two h xs ys)

    map_map : (xs : List _) → map g (map f xs) ≡ map (λ a. g (f a)) xs
    map_map [] = refl
    map_map (x ∷ xs) = ap (λ l. g (f x) ∷ l) (map_map xs)

module _ (site : Site) (distinct : AreDistinct (site_labels site)) (session : Name) (relation c : ℕ) (T : Table)
    (content : IsContent (site_labels site) (site_scheme site relation) T) where
  abbrev sl : Labels
  sl = site_labels site

  abbrev M : Table
  M = low sl c T

  abbrev event : Entry → Event
  event e = dump_event site session relation (tuple_at e.0 e.1)

  -- what a tuple is derived from is there as it is in T
  abbrev Lower : Entry → Table → Type 0
  Lower e U = (k : ℕ) → Occurs e.0 e.1 k → (k ≡ e.0.class → ⊥) → get U (with_class e.0 k) ≡ get T (with_class e.0 k)

  load_class : (m : ℕ) (es : List Entry) (U : Table) (rest : List Event) (V : Table) → ((e : Entry) → IsAmong e es
      → (get T e.0 ≡ Some e.1) × (e.0.class ≡ m)) → Rises Other es
      → ((e : Entry) → IsAmong e es → get U e.0 ≡ None) → ((e : Entry) → IsAmong e es → Lower e U)
      → Make site rest (put_all es U) V → Make site (map event es ++ rest) U V
  unfolding Make put_all
  load_class m [] U rest V held apart free lower more = more
  load_class m (e ∷ es) U rest V held apart free lower more =
      let h = held e (inl refl) in
      let at_number : made_by site (event e).level (event e).command U ≡ made_by site e.0.class
      (dump_command site relation e.0.class (tuple_at e.0 e.1)) U
      = ap (λ k. made_by site k (dump_command site relation k (tuple_at e.0 e.1)) U)
      (number site distinct relation T content e.0 e.1 h.0) in
      let one = at_number ∙ made site distinct relation T content e.0 e.1 h.0 U (free e (inl refl)) (lower e (inl refl))
      in
      let W = insert U e.0 e.1 in
      let later = load_class m es W rest V (λ d i. held d (inr i)) apart.1
      (λ d i. get_old U e.0 e.1 d.0 (λ same. apart.0 d i (sym same)) ∙ free d (inr i))
      (λ d i k o ne. get_old U e.0 e.1 (with_class d.0 k) (λ same. ne (ap (λ p. p.class) same ∙ h.1
      ∙ sym (held d (inr i)).1)) ∙ lower d (inr i) k o ne) more in (
        ap (λ w. w.outcome) one,
        subst (λ (w : Table). Make site (map event es ++ rest) w V)
            (sym (ap (λ w. w.table) one)) later,
      )

  -- a table has what M has of these classes, and nothing else
  record IsUpTo (xs : List ℕ) (U : Table) : Type 0 where
    pub has : (q : Place) → IsAmong q.class xs → get U q ≡ get M q
    pub only : (q : Place) → (IsAmong q.class xs → ⊥) → get U q ≡ None

  declared : (q : Place) (es : List Element) → get M q ≡ Some es → q.class < length sl
  declared q es h = let st = content.stored q es (low_held sl c T q es h).1 in st.declared q.class st.own

  whole : (xs : List ℕ) → upward sl ≡ xs → (U : Table) → IsUpTo xs U → U ≡ M
  whole xs all U up = same_table U M (λ q. elim (decide q.class xs) [
    | inl i ↦ up.has q i
    | inr n ↦ up.only q n
        ∙ sym (by_look q n (get M q) refl)
  ])
    where
      by_look : (q : Place) → (IsAmong q.class xs → ⊥) → (o : Option (List Element)) → get M q ≡ o → get M q ≡ None
      by_look q n None h = h
      by_look q n (Some es) h = absurd (n (subst (IsAmong q.class) all (upward_all sl q.class (declared q es h))))

  load_all : (xs ms : List ℕ) → upward sl ≡ xs ++ ms → (U : Table) → IsUpTo xs U
      → Make site (map event (flat_map (of_number sl c T) ms)) U M
  unfolding Make
  load_all xs [] parts U up = whole xs (parts ∙ append-nil xs) U up
  load_all xs (m ∷ ms) parts U up =
      let es = of_number sl c T m in
      let here = in_number sl c T m in
      let absent : IsAmong m xs → ⊥ = not_before sl xs ms m parts in
      let next : IsUpTo (xs ++ m ∷ []) (put_all es U) = record {
        has = λ q i. elim (among_append xs (m ∷ []) q.class i) [
          | inl before ↦ get_put_other es U q (λ e j same. absent (subst (λ k. IsAmong k xs)
              (sym (ap (λ p. p.class) same) ∙ (here e j).1) before)) ∙ up.has q before
          | inr (inl own) ↦ own_class q own (get M q) refl
          | inr (inr none) ↦ absurd none
        ];
        only = λ q n.
            get_put_other es U q (λ e j same. n (behind xs m q.class
            (inr (inl (sym (ap (λ p. p.class) same) ∙ (here e j).1)))))
            ∙ up.only q (λ i. n (behind xs m q.class (inl i)));
      } in
      let more = load_all (xs ++ m ∷ []) ms (parts ∙ sym (append_assoc xs (m ∷ []) ms)) (put_all es U) next in
      subst (λ l. Make site l U M) (sym (map_two event es (flat_map (of_number sl c T) ms)))
      (load_class m es U (map event (flat_map (of_number sl c T) ms)) M
      (λ e i. ((low_held sl c T e.0 e.1 (here e i).0).1, (here e i).1))
      (numbers_rise sl c T m)
      (λ e i. up.only e.0 (λ j. absent (subst (λ k. IsAmong k xs) (here e i).1 j)))
      (λ e i k o ne.
      let low_e = low_held sl c T e.0 e.1 (here e i).0 in
      let st = content.stored e.0 e.1 low_e.1 in
      let under : below sl k m ≡ true = subst (λ j. below sl k j ≡ true) (here e i).1 (st.greatest k o) in
      let before = lower_before sl xs ms m parts distinct k (st.declared k o) under
      (λ same. ne (same ∙ sym (here e i).1)) in
      up.has (with_class e.0 k) before ∙ held_low sl c T (with_class e.0 k) (below-trans sl k e.0.class c
      (st.greatest k o) low_e.0))
      more)
    where
      behind : (xs : List ℕ) (m k : ℕ) → (IsAmong k xs) ⊎ (IsAmong k (m ∷ [])) → IsAmong k (xs ++ m ∷ [])
      behind xs m k (inl i) = among_left xs (m ∷ []) k i
      behind xs m k (inr i) = among_right xs (m ∷ []) k i

      map_two : {C D : Type 0} (h : C → D) (xs ys : List C) → map h (xs ++ ys) ≡ map h xs ++ map h ys
      map_two h [] ys = refl
      map_two h (x ∷ xs) ys = ap (λ l. h x ∷ l) (map_two h xs ys)

      own_class : (q : Place) → q.class ≡ m → (o : Option (List Element)) → get M q ≡ o
          → get (put_all (of_number sl c T m) U) q ≡ get M q
      own_class q own (Some es) held =
          get_put_own (of_number sl c T m) U (numbers_rise sl c T m) (q, es)
          (subst (λ k. IsAmong (q, es) (of_number sl c T k)) own (number_in sl c T q es held)) ∙ sym held
      own_class q own None none =
          get_put_other (of_number sl c T m) U q (λ e j same. none-some e.1 (sym none ∙ ap (get M) (sym same)
          ∙ (in_number sl c T m e j).0))
          ∙ up.only q (λ i. not_before sl xs ms m parts (subst (λ k. IsAmong k xs) own i)) ∙ sym none

  loaded : Make site (map (dump_event site session relation) (low_tuples sl c T)) empty M
  unfolding low_tuples
  loaded =
      subst (λ l. Make site l empty M) (sym (map_pieces (dump_event site session relation)
      (λ (e : Entry). tuple_at e.0 e.1) (of_number sl c T) (upward sl)))
      (load_all [] (upward sl) refl empty (record { has = λ q i. absurd i; only = λ q n. get-empty place_cmp q }))

pub dumps_load_back : DumpsLoadBack
dumps_load_back site distinct session relation c T content = loaded site distinct session relation c T content
