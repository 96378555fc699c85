-- A value is set, and the cell that has it with it.
use Rattle.std.proofs.Common.{◌≡◌, ℕ, zero, suc, ◌<◌, ◌+◌, Bool, true, false, cond, not, ◌&&◌, List, [], ◌∷◌, ◌++◌, map, length, Option, Some, None, refl, sym, ap, ◌∙◌, subst, inl, inr, arith, IsPermutation, true≢false, nat_eq, bytes_eq, IfSome, filter, flat_map, is_lt, option_map, eqb-true, eq-eqb, ne_eqb, append-nil}
use Rattle.std.specs.FinMap.{get, entries, entries_sorted, entries-from_sorted, is_sorted}
use Rattle.std.specs.FinMap.Entries.{below_all}
use lib.Dec.{T as IsSo}
use Rattle.std.proofs.lemmas.Bool.{cond-true, cond-false, cond_both, and_parts}
use Rattle.std.proofs.lemmas.Option.{none-some, same_Some}
use Rattle.std.proofs.lemmas.List.{map-append}
use Rattle.std.proofs.lemmas.List.Sorted.{IsPermutation-refl, IsPermutation-cons, IsPermutation-trans, IsPermutation-sym, IsPermutation-map, IsPermutation-filter_both}
use Rattle.sqlite_trees.proofs.ListLemmas.{map-map, filter-filter, IsPermutation-filter}
use Rattle.mls_scheme.specs.declared.value.Value.{Value}
use Rattle.mls_scheme.specs.declared.tuple.Element.{Element}
use Rattle.mls_scheme.specs.declared.place.Place.{Place}
use Rattle.mls_scheme.specs.Spelling.{key_spelling, HasSpelling, IsSpelledKey}
use Rattle.mls_scheme.specs.Tuple.{at}
use Rattle.mls_scheme.specs.Table.{place_cmp, Table, change}
use Rattle.mls_scheme.proofs.OrderLemmas.{is_place, is_place-true, is_place-same}
use Rattle.mls_scheme.proofs.TableLemmas.{get_change}
use Rattle.mls_filterview.proofs.PlaceLemmas.{one_permuted}
use Rattle.mls_filterview.proofs.FilteredLemmas.{filter_turned}
use Rattle.mls_filterview.specs.Stored.{is_entity, with_class}
use Rattle.mls_filterview.specs.Fragment.{node_of, cell_at, cells_from, cells_of, set_from, set_in, HasCell}
use Rattle.mls_filterview.specs.Content.{Content, with_table}
use Rattle.mls_filterview.specs.View.{IsAmong}
use Rattle.mls_filterview.proofs.AmongLemmas.{among_filter, filter_among}
use Rattle.mls_filterview.proofs.EntityTests.{entity_decides}
use Rattle.mls_filterview.proofs.EntryLemmas.{Entry, among_entries, entries_among, same_lists, sorted_filter, so_true}
use Rattle.mls_tables.specs.declared.rows.CellRow.{CellRow}
use Rattle.mls_tables.specs.Rows.{Tables, is_cell_in}
use Rattle.mls_tables.specs.Statements.{SetsCell, IsOne, has_key_of}
use Rattle.mls_rows.specs.Holding.{Holds, HoldsTable, IsSharedTuple, cell_row, nodes_in, cells_in, tuple_key}
use Rattle.mls_rows.proofs.WrittenLemmas.{entity_test, cells_where, spelled_keys, others_stay, holds_same, holds_with}

-- ---- lists

-- the one item that passes a test gives way to another
set_one : {X : Type 0} (test : X → Bool) (c x : X) (xs : List X) → IsOne test xs x
    → IsPermutation (c ∷ filter (λ d. not (test d)) xs) (map (λ d. cond (test d) c d) xs)
set_one {X} test c x xs one =
    subst (λ l. IsPermutation l (map put xs)) parts (IsPermutation-map put _ xs
    (IsPermutation-sym _ _ (IsPermutation-filter_both test (λ d. not (test d)) (λ d. refl) xs)))
  where
    put : X → X
    put d = cond (test d) c d

    unset : (ds : List X) → map put (filter (λ d. not (test d)) ds) ≡ filter (λ d. not (test d)) ds
    unset [] = refl
    unset (d ∷ ds) =
        elim (test d) as (λ b. test d ≡ b → map put (cond (not b) (d ∷ filter (λ d. not (test d)) ds)
        (filter (λ d. not (test d)) ds)) ≡ cond (not b) (d ∷ filter (λ d. not (test d)) ds)
        (filter (λ d. not (test d)) ds)) [
          | true ↦ λ e. unset ds
          | false ↦ λ e i. cond (e i) c d ∷ unset ds i
        ] refl

    passes : test x ≡ true
    passes = (among_filter test xs x (subst (IsAmong x) (sym one) (inl refl))).1

    parts : map put (filter test xs ++ filter (λ d. not (test d)) xs) ≡ c ∷ filter (λ d. not (test d)) xs
    parts = map-append put (filter test xs) _ ∙ (λ i. map put (one i) ++ unset xs i)
        ∙ ap (λ b. cond b c x ∷ filter (λ d. not (test d)) xs) passes

-- ---- the entries of a table

below_changed : (f : Place → List Element → List Element) (p : Place) (es : List Entry)
    → below_all place_cmp p (map (λ e. (e.0, f e.0 e.1)) es) ≡ below_all place_cmp p es
below_changed f p [] = refl
below_changed f p (e ∷ es) = ap (λ b. is_lt (place_cmp p e.0) && b) (below_changed f p es)

sorted_changed : (f : Place → List Element → List Element) (es : List Entry)
    → is_sorted place_cmp (map (λ e. (e.0, f e.0 e.1)) es) ≡ is_sorted place_cmp es
sorted_changed f [] = refl
sorted_changed f (e ∷ es) = λ i. below_changed f e.0 es i && sorted_changed f es i

entries-change : (f : Place → List Element → List Element) (T : Table) → entries (change f T)
    ≡ map (λ e. (e.0, f e.0 e.1)) (entries T)
unfolding change
entries-change f T = entries-from_sorted place_cmp _ (subst (λ b. IsSo b) (sym (sorted_changed f (entries T)))
    (entries_sorted T))

-- a place has one entry
entries-at : (T : Table) (p : Place) (fs : List Element) → get T p ≡ Some fs → filter (λ e. is_place e.0 p) (entries T)
    ≡ (p, fs) ∷ []
entries-at T p fs g = same_lists (filter here (entries T)) ((p, fs) ∷ []) (sorted_filter here (entries T)
    (so_true _ (entries_sorted T))) refl (λ e. (
      (λ i.
          let f = among_filter here (entries T) e i in
          let same = is_place-true e.0 p f.1 in
          let elements : fs ≡ e.1 = same_Some fs e.1 (sym g ∙ sym (ap (get T) same) ∙ among_entries T e f.0) in
          inl (λ j. (same j, sym elements j))),
      (λ i. elim i [
        | inl same ↦ subst (λ d. IsAmong d (filter here (entries T))) (sym same) (filter_among here (entries T) (p, fs)
            (entries_among T p fs g) (is_place-same p p refl))
        | inr none ↦ absurd none
      ]),
    ))
  where
    here : Entry → Bool
    here e = is_place e.0 p

-- ---- the elements of a tuple

and_turned : (a b : Bool) → (a && b) ≡ (b && a)
and_turned true true = refl
and_turned true false = refl
and_turned false true = refl
and_turned false false = refl

first_four : (a b c d e : Bool) → (a && (b && (c && (d && e)))) ≡ true → (a && (b && (c && d))) ≡ true
first_four true true true true e h = refl
first_four _ _ _ _ e h = h

module _ (p : Place) (attr : ℕ) (v : Option Value) where
  abbrev new : Element
  new = record { value = v; class = p.class }

  -- an element, by whether it is of the entity, and its number
  abbrev set_element : Bool → ℕ → Element → Element
  set_element b k e = cond (b && (nat_eq k attr && nat_eq e.class p.class)) new e

  set_class : (b : Bool) (k : ℕ) (e : Element) → (set_element b k e).class ≡ e.class
  set_class false k e = refl
  set_class true k e = by (nat_eq k attr && nat_eq e.class p.class) refl
    where
      by : (b : Bool) → (nat_eq k attr && nat_eq e.class p.class) ≡ b → (cond b new e).class ≡ e.class
      by true h = sym (eqb-true e.class p.class (and_parts (nat_eq k attr) _ h).1)
      by false h = refl

  length-set_from : (k : ℕ) (es : List Element) → length (set_from attr p.class v k es) ≡ length es
  length-set_from k [] = refl
  length-set_from k (e ∷ es) = ap suc (length-set_from (suc k) es)

  at-set_from : (k i : ℕ) (es : List Element) → i < length es → at (set_from attr p.class v k es) i ≡ set_element true
      (k + i) (at es i)
  at-set_from k i [] l = absurd (omega arith)
  at-set_from k zero (e ∷ es) l = ap (λ n. set_element true n e) (omega arith)
  at-set_from k (suc i) (e ∷ es) l = at-set_from (suc k) i es (omega arith) ∙ ap (λ n. set_element true n (at es i))
      (omega arith)

  classes-set_from : (k : ℕ) (es : List Element) → map (λ e. e.class) (set_from attr p.class v k es)
      ≡ map (λ e. e.class) es
  classes-set_from k [] = refl
  classes-set_from k (e ∷ es) = λ i. set_class true k e i ∷ classes-set_from (suc k) es i

  -- so in a whole tuple
  length-set_in : (q : Place) (es : List Element) → length (set_in p attr v q es) ≡ length es
  length-set_in q es = elim (is_entity p q) as (λ b. length (cond b (set_from attr p.class v 0 es) es)
      ≡ length es) [ true ↦ length-set_from 0 es | false ↦ refl ]

  at-set_in : (q : Place) (es : List Element) (i : ℕ) → i < length es → at (set_in p attr v q es) i
      ≡ set_element (is_entity p q) i (at es i)
  at-set_in q es i l =
      elim (is_entity p q) as (λ b. at (cond b (set_from attr p.class v 0 es) es) i ≡ set_element b i (at es i)) [
        | true ↦ at-set_from 0 i es l ∙ ap (λ n. set_element true n (at es i)) (omega arith)
        | false ↦ refl
      ]

  same_node : (e : Entry) → node_of (e.0, set_in p attr v e.0 e.1) ≡ node_of e
  same_node e = λ i. record {
    key = e.0.key;
    key_class = e.0.key_class;
    label = e.0.class;
    pattern =
        classes (is_entity p e.0) i;
  }
    where
      classes : (b : Bool) → map (λ x. x.class) (cond b (set_from attr p.class v 0 e.1) e.1) ≡ map (λ x. x.class) e.1
      classes true = classes-set_from 0 e.1
      classes false = refl

  -- ---- the rows of its cells

  module _ (relation : ℕ) (spelled : IsSpelledKey p.key) where
    abbrev set_row : CellRow
    set_row = cell_row relation (cell_at p attr new)

    abbrev put : CellRow → CellRow
    put d = cond (has_key_of set_row d) set_row d

    key_test : (q : Place) (k : ℕ) (e : Element) → IsSpelledKey q.key
        → has_key_of set_row (cell_row relation (cell_at q k e))
        ≡ (is_entity p q && (nat_eq k attr && nat_eq e.class p.class))
    key_test q k e h = entity_test relation p q (nat_eq e.class p.class && nat_eq k attr) spelled h
        ∙ ap (λ b. is_entity p q && b) (and_turned (nat_eq e.class p.class) (nat_eq k attr))

    -- the row of an element that is set, or stays
    put_element : (q : Place) (k : ℕ) (e : Element) → IsSpelledKey q.key
        → cell_row relation (cell_at q k (set_element (is_entity p q) k e)) ≡ put (cell_row relation (cell_at q k e))
    put_element q k e h = by _ refl ∙ ap (λ b. cond b set_row (cell_row relation (cell_at q k e)))
        (sym (key_test q k e h))
      where
        by : (b : Bool) → (is_entity p q && (nat_eq k attr && nat_eq e.class p.class)) ≡ b
            → cell_row relation (cell_at q k (cond b new e)) ≡ cond b set_row (cell_row relation (cell_at q k e))
        by true t =
            let entity = (entity_decides p q).0 (and_parts (is_entity p q) _ t).0 in
            let number = eqb-true k attr (and_parts (nat_eq k attr) _ (and_parts (is_entity p q) _ t).1).0 in
            λ i. cell_row relation (cell_at (record {
              key = sym entity.0 i;
              key_class = sym entity.1 i;
              class =
                  p.class;
            }) (number i) new)
        by false t = refl

    -- each cell with the element that it is made of
    cells_each : (q : Place) (b : Bool) → is_entity p q ≡ b → IsSpelledKey q.key → (k : ℕ) (es : List Element)
        → map (cell_row relation) (cells_from k q (cond b (set_from attr p.class v k es) es))
        ≡ map put (map (cell_row relation) (cells_from k q es))
    cells_each q true s h k [] = refl
    cells_each q false s h k [] = refl
    cells_each q true s h k (e ∷ es) =
        let rest = cells_from (suc k) q (set_from attr p.class v (suc k) es) in
        let here = ap (λ b. cell_row relation (cell_at q k (set_element b k e))) (sym s) ∙ put_element q k e h in
        let more = cells_each q true s h (suc k) es in
        ap (λ m. map (cell_row relation) (cond (nat_eq m q.class) (cell_at q k (set_element true k e) ∷ rest) rest))
        (set_class true k e)
        ∙ elim (nat_eq e.class q.class) as (λ b. map (cell_row relation) (cond b (cell_at q k (set_element true k e)
        ∷ rest) rest) ≡ map put (map (cell_row relation) (cond b (cell_at q k e ∷ cells_from (suc k) q es)
        (cells_from (suc k) q es)))) [
          | true ↦ λ i. here i ∷ more i
          | false ↦ more
        ]
    cells_each q false s h k (e ∷ es) =
        let here = ap (λ b. cell_row relation (cell_at q k (set_element b k e))) (sym s) ∙ put_element q k e h in
        let more = cells_each q false s h (suc k) es in
        elim (nat_eq e.class q.class) as (λ b. map (cell_row relation) (cond b (cell_at q k e ∷ cells_from (suc k) q es)
        (cells_from (suc k) q es)) ≡ map put (map (cell_row relation)
        (cond b (cell_at q k e ∷ cells_from (suc k) q es) (cells_from (suc k) q es)))) [
          | true ↦ λ i. here i ∷ more i
          | false ↦ more
        ]

    rows_each : (es : List Entry) → ((e : Entry) → IsAmong e es → IsSpelledKey e.0.key)
        → map (cell_row relation) (flat_map cells_of (map (λ e. (e.0, set_in p attr v e.0 e.1)) es))
        ≡ map put (map (cell_row relation) (flat_map cells_of es))
    rows_each [] keys = refl
    rows_each (e ∷ es) keys =
        map-append (cell_row relation) (cells_from 0 e.0 (set_in p attr v e.0 e.1)) _
        ∙ (λ i. cells_each e.0 (is_entity p e.0) refl (keys e (inl refl)) 0 e.1 i ++ rows_each es
        (λ d k. keys d (inr k)) i)
        ∙ sym (map-append put (map (cell_row relation) (cells_of e)) _)
        ∙ ap (map put) (sym (map-append (cell_row relation) (cells_of e) (flat_map cells_of es)))

    -- the cell of an element, among those of its tuple
    key_here : (k : ℕ) (e : Element) → e.class ≡ p.class → has_key_of set_row (cell_row relation (cell_at p k e))
        ≡ nat_eq k attr
    key_here k e own =
        key_test p k e spelled
        ∙ ap (λ b. b && (nat_eq k attr && nat_eq e.class p.class)) ((entity_decides p p).1 (refl, refl))
        ∙ ap (λ b. nat_eq k attr && b) (eq-eqb e.class p.class own)
        ∙ and_turned (nat_eq k attr) true

    none_later : (k : ℕ) (es : List Element) → attr < k
        → filter (has_key_of set_row) (map (cell_row relation) (cells_from k p es)) ≡ []
    none_later k [] l = refl
    none_later k (e ∷ es) l =
        let rest = map (cell_row relation) (cells_from (suc k) p es) in
        let more = none_later (suc k) es (omega arith) in
        elim (nat_eq e.class p.class) as (λ b. nat_eq e.class p.class ≡ b
        → filter (has_key_of set_row) (map (cell_row relation) (cond b (cell_at p k e ∷ cells_from (suc k) p es)
        (cells_from (suc k) p es))) ≡ []) [
          | true ↦ λ own. cond-false _ _ _ (key_here k e (eqb-true e.class p.class own) ∙ ne_eqb k attr
              (λ same. omega (arith, same))) ∙ more
          | false ↦ λ own. more
        ] refl

    one_cell : (k i : ℕ) (es : List Element) → i < length es → k + i ≡ attr → (at es i).class ≡ p.class
        → IsOne (has_key_of set_row) (map (cell_row relation) (cells_from k p es))
        (cell_row relation (cell_at p attr (at es i)))
    one_cell k i [] l n own = absurd (omega arith)
    one_cell k zero (e ∷ es) l n own =
        let number : k ≡ attr = omega arith in
        ap (λ b. filter (has_key_of set_row) (map (cell_row relation) (cond b (cell_at p k e ∷ cells_from (suc k) p es)
        (cells_from (suc k) p es)))) (eq-eqb e.class p.class own)
        ∙ cond-true _ _ _ (key_here k e own ∙ eq-eqb k attr number)
        ∙ (λ j. cell_row relation (cell_at p (number j) e) ∷ none_later (suc k) es (omega arith) j)
    one_cell k (suc i) (e ∷ es) l n own =
        let more = one_cell (suc k) i es (omega arith) (omega arith) own in
        elim (nat_eq e.class p.class) as (λ b. nat_eq e.class p.class ≡ b
        → IsOne (has_key_of set_row) (map (cell_row relation) (cond b (cell_at p k e ∷ cells_from (suc k) p es)
        (cells_from (suc k) p es))) (cell_row relation (cell_at p attr (at es i)))) [
          | true ↦ λ here. cond-false _ _ _ (key_here k e (eqb-true e.class p.class here) ∙ ne_eqb k attr
              (λ same. omega (arith, same))) ∙ more
          | false ↦ λ here. more
        ] refl

    -- ---- the rows of a relation

    module _ (t : Tables) (T : Table) (held : HoldsTable t relation T) where
      keys : (e : Entry) → IsAmong e (entries T) → IsSpelledKey e.0.key
      keys = spelled_keys t relation T held

      set_nodes : nodes_in (change (set_in p attr v) T) ≡ nodes_in T
      set_nodes = ap (map node_of) (entries-change (set_in p attr v) T) ∙ map-map node_of
          (λ e. (e.0, set_in p attr v e.0 e.1)) (entries T) ∙ (λ i. map (λ e. same_node e i) (entries T))

      set_cells : map (cell_row relation) (cells_in (change (set_in p attr v) T))
          ≡ map put (map (cell_row relation) (cells_in T))
      set_cells = ap (λ es. map (cell_row relation) (flat_map cells_of es)) (entries-change (set_in p attr v) T)
          ∙ rows_each (entries T) keys

      in_relation : (x : CellRow) → has_key_of set_row x ≡ true → nat_eq x.rel relation ≡ true
      in_relation x h = (and_parts _ _ h).0

      in_tuple : (x : CellRow) → has_key_of set_row x ≡ true → is_cell_in (tuple_key relation p) x ≡ true
      in_tuple x h = first_four (nat_eq x.rel relation) (bytes_eq x.ent (key_spelling p.key))
          (nat_eq x.kclass p.key_class) (nat_eq x.label p.class) (nat_eq x.attr attr) h

      -- the tuple of the element's class has the cell
      cell_there : HasCell T p attr → (x : CellRow) × IsOne (has_key_of set_row)
          (map (cell_row relation) (cells_in T)) x
      cell_there has =
          let q = has.0 in
          let own = (held.shared q has.1 has.3).own attr has.4 in
          let same = (entity_decides p q).0 has.2 in
          let place : with_class q (at has.1 attr).class ≡ p = λ i. record {
            key = sym same.0 i;
            key_class =
                sym same.1 i;
            class = has.5 i;
          } in
          let class : (at own.0 attr).class ≡ p.class = ap (λ e. e.class) own.3 ∙ has.5 in (
            cell_row relation (cell_at p attr (at own.0 attr)),
            sym (filter-filter (has_key_of set_row) (is_cell_in (tuple_key relation p)) in_tuple
                (map (cell_row relation) (cells_in T)))
                ∙ ap (filter (has_key_of set_row)) (cells_where relation T p spelled keys (λ b. b)
                ∙ ap (λ es. map (cell_row relation) (flat_map cells_of es))
                (entries-at T p own.0 (sym (ap (get T) place) ∙ own.1))
                ∙ ap (map (cell_row relation)) (append-nil (cells_from 0 p own.0)))
                ∙ one_cell 0 attr own.0 own.2 (omega arith) class,
          )

      pub one_there : HasCell T p attr → (was : CellRow) × IsOne (has_key_of set_row) t.cells was
      one_there has =
          let it = cell_there has in (
            it.0,
            sym (filter-filter (has_key_of set_row) (λ x. nat_eq x.rel relation) in_relation t.cells)
                ∙ one_permuted it.0 _ (subst (λ l. IsPermutation l (filter (has_key_of set_row)
                (filter (λ x. nat_eq x.rel relation) t.cells))) it.1
                (IsPermutation-filter (has_key_of set_row) _ _ held.cells)),
          )

      cells_put : HasCell T p attr → (cells : List CellRow)
          → IsPermutation (set_row ∷ filter (λ d. not (has_key_of set_row d)) t.cells) cells
          → IsPermutation (map (cell_row relation) (cells_in (change (set_in p attr v) T)))
          (filter (λ x. nat_eq x.rel relation) cells)
      cells_put has cells sets =
          let it = cell_there has in
          let here = λ (x : CellRow). nat_eq x.rel relation in
          let other = λ (x : CellRow). not (has_key_of set_row x) in
          let first : filter here (set_row ∷ filter other t.cells) ≡ set_row ∷ filter other (filter here t.cells) =
          cond-true _ _ _ (eq-eqb relation relation refl) ∙ ap (λ l. set_row ∷ l) (filter_turned here other t.cells) in
          subst (λ l. IsPermutation l (filter here cells)) (sym set_cells)
          (IsPermutation-trans _ _ _ (IsPermutation-sym _ _ (set_one (has_key_of set_row) set_row it.0
          (map (cell_row relation) (cells_in T)) it.1))
          (IsPermutation-trans _ _ _ (IsPermutation-cons set_row _ _ (IsPermutation-filter other _ _ held.cells))
          (subst (λ l. IsPermutation l (filter here cells)) first (IsPermutation-filter here _ _ sets))))

      -- ---- what the tuples share

      module _ (short : IfSome v HasSpelling) where
        set_value : (b : Bool) (k : ℕ) (e : Element) → IfSome e.value HasSpelling
            → IfSome (set_element b k e).value HasSpelling
        set_value b k e h = cond_both (b && (nat_eq k attr && nat_eq e.class p.class)) new e
            (λ x. IfSome x.value HasSpelling) (λ _. short) (λ _. h)

        shared_set : (q : Place) (es : List Element) → IsSharedTuple T q es
            → IsSharedTuple (change (set_in p attr v) T) q (set_in p attr v q es)
        shared_set q es s = record {
          key = s.key;
          values = λ i l. values i (inside i l);
          own = λ i l. own i (inside i l);
        }
          where
            inside : (i : ℕ) → i < length (set_in p attr v q es) → i < length es
            inside i l = subst (λ n. i < n) (length-set_in q es) l

            values : (i : ℕ) → i < length es → IfSome (at (set_in p attr v q es) i).value HasSpelling
            values i l = subst (λ e. IfSome e.value HasSpelling) (sym (at-set_in q es i l)) (set_value (is_entity p q) i
                (at es i) (s.values i l))

            own : (i : ℕ) → i < length es
                → (fs : List Element) × (get (change (set_in p attr v) T)
                (with_class q (at (set_in p attr v q es) i).class) ≡ Some fs) × (i < length fs)
                × (at fs i ≡ at (set_in p attr v q es) i)
            own i l =
                let o = s.own i l in
                let r = with_class q (at es i).class in
                let class : (at (set_in p attr v q es) i).class ≡ (at es i).class =
                ap (λ e. e.class) (at-set_in q es i l) ∙ set_class (is_entity p q) i (at es i) in (
                  set_in p attr v r o.0,
                  ap (λ m. get (change (set_in p attr v) T) (with_class q m)) class ∙ get_change (set_in p attr v) T r
                      ∙ ap (option_map (set_in p attr v r)) o.1,
                  subst (λ n. i < n) (sym (length-set_in r o.0)) o.2,
                  at-set_in r o.0 i o.2 ∙ ap (set_element (is_entity p q) i) o.3 ∙ sym (at-set_in q es i l),
                )

        shared_there : (q : Place) (es : List Element) → get (change (set_in p attr v) T) q ≡ Some es
            → IsSharedTuple (change (set_in p attr v) T) q es
        shared_there q es g = by (get T q) refl (sym (get_change (set_in p attr v) T q) ∙ g)
          where
            by : (o : Option (List Element)) → get T q ≡ o → option_map (set_in p attr v q) o ≡ Some es
                → IsSharedTuple (change (set_in p attr v) T) q es
            by None e h = absurd (none-some es h)
            by (Some fs) e h = subst (IsSharedTuple (change (set_in p attr v) T) q)
                (same_Some (set_in p attr v q fs) es h) (shared_set q fs (held.shared q fs e))

        pub table_set : HasCell T p attr → (cells : List CellRow)
            → IsPermutation (set_row ∷ filter (λ d. not (has_key_of set_row d)) t.cells) cells
            → HoldsTable (record t { cells = cells }) relation (change (set_in p attr v) T)
        table_set has cells sets = record {
          nodes = rw set_nodes held.nodes;
          cells = cells_put has cells sets;
          shared = shared_there;
        }

-- the cell that is set is there, once
pub is_one : (t : Tables) (c : Content) (relation : ℕ) (p : Place) (attr : ℕ) (v : Option Value) → Holds t c
    → IsSpelledKey p.key → HasCell (c.db relation) p attr
    → (was : CellRow) × IsOne (has_key_of (cell_row relation
    (cell_at p attr (record { value = v; class = p.class })))) t.cells was
is_one t c relation p attr v held spelled has = one_there p attr v relation spelled t (c.db relation)
    (held.tables relation) has

pub holds_value : (t u : Tables) (c : Content) (relation : ℕ) (p : Place) (attr : ℕ) (v : Option Value)
    → Holds t c → IsSpelledKey p.key → IfSome v HasSpelling → HasCell (c.db relation) p attr
    → SetsCell (cell_row relation (cell_at p attr (record { value = v; class = p.class }))) t u
    → Holds u (record c { db = with_table c.db relation (change (set_in p attr v) (c.db relation)) })
holds_value t u c relation p attr v held spelled short has sets =
    subst (λ w. Holds w (record c { db = with_table c.db relation (change (set_in p attr v) (c.db relation)) }))
    (sym sets.0)
    (holds_with t _ c relation (change (set_in p attr v) (c.db relation)) held refl
    (table_set p attr v relation spelled t (c.db relation) (held.tables relation) short has u.cells sets.1)
    (λ r other.
    holds_same t _ r (c.db r) (held.tables r) (IsPermutation-refl _) (others r other)))
  where
    row : CellRow
    row = cell_row relation (cell_at p attr (record { value = v; class = p.class }))

    others : (r : ℕ) → nat_eq r relation ≡ false → IsPermutation (filter (λ x. nat_eq x.rel r) t.cells)
        (filter (λ x. nat_eq x.rel r) u.cells)
    others r other =
        let first : filter (λ x. nat_eq x.rel r) (row ∷ filter (λ d. not (has_key_of row d)) t.cells)
        ≡ filter (λ x. nat_eq x.rel r) t.cells =
        cond-false _ _ _ (ne_eqb relation r (λ e. true≢false (sym (eq-eqb r relation (sym e)) ∙ other)))
        ∙ others_stay (λ (x : CellRow). x.rel) (has_key_of row) relation r (λ x h. (and_parts _ _ h).0) other t.cells in
        subst (λ l. IsPermutation l (filter (λ x. nat_eq x.rel r) u.cells)) first
        (IsPermutation-filter (λ (x : CellRow). nat_eq x.rel r) _ _ sets.1)
