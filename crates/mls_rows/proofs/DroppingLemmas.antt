-- A tuple is dropped, and its node and the cells of its class with it.
use Rattle.std.proofs.Common.{◌≡◌, ℕ, ◌<◌, Bool, true, false, cond, not, List, map, length, Some, None, refl, sym, ap, ◌∙◌, subst, true≢false, nat_eq, filter, flat_map}
use Rattle.std.specs.FinMap.{get, remove, entries, entries_sorted, get-remove}
use Rattle.std.proofs.lemmas.Bool.{and_parts, false_from_ne_true, not-true}
use Rattle.std.proofs.lemmas.Option.{none-some}
use Rattle.sqlite_trees.proofs.ListLemmas.{filter-map, filter_same, IsPermutation-filter, IsPermutation-same}
use Rattle.mls_scheme.specs.declared.tuple.Element.{Element}
use Rattle.mls_scheme.specs.declared.place.Place.{Place}
use Rattle.mls_scheme.specs.Spelling.{IsSpelledKey}
use Rattle.mls_scheme.specs.Tuple.{at}
use Rattle.mls_scheme.specs.Table.{Table}
use Rattle.mls_scheme.proofs.OrderLemmas.{place_total, is_place, is_place-true, is_place-same}
use Rattle.mls_filterview.proofs.FilteredLemmas.{filter_turned}
use Rattle.mls_filterview.specs.Stored.{with_class}
use Rattle.mls_filterview.specs.Fragment.{node_of, cells_of, IsAlone}
use Rattle.mls_filterview.specs.Content.{Content, with_table}
use Rattle.mls_filterview.specs.View.{IsAmong}
use Rattle.mls_filterview.proofs.AmongLemmas.{among_filter, filter_among, each_among}
use Rattle.mls_filterview.proofs.EntityTests.{entity_decides}
use Rattle.mls_filterview.proofs.EntryLemmas.{Entry, among_entries, entries_among, entries_are, sorted_filter, so_true, so_from}
use Rattle.mls_tables.specs.declared.rows.NodeRow.{NodeRow}
use Rattle.mls_tables.specs.declared.rows.CellRow.{CellRow}
use Rattle.mls_tables.specs.Rows.{Tables, is_node, is_cell_in}
use Rattle.mls_tables.specs.Statements.{DropsNode, DropsCells}
use Rattle.mls_rows.specs.Holding.{Holds, HoldsTable, IsSharedTuple, node_row, cell_row, nodes_in, cells_in, tuple_key}
use Rattle.mls_rows.proofs.WrittenLemmas.{entity_test, place_test, of_entity, cells_where, spelled_keys, others_stay, holds_same, holds_with}

-- ---- a table with a tuple less

pub left_cases : (T : Table) (p q : Place) (es : List Element) → get (remove T p) q ≡ Some es → (is_place q p ≡ false)
    × (get T q ≡ Some es)
left_cases T p q es h = by (is_place q p) refl (sym (get-remove place_total T p q) ∙ h)
  where
    by : (b : Bool) → is_place q p ≡ b → cond b None (get T q) ≡ Some es → (is_place q p ≡ false) × (get T q ≡ Some es)
    by true e k = absurd (none-some es k)
    by false e k = (e, k)

get_left : (T : Table) (p q : Place) → is_place q p ≡ false → get (remove T p) q ≡ get T q
get_left T p q e = get-remove place_total T p q ∙ ap (λ b. cond b None (get T q)) e

entries-remove : (T : Table) (p : Place) → entries (remove T p) ≡ filter (λ e. not (is_place e.0 p)) (entries T)
entries-remove T p = sym (entries_are (remove T p) (filter elsewhere (entries T))
    (so_from _ (sorted_filter elsewhere (entries T) (so_true _ (entries_sorted T)))) (λ e. (
      (λ i. (let f = among_filter elsewhere (entries T) e i in get_left T p e.0 (not-true (is_place e.0 p) f.1)
          ∙ among_entries T e f.0)),
      (λ g. (let old = left_cases T p e.0 e.1 g in filter_among elsewhere (entries T) e (entries_among T e.0 e.1 old.1)
          (ap not old.0))),
    )))
  where
    elsewhere : Entry → Bool
    elsewhere e = not (is_place e.0 p)

-- ---- the rows that are left

-- the rows that go
abbrev is_gone_node : ℕ → Place → NodeRow → Bool
is_gone_node relation p = is_node (tuple_key relation p)

abbrev is_gone_cell : ℕ → Place → CellRow → Bool
is_gone_cell relation p = is_cell_in (tuple_key relation p)

abbrev without : ℕ → Place → Tables → Tables
without relation p t = record t {
  nodes = filter (λ n. not (is_gone_node relation p n)) t.nodes;
  cells =
      filter (λ x. not (is_gone_cell relation p x)) t.cells;
}

module _ (t : Tables) (relation : ℕ) (T : Table) (p : Place) (held : HoldsTable t relation T)
    (spelled : IsSpelledKey p.key) (alone : IsAlone T p) where
  keys : (e : Entry) → IsAmong e (entries T) → IsSpelledKey e.0.key
  keys = spelled_keys t relation T held

  node_rows : filter (λ n. not (is_gone_node relation p n)) (map (node_row relation) (nodes_in T))
      ≡ map (node_row relation) (nodes_in (remove T p))
  node_rows =
      filter-map _ (node_row relation) (nodes_in T)
      ∙ ap (map (node_row relation)) (filter-map _ node_of (entries T)
      ∙ ap (map node_of) (filter_same _ (λ e. not (is_place e.0 p)) (entries T) (each_among _ (entries T) (λ e i.
      ap not (entity_test relation p e.0 (nat_eq e.0.class p.class) spelled (keys e i) ∙ place_test p e.0)))
      ∙ sym (entries-remove T p)))

  cell_rows : filter (λ x. not (is_gone_cell relation p x)) (map (cell_row relation) (cells_in T))
      ≡ map (cell_row relation) (cells_in (remove T p))
  cell_rows = cells_where relation T p spelled keys not ∙ ap (λ es. map (cell_row relation) (flat_map cells_of es))
      (sym (entries-remove T p))

  -- no tuple that is left has an element of the one that goes
  shared_left : (q : Place) (es : List Element) → get (remove T p) q ≡ Some es → IsSharedTuple (remove T p) q es
  shared_left q es g = record {
    key = s.key;
    values = s.values;
    own = λ i l. (let o = s.own i l in (
      o.0,
      get_left T p (with_class q (at es i).class)
          (false_from_ne_true _ (elsewhere i l)) ∙ o.1,
      o.2,
      o.3,
    ));
  }
    where
      old : (is_place q p ≡ false) × (get T q ≡ Some es)
      old = left_cases T p q es g

      s : IsSharedTuple T q es
      s = held.shared q es old.1

      elsewhere : (i : ℕ) → i < length es → is_place (with_class q (at es i).class) p ≡ true → ⊥
      elsewhere i l e =
          let same = is_place-true _ p e in
          let entity = (entity_decides p q).1 (sym (ap (λ x. x.key) same), sym (ap (λ x. x.key_class) same)) in
          alone q es old.1 entity (λ k. true≢false (sym (is_place-same q p (of_entity p q entity ∙ ap (with_class p) k))
          ∙ old.0)) i l (ap (λ x. x.class) same)

  pub table_left : HoldsTable (without relation p t) relation (remove T p)
  table_left = record {
    nodes = rw (← node_rows, filter_turned (λ n. nat_eq n.rel relation) (λ n. not (is_gone_node relation p n)) t.nodes)
        (IsPermutation-filter _ _ _ held.nodes);
    cells = rw (← cell_rows, filter_turned (λ x. nat_eq x.rel relation) (λ x. not (is_gone_cell relation p x)) t.cells)
        (IsPermutation-filter _ _ _ held.cells);
    shared = shared_left;
  }

pub holds_rest : (t u : Tables) (c : Content) (relation : ℕ) (p : Place)
    → Holds t c → IsSpelledKey p.key → IsAlone (c.db relation) p
    → (s : Tables) → DropsNode (tuple_key relation p) t s → DropsCells (tuple_key relation p) s u
    → Holds u (record c { db = with_table c.db relation (remove (c.db relation) p) })
holds_rest t u c relation p held spelled alone s node cells =
    let is : u ≡ without relation p t = cells
    ∙ ap (λ (w : Tables). record w { cells = filter (λ x. not (is_gone_cell relation p x)) w.cells }) node in
    subst (λ w. Holds w (record c { db = with_table c.db relation (remove (c.db relation) p) })) (sym is)
    (holds_with t _ c relation (remove (c.db relation) p) held refl (table_left t relation (c.db relation) p
    (held.tables relation) spelled alone) (λ r other.
    holds_same t _ r (c.db r) (held.tables r)
    (IsPermutation-same _ _ (sym (others_stay (λ n. n.rel) (is_gone_node relation p) relation r
    (λ n h. (and_parts _ _ h).0) other t.nodes)))
    (IsPermutation-same _ _ (sym (others_stay (λ x. x.rel) (is_gone_cell relation p) relation r
    (λ x h. (and_parts _ _ h).0) other t.cells)))))
