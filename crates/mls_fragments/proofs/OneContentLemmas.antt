-- Rows hold one content: the nodes have the places and the classes, each value has one cell, and the entries are
-- numbered.
use Rattle.std.proofs.Common.{◌≡◌, ℕ, ◌<◌, List, map, length, get_or, Some, sym, ap, subst, ◌∙◌, arith, zero-add, IsPermutation, ext_get_or}
use Rattle.std.specs.List.{AllByRecursion}
use Rattle.std.specs.FinMap.{get, entries, entries_sorted, same_entries_map}
use Rattle.std.proofs.lemmas.List.{get_or-map, length-map}
use Rattle.std.proofs.lemmas.Option.{same_Some}
use Rattle.std.proofs.lemmas.List.Sorted.{IsPermutation-trans, IsPermutation-sym}
use Rattle.sqlite_trees.proofs.ListLemmas.{all-map}
use Rattle.mls_scheme.specs.declared.tuple.Element.{Element}
use Rattle.mls_scheme.specs.declared.place.Place.{Place}
use Rattle.mls_scheme.specs.Spelling.{IsSpelledKey}
use Rattle.mls_scheme.specs.Tuple.{at, null_element}
use Rattle.mls_scheme.specs.Table.{Table}
use Rattle.mls_filterview.specs.declared.fragment.Node.{Node}
use Rattle.mls_filterview.specs.declared.fragment.Cell.{Cell}
use Rattle.mls_filterview.specs.Content.{Content}
use Rattle.mls_filterview.specs.Stored.{with_class}
use Rattle.mls_filterview.specs.Fragment.{node_of, cells_of, cell_at, place_of_node}
use Rattle.mls_filterview.specs.View.{IsAmong}
use Rattle.mls_filterview.proofs.AmongLemmas.{each_among, among_map, map_among, among_flat_map, flat_map_among, among_permutation}
use Rattle.mls_filterview.proofs.EntryLemmas.{among_entries, entries_among, entries_are}
use Rattle.mls_filterview.proofs.FragmentLemmas.{cell_found, cell_among}
use Rattle.mls_tables.specs.Rows.{Tables, numbered}
use Rattle.mls_tables.proofs.NumberedLemmas.{in_order, rising}
use Rattle.mls_rows.proofs.RowLemmas.{texts_of}
use Rattle.mls_rows.specs.Holding.{Holds, HoldsTable, IsSpelledNode, IsSpelledCell, node_row, cell_row, nodes_in, cells_in}
use Rattle.mls_fragments.specs.OneContent.{RowsHoldOneContent}
use Rattle.mls_rows.proofs.ShownLemmas.{same_node, same_cell, reflects}
use Rattle.mls_rows.proofs.WrittenLemmas.{spelled_keys}

-- ---- the cells of one table

module _ (t : Tables) (relation : ℕ) (T : Table) (held : HoldsTable t relation T) where
  nodes_spelled : AllByRecursion IsSpelledNode (nodes_in T)
  nodes_spelled = all-map IsSpelledNode node_of (entries T) (each_among (λ e. IsSpelledKey e.0.key) (entries T)
      (λ e i. spelled_keys t relation T held e i))

  cells_spelled : AllByRecursion IsSpelledCell (cells_in T)
  cells_spelled = each_among IsSpelledCell (cells_in T) (λ d k.
      let e = among_flat_map cells_of (entries T) d k in
      let f = cell_found 0 e.0.0 e.0.1 d e.2 in
      let shared = held.shared e.0.0 e.0.1 (among_entries T e.0 e.1) in
      subst IsSpelledCell (sym f.1.1) (shared.key, shared.values f.0 f.1.0))

  -- each element has its cell, at the place of its class
  has_cell : (p : Place) (es : List Element) → get T p ≡ Some es → (i : ℕ) → i < length es
      → IsAmong (cell_at (with_class p (at es i).class) i (at es i)) (cells_in T)
  has_cell p es h i l =
      let q = with_class p (at es i).class in
      let own = (held.shared p es h).own i l in
      subst (λ x. IsAmong (cell_at q i x) (cells_in T)) own.3
      (flat_map_among cells_of (entries T) (q, own.0) (cell_at q i (at own.0 i)) (entries_among T q own.0 own.1)
      (cell_among 0 q own.0 i i own.2 (sym (zero-add i)) (ap (λ x. x.class) own.3)))

  -- and a cell there is its own
  cell_is : (p : Place) (es : List Element) → get T p ≡ Some es → (i : ℕ) → i < length es → (x : Element)
      → x.class ≡ (at es i).class → IsAmong (cell_at (with_class p x.class) i x) (cells_in T) → at es i ≡ x
  cell_is p es h i l x class there =
      let d = cell_at (with_class p x.class) i x in
      let own = (held.shared p es h).own i l in
      let e = among_flat_map cells_of (entries T) d there in
      let f = cell_found 0 e.0.0 e.0.1 d e.2 in
      let back = sym f.1.1 in
      let label : e.0.0.class ≡ (at es i).class = sym f.1.2 ∙ ap (λ (c : Cell). c.label) back ∙ class in
      let place : e.0.0 ≡ with_class p (at es i).class = λ k. record {
        key = (back k).key;
        key_class =
            (back k).key_class;
        class = label k;
      } in
      let same : e.0.1 ≡ own.0 = same_Some e.0.1 own.0 (sym (among_entries T e.0 e.1) ∙ ap (get T) place ∙ own.1) in
      let number : f.0 ≡ i = sym (zero-add f.0) ∙ ap (λ (c : Cell). c.attr) back in
      let value = ap (λ (c : Cell). c.value) back in
      let found : at e.0.1 f.0 ≡ at es i = (λ k. at (same k) (number k)) ∙ own.3 in
      λ k. record { value = (sym (ap (λ (y : Element). y.value) found) ∙ value) k; class = sym class k }

-- ---- two tables of the same rows

module _ (t : Tables) (relation : ℕ) (T U : Table) (h : HoldsTable t relation T) (k : HoldsTable t relation U) where
  same_nodes : IsPermutation (nodes_in T) (nodes_in U)
  same_nodes = reflects IsSpelledNode (node_row relation) (same_node relation) (nodes_in T) (nodes_in U)
      (nodes_spelled t relation T h) (nodes_spelled t relation U k)
      (IsPermutation-trans _ _ _ h.nodes (IsPermutation-sym _ _ k.nodes))

  same_cells : IsPermutation (cells_in T) (cells_in U)
  same_cells = reflects IsSpelledCell (cell_row relation) (same_cell relation) (cells_in T) (cells_in U)
      (cells_spelled t relation T h) (cells_spelled t relation U k)
      (IsPermutation-trans _ _ _ h.cells (IsPermutation-sym _ _ k.cells))

  -- the elements are the same where the classes are
  elements_are : (p : Place) (es us : List Element) → get T p ≡ Some es → get U p ≡ Some us → map (λ e. e.class) es
      ≡ map (λ e. e.class) us → es ≡ us
  elements_are p es us g f pattern =
      let count : length es ≡ length us = sym (length-map es (λ e. e.class)) ∙ ap length pattern ∙ length-map us
      (λ e. e.class) in
      ext_get_or null_element es us count (λ i l.
      let below : i < length us = omega (arith, l, count) in
      let class : (at es i).class ≡ (at us i).class =
      sym (get_or-map (λ e. e.class) es i null_element 0 l) ∙ ap (λ ms. get_or ms i 0) pattern ∙ get_or-map
      (λ e. e.class) us i null_element 0 below in
      sym (cell_is t relation U k p us f i below (at es i) class ((among_permutation _ _ same_cells _).0
      (has_cell t relation T h p es g i l))))

  -- so what one has, the other has
  has_too : (p : Place) (es : List Element) → get T p ≡ Some es → get U p ≡ Some es
  has_too p es g =
      let n = (among_permutation _ _ same_nodes (node_of (p, es))).0 (map_among node_of (entries T) (p, es)
      (entries_among T p es g)) in
      let e = among_map node_of (entries U) (node_of (p, es)) n in
      let place : e.0.0 ≡ p = ap place_of_node (sym e.2) in
      let there : get U p ≡ Some e.0.1 = ap (get U) (sym place) ∙ among_entries U e.0 e.1 in
      there ∙ ap Some (sym (elements_are p es e.0.1 g there (ap (λ (m : Node). m.pattern) e.2)))

pub one_table : (t : Tables) (relation : ℕ) (T U : Table) → HoldsTable t relation T → HoldsTable t relation U → T ≡ U
one_table t relation T U h k = same_entries_map T U (entries_are U (entries T) (entries_sorted T) (λ e. (
  (λ i. has_too t relation T U h k e.0 e.1 (among_entries T e i)),
  (λ g. entries_among T e.0 e.1 (has_too t relation U T k h e.0 e.1 g)),
)))

-- ---- entries

one_list : (t : Tables) (c d : Content) → Holds t c → Holds t d → c.audit ≡ d.audit
one_list t c d h k =
    sym (texts_of 1 c.audit)
    ∙ ap (map (λ r. r.bytes)) (sym (in_order c.audit t.audit (numbered 1 d.audit) h.audit
    (IsPermutation-sym _ _ k.audit) (rising 1 d.audit)))
    ∙ texts_of 1 d.audit

pub one_content : RowsHoldOneContent
one_content t c d h k =
    let db : (relation : ℕ) → c.db relation ≡ d.db relation = λ relation. one_table t relation (c.db relation)
    (d.db relation) (h.tables relation) (k.tables relation) in
    let audit = one_list t c d h k in
    λ i. record { db = λ relation. db relation i; audit = audit i }
