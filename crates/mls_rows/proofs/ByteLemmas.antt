-- Content whose classes are bytes: its rows can be read, and what changes make of it is such content.
use Rattle.std.proofs.Common.{◌≡◌, inl, inr, refl, ℕ, ◌<◌, ◌≤◌, Bool, true, false, cond, List, filter, length, Option, Some, None, sym, ap, subst, ◌∙◌, arith, IsPermutation, nat_eq, option_map, eq-eqb}
use Rattle.std.specs.List.{AllByRecursion}
use Rattle.std.specs.FinMap.{get, insert, remove, entries, get-empty}
use Rattle.std.proofs.lemmas.Bool.{cases_Bool}
use Rattle.std.proofs.lemmas.Option.{none-some}
use Rattle.std.proofs.lemmas.List.{length-map}
use Rattle.mls_lattice.specs.Labels.{Labels}
use Rattle.mls_lattice.specs.Policy.{Policy, labels_of}
use Rattle.mls_scheme.specs.declared.value.Value.{Value}
use Rattle.mls_scheme.specs.declared.tuple.Element.{Element}
use Rattle.mls_scheme.specs.declared.place.Place.{Place}
use Rattle.mls_scheme.specs.Scheme.{Schemes}
use Rattle.mls_scheme.specs.Table.{Table, place_cmp, change}
use Rattle.mls_scheme.proofs.OrderLemmas.{is_place, is_place-true}
use Rattle.mls_scheme.proofs.TableLemmas.{get_put, get_change}
use Rattle.mls_filterview.specs.Content.{Content, no_content, with_table}
use Rattle.mls_filterview.specs.Fragment.{node_of, cells_of, place_of_node, set_in}
use Rattle.mls_filterview.specs.Stored.{AreContent}
use Rattle.mls_filterview.specs.View.{IsAmong}
use Rattle.mls_filterview.specs.declared.fragment.Node.{Node}
use Rattle.mls_filterview.specs.declared.fragment.Cell.{Cell}
use Rattle.mls_filterview.proofs.AmongLemmas.{each_among, among_map, among_filter, filter_among, among_flat_map, among_permutation}
use Rattle.mls_filterview.proofs.EntryLemmas.{among_entries}
use Rattle.mls_filterview.proofs.FragmentLemmas.{cell_found}
use Rattle.mls_tables.specs.declared.rows.NodeRow.{NodeRow}
use Rattle.mls_tables.specs.declared.rows.CellRow.{CellRow}
use Rattle.mls_tables.specs.Rows.{Tables}
use Rattle.mls_rows.specs.Finding.{HasByteClasses, IsNodeRow, IsCellRow}
use Rattle.mls_rows.specs.Holding.{Holds, IsSpelledCell, node_row, cell_row, nodes_in, cells_in}
use Rattle.mls_rows.proofs.DroppingLemmas.{left_cases}
use Rattle.mls_rows.proofs.WrittenLemmas.{spelled_keys}

-- ---- rows that are read

module _ (t : Tables) (c : Content) (holds : Holds t c) (bytes : HasByteClasses c) where
  pub reads_node : (r : NodeRow) → IsAmong r t.nodes → IsNodeRow r
  reads_node r i =
      let T = c.db r.rel in
      let held = holds.tables r.rel in
      let here = filter_among (λ n. nat_eq n.rel r.rel) t.nodes r i (eq-eqb r.rel r.rel refl) in
      let n = among_map (node_row r.rel) (nodes_in T) r ((among_permutation _ _ held.nodes r).1 here) in
      let e = among_map node_of (entries T) n.0 n.1 in
      let small = bytes r.rel e.0.0 e.0.1 (among_entries T e.0 e.1) in
      record {
        node = node_of e.0;
        spelled = spelled_keys t r.rel T held e.0 e.1;
        key_class = small.0;
        label = small.1;
        is = n.2 ∙ ap (node_row r.rel) e.2;
      }

  pub cell_reads : (relation : ℕ) (d : Cell) → IsAmong d (cells_in (c.db relation)) → IsSpelledCell d
      × (d.key_class < 256) × (d.label < 256)
  cell_reads relation d k =
      let e = among_flat_map cells_of (entries (c.db relation)) d k in
      let f = cell_found 0 e.0.0 e.0.1 d e.2 in
      let there = among_entries (c.db relation) e.0 e.1 in
      let shared = (holds.tables relation).shared e.0.0 e.0.1 there in
      let small = bytes relation e.0.0 e.0.1 there in
      subst (λ x. IsSpelledCell x × (x.key_class < 256) × (x.label < 256)) (sym f.1.1)
      ((shared.key, shared.values f.0 f.1.0), small.0, subst (λ m. m < 256) (sym f.1.2) small.1)

  pub reads_cell : (r : CellRow) → IsAmong r t.cells → IsCellRow r
  reads_cell r i =
      let held = holds.tables r.rel in
      let here = filter_among (λ d. nat_eq d.rel r.rel) t.cells r i (eq-eqb r.rel r.rel refl) in
      let d = among_map (cell_row r.rel) (cells_in (c.db r.rel)) r ((among_permutation _ _ held.cells r).1 here) in
      let reads = cell_reads r.rel d.0 d.1 in
      record { cell = d.0; spelled = reads.0; key_class = reads.1; label = reads.2; is = d.2 }

  pub read_nodes : (p : NodeRow → Bool) (rows : List NodeRow) → IsPermutation (filter p t.nodes) rows
      → AllByRecursion IsNodeRow rows
  read_nodes p rows same = each_among IsNodeRow rows
      (λ r i. reads_node r (among_filter p t.nodes r ((among_permutation _ _ same r).1 i)).0)

  pub read_cells : (p : CellRow → Bool) (rows : List CellRow) → IsPermutation (filter p t.cells) rows
      → AllByRecursion IsCellRow rows
  read_cells p rows same = each_among IsCellRow rows
      (λ r i. reads_cell r (among_filter p t.cells r ((among_permutation _ _ same r).1 i)).0)

-- ---- content that is found

pub few_labels : (p : Policy) → length p.labels ≤ 64 → length (labels_of p) ≤ 256
few_labels p h = omega (arith, h, length-map p.labels (λ l. l.value))

pub content_bytes : (ls : Labels) (schemes : Schemes) (c : Content) → length ls ≤ 256 → AreContent ls schemes c.db
    → HasByteClasses c
content_bytes ls schemes c few content relation p es e =
    let stored = (content relation).stored p es e in
    let key_class = stored.declared p.key_class (inl refl) in
    let class = stored.declared p.class stored.own in
    (omega (arith, key_class, few), omega (arith, class, few))

-- ---- content that is changed

pub none_bytes : HasByteClasses no_content
none_bytes relation p es e = absurd (none-some es (sym (get-empty place_cmp p) ∙ e))

abbrev AreBytes : Place → Type 0
AreBytes p = (p.key_class < 256) × (p.class < 256)

module _ (c : Content) (relation : ℕ) (bytes : HasByteClasses c) where
  with_bytes : (T : Table) → ((p : Place) (es : List Element) → get T p ≡ Some es → AreBytes p)
      → HasByteClasses (record c { db = with_table c.db relation T })
  with_bytes T new r p es e = elim (cases_Bool (nat_eq r relation)) [
    | inl here ↦ new p es (rw here at e)
    | inr other ↦ bytes r p es (rw other at e)
  ]

  pub tuple_bytes : (n : Node) (es : List Element) → (n.key_class < 256) × (n.label < 256)
      → HasByteClasses (record c { db = with_table c.db relation (insert (c.db relation) (place_of_node n) es) })
  tuple_bytes n es small = with_bytes (insert (c.db relation) (place_of_node n) es)
      (λ q us g. by q us (is_place q (place_of_node n)) refl (sym (get_put (c.db relation) (place_of_node n) es q) ∙ g))
    where
      by : (q : Place) (us : List Element) (b : Bool) → is_place q (place_of_node n) ≡ b
          → cond b (Some es) (get (c.db relation) q) ≡ Some us → AreBytes q
      by q us true e g = subst AreBytes (sym (is_place-true q (place_of_node n) e)) small
      by q us false e g = bytes relation q us g

  pub value_bytes : (p : Place) (attr : ℕ) (v : Option Value)
      → HasByteClasses (record c { db = with_table c.db relation (change (set_in p attr v) (c.db relation)) })
  value_bytes p attr v = with_bytes (change (set_in p attr v) (c.db relation))
      (λ q es g. by q es (get (c.db relation) q) refl (sym (get_change (set_in p attr v) (c.db relation) q) ∙ g))
    where
      by : (q : Place) (es : List Element) (o : Option (List Element)) → get (c.db relation) q ≡ o
          → option_map (set_in p attr v q) o ≡ Some es → AreBytes q
      by q es None e h = absurd (none-some es h)
      by q es (Some fs) e h = bytes relation q fs e

  pub rest_bytes : (p : Place) → HasByteClasses (record c { db = with_table c.db relation (remove (c.db relation) p) })
  rest_bytes p = with_bytes (remove (c.db relation) p) (λ q es g. bytes relation q es
      (left_cases (c.db relation) p q es g).1)
