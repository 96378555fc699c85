-- What a store's rows hold is found: no row of content is refused, and what is put together is the content.
use Rattle.std.proofs.Common.{◌≡◌, inl, inr, ℕ, zero, suc, ◌<◌, ◌≤◌, true, List, [], ◌∷◌, map, filter, flat_map, length, refl, sym, ap, subst, ◌∙◌, arith, IsPermutation, nat_eq, slice_index_or}
use Rattle.std.specs.List.{AllByRecursion, AllZip}
use Rattle.std.specs.FinMap.{entries}
use Rattle.std.proofs.lemmas.List.Sorted.{IsPermutation-trans}
use Rattle.sqlite_trees.proofs.ListLemmas.{all-map, IsPermutation-filter}
use Rattle.mls_lattice.specs.Labels.{Labels}
use Rattle.mls_scheme.specs.Spelling.{IsSpelledKey}
use Rattle.mls_scheme.specs.declared.value.Value.{Value}
use Rattle.mls_scheme.specs.Value.{is_kind}
use Rattle.mls_scheme.specs.Fits.{Fits, in_interval}
use Rattle.mls_scheme.specs.Scheme.{Attribute, Schemes, scheme_of, no_scheme}
use Rattle.mls_scheme.specs.Table.{Table}
use Rattle.mls_filterview.specs.Assembly.{table_of}
use Rattle.mls_filterview.specs.Content.{Content}
use Rattle.mls_filterview.specs.Fragment.{node_of, cells_of}
use Rattle.mls_filterview.specs.Stored.{IsContent, AreContent}
use Rattle.mls_filterview.specs.View.{IsAmong}
use Rattle.mls_filterview.proofs.AmongLemmas.{each_among, among_permutation}
use Rattle.mls_filterview.proofs.EntryLemmas.{Entry, among_entries}
use Rattle.mls_filterview.proofs.RecoveringLemmas.{entries_all, table_all}
use Rattle.mls_tables.specs.declared.adopting.AllRows.{AllRows}
use Rattle.mls_tables.specs.Adopting.{AreAll}
use Rattle.mls_tables.specs.Rows.{Tables}
use Rattle.mls_rows.specs.Changes.{Entries}
use Rattle.mls_rows.specs.Finding.{HasByteClasses, IsNodeRow, IsCellRow, IsAssembled, AreAssembled, AreTables, node_rows, cell_rows}
use Rattle.mls_rows.specs.Holding.{Holds, HoldsTable, IsSpelledNode, IsSpelledCell, node_row, cell_row, nodes_in, cells_in}
use Rattle.mls_rows.proofs.ByteLemmas.{content_bytes, cell_reads, reads_node, reads_cell}
use Rattle.mls_rows.proofs.FindingLemmas.{nodes_of_rel, cells_of_rel, within}
use Rattle.mls_rows.proofs.ShownLemmas.{same_node, same_cell, reflects}
use Rattle.mls_rows.proofs.WrittenLemmas.{spelled_keys}

none : (es : Entries) → ((e : Entry) → IsAmong e es → ⊥) → es ≡ []
none [] h = refl
none (e ∷ es) h = absurd (h e (inl refl))

no_scheme_at : (schemes : Schemes) (relation : ℕ) → length schemes ≤ relation → scheme_of schemes relation ≡ no_scheme
no_scheme_at [] relation l = refl
no_scheme_at (s ∷ schemes) zero l = absurd (omega (arith, l))
no_scheme_at (s ∷ schemes) (suc relation) l = no_scheme_at schemes relation (omega (arith, l))

-- a key of no attributes has no value
no_key : (P : Attribute → Value → Type 0) (key : List Value) → AllZip P [] key → 0 < length key → ⊥
no_key P [] h l = omega (arith, l)
no_key P (v ∷ key) h l = h

module _ (ls : Labels) (few : length ls ≤ 256) (schemes : Schemes) (t : Tables) (rows : AllRows) (all : AreAll t rows)
    (c : Content) (holds : Holds t c) (content : AreContent ls schemes c.db) where
  -- ---- each row reads

  bytes : HasByteClasses c
  bytes = content_bytes ls schemes c few content

  pub node_rows_read : AllByRecursion IsNodeRow rows.nodes.items
  node_rows_read = each_among IsNodeRow rows.nodes.items (λ r i. reads_node t c holds bytes r
      ((among_permutation t.nodes rows.nodes.items all.0 r).1 i))

  pub cell_rows_read : AllByRecursion IsCellRow rows.cells.items
  cell_rows_read = each_among IsCellRow rows.cells.items (λ r i. reads_cell t c holds bytes r
      ((among_permutation t.cells rows.cells.items all.1.0 r).1 i))

  -- ---- what is put together is the table

  module _ (relation : ℕ) (es : Entries) (made : IsAssembled relation rows.nodes.items rows.cells.items es) where
    abbrev T : Table
    T = c.db relation

    abbrev held : HoldsTable t relation T
    held = holds.tables relation

    nodes_spelled : AllByRecursion IsSpelledNode (nodes_in T)
    nodes_spelled = all-map IsSpelledNode node_of (entries T) (each_among (λ e. IsSpelledKey e.0.key) (entries T)
        (λ e i. spelled_keys t relation T held e i))

    cells_spelled : AllByRecursion IsSpelledCell (cells_in T)
    cells_spelled = each_among IsSpelledCell (cells_in T) (λ d k. (cell_reads t c holds bytes relation d k).0)

    same_nodes : IsPermutation (nodes_in T) made.ns
    same_nodes = reflects IsSpelledNode (node_row relation) (same_node relation)
        (nodes_in T) made.ns nodes_spelled made.nodes_spelled
        (subst (IsPermutation (map (node_row relation) (nodes_in T))) (sym made.nodes_are)
        (IsPermutation-trans _ _ _ held.nodes (IsPermutation-filter
        (λ r. nat_eq r.rel relation) t.nodes rows.nodes.items all.0)))

    same_cells : IsPermutation (cells_in T) made.cs
    same_cells = reflects IsSpelledCell (cell_row relation) (same_cell relation)
        (cells_in T) made.cs cells_spelled made.cells_spelled
        (subst (IsPermutation (map (cell_row relation) (cells_in T))) (sym made.cells_are)
        (IsPermutation-trans _ _ _ held.cells (IsPermutation-filter
        (λ r. nat_eq r.rel relation) t.cells rows.cells.items all.1.0)))

    abbrev n : ℕ
    n = length (scheme_of schemes relation).others

    entries_made : es ≡ entries T
    entries_made = entries_all ls n T (content relation).stored made.ns made.cs same_nodes same_cells made.held made.values es made.sorted made.rows

    table_made : table_of es ≡ T
    table_made = table_all ls n T (content relation).stored made.ns made.cs same_nodes same_cells made.held made.values es made.sorted made.rows

  -- ---- of all relations

  -- there is no tuple of a relation that is not declared
  nothing_beyond : (relation : ℕ) → length schemes ≤ relation → entries (c.db relation) ≡ []
  nothing_beyond relation l = none (entries (c.db relation)) (λ e i.
      let there = among_entries (c.db relation) e i in
      let key = (holds.tables relation).shared e.0 e.1 there in
      let fits = subst (λ s. Fits ls s e.0 e.1) (no_scheme_at schemes relation l)
      ((content relation).fits e.0 e.1 there) in
      no_key (λ a v. (is_kind v a.1.kind ≡ true) × (in_interval ls e.0.key_class a
      ≡ true)) e.0.key fits.key key.key.count.some)

  module _ (tables : List Entries) (count : length tables ≡ length schemes)
      (made : AreAssembled rows.nodes.items rows.cells.items tables) where
    pub tables_are : AreTables ls schemes tables
    tables_are relation l = subst (IsContent ls (scheme_of schemes relation))
        (sym (table_made relation (slice_index_or tables relation []) (made relation l))) (content relation)

    entries_of : (relation : ℕ) → slice_index_or tables relation [] ≡ entries (c.db relation)
    entries_of relation = elim (within relation tables) [
      | inl l ↦ entries_made relation (slice_index_or tables relation []) (made relation l)
      | inr h ↦ h.1 ∙ sym (nothing_beyond relation (omega (arith, h.0, count)))
    ]

    pub same_node_rows : (relation : ℕ) → IsPermutation (filter (λ r. nat_eq r.rel relation) (node_rows 0 tables))
        (filter (λ r. nat_eq r.rel relation) rows.nodes.items)
    same_node_rows relation =
        subst (λ xs. IsPermutation xs (filter (λ r. nat_eq r.rel relation) rows.nodes.items))
        (sym (nodes_of_rel tables relation ∙ ap (λ es. map (node_row relation) (map node_of es))
        (entries_of relation)))
        (IsPermutation-trans _ _ _ (holds.tables relation).nodes
        (IsPermutation-filter (λ r. nat_eq r.rel relation) t.nodes rows.nodes.items all.0))

    pub same_cell_rows : (relation : ℕ) → IsPermutation (filter (λ r. nat_eq r.rel relation) (cell_rows 0 tables))
        (filter (λ r. nat_eq r.rel relation) rows.cells.items)
    same_cell_rows relation =
        subst (λ xs. IsPermutation xs (filter (λ r. nat_eq r.rel relation) rows.cells.items))
        (sym (cells_of_rel tables relation ∙ ap (λ es. map (cell_row relation) (flat_map cells_of es))
        (entries_of relation)))
        (IsPermutation-trans _ _ _ (holds.tables relation).cells
        (IsPermutation-filter (λ r. nat_eq r.rel relation) t.cells rows.cells.items all.1.0))
