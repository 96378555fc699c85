-- What rows of some labels show are their fragments, and what rows of one place show is what belongs to its entity.
use Rattle.std.proofs.Common.{◌≡◌, ℕ, List, map, filter, Bool, true, ◌&&◌, sym, subst, ◌∙◌, IsPermutation, nat_eq}
use Rattle.std.specs.List.{AllByRecursion, list_any}
use Rattle.std.specs.FinMap.{entries}
use Rattle.mls_filterview.proofs.FilteredLemmas.{filter_same, filter_turned}
use Rattle.std.proofs.lemmas.Bool.{and_parts}
use Rattle.sqlite_trees.proofs.ListLemmas.{filter-filter, IsPermutation-filter}
use Rattle.mls_scheme.specs.declared.place.Place.{Place}
use Rattle.mls_scheme.specs.Spelling.{IsSpelledKey}
use Rattle.mls_filterview.specs.Content.{Content}
use Rattle.mls_filterview.specs.Fragment.{IsFragment, AreFragments, ArePartsOf, IsEntityPart}
use Rattle.mls_filterview.specs.declared.fragment.Fragment.{Fragment}
use Rattle.mls_tables.specs.declared.rows.NodeRow.{NodeRow}
use Rattle.mls_tables.specs.declared.rows.CellRow.{CellRow}
use Rattle.mls_tables.specs.Rows.{Tables, has_bit, is_node_at, is_node_among, is_cell_at, is_cell_among, is_node, is_cell_in}
use Rattle.mls_rows.specs.Holding.{Holds, node_row, cell_row, IsSpelledNode, IsSpelledCell, tuple_key}
use Rattle.mls_rows.proofs.ShownLemmas.{shows_labels, shows_entity}

-- what passes a test passes a weaker one too
passes : {R : Type 0} (p q : R → Bool) → ((r : R) → p r ≡ true → q r ≡ true) → (all rows shown : List R)
    → IsPermutation (filter p all) rows → shown ≡ filter q rows → IsPermutation (filter p all) shown
passes p q weaker all rows shown same is =
    subst (IsPermutation (filter p all)) (sym is)
    (subst (λ xs. IsPermutation xs (filter q rows)) (filter_turned q p all ∙ filter-filter p q weaker all)
    (IsPermutation-filter q (filter p all) rows same))

module _ (t : Tables) (c : Content) (relation : ℕ) (f : Fragment) (nodes : List NodeRow) (cells : List CellRow)
    (holds : Holds t c)
    (shown_nodes : map (node_row relation) f.nodes ≡ filter (λ r. nat_eq r.rel relation) nodes)
    (shown_cells : map (cell_row relation) f.cells ≡ filter (λ r. nat_eq r.rel relation) cells)
    (nodes_spelled : AllByRecursion IsSpelledNode f.nodes) (cells_spelled : AllByRecursion IsSpelledCell f.cells) where
  found_labels : (has : ℕ → Bool) → IsPermutation (filter (λ n. nat_eq n.rel relation && has n.label) t.nodes) nodes
      → IsPermutation (filter (λ d. nat_eq d.rel relation && has d.label) t.cells) cells
      → ArePartsOf (filter (λ e. has e.0.class) (entries (c.db relation))) f
  found_labels has some_nodes some_cells =
      shows_labels t c relation has f holds nodes_spelled cells_spelled
      (passes (λ n. nat_eq n.rel relation && has n.label) (λ r. nat_eq r.rel relation)
      (λ r h. (and_parts _ _ h).0) t.nodes nodes (map (node_row relation) f.nodes) some_nodes shown_nodes)
      (passes (λ d. nat_eq d.rel relation && has d.label) (λ r. nat_eq r.rel relation)
      (λ r h. (and_parts _ _ h).0) t.cells cells (map (cell_row relation) f.cells) some_cells shown_cells)

  pub found_fragment : (label : ℕ) → IsPermutation (filter (is_node_at relation label) t.nodes) nodes
      → IsPermutation (filter (is_cell_at relation label) t.cells) cells → IsFragment (c.db relation) label f
  found_fragment label = found_labels (λ m. nat_eq m label)

  pub found_fragments : (labels : List ℕ) (bits : ℕ) → ((m : ℕ) → has_bit bits m ≡ list_any (λ k. nat_eq m k) labels)
      → IsPermutation (filter (is_node_among relation bits) t.nodes) nodes
      → IsPermutation (filter (is_cell_among relation bits) t.cells) cells → AreFragments (c.db relation) labels f
  found_fragments labels bits same some_nodes some_cells =
      subst (λ es. ArePartsOf es f) (filter_same (λ e. has_bit bits e.0.class)
      (λ e. list_any (λ k. nat_eq e.0.class k) labels) (λ e. same e.0.class) (entries (c.db relation)))
      (found_labels (has_bit bits) some_nodes some_cells)

pub found_entity : (t : Tables) (c : Content) (relation : ℕ) (p : Place) (f : Fragment) (nodes : List NodeRow)
    (cells : List CellRow) → Holds t c → IsSpelledKey p.key
    → IsPermutation (filter (is_node (tuple_key relation p)) t.nodes) nodes
    → IsPermutation (filter (is_cell_in (tuple_key relation p)) t.cells) cells
    → map (node_row relation) f.nodes ≡ filter (λ r. nat_eq r.rel relation) nodes → map (cell_row relation) f.cells
    ≡ filter (λ r. nat_eq r.rel relation) cells
    → AllByRecursion IsSpelledNode f.nodes → AllByRecursion IsSpelledCell f.cells → IsEntityPart (c.db relation) p f
found_entity t c relation p f nodes cells holds spelled some_nodes some_cells shown_nodes shown_cells nodes_spelled cells_spelled =
    shows_entity t c relation p f holds spelled nodes_spelled cells_spelled
    (passes (is_node (tuple_key relation p)) (λ r. nat_eq r.rel relation) (λ r h. (and_parts _ _ h).0) t.nodes nodes
    (map (node_row relation) f.nodes) some_nodes shown_nodes)
    (passes (is_cell_in (tuple_key relation p)) (λ r. nat_eq r.rel relation) (λ r h. (and_parts _ _ h).0) t.cells cells
    (map (cell_row relation) f.cells) some_cells shown_cells)
