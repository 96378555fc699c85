-- Rows that are judged part by part: what is found of each is joined, and sound rows are refused at no part.
use Rattle.std.proofs.Common.{◌≡◌, ℕ, Bool, true, false, not, ◌&&◌, List, [], map, filter, flat_map, refl, sym, ap, subst, ◌∙◌, arith, IsPermutation, nat_eq}
use Rattle.std.specs.List.{AllByRecursion}
use Rattle.std.specs.FinMap.{entries-from_sorted}
use Rattle.std.proofs.lemmas.Bool.{and_parts, not-true}
use Rattle.std.proofs.lemmas.List.Sorted.{IsPermutation-refl, IsPermutation-trans, IsPermutation-sym}
use Rattle.sqlite_trees.proofs.ListLemmas.{all_of, filter_all, filter_none, IsPermutation-filter, IsPermutation-same}
use Rattle.mls_lattice.specs.Policy.{Policy, labels_of}
use Rattle.mls_scheme.specs.Scheme.{Schemes, scheme_of}
use Rattle.mls_scheme.specs.Table.{place_cmp}
use Rattle.mls_filterview.specs.Content.{Content}
use Rattle.mls_filterview.specs.Fragment.{node_of, cells_of}
use Rattle.mls_filterview.proofs.AmongLemmas.{each_among, among_filter}
use Rattle.mls_audit.specs.Spelling.{IsEntryOf}
use Rattle.mls_tables.specs.declared.rows.NodeRow.{NodeRow}
use Rattle.mls_tables.specs.declared.rows.CellRow.{CellRow}
use Rattle.mls_tables.specs.declared.adopting.AllRows.{AllRows}
use Rattle.mls_tables.specs.Adopting.{AreAll}
use Rattle.mls_tables.specs.Rows.{Tables, numbered}
use Rattle.mls_rows.specs.Changes.{Entries, table_in, found, with_tables}
use Rattle.mls_rows.specs.Finding.{IsSoundWithin}
use Rattle.mls_rows.specs.Holding.{Holds, HoldsTable, node_row, cell_row}
use Rattle.mls_fragments.specs.Parts as parts
use Rattle.mls_fragments.specs.Parts.{Part, outside, both, other, nodes_of, rows_of, rows_in, AreNodesInOrder, AreCellsInOrder, IsTakenOff, IsJudged}
use Rattle.mls_fragments.proofs.CutLemmas.{filter_both, taken_off}
use Rattle.mls_rows.proofs.FindingLemmas.{are_content, nothing}
use Rattle.mls_fragments.proofs.JoiningLemmas.{joined_content, joined_within, joined_table}
use Rattle.mls_fragments.proofs.PartLemmas.{part_holds, part_sound}
use Rattle.mls_rows.proofs.WrittenLemmas.{holds_same}

-- ---- rows that are left, and a part of them

module _ (left kept : Part) (nodes now_nodes next_nodes : List NodeRow) (cells now_cells next_cells : List CellRow)
    (part : AllRows)
    (nodes_are : now_nodes ≡ nodes_of left nodes) (cells_are : now_cells ≡ parts.cells_of left cells)
    (taken : IsTakenOff kept now_nodes next_nodes now_cells next_cells part) where
  pub next_nodes_are : next_nodes ≡ nodes_of (both left kept) nodes
  next_nodes_are = taken.kept_nodes ∙ ap (nodes_of kept) nodes_are ∙ filter_both (λ r. left r.rel r.ent)
      (λ r. kept r.rel r.ent) nodes

  pub next_cells_are : next_cells ≡ parts.cells_of (both left kept) cells
  next_cells_are = taken.kept_cells ∙ ap (parts.cells_of kept) cells_are ∙ filter_both (λ r. left r.rel r.ent)
      (λ r. kept r.rel r.ent) cells

  -- it has all rows of its entities
  pub part_all : (t : Tables) → IsPermutation t.nodes nodes → IsPermutation t.cells cells
      → AreAll (rows_of (outside kept left) t) part
  part_all t same_nodes same_cells = (
    IsPermutation-trans _ _ _ (IsPermutation-filter _ _ _ same_nodes)
        (IsPermutation-same _ _ (sym (taken.part_nodes ∙ ap (nodes_of (other kept)) nodes_are ∙ filter_both
        (λ r. left r.rel r.ent) (λ r. not (kept r.rel r.ent)) nodes))),
    (
      IsPermutation-trans _ _ _ (IsPermutation-filter _ _ _ same_cells)
          (IsPermutation-same _ _ (sym (taken.part_cells ∙ ap (parts.cells_of (other kept)) cells_are ∙ filter_both
          (λ r. left r.rel r.ent) (λ r. not (kept r.rel r.ent)) cells))),
      IsPermutation-same _ _ (sym taken.none),
    ),
  )

-- the last part is all that is left
pub last_taken : (nodes : List NodeRow) (cells : List CellRow) (part : AllRows) → part.nodes.items ≡ nodes
    → part.cells.items ≡ cells → part.entries.items ≡ []
    → IsTakenOff (λ relation ent. false) nodes [] cells [] part
last_taken nodes cells part same_nodes same_cells none = record {
  part_nodes = same_nodes ∙ sym (filter_all _ nodes (all_of _ (λ r. refl) nodes));
  part_cells = same_cells ∙ sym (filter_all _ cells (all_of _ (λ r. refl) cells));
  kept_nodes = sym (filter_none _ nodes (all_of _ (λ r. refl) nodes));
  kept_cells = sym (filter_none _ cells (all_of _ (λ r. refl) cells));
  none = none;
}

-- ---- no tuple

none_held : (t : Tables) (relation : ℕ) → t.nodes ≡ [] → t.cells ≡ [] → HoldsTable t relation (table_in [] relation)
none_held t relation nodes cells = record {
  nodes = IsPermutation-same _ _ (ap (λ es. map (node_row relation) (map node_of es))
      (entries-from_sorted place_cmp [] tt) ∙ sym (ap (filter (λ n. nat_eq n.rel relation)) nodes));
  cells = IsPermutation-same _ _ (ap (λ es. map (cell_row relation) (flat_map cells_of es))
      (entries-from_sorted place_cmp [] tt) ∙ sym (ap (filter (λ c. nat_eq c.rel relation)) cells));
  shared = λ p es g. absurd (nothing p es g);
}

module _ (policy : Policy) (schemes : Schemes) (labels : ℕ) (nodes : List NodeRow) (cells : List CellRow)
    (list : List (List ℕ)) where
  abbrev all : Tables
  all = rows_in nodes cells

  pub first_judged : AllByRecursion (IsEntryOf labels) list → IsJudged policy schemes labels
      (rows_of (other (λ relation ent. true)) all) list (found [] list)
  first_judged entries = record {
    tables = λ relation. none_held _ relation (filter_none _ nodes (all_of _ (λ r. refl) nodes))
        (filter_none _ cells (all_of _ (λ r. refl) cells));
    sound = record {
      content = are_content (labels_of policy) schemes [] (λ relation l. absurd (omega (arith, l)));
      classes = λ relation p es g. absurd (nothing p es g);
      entries = entries;
    };
    audit = refl;
  }

  -- ---- one part more

  module _ (left kept : Part) (c : Content) (tables : List Entries) (audit : List (List ℕ))
      (judged : IsJudged policy schemes labels (rows_of (other left) all) list c)
      (holds : Holds (rows_of (outside kept left) all) (found tables audit))
      (sound : IsSoundWithin policy schemes labels (found tables audit)) where
    before : AllByRecursion (λ r. left r.rel r.ent ≡ false) (nodes_of (other left) nodes)
    before = each_among _ (nodes_of (other left) nodes) (λ r i. not-true (left r.rel r.ent)
        (among_filter (λ n. not (left n.rel n.ent)) nodes r i).1)

    here : AllByRecursion (λ r. left r.rel r.ent ≡ true) (nodes_of (outside kept left) nodes)
    here = each_among _ (nodes_of (outside kept left) nodes)
        (λ r i. (and_parts _ _ (among_filter (λ n. left n.rel n.ent && not (kept n.rel n.ent)) nodes r i).1).0)

    pub part_judged : IsJudged policy schemes labels (rows_of (other (both left kept)) all) list (with_tables c tables)
    part_judged = record {
      tables = λ relation. joined_table left relation (rows_of (other left) all) (rows_of (outside kept left) all)
          (rows_of (other (both left kept)) all) (c.db relation) (table_in tables relation) (judged.tables relation)
          (holds.tables relation) before here
          (taken_off (λ r. left r.rel r.ent) (λ r. kept r.rel r.ent) nodes) (taken_off (λ r. left r.rel r.ent)
          (λ r. kept r.rel r.ent) cells);
      sound = record {
        content = λ relation. joined_content left relation (rows_of (other left) all) (rows_of (outside kept left) all)
            (rows_of (other (both left kept)) all) (c.db relation) (table_in tables relation) (judged.tables relation)
            (holds.tables relation) before here
            (labels_of policy) (scheme_of schemes relation) (judged.sound.content relation) (sound.content relation);
        classes = λ relation. joined_within left relation (rows_of (other left) all) (rows_of (outside kept left) all)
            (rows_of (other (both left kept)) all) (c.db relation) (table_in tables relation) (judged.tables relation)
            (holds.tables relation) before here
            labels (judged.sound.classes relation) (sound.classes relation);
        entries = judged.sound.entries;
      };
      audit = judged.audit;
    }

  -- what no row is outside of is all
  pub all_judged : (q : Part) (c : Content) → ((relation : ℕ) (ent : List ℕ) → q relation ent ≡ true)
      → IsJudged policy schemes labels (rows_of q all) list c → IsJudged policy schemes labels all list c
  all_judged q c each judged =
      subst (λ t. IsJudged policy schemes labels t list c)
      (λ i. rows_in (filter_all (λ r. q r.rel r.ent) nodes (all_of _ (λ r. each r.rel r.ent) nodes) i)
      (filter_all (λ r. q r.rel r.ent) cells (all_of _ (λ r. each r.rel r.ent) cells) i)) judged

-- ---- parts one after the other

-- some rows are left, and the others are judged
pub record IsUnderWay (policy : Policy) (schemes : Schemes) (labels : ℕ) (nodes : List NodeRow) (cells : List CellRow)
    (list : List (List ℕ)) (now_nodes : List NodeRow) (now_cells : List CellRow) (c : Content) : Type 0 where
  pub left : Part
  pub nodes_are : now_nodes ≡ nodes_of left nodes
  pub cells_are : now_cells ≡ parts.cells_of left cells
  pub nodes_order : AreNodesInOrder now_nodes
  pub cells_order : AreCellsInOrder now_cells
  pub judged : IsJudged policy schemes labels (rows_of (other left) (rows_in nodes cells)) list c

pub begins : (policy : Policy) (schemes : Schemes) (labels : ℕ) (nodes : List NodeRow) (cells : List CellRow)
    (list : List (List ℕ)) → AreNodesInOrder nodes → AreCellsInOrder cells → AllByRecursion (IsEntryOf labels) list
    → IsUnderWay policy schemes labels nodes cells list nodes cells (found [] list)
begins policy schemes labels nodes cells list nodes_order cells_order entries = record {
  left = λ relation ent. true;
  nodes_are = sym (filter_all _ nodes (all_of _ (λ r. refl) nodes));
  cells_are = sym (filter_all _ cells (all_of _ (λ r. refl) cells));
  nodes_order = nodes_order;
  cells_order = cells_order;
  judged = first_judged policy schemes labels nodes cells list entries;
}

module _ (policy : Policy) (schemes : Schemes) (labels : ℕ) (nodes : List NodeRow) (cells : List CellRow)
    (list : List (List ℕ)) (now_nodes next_nodes : List NodeRow) (now_cells next_cells : List CellRow) (c : Content)
    (going : IsUnderWay policy schemes labels nodes cells list now_nodes now_cells c) (kept : Part) (part : AllRows)
    (taken : IsTakenOff kept now_nodes next_nodes now_cells next_cells part) where
  part_of_all : (t : Tables) → IsPermutation t.nodes nodes → IsPermutation t.cells cells
      → AreAll (rows_of (outside kept going.left) t) part
  part_of_all = part_all going.left kept nodes now_nodes next_nodes cells now_cells next_cells part going.nodes_are going.cells_are taken

  more_judged : (tables : List Entries) (audit : List (List ℕ)) → ((t : Tables) → AreAll t part
      → Holds t (found tables audit)) → IsSoundWithin policy schemes labels (found tables audit)
      → IsJudged policy schemes labels (rows_of (other (both going.left kept)) (rows_in nodes cells)) list
      (with_tables c tables)
  more_judged tables audit held sound =
      part_judged policy schemes labels nodes cells list going.left kept c tables audit going.judged
      (held _ (part_of_all (rows_in nodes cells) (IsPermutation-refl nodes) (IsPermutation-refl cells))) sound

  pub goes_on : (tables : List Entries) (audit : List (List ℕ)) → ((t : Tables) → AreAll t part
      → Holds t (found tables audit)) → IsSoundWithin policy schemes labels (found tables audit)
      → AreNodesInOrder next_nodes → AreCellsInOrder next_cells
      → IsUnderWay policy schemes labels nodes cells list next_nodes next_cells (with_tables c tables)
  goes_on tables audit held sound nodes_order cells_order = record {
    left = both going.left kept;
    nodes_are = next_nodes_are going.left kept nodes now_nodes next_nodes cells now_cells next_cells part going.nodes_are going.cells_are taken;
    cells_are = next_cells_are going.left kept nodes now_nodes next_nodes cells now_cells next_cells part going.nodes_are going.cells_are taken;
    nodes_order = nodes_order;
    cells_order = cells_order;
    judged = more_judged tables audit held sound;
  }

  -- sound content is that of each part, which is not refused
  pub refused : (X : Type 0) → ((t : Tables) → AreAll t part → (d : Content) → Holds t d
      → IsSoundWithin policy schemes labels d → X)
      → (t : Tables) → IsPermutation t.nodes nodes → IsPermutation t.cells cells → (d : Content) → Holds t d
      → IsSoundWithin policy schemes labels d → X
  refused X only t same_nodes same_cells d holds sound =
      only _ (part_of_all t same_nodes same_cells) _ (part_holds (outside kept going.left) t d holds)
      (part_sound (outside kept going.left) policy schemes labels d sound)

none_left : (b : Bool) → not (b && false) ≡ true
none_left true = refl
none_left false = refl

module _ (policy : Policy) (schemes : Schemes) (labels : ℕ) (nodes : List NodeRow) (cells : List CellRow)
    (list : List (List ℕ)) (c : Content) (part : AllRows)
    (going : IsUnderWay policy schemes labels nodes cells list part.nodes.items part.cells.items c)
    (none : part.entries.items ≡ []) where
  all_taken : IsTakenOff (λ relation ent. false) part.nodes.items [] part.cells.items [] part
  all_taken = last_taken part.nodes.items part.cells.items part refl refl none

  pub ends : (tables : List Entries) (audit : List (List ℕ)) → ((t : Tables) → AreAll t part
      → Holds t (found tables audit)) → IsSoundWithin policy schemes labels (found tables audit)
      → IsJudged policy schemes labels (rows_in nodes cells) list (with_tables c tables)
  ends tables audit held sound =
      all_judged policy schemes labels nodes cells list (other (both going.left (λ relation ent. false)))
      (with_tables c tables) (λ relation ent. none_left (going.left relation ent))
      (more_judged policy schemes labels nodes cells list part.nodes.items [] part.cells.items [] c going
      (λ relation ent. false) part all_taken tables audit held sound)

  pub refused_last : (X : Type 0) → ((t : Tables) → AreAll t part → (d : Content) → Holds t d
      → IsSoundWithin policy schemes labels d → X)
      → (t : Tables) → IsPermutation t.nodes nodes → IsPermutation t.cells cells → (d : Content) → Holds t d
      → IsSoundWithin policy schemes labels d → X
  refused_last = refused policy schemes labels nodes cells list part.nodes.items [] part.cells.items [] c going
      (λ relation ent. false) part all_taken

-- ---- all rows

pub judged_holds : (policy : Policy) (schemes : Schemes) (labels : ℕ) (rows : AllRows) (nodes : List NodeRow)
    (cells : List CellRow) (list : List (List ℕ)) (c : Content)
    → IsPermutation rows.nodes.items nodes → IsPermutation rows.cells.items cells
    → IsPermutation (numbered 1 list) rows.entries.items
    → IsJudged policy schemes labels (rows_in nodes cells) list c → (t : Tables) → AreAll t rows → Holds t c
judged_holds policy schemes labels rows nodes cells list c same_nodes same_cells entries judged t all = record {
  tables = λ relation. holds_same (rows_in nodes cells) t relation (c.db relation) (judged.tables relation)
      (IsPermutation-filter _ _ _ (IsPermutation-sym _ _ (IsPermutation-trans _ _ _ all.0 same_nodes)))
      (IsPermutation-filter _ _ _ (IsPermutation-sym _ _ (IsPermutation-trans _ _ _ all.1.0 same_cells)));
  audit = subst (λ l. IsPermutation (numbered 1 l) t.audit) (sym judged.audit) (IsPermutation-trans _ _ _ entries
      (IsPermutation-sym _ _ all.1.1));
}
