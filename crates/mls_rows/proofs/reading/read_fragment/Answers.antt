use Rattle.std.proofs.Common.{◌≡◌, ◌∙◌, sym, map, filter, subst, subst₂, ap, IsPermutation, nat_eq}
use Rattle.std.specs.List.{AllByRecursion}
use Rattle.mls_tables.specs.Rows.{is_node_at, is_cell_at}
use Rattle.mls_rows.specs.Finding.{IsNodeRow, IsCellRow}
use Rattle.mls_rows.specs.Holding.{node_row, cell_row}
use Rattle.mls_rows.proofs.ByteLemmas.{read_nodes, read_cells}
use Rattle.mls_rows.proofs.ReadingLemmas.{found_fragment}
use Rattle.mls_rows.proofs.reading.read_fragment.Goals as goal

pub returns-in-Ok-clause-found : goal.returns-in-Ok-clause-found
returns-in-Ok-clause-found g c clean content holds =
    let t = c.args.store.now.now in
    let f = c.in-Ok.fragment in
    let nodes = c.in_ok-nodes.nodes.items in
    let cells = c.in_ok-cells.cells.items in
    let before = c.in_ok-cells.ensures.call.clean clean in
    let some_nodes : IsPermutation (filter (is_node_at c.args.relation c.args.label) t.nodes) nodes =
    subst₂ (λ r l. IsPermutation (filter (is_node_at r l) t.nodes) nodes) (c.from.ensures ∙ c.byte.ensures)
    (c.from-2.ensures ∙ c.byte-2.ensures) (c.in_ok-nodes.ensures.found before) in
    let same_cells = ap (λ u. u.cells) (c.in_ok-nodes.ensures.same before).0 in
    let read_cells : IsPermutation (filter (is_cell_at c.args.relation c.args.label) c.nodes_of_class.new.self.now.cells) cells = subst₂ (λ r l. IsPermutation (filter (is_cell_at r l) c.nodes_of_class.new.self.now.cells) cells) (c.from-3.ensures ∙ c.byte-3.ensures) (c.from-4.ensures ∙ c.byte-4.ensures) (c.in_ok-cells.ensures.found clean) in
    let some_cells = subst (λ xs. IsPermutation
    (filter (is_cell_at c.args.relation c.args.label) xs) cells) same_cells read_cells in
    found_fragment t content c.args.relation f nodes cells holds
    (subst (λ xs. map (node_row c.args.relation) f.nodes
    ≡ filter (λ r. nat_eq r.rel c.args.relation) xs) c.deref.ensures.value c.in-Ok.ensures.nodes)
    (subst (λ xs. map (cell_row c.args.relation) f.cells
    ≡ filter (λ r. nat_eq r.rel c.args.relation) xs) c.deref-2.ensures.value c.in-Ok.ensures.cells)
    c.in-Ok.ensures.spelled.0 c.in-Ok.ensures.spelled.1 c.args.label some_nodes some_cells

pub abandon_at_row-requires : goal.abandon_at_row-requires
abandon_at_row-requires g c bad clean =
    let t = c.args.store.now.now in
    let nodes = c.in_ok-nodes.nodes.items in
    let cells = c.in_ok-cells.cells.items in
    let before = c.in_ok-cells.ensures.call.clean clean in
    let held = c.requires.readable (c.in_ok-nodes.ensures.call.clean before) in
    let same_cells = ap (λ u. u.cells) (c.in_ok-nodes.ensures.same before).0 in
    let some_nodes = c.in_ok-nodes.ensures.found before in
    let some_cells = subst (λ xs. IsPermutation
    (filter (is_cell_at c.from-3.result c.from-4.result) xs) cells) same_cells (c.in_ok-cells.ensures.found clean)
    in
    let memory = c.in-Err.ensures.only
    (subst (AllByRecursion IsNodeRow) (sym c.deref.ensures.value)
    (read_nodes t held.0 held.1 held.2 _ nodes some_nodes))
    (subst (AllByRecursion IsCellRow) (sym c.deref-2.ensures.value)
    (read_cells t held.0 held.1 held.2 _ cells some_cells)) in
    bad memory
