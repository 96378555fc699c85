use Rattle.std.proofs.Common.{◌≡◌, ◌∙◌, sym, map, filter, subst, ap, IsPermutation, nat_eq}
use Rattle.std.specs.List.{AllByRecursion}
use Rattle.mls_tables.specs.Rows.{is_node_among, is_cell_among}
use Rattle.mls_rows.specs.Finding.{IsNodeRow, IsCellRow}
use Rattle.mls_rows.specs.Holding.{node_row, cell_row}
use Rattle.mls_rows.proofs.ByteLemmas.{read_nodes, read_cells}
use Rattle.mls_rows.proofs.ReadingLemmas.{found_fragments}
use Rattle.mls_rows.proofs.reading.read_fragments.Goals as goal

pub returns-in-Ok-clause-found : goal.returns-in-Ok-clause-found
returns-in-Ok-clause-found g c clean content holds =
    let t = c.args.store.now.now in
    let f = c.in-Ok.fragment in
    let nodes = c.in_ok-nodes.nodes.items in
    let cells = c.in_ok-cells.cells.items in
    let before = c.in_ok-cells.ensures.call.clean clean in
    let some_nodes : IsPermutation (filter (is_node_among c.args.relation c.bits_of-bits.result) t.nodes) nodes =
    subst (λ r. IsPermutation (filter (is_node_among r c.bits_of-bits.result) t.nodes) nodes) (c.from.ensures
    ∙ c.byte.ensures) (c.in_ok-nodes.ensures.found before) in
    let same_cells = ap (λ u. u.cells) (c.in_ok-nodes.ensures.same before).0 in
    let read_cells : IsPermutation (filter (is_cell_among c.args.relation c.bits_of-bits.result) c.nodes_among.new.self.now.cells) cells = subst (λ r. IsPermutation (filter (is_cell_among r c.bits_of-bits.result) c.nodes_among.new.self.now.cells) cells) (c.from-2.ensures ∙ c.byte-2.ensures) (c.in_ok-cells.ensures.found clean) in
    let some_cells = subst (λ xs. IsPermutation
    (filter (is_cell_among c.args.relation c.bits_of-bits.result) xs) cells) same_cells read_cells in
    found_fragments t content c.args.relation f nodes cells holds
    (subst (λ xs. map (node_row c.args.relation) f.nodes
    ≡ filter (λ r. nat_eq r.rel c.args.relation) xs) c.deref.ensures.value c.in-Ok.ensures.nodes)
    (subst (λ xs. map (cell_row c.args.relation) f.cells
    ≡ filter (λ r. nat_eq r.rel c.args.relation) xs) c.deref-2.ensures.value c.in-Ok.ensures.cells)
    c.in-Ok.ensures.spelled.0 c.in-Ok.ensures.spelled.1 c.args.labels.now c.bits_of-bits.result c.bits_of-bits.ensures some_nodes some_cells

pub abandon_at_row-requires : goal.abandon_at_row-requires
abandon_at_row-requires g c bad clean =
    let t = c.args.store.now.now in
    let nodes = c.in_ok-nodes.nodes.items in
    let cells = c.in_ok-cells.cells.items in
    let before = c.in_ok-cells.ensures.call.clean clean in
    let held = c.requires.readable (c.in_ok-nodes.ensures.call.clean before) in
    let same_cells = ap (λ u. u.cells) (c.in_ok-nodes.ensures.same before).0 in
    let some_nodes = c.in_ok-nodes.ensures.found before in
    let some_cells = subst (λ xs. IsPermutation
    (filter (is_cell_among c.from-2.result c.bits_of-bits.result) xs) cells) same_cells
    (c.in_ok-cells.ensures.found clean) in
    let memory = c.in-Err.ensures.only
    (subst (AllByRecursion IsNodeRow) (sym c.deref.ensures.value)
    (read_nodes t held.0 held.1 held.2 _ nodes some_nodes))
    (subst (AllByRecursion IsCellRow) (sym c.deref-2.ensures.value)
    (read_cells t held.0 held.1 held.2 _ cells some_cells)) in
    bad memory
