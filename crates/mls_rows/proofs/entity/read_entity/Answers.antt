use Rattle.std.proofs.Common.{◌≡◌, ◌∙◌, [], sym, map, filter, subst, ap, IsPermutation, nat_eq}
use Rattle.std.specs.List.{AllByRecursion}
use Rattle.std.proofs.lemmas.Bool.Decides.{Decides-eqb}
use Rattle.std.proofs.lemmas.List.{nil_from_length}
use Rattle.mls_tables.specs.Rows.{is_node, is_cell_in}
use Rattle.mls_rows.specs.Finding.{IsNodeRow, IsCellRow}
use Rattle.mls_rows.specs.Holding.{node_row, cell_row, tuple_key}
use Rattle.mls_rows.proofs.ByteLemmas.{read_nodes, read_cells}
use Rattle.mls_rows.proofs.ReadingLemmas.{found_entity}
use Rattle.mls_rows.proofs.ShownLemmas.{shows_nothing}
use Rattle.mls_rows.proofs.entity.read_entity.Goals as goal

pub returns-in-Ok-fragment_of_relation-clause-found : goal.returns-in-Ok-fragment_of_relation-clause-found
returns-in-Ok-fragment_of_relation-clause-found g c clean content holds =
    let p = c.args.place.now in
    let relation = c.args.relation in
    let t = c.args.store.now.now in
    let f = c.in-Ok-fragment_of_relation.fragment in
    let nodes = c.in_ok-nodes.nodes.items in
    let cells = c.in_ok-cells.cells.items in
    let before = c.in_ok-cells.ensures.call.clean clean in
    let key : c.in-Ok.key ≡ tuple_key c.args.relation p = c.in-Ok.ensures.made in
    let some_nodes = subst (λ k. IsPermutation (filter (is_node k) t.nodes) nodes) key
    (c.in_ok-nodes.ensures.found before) in
    let same_cells = ap (λ u. u.cells) (c.in_ok-nodes.ensures.same before).0 in
    let read_cells = subst (λ k. IsPermutation (filter (is_cell_in k) c.nodes_of_key.new.self.now.cells) cells) key
    (c.in_ok-cells.ensures.found clean) in
    let some_cells = subst (λ xs. IsPermutation
    (filter (is_cell_in (tuple_key relation p)) xs) cells) same_cells read_cells in
    found_entity t content relation p f nodes cells holds c.requires.key some_nodes some_cells
    (subst (λ xs. map (node_row relation) f.nodes
    ≡ filter (λ r. nat_eq r.rel relation) xs) c.deref.ensures.value c.in-Ok-fragment_of_relation.ensures.nodes)
    (subst (λ xs. map (cell_row relation) f.cells
    ≡ filter (λ r. nat_eq r.rel relation) xs) c.deref-2.ensures.value c.in-Ok-fragment_of_relation.ensures.cells)
    c.in-Ok-fragment_of_relation.ensures.spelled.0 c.in-Ok-fragment_of_relation.ensures.spelled.1

pub returns-then-is_empty-clause-found : goal.returns-then-is_empty-clause-found
returns-then-is_empty-clause-found g c clean content holds =
    let p = c.args.place.now in
    let key : c.in-Ok.key ≡ tuple_key c.args.relation p = c.in-Ok.ensures.made in
    let none : c.in_ok-nodes.nodes.items ≡ [] = nil_from_length c.in_ok-nodes.nodes.items (sym c.in_ok-nodes.nodes.ok.0
    ∙ (Decides-eqb c.in_ok-nodes.nodes.len 0).0 (sym c.is_empty.ensures ∙ c.if-is_empty.true)) in
    let some = subst (λ k. IsPermutation (filter (is_node k) c.args.store.now.now.nodes) c.in_ok-nodes.nodes.items) key
    (c.in_ok-nodes.ensures.found clean) in
    shows_nothing c.args.store.now.now content c.args.relation p c.nothing.result holds c.requires.key
    (subst (IsPermutation (filter (is_node (tuple_key c.args.relation p)) c.args.store.now.now.nodes)) none some) c.nothing.ensures.0 c.nothing.ensures.1

pub abandon_at_row-requires : goal.abandon_at_row-requires
abandon_at_row-requires g c bad clean =
    let p = c.args.place.now in
    let t = c.args.store.now.now in
    let nodes = c.in_ok-nodes.nodes.items in
    let cells = c.in_ok-cells.cells.items in
    let before = c.in_ok-cells.ensures.call.clean clean in
    let held = c.requires.readable (c.in_ok-nodes.ensures.call.clean before) in
    let same_cells = ap (λ u. u.cells) (c.in_ok-nodes.ensures.same before).0 in
    let some_nodes = c.in_ok-nodes.ensures.found before in
    let some_cells = subst (λ xs. IsPermutation (filter (is_cell_in c.in-Ok.key) xs) cells) same_cells
    (c.in_ok-cells.ensures.found clean) in
    let memory = c.in-Err-fragment_of_relation.ensures.only
    (subst (AllByRecursion IsNodeRow) (sym c.deref.ensures.value)
    (read_nodes t held.0 held.1 held.2 _ nodes some_nodes))
    (subst (AllByRecursion IsCellRow) (sym c.deref-2.ensures.value)
    (read_cells t held.0 held.1 held.2 _ cells some_cells)) in
    bad memory
