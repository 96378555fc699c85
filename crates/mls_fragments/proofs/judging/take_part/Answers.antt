use Rattle.std.proofs.Common.{sym, subst, ◌∙◌}
use Rattle.mls_tables.specs.declared.rows.NodeRow.{NodeRow}
use Rattle.mls_tables.specs.declared.rows.CellRow.{CellRow}
use Rattle.mls_fragments.specs.Parts.{before, IsCut, AreNodesInOrder, AreCellsInOrder}
use Rattle.mls_fragments.proofs.CutLemmas.{still_parted}
use Rattle.mls_fragments.proofs.judging.take_part.Goals as goal

pub returns-clause-taken : goal.returns-clause-taken
returns-clause-taken c =
    let at = c.last_part-first_node.result in
    let q = c.last_part-first_node.ensures.0 in
    let nodes = subst (λ rows. IsCut (λ (r : NodeRow). q r.rel r.ent) rows at.0) c.deref.ensures.value c.last_part-first_node.ensures.1 in
    let cells = subst (λ rows. IsCut (λ (r : CellRow). q r.rel r.ent) rows at.1) c.deref-2.ensures.value c.last_part-first_node.ensures.2 in (
      q,
      record {
        part_nodes = c.in_ok-split_off.ensures.tail ∙ nodes.last;
        part_cells = c.in_ok-split_off-2.ensures.tail ∙ cells.last;
        kept_nodes = c.in_ok-split_off.ensures.items ∙ nodes.first;
        kept_cells = c.in_ok-split_off-2.ensures.items ∙ cells.first;
        none = c.new.ensures.items;
      },
    )

pub returns-clause-nodes : goal.returns-clause-nodes
returns-clause-nodes c =
    subst AreNodesInOrder (sym c.in_ok-split_off.ensures.items)
    (λ rel ent. still_parted (λ r. before rel ent r.rel r.ent) c.args.nodes.now.items c.last_part-first_node.result.0
    (c.requires.nodes rel ent))

pub returns-clause-cells : goal.returns-clause-cells
returns-clause-cells c =
    subst AreCellsInOrder (sym c.in_ok-split_off-2.ensures.items)
    (λ rel ent. still_parted (λ r. before rel ent r.rel r.ent) c.args.cells.now.items c.last_part-first_node.result.1
    (c.requires.cells rel ent))
