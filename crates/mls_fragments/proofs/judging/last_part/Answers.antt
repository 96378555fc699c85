use Rattle.std.proofs.Common.{false, subst}
use Rattle.mls_tables.specs.declared.rows.NodeRow.{NodeRow}
use Rattle.mls_tables.specs.declared.rows.CellRow.{CellRow}
use Rattle.mls_fragments.specs.Parts.{before, IsCut}
use Rattle.mls_fragments.proofs.CutLemmas.{cut_first}
use Rattle.mls_fragments.proofs.judging.last_part.Goals as goal

pub returns-in-Some : goal.returns-in-Some
returns-in-Some c =
    let first = c.in-Some.first.now in (
      before first.rel first.ent,
      subst (λ ent. IsCut (λ (r : NodeRow). before first.rel ent r.rel r.ent) c.args.nodes.now c.nodes_before.result) c.deref.ensures c.nodes_before.ensures,
      subst (λ ent. IsCut (λ (r : CellRow). before first.rel ent r.rel r.ent) c.args.cells.now c.cells_before.result) c.deref-in-Some.ensures c.cells_before.ensures,
    )

pub returns-in-None : goal.returns-in-None
returns-in-None c = ((λ rel ent. false), cut_first c.args.nodes.now, cut_first c.args.cells.now)
