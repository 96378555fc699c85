use Rattle.std.proofs.Common.{◌∷◌, ◌++◌, [], Some, sym, ap, ◌∙◌, option_map}
use Rattle.mls_filterview.specs.Fragment.{node_of, cells_of}
use Rattle.mls_filterview.proofs.PlaceLemmas.{node_there, cells_there, entity_part}
use Rattle.mls_updates.specs.States.{tables_of}
use Rattle.mls_updates.proofs.tables.entity.Goals.{in-Some+in_ok-add_parts, in_default}
use Rattle.mls_updates.proofs.tables.entity.Goals as goal

pub returns : goal.returns
returns c =
    let p = c.args.place.now in
    let T = tables_of c.args.tables.now c.args.relation in
    entity_part T p _
    (c.from.ensures ∙ elim c.match-found_at.branch [
      | in-Some+in_ok-add_parts w ↦ ap (λ v. v.items) w.nodes-is ∙ w.in_ok-add_parts.ensures.nodes
          ∙ ap (λ ns. ns ++ node_of (p, w.deref.result.now) ∷ []) c.new-nodes.ensures.items
          ∙ ap (λ es. node_there p (Some es)) w.deref.ensures ∙ ap (node_there p) (ap (option_map (λ es. es.now))
          (sym w.in-Some.is) ∙ c.found_at.ensures)
      | in_default w ↦ ap (λ v. v.items) w.nodes-is ∙ c.new-nodes.ensures.items ∙ ap (node_there p)
          (ap (option_map (λ es. es.now)) (sym w.in_default.is) ∙ c.found_at.ensures)
    ])
    (c.from-2.ensures ∙ elim c.match-found_at.branch [
      | in-Some+in_ok-add_parts w ↦ ap (λ v. v.items) w.cells-is ∙ w.in_ok-add_parts.ensures.cells
          ∙ ap (λ ds. ds ++ cells_of (p, w.deref.result.now)) c.new-cells.ensures.items
          ∙ ap (λ es. cells_there p (Some es)) w.deref.ensures ∙ ap (cells_there p) (ap (option_map (λ es. es.now))
          (sym w.in-Some.is) ∙ c.found_at.ensures)
      | in_default w ↦ ap (λ v. v.items) w.cells-is ∙ c.new-cells.ensures.items ∙ ap (cells_there p)
          (ap (option_map (λ es. es.now)) (sym w.in_default.is) ∙ c.found_at.ensures)
    ])
