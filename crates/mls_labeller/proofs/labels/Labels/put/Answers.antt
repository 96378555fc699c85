use Rattle.std.proofs.Common.{◌≡◌, ◌<◌, length, get_or, set, [], sym, ap, ◌∙◌, arith}
use Rattle.std.proofs.lemmas.List.{map-set, length-map, get_or-map}
use Rattle.mls_labeller.specs.Rising.{rows_of}
use Rattle.mls_labeller.proofs.RowLemmas.{row_there}
use Rattle.mls_labeller.proofs.labels.Labels.put.Goals as goal

pub returns : goal.returns
returns c =
    let l = c.args.self.now in
    let r = c.args.row in
    let i = c.args.place in
    let v = c.index_mut.result.now in
    let within : r < length l.rows.items = omega (
      arith,
      row_there (rows_of l) r i c.requires,
      length-map l.rows.items (λ row. row.items),
    ) in
    let here : get_or (rows_of l) r [] ≡ v.items = get_or-map (λ row. row.items) l.rows.items r v [] within
    ∙ ap (λ row. row.items) (sym c.index_mut.ensures.value) in
    map-set (λ row. row.items) l.rows.items r _ ∙ (λ t. set (rows_of l) r (set (sym here t) i c.args.label))
