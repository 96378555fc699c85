use Rattle.std.proofs.Common.{◌≡◌, [], ◌∷◌, rules, sym, ap, ◌∙◌}
use Rattle.mls_tables.proofs.SchemaLemmas.{only_item}
use Rattle.mls_tables.proofs.statements.schema.has_one_index.Goals as goal

pub returns-then-eq : goal.returns-then-eq
returns-then-eq c =
    let same : c.as_slice-2.result.now ≡ c.args.places.now = search rules in
    let one = only_item c.as_slice.result.now c.unique-item.result c.in-len1.len_at_least c.in-len1.len_below c.unique-item.is in
    let is : c.args.table.now.uniques ≡ c.args.places.now ∷ [] = sym c.as_slice.ensures
    ∙ (one ∙ ap (λ x. x ∷ []) (sym c.as_slice-2.ensures ∙ same)) in (
      λ plain. (is, sym c.as_slice-then-eq.ensures ∙ c.is_plain.ensures.0 plain),
      λ both. c.is_plain.ensures.1
          (c.as_slice-then-eq.ensures ∙ both.1),
    )
