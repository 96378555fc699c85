use Rattle.std.proofs.Common.{◌≡◌, rules, sym, ap, ◌∙◌, arith, slice_set}
use Rattle.std.proofs.lemmas.Bool.{cond-true, cond-false}
use Rattle.std.proofs.lemmas.List.Elements.{same_from_all_zip}
use Rattle.mls_filterview.specs.Fragment.{set_from}
use Rattle.mls_filterview.proofs.MapLemmas.{set_none, set_one}
use Rattle.mls_filterview.proofs.tuple_map.with_value.Goals.{then-attr-len+then-eq+in_ok-clone, else-attr-len, else-attr-len-via-then-attr-len+else-eq, else-attr-len-via-else-attr-len}
use Rattle.mls_filterview.proofs.tuple_map.with_value.Goals as goal

pub returns : goal.returns
returns c =
    let attr = c.args.attr in
    let label = c.args.label in
    let v = c.args.value.now in
    let xs = c.into_vec-changed.result.items in
    let same = ap (set_from attr label v 0) c.into_vec-changed.ensures in
    c.from.ensures ∙ elim c.if-attr-len.branch [
      | then-attr-len+then-eq+in_ok-clone w ↦
          (let value : w.in_ok-clone.field-0 ≡ v = search (rules, same_from_all_zip) in
          ap (λ u. u.items) w.changed-is ∙ ap (λ u. slice_set xs attr (record { value = u; class = label })) value
          ∙ sym (set_one attr label v attr 0 (omega arith) xs (let l = w.if-attr-len.true in let n = c.len.ensures
          in omega (arith, l, n)) w.index.result.now w.index.ensures
          ∙ cond-true _ _ _ (sym w.eq.ensures ∙ w.if-eq.true)) ∙ same)
      | else-attr-len w ↦ ap (λ u. u.items) w.changed-is ∙ elim w.else-attr-len.branch [
        | else-attr-len-via-then-attr-len+else-eq u ↦
            sym (set_one attr label v attr 0 (omega arith) xs (let l = u.if-attr-len.true in let n = c.len.ensures
            in omega (arith, l, n)) u.index.result.now u.index.ensures
            ∙ cond-false _ _ _ (sym u.eq.ensures ∙ u.if-eq.false)) ∙ same
        | else-attr-len-via-else-attr-len u ↦ sym (set_none attr label v 0 xs (λ i l s. let m = u.if-attr-len.false
            in let n = c.len.ensures in omega (arith, l, s, m, n))) ∙ same
      ]
    ]
