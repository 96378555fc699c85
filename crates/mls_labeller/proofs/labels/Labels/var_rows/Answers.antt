use Rattle.std.proofs.Common.{◌≡◌, ℕ, ◌+◌, ◌-◌, ◌<◌, ◌++◌, ◌∷◌, [], length, get_or, take, drop, sym, ap, ◌∙◌, arith, length-drop}
use Rattle.std.proofs.lemmas.Grind.{get_or_after_one}
use Rattle.std.proofs.lemmas.List.{take_more, length-map}
use Rattle.mls_labeller.specs.Rising.{rows_of}
use Rattle.mls_labeller.proofs.labels.Labels.var_rows.Goals as goal

pub loop-place-preserved : goal.loop-place-preserved
loop-place-preserved c =
    let rows = rows_of c.args.self.now in
    let r = c.loop-place.place in
    let within : r - 1 < length (drop 1 rows) = omega (
      arith,
      c.loop-place.auto.place,
      c.loop-place-test.true,
      c.len-place-end.ensures,
      length-map c.args.self.now.rows.items (λ row. row.items),
      length-drop 1 rows,
    ) in
    let place : 1 + (r - 1) ≡ r = omega (arith, c.loop-place.auto.place) in
    let next : r + 1 - 1 ≡ r - 1 + 1 = omega (arith, c.loop-place.auto.place) in
    let l = c.in_ok-copied.field-0 in
    let row : get_or (drop 1 rows) (r - 1) [] ≡ l = get_or_after_one rows (r - 1) []
    ∙ ap (λ (k : ℕ). get_or rows k []) place ∙ sym (c.in_ok-copied.ensures ∙ c.row.ensures) in
    let more : take (r + 1 - 1) (drop 1 rows) ≡ take (r - 1) (drop 1 rows) ++ l ∷ [] =
    ap (λ (k : ℕ). take k (drop 1 rows)) next ∙ take_more (drop 1 rows) (r - 1) [] within
    ∙ ap (λ k. take (r - 1) (drop 1 rows) ++ k ∷ []) row in
    c.in_ok-push.ensures.items ∙ ap (λ k. k ++ l ∷ []) c.loop-place.invariant ∙ sym more
