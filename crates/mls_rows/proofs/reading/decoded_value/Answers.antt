use Rattle.std.proofs.Common.{◌≡◌, ◌∙◌, sym, [], ◌∷◌, Some, None, append-nil, rules}
use Rattle.mls_scheme.specs.Spelling.{value_spelling}
use Rattle.mls_rows.proofs.reading.decoded_value.Goals as goal
use Rattle.mls_rows.proofs.reading.decoded_value.Goals.{then-bytes-lt1, else-bytes-lt1+then-bytes-lt2+in_default-1, else-bytes-lt1+else-bytes-lt2}

not_null : (c : goal.After-from_residual) → c.args.bytes.now ≡ 0 ∷ [] → ⊥
not_null c is =
    elim c.if-bytes-lt1.branch [ then-bytes-lt1 w ↦ search rules | else-bytes-lt1+then-bytes-lt2+in_default-1 w ↦ search rules | else-bytes-lt1+else-bytes-lt2 w ↦ search rules ]

pub returns-in_err-value-clause-only : goal.returns-in_err-value-clause-only
returns-in_err-value-clause-only c None spelled is = absurd (not_null c is)
returns-in_err-value-clause-only c (Some v) spelled is =
    let gives = c.value_of.ensures.only v [] spelled (is ∙ sym (append-nil (value_spelling v))) in
    search rules
