use Rattle.std.proofs.Common.{◌≡◌, refl, sym, ap, cond, ◌∙◌, length, true, false, chars}
use Rattle.std.specs.Str.{is_utf8}
use Rattle.std.proofs.lemmas.Str.{IsUtf8-from_is_utf8, is_utf8-from_IsUtf8}
use Rattle.unicode_width.specs.Width.{str_width}
use Rattle.mls_tokens.proofs.width.columns.Goals as goal

pub returns-in-Ok : goal.returns-in-Ok
returns-in-Ok c =
    let bytes = c.args.bytes.now in
    let h = c.in-Ok.ensures.cases in
    c.width.ensures.value ∙ ap (λ b. str_width false (chars b)) h.0
    ∙ sym (ap (λ b. cond b (str_width false (chars bytes)) (length bytes)) (is_utf8-from_IsUtf8 bytes h.1))

pub returns-in-Err : goal.returns-in-Err
returns-in-Err c =
    let bytes = c.args.bytes.now in
    let h = c.in-Err.ensures.cases in
    elim (is_utf8 bytes) as (λ b. is_utf8 bytes ≡ b → length bytes ≡ cond b (str_width false (chars bytes))
    (length bytes)) [ true ↦ λ e. absurd (h.0 (IsUtf8-from_is_utf8 bytes e)) | false ↦ λ e. refl ] refl
