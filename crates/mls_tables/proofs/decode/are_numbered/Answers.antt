use Rattle.std.proofs.Common.{◌≡◌, ℕ, ◌+◌, ◌<◌, ℤ, pos, ◌+ℤ◌, ◌&&◌, List, length, get_or, drop, sym, ap, ◌∙◌, arith, int_eq}
use Rattle.std.proofs.lemmas.List.{at_drop_more}
use Rattle.std.proofs.lemmas.Grind.{common_steps}
use Rattle.mls_tables.specs.declared.rows.AuditRow.{AuditRow}
use Rattle.mls_tables.specs.Rows.{are_numbered}
use Rattle.mls_tables.proofs.decode.are_numbered.Goals as goal

-- the test of one entry
are_numbered-drop : (n : ℤ) (entries : List AuditRow) (i : ℕ) (a : AuditRow) → i < length entries
    → a ≡ get_or entries i a
    → are_numbered n (drop i entries) ≡ (int_eq a.number n && are_numbered (n +ℤ pos 1) (drop (i + 1) entries))
are_numbered-drop n entries i a within is =
    at_drop_more (are_numbered n) entries i a within ∙ ap (λ (b : AuditRow). int_eq b.number n && are_numbered
    (n +ℤ pos 1) (drop (i + 1) entries)) (sym is)

pub returns-then-ne : goal.returns-then-ne
returns-then-ne c =
    let tested = are_numbered-drop (c.loop-entry.last +ℤ pos 1) c.args.entries.now c.loop-entry.entry-index c.entry-item.result c.loop-entry-test.true c.entry-item.is in
    grind (arith, common_steps)

pub loop-entry-preserved : goal.loop-entry-preserved
loop-entry-preserved c =
    let tested = are_numbered-drop (c.loop-entry.last +ℤ pos 1) c.args.entries.now c.loop-entry.entry-index c.entry-item.result c.loop-entry-test.true c.entry-item.is in
    grind (arith, common_steps)
