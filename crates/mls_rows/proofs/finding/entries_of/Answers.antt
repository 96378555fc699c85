use Rattle.std.proofs.Common.{◌≡◌, inl, inr, true, false, true≢false, List, IsSorted, sym, ap, subst, ◌∙◌, pos, rules, IsPermutation}
use Rattle.std.specs.List.{AllByRecursion}
use Rattle.mls_audit.specs.Spelling.{IsEntryOf}
use Rattle.mls_tables.specs.Rows.{numbered, are_numbered}
use Rattle.mls_tables.proofs.NumberedLemmas.{rising}
use Rattle.mls_tables.specs.declared.rows.AuditRow.{AuditRow}
use Rattle.mls_rows.specs.Condemning.{entry_cmp, CondemnsNumber, CondemnsEntry, CondemnsList}
use Rattle.mls_rows.specs.Finding.{IsMemory}
use Rattle.mls_rows.proofs.SortedLemmas.{one_sorted}
use Rattle.mls_rows.proofs.RowOrderLemmas.{entry_total, entry_exact, sorted_entries, numbered_texts, each_text, each_row}
use Rattle.mls_rows.proofs.finding.entries_of.Goals as goal

pub returns-then-not-are_numbered-clause-only : goal.returns-then-not-are_numbered-clause-only
returns-then-not-are_numbered-clause-only c list same all =
    let rows = sorted_entries list _ _ same c.in_ok-sort.ensures.permutation c.in_ok-sort.ensures.sorted in
    absurd (true≢false (sym (rising 1 list) ∙ ap (are_numbered (pos 1)) (sym (c.deref.ensures.value ∙ rows))
    ∙ sym c.are_numbered.ensures ∙ c.if-not-are_numbered.true))

pub returns-in_err-check_entries-clause-only : goal.returns-in_err-check_entries-clause-only
returns-in_err-check_entries-clause-only c list same all =
    let rows = sorted_entries list _ _ same c.in_ok-sort.ensures.permutation c.in_ok-sort.ensures.sorted in
    let each = subst (AllByRecursion (λ r. IsEntryOf c.args.labels r.bytes)) (sym (c.deref-2.ensures.value ∙ rows))
    (each_text (IsEntryOf c.args.labels) 1 list all) in
    let memory = c.in_err-check_entries.ensures.only each in
    search rules

pub returns-clause-numbered : goal.returns-clause-numbered
returns-clause-numbered c =
    let sorted = subst (λ l. are_numbered (pos 1) l ≡ true) c.deref.ensures.value (sym c.are_numbered.ensures
    ∙ c.if-not-are_numbered.false) in
    subst (λ l. IsPermutation (numbered 1 l) c.args.rows.items) (sym c.in_ok-decoded_entries.ensures)
    (numbered_texts _ _ c.in_ok-sort.ensures.permutation sorted)

pub returns-clause-entries : goal.returns-clause-entries
returns-clause-entries c =
    let declared = IsEntryOf c.args.labels in
    let each = subst (AllByRecursion (λ r. declared r.bytes)) c.deref-2.ensures.value c.in_ok-check_entries.ensures.found in
    subst (AllByRecursion declared) (sym c.in_ok-decoded_entries.ensures) (each_row declared _ each)

-- the rows are sorted before too
same_rows : (rows sorted : List AuditRow) → IsSorted entry_cmp rows → IsSorted entry_cmp sorted
    → IsPermutation rows sorted → sorted ≡ rows
same_rows rows sorted s t same = sym (one_sorted entry_cmp entry_total entry_exact rows sorted s t same)

pub returns-then-not-are_numbered-clause-condemned : goal.returns-then-not-are_numbered-clause-condemned
returns-then-not-are_numbered-clause-condemned c sorted other =
    let rows = same_rows _ _ sorted c.in_ok-sort.ensures.sorted c.in_ok-sort.ensures.permutation in
    let bad = c.pass_numbered.ensures (subst (λ l. are_numbered (pos 1) l ≡ false) (c.deref.ensures.value
    ∙ sym c.deref-then-not-are_numbered.ensures.value) (sym c.are_numbered.ensures ∙ c.if-not-are_numbered.true)) in
    inl (
      bad.0,
      subst (λ l. CondemnsNumber l c.pass_numbered.new.at.row) (c.deref-then-not-are_numbered.ensures.value
          ∙ rows) bad.1,
    )

pub returns-in_err-check_entries-clause-condemned : goal.returns-in_err-check_entries-clause-condemned
returns-in_err-check_entries-clause-condemned c sorted =
    let rows = same_rows _ _ sorted c.in_ok-sort.ensures.sorted c.in_ok-sort.ensures.permutation in
    let bad : (¬ IsMemory c.in_err-check_entries.field-0.0)
    → CondemnsList c.args.labels c.args.rows.items c.check_entries.new.at = λ other.
    let entry = c.in_err-check_entries.ensures.condemned other in
    inr (
      entry.0,
      subst (λ l. CondemnsEntry c.args.labels l c.check_entries.new.at.row) (c.deref-2.ensures.value
          ∙ rows) entry.1,
    ) in
    search rules
