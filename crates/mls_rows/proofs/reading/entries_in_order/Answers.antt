use Rattle.std.proofs.Common.{true≢false, sym, ap, ◌∙◌, pos, map}
use Rattle.mls_tables.specs.Rows.{are_numbered}
use Rattle.mls_tables.proofs.NumberedLemmas.{rising}
use Rattle.mls_rows.proofs.RowLemmas.{texts_of}
use Rattle.mls_rows.proofs.RowOrderLemmas.{sorted_entries}
use Rattle.mls_rows.proofs.reading.entries_in_order.Goals as goal

pub returns-then-not-are_numbered-clause-only : goal.returns-then-not-are_numbered-clause-only
returns-then-not-are_numbered-clause-only c list same =
    let rows = sorted_entries list _ _ same c.in_ok-sort.ensures.permutation c.in_ok-sort.ensures.sorted in
    absurd (true≢false (sym (rising 1 list) ∙ ap (are_numbered (pos 1)) (sym (c.deref.ensures.value ∙ rows))
    ∙ sym c.are_numbered.ensures ∙ c.if-not-are_numbered.true))

pub returns-clause-found : goal.returns-clause-found
returns-clause-found c list same =
    let rows = sorted_entries list _ _ same c.in_ok-sort.ensures.permutation c.in_ok-sort.ensures.sorted in
    c.in_ok-decoded_entries.ensures ∙ ap (map (λ r. r.bytes)) rows ∙ texts_of 1 list
