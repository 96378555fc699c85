use Rattle.std.proofs.Common.{inl, inr, sym, subst}
use Rattle.mls_rows.specs.Condemning.{Condemns}
use Rattle.mls_rows.specs.Finding.{IsSoundWithin}
use Rattle.mls_rows.proofs.WithinLemmas.{within_whole}
use Rattle.mls_fragments.specs.Opening.{of_these, of_older}
use Rattle.mls_fragments.proofs.OpeningLemmas.{not_found, some_weaker, at_error}
use Rattle.mls_fragments.proofs.refusing.stop_of.Goals as goal

pub returns-in-Some-Same-clause-bad : goal.returns-in-Some-Same-clause-bad
returns-in-Some-Same-clause-bad c =
    let policy = c.args.design.now.policy.now in
    let schemes = c.args.design.now.file.now.schemes in
    let texts = rw c.in-Some-Same.field-0-is at (rw c.in-Some-Same.is at c.in_ok-lineage_of.ensures.found) in
    some_weaker c.stopped.result (λ w stop. of_these texts
    (λ t all content holds sound. not_found c.find-found.result stop.1
    (c.find-found.ensures.only t all content holds (subst (λ n. IsSoundWithin policy schemes n content)
    (sym c.label_count.ensures.count) (within_whole policy schemes content sound)))))
    c.stopped.ensures

pub returns-in-Some-Same-clause-condemned : goal.returns-in-Some-Same-clause-condemned
returns-in-Some-Same-clause-condemned c sorted =
    let rows = c.args.rows in
    let texts = rw c.in-Some-Same.field-0-is at (rw c.in-Some-Same.is at c.in_ok-lineage_of.ensures.found) in
    some_weaker c.stopped.result (λ w stop. (
      c.label_count.result,
      inl (texts, c.label_count.ensures.count),
      subst (Condemns c.label_count.result rows.nodes.items rows.cells.items rows.entries.items) (sym stop.0)
          (at_error c.find-found.result stop.1 (c.find-found.ensures.condemned sorted.entries)),
    ))
    c.stopped.ensures

pub returns-in-Some-Older-clause-condemned : goal.returns-in-Some-Older-clause-condemned
returns-in-Some-Older-clause-condemned c sorted =
    let rows = c.args.rows in
    let older = c.in-Some-Older.older in
    let extended = rw c.in-Some-Older.field-0-is at (rw c.in-Some-Older.is at c.in_ok-lineage_of.ensures.found) in
    some_weaker c.stopped-in-Some-Older.result (λ w stop. (
      older.labels,
      inr (older.counts.items, extended),
      subst (Condemns older.labels rows.nodes.items rows.cells.items rows.entries.items) (sym stop.0)
          (at_error c.find_widened-widened.result stop.1 (c.find_widened-widened.ensures.condemned sorted.entries)),
    ))
    c.stopped-in-Some-Older.ensures

pub returns-in-Some-Older-clause-bad : goal.returns-in-Some-Older-clause-bad
returns-in-Some-Older-clause-bad c =
    let older = c.in-Some-Older.older in
    let extended = rw c.in-Some-Older.field-0-is at (rw c.in-Some-Older.is at c.in_ok-lineage_of.ensures.found) in
    some_weaker c.stopped-in-Some-Older.result (λ w stop. of_older older.labels older.counts.items extended
    (λ t all content holds sound. not_found c.find_widened-widened.result stop.1
    (c.find_widened-widened.ensures.only t all content holds sound)))
    c.stopped-in-Some-Older.ensures
