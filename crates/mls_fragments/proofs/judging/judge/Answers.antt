use Rattle.std.proofs.Common.{subst, rules}
use Rattle.std.proofs.lemmas.List.Sorted.{IsPermutation-trans}
use Rattle.mls_lattice.specs.Policy.{labels_of}
use Rattle.mls_rows.specs.Changes.{content_of}
use Rattle.mls_fragments.specs.Parts.{IsJudged, rows_in}
use Rattle.mls_rows.proofs.ByteLemmas.{content_bytes, few_labels}
use Rattle.mls_fragments.proofs.CutLemmas.{nodes_in_order, cells_in_order}
use Rattle.mls_fragments.proofs.JudgingLemmas.{judged_holds}
use Rattle.mls_fragments.proofs.judging.judge.Goals as goal

pub returns-in_err-entries-clause-only : goal.returns-in_err-entries-clause-only
returns-in_err-entries-clause-only c t all content holds sound =
    let memory = c.in_err-entries.ensures.only content.audit
    (IsPermutation-trans _ _ _ holds.audit all.1.1) sound.entries in
    search rules

pub judge_rows-requires-clause-order : goal.judge_rows-requires-clause-order
judge_rows-requires-clause-order c = (
  nodes_in_order c.sort.new.self.items c.in_ok-sort.ensures.sorted,
  cells_in_order c.sort-2.new.self.items c.in_ok-sort-2.ensures.sorted,
)

pub returns-in_err-content-clause-only : goal.returns-in_err-content-clause-only
returns-in_err-content-clause-only c t all content holds sound =
    let memory = c.in_err-content.ensures.only t (IsPermutation-trans _ _ _ all.0 c.in_ok-sort.ensures.permutation)
    (IsPermutation-trans _ _ _ all.1.0 c.in_ok-sort-2.ensures.permutation) content holds sound in
    search rules

pub returns-clause-held : goal.returns-clause-held
returns-clause-held c =
    let nodes = c.sort.new.self.items in
    let cells = c.sort-2.new.self.items in
    let content = content_of c.in_ok-content.content.changes in (
      judged_holds c.args.design.now.policy.now c.args.design.now.file.now.schemes c.args.labels c.args.rows nodes cells c.in_ok-entries.entries content c.in_ok-sort.ensures.permutation c.in_ok-sort-2.ensures.permutation c.in_ok-entries.ensures.numbered
          (subst (λ list. IsJudged c.args.design.now.policy.now c.args.design.now.file.now.schemes c.args.labels
          (rows_in nodes cells) list content) c.deref.ensures c.in_ok-content.ensures.judged),
      content_bytes (labels_of c.args.design.now.policy.now) c.args.design.now.file.now.schemes content
          (few_labels c.args.design.now.policy.now c.use_invariant.ensures.few_labels) c.in_ok-content.ensures.judged.sound.content,
    )
