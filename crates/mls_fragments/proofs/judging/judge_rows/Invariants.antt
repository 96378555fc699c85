use Rattle.mls_rows.specs.Changes.{content_of}
use Rattle.mls_fragments.proofs.JudgingLemmas.{IsUnderWay}
use Rattle.mls_fragments.proofs.judging.judge_rows.Given as goal

abbrev pub invariant-parts : goal.invariant-parts
invariant-parts l = IsUnderWay l.design.policy.now l.design.file.now.schemes l.labels l.fn.nodes.items l.fn.cells.items l.entries l.nodes.items l.cells.items (content_of l.content.changes)
