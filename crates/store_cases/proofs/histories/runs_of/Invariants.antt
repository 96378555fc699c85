use Rattle.std.specs.List.{AllByRecursion}
use Rattle.mls_runs.specs.History.{IsPrepared}
use Rattle.store_cases.proofs.histories.runs_of.Given as goal

abbrev pub invariant-loop-at : goal.invariant-loop-at
invariant-loop-at l = AllByRecursion (IsPrepared l.site.policy l.site.file.schemes) l.runs.items
