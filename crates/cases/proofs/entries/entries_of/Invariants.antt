use Rattle.std.proofs.Common.{◌<◌, length}
use Rattle.std.specs.List.{AllByRecursion}
use Rattle.mls_audit.specs.Entry.{label_of}
use Rattle.cases.proofs.entries.entries_of.Given as goal

abbrev pub invariant-loop-line : goal.invariant-loop-line
invariant-loop-line l = AllByRecursion (λ e. label_of e < length l.policy.labels) l.entries.items
