use Rattle.std.proofs.Common.{◌≡◌, drop, nat_lt}
use Rattle.std.specs.List.{list_all}
use Rattle.mls_rows.proofs.finding.are_declared.Given as goal

abbrev pub invariant-loop-class : goal.invariant-loop-class
invariant-loop-class l = list_all (λ m. nat_lt m l.labels) (drop l.class-index l.classes)
    ≡ list_all (λ m. nat_lt m l.labels) l.classes
