use Rattle.std.proofs.Common.{◌≡◌, nat_eq, map, drop}
use Rattle.std.specs.List.{list_any}
use Rattle.mls_parser.proofs.read_list.is_set.Given as goal

abbrev pub invariant-loop-set : goal.invariant-loop-set
invariant-loop-set g l = list_any (nat_eq l.number) (map (λ s. s.0) (drop l.set-index l.sets))
    ≡ list_any (nat_eq l.number) (map (λ s. s.0) l.sets)
