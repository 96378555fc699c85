use Rattle.std.proofs.Common.{◌≡◌, ◌+◌, map, drop}
use Rattle.std.specs.List.{list_all}
use Rattle.mls_lattice.specs.Lattice.{pair_of, ◌⊑◌}
use Rattle.mls_translang.specs.Tree.{statements}
use Rattle.mls_translang.specs.Blocks.{block_of}
use Rattle.mls_certcheck.specs.Points.{directs}
use Rattle.mls_certcheck.specs.Rules.{slot_label}
use Rattle.mls_certcheck.specs.Walk.{claim_of}
use Rattle.mls_certcheck.specs.declared.flow.Slot.TheVariants.{Statement}
use Rattle.mls_certcheck.proofs.checker.Checker.inner_dominate.Given as goal

-- what is left, tested from here, is the whole
abbrev pub invariant-loop-stmt : goal.invariant-loop-stmt
invariant-loop-stmt l = record {
  number : l.number + statements (block_of (drop l.stmt-index l.stmt-items)) ≡ l.first + statements
      (block_of l.stmt-items);
  tests : list_all (λ t. pair_of l.bound ⊑ slot_label (claim_of l.self) t)
      (map (λ m. Statement m) (directs l.number (block_of (drop l.stmt-index l.stmt-items))))
      ≡ list_all (λ t. pair_of l.bound ⊑ slot_label (claim_of l.self) t)
      (map (λ m. Statement m) (directs l.first (block_of l.stmt-items)));
}
