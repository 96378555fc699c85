use Rattle.std.proofs.Common.{◌≡◌, ◌≤◌, length}
use Rattle.std.specs.List.{AllByRecursion}
use Rattle.mls_lattice.specs.Policy.{labels_of}
use Rattle.mls_filterview.specs.Calls.{NoReadUp}
use Rattle.mls_filterview.specs.View.{rows}
use Rattle.mls_queries.specs.Views.{AgreesWith, IsNamed}
use Rattle.mls_queries.proofs.seen.mend_each.Given as goal

abbrev pub invariant-loop-place : goal.invariant-loop-place
invariant-loop-place g l =
    let B = g.B.Base in
    record {
      clean : (B.seen l.base).is_clean → (B.seen l.fn.base).is_clean;
      about : (B.seen l.base).is_clean → (B.seen l.base).about ≡ (B.seen l.fn.base).about;
      access : NoReadUp B.seen (labels_of l.policy) l.label l.fn.base l.base;
      count : (B.seen l.fn.base).failures ≤ (B.seen l.base).failures;
      mode : (B.seen l.base).state.begun ≡ (B.seen l.fn.base).state.begun;
      same : (B.seen l.base).is_clean → (B.seen l.base).state ≡ (B.seen l.fn.base).state;
      named : AllByRecursion (IsNamed (length l.policy.labels)) l.place-iterator.rest.items;
      agrees : (B.seen l.base).is_clean → AgreesWith (rows (labels_of l.policy) l.label
          ((B.seen l.fn.base).state.now.db l.relation)) (record {
            tuples = l.tuples.items;
            written =
                l.place-iterator.rest.items;
          });
    }
