use Rattle.std.proofs.lemmas.List.Sorted.{IsPermutation-trans}
use Rattle.mls_fragments.proofs.refusing.sorted_rows.Goals as goal

pub returns-clause-all : goal.returns-clause-all
returns-clause-all g c clean =
    let all = (c.in_ok-rows.ensures.adopted clean).all in (
      IsPermutation-trans _ _ _ all.0 c.in_ok-sort.ensures.permutation,
      (
        IsPermutation-trans _ _ _ all.1.0 c.in_ok-sort-2.ensures.permutation,
        IsPermutation-trans _ _ _ all.1.1 c.in_ok-sort-3.ensures.permutation,
      ),
    )

pub returns-clause-sorted : goal.returns-clause-sorted
returns-clause-sorted g c = record {
  nodes = c.in_ok-sort.ensures.sorted;
  cells = c.in_ok-sort-2.ensures.sorted;
  entries = c.in_ok-sort-3.ensures.sorted;
}
