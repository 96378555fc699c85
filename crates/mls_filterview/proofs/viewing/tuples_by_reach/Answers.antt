use Rattle.std.proofs.Common.{◌∙◌, ap, flat_map}
use Rattle.std.specs.BTreeMap.{get}
use Rattle.std.proofs.lemmas.Result.{IfOk-weaker}
use Rattle.mls_lattice.specs.Policy.{labels_of}
use Rattle.mls_filterview.specs.Assembly.{cell_place_cmp}
use Rattle.mls_filterview.specs.Reach.{of_class, upward}
use Rattle.mls_filterview.proofs.ListedLemmas.{listed_by_reach}
use Rattle.mls_filterview.proofs.viewing.tuples_by_reach.Goals as goal

pub returns : goal.returns
returns c = IfOk-weaker c.in_order_of_reach.result _ _ (λ v e n T k stored low.
    let ls = labels_of c.args.policy.now in
    e ∙ ap (λ es. flat_map (of_class es) (upward ls)) (c.deref.ensures.value ∙ c.in_ok-rows.ensures.items)
    ∙ listed_by_reach ls n T k c.args.low.nodes c.args.low.cells
    (get cell_place_cmp c.in_ok-values.values) c.in_ok-found.found.entries stored low c.in_ok-values.ensures c.entries_of.ensures.ordered c.in_ok-found.ensures.rows) c.in_order_of_reach.ensures
