use Rattle.std.proofs.Common.{◌∙◌, map, sym, ap, subst, List, filter}
use Rattle.std.specs.BTreeMap.{get}
use Rattle.std.proofs.lemmas.Result.{IfOk-weaker}
use Rattle.mls_scheme.specs.declared.tuple.Tuple.{Tuple}
use Rattle.mls_scheme.specs.Table.{tuple_at}
use Rattle.mls_filterview.specs.Subsumption.{is_max_among, AreByEntity}
use Rattle.mls_filterview.specs.Assembly.{cell_place_cmp}
use Rattle.mls_filterview.proofs.EntryLemmas.{Entry}
use Rattle.mls_filterview.proofs.EntityLemmas.{entities_sorted}
use Rattle.mls_filterview.proofs.ListedLemmas.{listed_rows, sorted_keys}
use Rattle.mls_filterview.proofs.viewing.tuples_of.Goals as goal

pub returns : goal.returns
returns c = IfOk-weaker c.maximal_tuples.result _ _ (λ v e ls n T k stored low.
    let maximal_tuples : List Entry → List Tuple = λ es. map (λ e. tuple_at e.0 e.1) (filter (is_max_among es) es) in
    e ∙ ap maximal_tuples c.in_ok-rows.ensures.items
    ∙ listed_rows ls n T k c.args.low.nodes c.args.low.cells
    (get cell_place_cmp c.in_ok-values.values) c.in_ok-found.found.entries stored low c.in_ok-values.ensures c.entries_of.ensures.ordered c.in_ok-found.ensures.rows) c.maximal_tuples.ensures

pub maximal_tuples-requires : goal.maximal_tuples-requires
maximal_tuples-requires c = subst AreByEntity (sym c.in_ok-rows.ensures.items)
    (entities_sorted c.in_ok-found.found.entries (sorted_keys c.in_ok-found.found.entries c.entries_of.ensures.ordered))
