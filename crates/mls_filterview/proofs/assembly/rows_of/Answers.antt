use Rattle.std.proofs.Common.{◌∙◌, List, ap, cond, Some}
use Rattle.std.specs.BTreeMap.{get, is_at}
use Rattle.mls_scheme.specs.Table.{place_cmp}
use Rattle.mls_scheme.specs.declared.place.Place.{Place}
use Rattle.mls_scheme.specs.declared.tuple.Element.{Element}
use Rattle.mls_filterview.proofs.AssemblyLemmas.{rows_more}
use Rattle.mls_filterview.proofs.assembly.rows_of.Goals as goal

pub loop-node-preserved : goal.loop-node-preserved
loop-node-preserved c = record {
  rows = rows_more _ c.loop-node.yielded c.in-Some.node _ _ c.loop-node.invariant.rows (λ q.
      c.in_ok-put_tuple.ensures.updates.0 q
      ∙ ap (λ (row : Place × List Element). cond (is_at (place_cmp row.0) q) (Some row.1)
      (get place_cmp c.loop-node.rows q)) (λ i. (c.in_ok-place.ensures.place i, c.in_ok-place.ensures.elements i)));
  ordered = c.in_ok-put_tuple.ensures.ordered;
}
