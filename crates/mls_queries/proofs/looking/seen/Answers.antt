use Rattle.std.proofs.Common.{◌∙◌, sym, subst, map, length, ◌↔◌}
use Rattle.std.specs.List.{AllByRecursion}
use Rattle.std.specs.BTreeMap.{get}
use Rattle.std.proofs.lemmas.List.{length-map}
use Rattle.std.proofs.lemmas.Result.{IfOk-weaker}
use Rattle.mls_lattice.specs.Policy.{labels_of}
use Rattle.mls_scheme.specs.Tuple.{HasClassesBelow}
use Rattle.mls_scheme.specs.Table.{tuple_at, IsIn}
use Rattle.mls_filterview.specs.View.{low, IsAmong}
use Rattle.mls_filterview.specs.Assembly.{cell_place_cmp}
use Rattle.mls_queries.proofs.PartLemmas.{low_stored, rows_of_low}
use Rattle.mls_queries.proofs.SeenLemmas.{known_below, among_low}
use Rattle.mls_queries.proofs.looking.seen.Goals as goal

pub filter-requires-clause-classes : goal.filter-requires-clause-classes
filter-requires-clause-classes c =
    subst (AllByRecursion (HasClassesBelow (length c.args.policy.now.labels)))
    (sym (c.deref.ensures.value ∙ c.in_ok-tuples.ensures.tuples))
    (known_below (length c.args.policy.now.labels) (map (λ e. tuple_at e.0 e.1) c.in_ok-found.found.entries))

pub returns : goal.returns
returns c =
    let ls = labels_of c.args.policy.now in
    let label = c.args.label in
    IfOk-weaker c.filter.result _ _ (λ v each n T stored parts.
    each n (low ls label T) (low_stored ls n label T stored) (λ t.
    subst (λ xs. IsAmong t xs ↔ IsIn (low ls label T) t) (sym (c.deref.ensures.value ∙ c.in_ok-tuples.ensures.tuples))
    (among_low ls n T stored label c.args.parts.nodes c.args.parts.cells parts
    (get cell_place_cmp c.in_ok-values.values) c.in_ok-values.ensures c.in_ok-found.found.entries
    c.tuples_of.ensures.ordered c.in_ok-found.ensures.rows (length c.args.policy.now.labels)
    (length-map c.args.policy.now.labels (λ l. l.value)) t))
    ∙ rows_of_low ls label T) c.filter.ensures.rows
