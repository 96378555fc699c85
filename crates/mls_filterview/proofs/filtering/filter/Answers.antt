use Rattle.std.proofs.Common.{rules, ◌≡◌, sym, ◌∙◌, subst, length, map}
use Rattle.std.specs.List.{AllByRecursion}
use Rattle.mls_lattice.specs.Policy.{labels_of}
use Rattle.mls_scheme.specs.Tuple.{HasClassesBelow}
use Rattle.mls_filterview.specs.View.{IsAmong}
use Rattle.mls_filterview.specs.Filtering.{EachOnce, seen, row_of}
use Rattle.mls_filterview.proofs.ArrangeLemmas.{if_ok}
use Rattle.mls_filterview.proofs.EntityLemmas.{maximal}
use Rattle.mls_filterview.proofs.FilterLemmas.{AreRows, AreOwn, seen_bounded, rows-own, rows-once, rows-by_entity, rows-stored, maximal-own, maximal-view}
use Rattle.mls_filterview.proofs.filtering.filter.Goals as goal

pub rows_of-requires : goal.rows_of-requires
rows_of-requires c =
    subst (AllByRecursion (HasClassesBelow (length c.args.policy.now.labels))) (search rules)
    (seen_bounded (length c.args.policy.now.labels)
    (labels_of c.args.policy.now) c.args.label c.args.tuples.now c.requires.classes)

pub maximal_tuples-requires : goal.maximal_tuples-requires
maximal_tuples-requires c = rows-by_entity c.arrange.new.items.items c.in_ok-arrange.ensures.sorted

-- the rows are those of what is seen
are_rows : (c : goal.After-maximal_tuples) → AreRows (labels_of c.args.policy.now)
    (seen (labels_of c.args.policy.now) c.args.label c.args.tuples.now) c.arrange.new.items.items
are_rows c =
    let is : c.in_ok-rows.rows.items ≡ map (row_of (labels_of c.args.policy.now))
    (seen (labels_of c.args.policy.now) c.args.label c.args.tuples.now) = search rules in
    record {
      sorted = c.in_ok-arrange.ensures.sorted;
      from = λ r h. subst (IsAmong r) is (c.in_ok-arrange.ensures.from r h);
      kept = λ r h. c.in_ok-arrange.ensures.kept r (subst (IsAmong r) (sym is) h);
    }

own : (c : goal.After-maximal_tuples) → AreOwn (labels_of c.args.policy.now) (maximal c.arrange.new.items.items)
own c =
    let ls = labels_of c.args.policy.now in
    maximal-own ls c.arrange.new.items.items (rows-own ls
    (seen ls c.args.label c.args.tuples.now) c.arrange.new.items.items (are_rows c))

pub returns-clause-members : goal.returns-clause-members
returns-clause-members c =
    let ls = labels_of c.args.policy.now in
    if_ok c.maximal_tuples.result _ _ (λ v e t.
    let view = maximal-view ls c.args.label c.args.tuples.now c.arrange.new.items.items (are_rows c) t in
    ((λ h. view.0 (subst (IsAmong t) e h)), (λ h. subst (IsAmong t) (sym e) (view.1 h)))) c.maximal_tuples.ensures

pub returns-clause-once : goal.returns-clause-once
returns-clause-once c =
    if_ok c.maximal_tuples.result _ _ (λ v e.
    subst EachOnce (sym e) (rows-once (labels_of c.args.policy.now) (maximal c.arrange.new.items.items)
    (own c))) c.maximal_tuples.ensures

pub returns-clause-rows : goal.returns-clause-rows
returns-clause-rows c =
    let ls = labels_of c.args.policy.now in
    if_ok c.maximal_tuples.result _ _ (λ v e n T stored same.
    e ∙ rows-stored ls (c.use_invariant.ensures.distinct) n T stored c.args.label c.args.tuples.now same
    (maximal c.arrange.new.items.items) (own c)
    (maximal-view ls c.args.label c.args.tuples.now c.arrange.new.items.items (are_rows c))) c.maximal_tuples.ensures
