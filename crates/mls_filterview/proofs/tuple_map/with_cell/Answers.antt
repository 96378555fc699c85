use Rattle.std.proofs.Common.{◌≡◌, ◌∷◌, ◌++◌, List, map, sym, ap, ◌∙◌, arith}
use Rattle.std.proofs.lemmas.Bool.{cond-true, cond-false}
use Rattle.std.proofs.lemmas.Grind.{common_steps}
use Rattle.std.specs.BTreeMap.{insert_entry}
use Rattle.mls_scheme.specs.declared.tuple.Element.{Element}
use Rattle.mls_scheme.specs.declared.place.Place.{Place}
use Rattle.mls_scheme.specs.Table.{place_cmp}
use Rattle.mls_filterview.specs.Fragment.{set_in}
use Rattle.mls_filterview.proofs.EntryLemmas.{Entry}
use Rattle.mls_filterview.proofs.MapLemmas.{changed_more, table_changed}
use Rattle.mls_filterview.proofs.tuple_map.with_cell.Goals.{then-is_entity+in_ok-elements, else-is_entity}
use Rattle.mls_filterview.proofs.tuple_map.with_cell.Goals as goal

pub loop-tuple-preserved : goal.loop-tuple-preserved
loop-tuple-preserved c =
    let f : Place → List Element → List Element = set_in c.args.place.now c.args.attr c.args.value.now in
    let front = c.loop-tuple.changed.entries in
    let e : Entry = (c.tuple.inside.place, c.tuple.inside.elements) in
    let rest : List Entry = c.next.new.self.rest.items in
    let here : c.loop-tuple.tuple-iterator.rest.items ≡ e ∷ rest = c.in-Some.ensures.steps.0
    ∙ ap (λ (x : Entry). x ∷ rest) (sym c.tuple.view_is) in
    let set : c.if-is_entity.elements ≡ f e.0 e.1 = elim c.if-is_entity.branch [
      | then-is_entity+in_ok-elements w ↦ w.elements-is ∙ w.in_ok-elements.ensures
          ∙ sym (cond-true _ _ _ (sym c.is_entity.ensures ∙ w.if-is_entity.true))
      | else-is_entity w ↦ w.elements-is ∙ sym (cond-false _ _ _ (sym c.is_entity.ensures ∙ w.if-is_entity.false))
    ] in
    record {
      entries = ap (λ es. es ++ map (λ (x : Entry). (x.0, f x.0 x.1)) rest) (c.in_ok-put_tuple.ensures.entries
          ∙ ap (insert_entry place_cmp front e.0) set)
          ∙ changed_more f c.args.tuples.entries front e rest c.entries_of.ensures.ordered
          (ap (λ es. front ++ map (λ (x : Entry). (x.0, f x.0 x.1)) es) (sym here)
          ∙ c.loop-tuple.invariant.entries);
      ordered = c.in_ok-put_tuple.ensures.ordered;
    }

pub returns : goal.returns
returns c = table_changed (set_in c.args.place.now c.args.attr c.args.value.now) c.args.tuples.entries c.loop-tuple.changed.entries c.entries_of.ensures.ordered (grind (arith, common_steps))
