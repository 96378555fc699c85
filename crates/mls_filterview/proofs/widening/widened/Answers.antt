-- proofs/widening/widened/Answers.antt
use Rattle.std.proofs.Common.{◌≡◌, ◌∷◌, ◌++◌, List, map, sym, ap, ◌∙◌, arith}
use Rattle.std.proofs.lemmas.Grind.{common_steps}
use Rattle.std.specs.BTreeMap.{insert_entry}
use Rattle.mls_scheme.specs.Table.{place_cmp}
use Rattle.mls_filterview.specs.Widen.{nulls, widened_entry}
use Rattle.mls_filterview.proofs.EntryLemmas.{Entry}
use Rattle.mls_filterview.proofs.MapLemmas.{changed_more}
use Rattle.mls_filterview.proofs.WidenedRowLemmas.{table_widened}
use Rattle.mls_filterview.proofs.widening.widened.Goals as goal

pub loop-row-preserved : goal.loop-row-preserved
loop-row-preserved c =
    let n = c.args.count in
    let wide = c.loop-row.wide.entries in
    let e : Entry = (c.row.inside.place, c.row.inside.elements) in
    let rest : List Entry = c.next.new.self.rest.items in
    let here : c.loop-row.row-iterator.rest.items ≡ e ∷ rest = c.in-Some.ensures.steps.0 ∙ ap (λ (x : Entry). x ∷ rest)
    (sym c.row.view_is) in
    record {
      entries = ap (λ es. es ++ map (widened_entry n) rest) (c.in_ok-put_tuple.ensures.entries
          ∙ ap (insert_entry place_cmp wide e.0) c.in_ok-wide_elements.ensures)
          ∙ changed_more (λ p xs. xs ++ nulls n p.key_class) c.args.rows.entries wide e rest c.entries_of.ensures.ordered (ap (λ es. wide ++ map (widened_entry n) es) (sym here) ∙ c.loop-row.invariant.entries);
      ordered = c.in_ok-put_tuple.ensures.ordered;
    }

pub returns-clause-table : goal.returns-clause-table
returns-clause-table c = table_widened c.args.count c.args.rows.entries c.loop-row.wide.entries c.entries_of.ensures.ordered (grind (arith, common_steps))
