use Rattle.std.proofs.Common.{◌≡◌, ◌<◌, ◌≤◌, ◌+◌, ◌-◌, ◌∷◌, ◌++◌, map, length, slice_index_or, rules, arith, sym, ap, subst, ◌∙◌}
use Rattle.mls_scheme.specs.Scheme.{scheme_of, no_scheme}
use Rattle.mls_scheme.specs.Extending.{AtMost}
use Rattle.mls_scheme.proofs.OlderLemmas.{counts_few, count_there}
use Rattle.mls_filterview.specs.Widen.{widened_entry}
use Rattle.mls_fragments.specs.Migrating.{wide_tables}
use Rattle.mls_fragments.proofs.MigratingLemmas.{table_wide}
use Rattle.mls_fragments.proofs.migrating.widened_tables.Goals as goal

pub scheme-scheme-requires : goal.scheme-scheme-requires
scheme-scheme-requires c =
    let within : c.loop-table.relation < length c.args.counts.now = search rules in
    let few = counts_few AtMost c.args.counts.now c.args.schemes.now c.requires.counts in
    subst (λ n. n < length c.args.schemes.now) (sym c.new.ensures) (omega (arith, within, few))

pub overflow_sub-len : goal.overflow_sub-len
overflow_sub-len c =
    let within : c.loop-table.relation < length c.args.counts.now = search rules in
    subst (λ n. slice_index_or c.args.counts.now c.loop-table.relation 0 ≤ n)
    (sym (c.len.ensures ∙ ap length (c.others.ensures.others ∙ ap (λ s. s.others) (c.scheme-scheme.ensures.row
    ∙ ap (scheme_of c.args.schemes.now) c.new.ensures))))
    (count_there AtMost c.args.counts.now c.args.schemes.now c.loop-table.relation 0 no_scheme c.requires.counts within)

pub loop-table-preserved : goal.loop-table-preserved
loop-table-preserved c =
    let schemes = c.args.schemes.now in
    let counts = c.args.counts.now in
    let relation = c.loop-table.relation in
    let rest = c.next.new.self.rest.items in
    let long : c.len.result ≡ length (scheme_of schemes relation).others =
    c.len.ensures ∙ ap length (c.others.ensures.others ∙ ap (λ s. s.others) (c.scheme-scheme.ensures.row
    ∙ ap (scheme_of schemes) c.new.ensures)) in
    let here : c.loop-table.table-iterator.rest.items ≡ c.in-Some.table ∷ rest = c.in-Some.ensures.steps.0 in
    record {
      count = omega (arith, ap length here, c.loop-table.invariant.count);
      wide = ap (λ ts. map (λ t. t.entries) ts ++ wide_tables schemes counts (relation + 1)
          (map (λ t. t.entries) rest)) c.in_ok-push.ensures.items
          ∙ table_wide (λ t. t.entries) schemes counts relation c.loop-table.wide.items c.in-Some.table c.in_ok-widened.field-0 rest
          (c.in_ok-widened.ensures.entries ∙ ap (λ n. map
          (widened_entry (n - slice_index_or counts relation 0)) c.in-Some.table.entries) long)
          ∙ ap (λ ts. map (λ t. t.entries) c.loop-table.wide.items ++ wide_tables schemes counts relation
          (map (λ t. t.entries) ts)) (sym here)
          ∙ c.loop-table.invariant.wide;
    }
