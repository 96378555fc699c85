use Rattle.std.proofs.Common.{◌≡◌, ◌+◌, length, map, sym, ap, subst, ◌∙◌, length-append}
use Rattle.std.proofs.lemmas.List.{length-map, map-append}
use Rattle.mls_rows.specs.Finding.{IsAssembled, AreAssembled}
use Rattle.mls_rows.proofs.FindingLemmas.{at_last}
use Rattle.mls_rows.proofs.finding.tables_of.Goals as goal

pub loop-relation-preserved : goal.loop-relation-preserved
loop-relation-preserved c =
    let count = c.loop-relation.invariant.count in
    let number : c.new.result ≡ length (map (λ t. t.entries) c.loop-relation.tables.items) = c.new.ensures ∙ sym count
    ∙ sym (length-map c.loop-relation.tables.items (λ t. t.entries)) in
    record {
      count = ap length c.in_ok-push.ensures.items ∙ length-append c.loop-relation.tables.items _
          ∙ ap (λ n. n + 1) count;
      assembled = subst (AreAssembled c.args.nodes.now c.args.cells.now)
          (sym (ap (map (λ t. t.entries)) c.in_ok-push.ensures.items ∙ map-append
          (λ t. t.entries) c.loop-relation.tables.items _))
          (at_last (λ relation es. IsAssembled relation c.args.nodes.now c.args.cells.now es)
          (map (λ t. t.entries) c.loop-relation.tables.items) c.in_ok-assembled.field-0.entries c.loop-relation.invariant.assembled
          (subst (λ relation. IsAssembled relation c.args.nodes.now c.args.cells.now c.in_ok-assembled.field-0.entries) number c.in_ok-assembled.ensures.assembled));
    }
