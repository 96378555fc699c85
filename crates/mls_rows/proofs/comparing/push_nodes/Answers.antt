use Rattle.std.proofs.Common.{sym, ◌∙◌, subst}
use Rattle.std.specs.List.{AllByRecursion}
use Rattle.mls_scheme.specs.Spelling.{IsSpelledKey}
use Rattle.mls_filterview.specs.declared.fragment.Node.{Node}
use Rattle.mls_rows.proofs.FindingLemmas.{nodes_spelled, item_is}
use Rattle.mls_rows.proofs.comparing.push_nodes.Goals as goal

pub row_of_node-requires : goal.row_of_node-requires
row_of_node-requires c =
    item_is (λ (n : Node). IsSpelledKey n.key) c.deref-node-items.result.now c.loop-node.node-index c.node-item.result
    (subst (AllByRecursion (λ n. IsSpelledKey n.key)) (sym (c.deref-node-items.ensures.value ∙ c.in_ok-nodes.ensures))
    (nodes_spelled c.args.table.now.entries c.requires.spelled))
    c.loop-node-test.true c.node-item.is
