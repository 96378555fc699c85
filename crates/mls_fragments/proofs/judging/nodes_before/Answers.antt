use Rattle.std.proofs.Common.{rules}
use Rattle.std.proofs.lemmas.List.Sorted.{IsPartitionPoint-from_clause}
use Rattle.mls_fragments.specs.Parts.{before}
use Rattle.mls_fragments.proofs.CutLemmas.{cuts}
use Rattle.mls_fragments.proofs.judging.nodes_before.Goals as goal

pub returns : goal.returns
returns c =
    cuts (λ r. before c.args.rel c.args.ent.now r.rel r.ent) c.args.rows.now c.partition_point.result c.partition_point.ensures.bound
    (IsPartitionPoint-from_clause (λ r. before c.args.rel c.args.ent.now r.rel r.ent) c.args.rows.now _ c.partition_point.ensures.partitioned (c.requires c.args.rel c.args.ent.now) (λ x b f' k. search rules))
