use Rattle.std.proofs.Common.{ap, ◌∙◌}
use Rattle.std.specs.FinMap.{insert}
use Rattle.mls_updates.specs.States.{tables_of}
use Rattle.mls_updates.proofs.TablesLemmas.{put_back}
use Rattle.mls_updates.proofs.tables.add.Goals as goal

pub returns : goal.returns
returns c =
    c.in_ok-put.ensures ∙ put_back (tables_of c.args.tables.now)
    (tables_of c.take-tuples.new.tables) c.args.relation _ _ c.take-tuples.ensures.others
    (c.in_ok-put_tuple.ensures.table ∙ ap (λ T. insert T c.args.place c.args.elements) c.take-tuples.ensures.taken)
