use Rattle.std.proofs.Common.{ap, ◌∙◌}
use Rattle.mls_scheme.specs.Table.{change}
use Rattle.mls_filterview.specs.Fragment.{set_in}
use Rattle.mls_updates.specs.States.{tables_of}
use Rattle.mls_updates.proofs.TablesLemmas.{put_back}
use Rattle.mls_updates.proofs.tables.set.Goals as goal

pub returns : goal.returns
returns c =
    c.in_ok-put.ensures ∙ put_back (tables_of c.args.tables.now)
    (tables_of c.take-tuples.new.tables) c.args.relation _ _ c.take-tuples.ensures.others
    (c.in_ok-changed.ensures ∙ ap (change (set_in c.args.place.now c.args.attr c.args.value.now)) c.take-tuples.ensures.taken)
