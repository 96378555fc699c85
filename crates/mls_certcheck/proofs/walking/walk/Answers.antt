use Rattle.std.proofs.Common.{length, ap, ◌∙◌}
use Rattle.mls_certcheck.proofs.WalkLemmas.{whole_lines, same_lines}
use Rattle.mls_certcheck.proofs.walking.walk.Goals as goal

pub returns : goal.returns
returns g c =
    same_lines g.V.Visit.visits (whole_lines _ _ _ c.args.tx.now (c.len-vars.ensures
    ∙ ap length c.vars.ensures.vars) c.outside.ensures.none c.body.ensures.body) c.block.ensures
