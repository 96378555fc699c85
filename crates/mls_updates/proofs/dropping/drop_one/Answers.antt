use Rattle.mls_updates.proofs.CallLemmas.{change_step}
use Rattle.mls_updates.proofs.dropping.drop_one.Goals as goal

pub returns-clause-step : goal.returns-clause-step
returns-clause-step g c = change_step g.B.Base.seen c.args.base.now c.drop_at.new.self c.drop_at.result c.requires.begun c.drop_at.ensures.change
