use Rattle.std.proofs.Common.{ap, ◌∙◌}
use Rattle.std.specs.Result.{result_from_control_flow}
use Rattle.mls_sessions.specs.Engine.{site, world_of}
use Rattle.mls_runs.proofs.AnsweringLemmas.{followed_given_up, followed_whole, followed_unmarked}
use Rattle.mls_runs.proofs.desk.follow.Goals as goal

pub returns-in_err-perform-clause-followed : goal.returns-in_err-perform-clause-followed
returns-in_err-perform-clause-followed g c = λ clean.
    followed_given_up (site c.args.engine.now) (world_of g.B.Base.seen c.args.engine.now) c.args.fate.now
    (g.W.Write.contents c.args.out.now) (g.W.Write.contents c.perform.new.out)
    (world_of g.B.Base.seen c.perform.new.engine)
    c.perform.result c.from_residual.result c.in_err-perform.field-0.0 (c.branch-perform.ensures
    ∙ ap result_from_control_flow c.in_err-perform.is) c.from_residual.ensures.1 (c.perform.ensures.done clean)

pub returns-in-Ok-clause-followed : goal.returns-in-Ok-clause-followed
returns-in-Ok-clause-followed g c = λ clean.
    followed_whole (site c.args.engine.now) (world_of g.B.Base.seen c.args.engine.now) c.args.fate.now
    (g.W.Write.contents c.args.out.now) (g.W.Write.contents c.perform.new.out)
    (world_of g.B.Base.seen c.perform.new.engine)
    (g.W.Write.contents c.write_mark.new.out) (c.in_ok-perform.ensures.done clean) c.in-Ok.ensures

pub returns-in-Err-clause-followed : goal.returns-in-Err-clause-followed
returns-in-Err-clause-followed g c = λ clean.
    followed_unmarked (site c.args.engine.now) (world_of g.B.Base.seen c.args.engine.now) c.args.fate.now
    (g.W.Write.contents c.args.out.now) (g.W.Write.contents c.perform.new.out)
    (world_of g.B.Base.seen c.perform.new.engine)
    (g.W.Write.contents c.write_mark.new.out) (c.in_ok-perform.ensures.done clean) _ c.in-Err.ensures
