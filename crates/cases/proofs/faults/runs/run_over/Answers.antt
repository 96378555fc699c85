use Rattle.mls_certcheck.specs.Site.{site_of}
use Rattle.mls_sessions.proofs.FrameLemmas.{given_back}
use Rattle.cases.proofs.faults.runs.run_over.Goals as goal

pub returns : goal.returns
returns g c =
    (given_back g.B.Base.seen (site_of c.args.sample.now.policy.now c.args.sample.now.schemes.now c.args.stored) c.new-engine.result c.run-end.new.engine c.finish.result
    c.new-engine.ensures.site c.run-end.ensures.continues.kept c.finish.ensures).rest
