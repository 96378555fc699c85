use Rattle.mls_sessions.specs.Engine.{site}
use Rattle.mls_runs.proofs.TalkLemmas.{site_made}
use Rattle.mls_runs.proofs.shell.listener_of.Goals as goal

pub returns-clause-site : goal.returns-clause-site
returns-clause-site g c = site_made (site c.args.engine.now) c.args.policy.now c.args.schemes.now c.stored.result.now c.requires.policy c.requires.schemes c.stored.ensures
