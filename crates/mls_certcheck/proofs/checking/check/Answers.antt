use Rattle.mls_certcheck.specs.Rules.{claim}
use Rattle.mls_certcheck.proofs.CheckLemmas.{says_rules, says_secure, says_sharp}
use Rattle.mls_certcheck.proofs.checking.check.Goals as goal

pub returns-clause-rules : goal.returns-clause-rules
returns-clause-rules c = says_rules (claim c.args.policy.now c.args.tx.now c.args.cert.now) _ c.verdict.ensures

pub returns-clause-secure : goal.returns-clause-secure
returns-clause-secure c = says_secure c.args.policy.now c.use_invariant.ensures.distinct c.args.tx.now c.args.cert.now _ c.verdict.ensures

pub returns-clause-sharp : goal.returns-clause-sharp
returns-clause-sharp c = says_sharp c.args.policy.now c.use_invariant.ensures.distinct c.args.tx.now c.args.cert.now _ c.verdict.ensures
