use Rattle.std.proofs.Common.{rules}
use Rattle.mls_certcheck.specs.Rules.{claim}
use Rattle.mls_host.proofs.StoringLemmas.{refused_breaks}
use Rattle.mls_host.proofs.storing.checked.Goals as goal

pub returns : goal.returns
returns c = (
  search rules,
  refused_breaks
      (claim c.args.policy.now c.args.tx c.args.cert) c.in-Err.field-0-2 c.in-Err.ensures.first,
)
