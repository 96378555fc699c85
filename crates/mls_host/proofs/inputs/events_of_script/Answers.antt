use Rattle.mls_host.specs.Words.{named}
use Rattle.mls_host.specs.declared.reason.Role.TheVariants as role
use Rattle.mls_host.specs.Causes.{IsScriptRefused, RefusesScript, not_given}
use Rattle.mls_host.proofs.CauseLemmas.{same_reason, not_read_of}
use Rattle.mls_host.proofs.inputs.events_of_script.Goals as goal

pub returns-in_err-bytes-clause-refused : goal.returns-in_err-bytes-clause-refused
returns-in_err-bytes-clause-refused g c =
    same_reason (IsScriptRefused (g.H.Host.hosting c.args.host.now)
    (named c.args.path) c.args.policy.now c.args.schemes.now) c.from_residual.result c.in_err-bytes.field-0.0 c.from_residual.ensures.1
    (not_given c.in_err-bytes.ensures.refused)

pub returns-clause-refused : goal.returns-clause-refused
returns-clause-refused g c =
    not_read_of (g.H.Host.hosting c.args.host.now) role.Script (named c.args.path)
    (RefusesScript c.args.policy.now c.args.schemes.now) c.read_script.result c.deref.result.now c.in_ok-bytes.bytes.items
    c.deref.ensures.value c.in_ok-bytes.ensures.given c.read_script.ensures.refused
