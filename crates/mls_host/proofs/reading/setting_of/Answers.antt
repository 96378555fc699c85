use Rattle.mls_host.specs.Reading.{IsSettingRefused, no_policy, no_label, no_schemes}
use Rattle.mls_host.proofs.CauseLemmas.{same_reason}
use Rattle.mls_host.proofs.reading.setting_of.Goals as goal

pub returns-in_err-policy-clause-refused : goal.returns-in_err-policy-clause-refused
returns-in_err-policy-clause-refused g c =
    same_reason (IsSettingRefused (g.H.Host.hosting c.args.host.now) c.args.job) c.from_residual.result c.in_err-policy.field-0.0 c.from_residual.ensures.1 (no_policy c.in_err-policy.ensures.refused)

pub returns-in_err-reader-clause-refused : goal.returns-in_err-reader-clause-refused
returns-in_err-reader-clause-refused g c =
    same_reason (IsSettingRefused (g.H.Host.hosting c.args.host.now) c.args.job) c.from_residual-in_err-reader.result c.in_err-reader.field-0.0 c.from_residual-in_err-reader.ensures.1
    (no_label c.in_ok-policy.policy c.in_ok-policy.ensures.policy c.in_err-reader.ensures.unknown)

pub returns-in_err-file-clause-refused : goal.returns-in_err-file-clause-refused
returns-in_err-file-clause-refused g c =
    same_reason (IsSettingRefused (g.H.Host.hosting c.args.host.now) c.args.job) c.from_residual-in_err-file.result c.in_err-file.field-0.0 c.from_residual-in_err-file.ensures.1
    (no_schemes c.in_ok-policy.policy c.in_ok-reader.reader c.in_ok-policy.ensures.policy c.in_ok-reader.ensures.named c.in_err-file.ensures.refused)
