use Rattle.mls_host.specs.Reading.{AreInputsRefused, no_setting, no_contents}
use Rattle.mls_host.proofs.CauseLemmas.{same_reason}
use Rattle.mls_host.proofs.reading.inputs_of.Goals as goal

pub returns-in_err-setting-clause-refused : goal.returns-in_err-setting-clause-refused
returns-in_err-setting-clause-refused g c =
    same_reason (AreInputsRefused (g.H.Host.hosting c.args.host.now) c.args.job) c.from_residual.result c.in_err-setting.field-0.0 c.from_residual.ensures.1 (no_setting c.in_err-setting.ensures.refused)

pub returns-in_err-transactions-clause-refused : goal.returns-in_err-transactions-clause-refused
returns-in_err-transactions-clause-refused g c =
    same_reason (AreInputsRefused (g.H.Host.hosting c.args.host.now) c.args.job) c.from_residual-in_err-transactions.result c.in_err-transactions.field-0.0 c.from_residual-in_err-transactions.ensures.1
    (no_contents c.in_ok-setting.setting c.in_ok-setting.ensures.read c.in_err-transactions.ensures.refused)
