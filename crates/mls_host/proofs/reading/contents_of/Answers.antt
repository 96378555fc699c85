use Rattle.mls_host.specs.Reading.{AreContentsRefused, no_user, no_transactions, no_certificates, no_script}
use Rattle.mls_host.proofs.CauseLemmas.{same_reason}
use Rattle.mls_host.proofs.reading.contents_of.Goals as goal

pub returns-in_err-check_user-clause-refused : goal.returns-in_err-check_user-clause-refused
returns-in_err-check_user-clause-refused g c =
    same_reason (AreContentsRefused (g.H.Host.hosting c.args.host.now) c.args.job c.args.setting.now) c.from_residual.result c.in_err-check_user.field-0.0 c.from_residual.ensures.1
    (no_user c.in_err-check_user.ensures.refused)

pub returns-in_err-transactions-clause-refused : goal.returns-in_err-transactions-clause-refused
returns-in_err-transactions-clause-refused g c =
    same_reason (AreContentsRefused (g.H.Host.hosting c.args.host.now) c.args.job c.args.setting.now) c.from_residual-in_err-transactions.result c.in_err-transactions.field-0.0 c.from_residual-in_err-transactions.ensures.1
    (no_transactions c.in_ok-check_user.ensures.named c.in_err-transactions.ensures.refused)

pub returns-in_err-certificates-clause-refused : goal.returns-in_err-certificates-clause-refused
returns-in_err-certificates-clause-refused g c =
    same_reason (AreContentsRefused (g.H.Host.hosting c.args.host.now) c.args.job c.args.setting.now) c.from_residual-in_err-certificates.result c.in_err-certificates.field-0.0 c.from_residual-in_err-certificates.ensures.1
    (no_certificates c.in_ok-transactions.transactions c.in_ok-check_user.ensures.named c.in_ok-transactions.ensures.told c.in_err-certificates.ensures.refused)

pub returns-in_err-events-clause-refused : goal.returns-in_err-events-clause-refused
returns-in_err-events-clause-refused g c =
    same_reason (AreContentsRefused (g.H.Host.hosting c.args.host.now) c.args.job c.args.setting.now) c.from_residual-in_err-events.result c.in_err-events.field-0.0 c.from_residual-in_err-events.ensures.1
    (no_script c.in_ok-transactions.transactions c.in_ok-certificates.certificates.items c.in_ok-check_user.ensures.named c.in_ok-transactions.ensures.told c.in_ok-certificates.ensures.blocks c.in_err-events.ensures.refused)
