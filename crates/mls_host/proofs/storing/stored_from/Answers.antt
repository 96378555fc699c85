use Rattle.std.proofs.Common.{refl}
use Rattle.mls_host.specs.declared.reason.Reason.TheVariants.{Memory}
use Rattle.mls_host.specs.Causes.{AreTextsRefused, not_told, not_certified, not_kept}
use Rattle.mls_host.proofs.CauseLemmas.{same_reason}
use Rattle.mls_host.proofs.StoringLemmas.{stored_certified}
use Rattle.mls_host.proofs.storing.stored_from.Goals as goal

pub returns-clause-certified : goal.returns-clause-certified
returns-clause-certified c = stored_certified c.args.policy.now c.args.schemes.now c.deref.result.now c.in_ok-txs.txs c.in_ok-stored_of.field-0 c.in_ok-stored_of.ensures

pub returns-in_err-txs-clause-refused : goal.returns-in_err-txs-clause-refused
returns-in_err-txs-clause-refused c =
    same_reason (AreTextsRefused c.args.transactions.now c.args.certificates.now c.args.policy.now c.args.schemes.now) c.from_residual.result c.in_err-txs.field-0.0 c.from_residual.ensures.1 (not_told c.in_err-txs.ensures.refused)

pub returns-in_err-blocks-clause-refused : goal.returns-in_err-blocks-clause-refused
returns-in_err-blocks-clause-refused c =
    same_reason (AreTextsRefused c.args.transactions.now c.args.certificates.now c.args.policy.now c.args.schemes.now) c.from_residual-in_err-blocks.result c.in_err-blocks.field-0.0 c.from_residual-in_err-blocks.ensures.1
    (not_certified c.in_ok-txs.txs c.in_ok-txs.ensures.told c.in_err-blocks.ensures.refused)

pub returns-in_err-stored_of-clause-refused : goal.returns-in_err-stored_of-clause-refused
returns-in_err-stored_of-clause-refused c =
    same_reason (AreTextsRefused c.args.transactions.now c.args.certificates.now c.args.policy.now c.args.schemes.now) c.from_residual-in_err-stored_of.result Memory c.from_residual-in_err-stored_of.ensures.1 (not_kept refl)
