use Rattle.std.proofs.Common.{refl}
use Rattle.mls_host.specs.Words.{named}
use Rattle.mls_host.specs.declared.reason.Reason.TheVariants.{Memory}
use Rattle.mls_command.specs.Explaining.{IsUnexplained, no_name, no_memory}
use Rattle.mls_host.proofs.CauseLemmas.{same_reason}
use Rattle.mls_command.proofs.explaining.explained.Goals as goal

pub returns-in_err-explained-clause-refused : goal.returns-in_err-explained-clause-refused
returns-in_err-explained-clause-refused c =
    same_reason (IsUnexplained c.args.txs.now
    (named c.args.name)) c.from_residual.result Memory c.from_residual.ensures.1 (no_memory refl)

pub returns-in_err-listing_of-clause-refused : goal.returns-in_err-listing_of-clause-refused
returns-in_err-listing_of-clause-refused c =
    same_reason (IsUnexplained c.args.txs.now
    (named c.args.name)) c.from_residual-in_err-listing_of.result Memory c.from_residual-in_err-listing_of.ensures.1
    (no_memory refl)

pub returns-in-None-clause-refused : goal.returns-in-None-clause-refused
returns-in-None-clause-refused c = no_name (c.in-None.ensures.none refl) refl
