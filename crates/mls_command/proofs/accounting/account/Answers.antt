use Rattle.std.proofs.Common.{refl, inr}
use Rattle.mls_host.specs.declared.reason.Reason.TheVariants.{Memory}
use Rattle.mls_host.proofs.CauseLemmas.{same_reason}
use Rattle.mls_command.specs.Accounting.{IsUnread}
use Rattle.mls_command.proofs.AccountLemmas.{refused_told, refused_unread}
use Rattle.mls_command.proofs.accounting.account.Goals as goal

pub returns-in_ok-accepted_listing-in-Ok-clause-told : goal.returns-in_ok-accepted_listing-in-Ok-clause-told
returns-in_ok-accepted_listing-in-Ok-clause-told g c = c.in_ok-accepted_listing-in-Ok.ensures

pub returns-in_err-accepted_listing-in-Ok-clause-unread : goal.returns-in_err-accepted_listing-in-Ok-clause-unread
returns-in_err-accepted_listing-in-Ok-clause-unread g c =
    same_reason (IsUnread (g.H.Host.hosting c.args.host.now) c.args.job) c.from_residual.result Memory c.from_residual.ensures.1 (inr refl, refl)

pub returns-in-Err-clause-told : goal.returns-in-Err-clause-told
returns-in-Err-clause-told g c =
    let e = c.refused_listing.ensures in
    refused_told (g.H.Host.hosting c.args.host.now) c.args.job c.in-Err.reason c.in-Err.ensures.refused c.refused_listing.result e.told

pub returns-in-Err-clause-unread : goal.returns-in-Err-clause-unread
returns-in-Err-clause-unread g c =
    let e = c.refused_listing.ensures in
    refused_unread (g.H.Host.hosting c.args.host.now) c.args.job c.in-Err.reason c.in-Err.ensures.refused c.refused_listing.result e.same e.memory
