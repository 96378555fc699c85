use Rattle.std.proofs.KnownBytes.{Appends-nil}
use Rattle.mls_host.specs.Deed.{deed}
use Rattle.mls_host.proofs.HostingLemmas.{told_nothing}
use Rattle.mls_command.proofs.PrintingLemmas.{listing_printed, not_printed}
use Rattle.mls_command.specs.Accounting.{Accounts, IsUnread}
use Rattle.mls_command.proofs.accounting.print_account.Goals as goal

pub returns-in_err-account : goal.returns-in_err-account
returns-in_err-account g c =
    not_printed (Accounts (g.H.Host.hosting c.args.host.now) c.args.job)
    (IsUnread (g.H.Host.hosting c.args.host.now) c.args.job)
    (deed g.W.Write.contents c.args.out.now c.args.out.now g.E.Write.contents c.args.err.now c.args.err.now c.from_residual.result) c.in_err-account.field-0.0 c.from_residual.ensures.1 c.in_err-account.ensures.unread (Appends-nil _, told_nothing g.E.Write.contents c.args.err.now)

pub returns : goal.returns
returns g c =
    listing_printed (Accounts (g.H.Host.hosting c.args.host.now) c.args.job)
    (IsUnread (g.H.Host.hosting c.args.host.now) c.args.job)
    c.in_ok-account.field-0 (deed g.W.Write.contents c.args.out.now c.print.new.out g.E.Write.contents c.args.err.now c.print.new.err c.print.result) c.in_ok-account.ensures.told c.print.ensures.print
