use Rattle.std.proofs.Common.{◌≡◌, IfOk, OnOk, subst}
use Rattle.mls_audit.specs.declared.entry.Deed.TheVariants.{Called}
use Rattle.mls_audit.specs.Spelling.{HasSpelling, entry_spelling}
use Rattle.mls_machine.specs.Machine.{entry_of}
use Rattle.mls_sessions.specs.Sessions.{site_of_run}
use Rattle.mls_sessions.proofs.NamingLemmas.{copy_is_short}
use Rattle.mls_sessions.proofs.calling.called_bytes.Goals as goal

pub bytes_of-requires-clause-short : goal.bytes_of-requires-clause-short
bytes_of-requires-clause-short c = copy_is_short c.in_ok-transaction.transaction _ c.in_ok-transaction.ensures c.requires.name

pub returns-clause-bytes : goal.returns-clause-bytes
returns-clause-bytes c =
    subst (λ x. IfOk c.bytes_of.result (λ v. v.items
    ≡ entry_spelling (entry_of (site_of_run c.args.site.now) c.args.event.now c.args.event.now.level c.args.user
    (Called x))))
    c.in_ok-transaction.ensures c.bytes_of.ensures.bytes

pub returns-clause-spelled : goal.returns-clause-spelled
returns-clause-spelled c =
    subst (λ x. OnOk c.bytes_of.result (HasSpelling
    (entry_of (site_of_run c.args.site.now) c.args.event.now c.args.event.now.level c.args.user (Called x))))
    c.in_ok-transaction.ensures c.bytes_of.ensures.spelled
