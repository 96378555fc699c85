use Rattle.std.proofs.Common.{refl, sym, subst, string_bytes}
use Rattle.mls_host.proofs.CauseLemmas.{same_reason}
use Rattle.mls_host.specs.Words.{named}
use Rattle.mls_host.specs.declared.reason.Reason.TheVariants.{Memory}
use Rattle.mls_command.specs.Explaining.{IsUnexplained, no_memory}
use Rattle.mls_command.proofs.IgnoredLemmas.{explained_so}
use Rattle.mls_command.proofs.TellingLemmas.{if_ok}
use Rattle.mls_command.proofs.documents.explanation_of.Goals as goal

pub returns-in_err-ignored-clause-refused : goal.returns-in_err-ignored-clause-refused
returns-in_err-ignored-clause-refused g c =
    same_reason (IsUnexplained c.args.txs.now
    (named c.args.name)) c.from_residual.result Memory c.from_residual.ensures.1 (no_memory refl)

pub returns-clause-listing : goal.returns-clause-listing
returns-clause-listing g c =
    let Ignores = (g.H.Host.hosting c.args.host.now).ignores c.args.documents in
    if_ok (λ l is. explained_so Ignores c.deref.result.now
    (subst Ignores (sym c.deref.ensures) c.in_ok-ignored.ensures) l.text.items l.ending c.args.setting.now.policy c.args.setting.now.file.schemes c.args.txs.now (named c.args.name) (string_bytes l.told) is)
    c.explained.result c.explained.ensures.listing
