use Rattle.std.proofs.Common.{sym, subst}
use Rattle.mls_command.proofs.IgnoredLemmas.{pictured_so}
use Rattle.mls_command.proofs.TellingLemmas.{if_ok}
use Rattle.mls_command.proofs.documents.picture_of.Goals as goal

pub returns-clause-text : goal.returns-clause-text
returns-clause-text g c =
    let Ignores = (g.H.Host.hosting c.args.host.now).ignores c.args.documents in
    if_ok (λ l is. pictured_so Ignores c.deref.result.now
    (subst Ignores (sym c.deref.ensures) c.in_ok-ignored.ensures) l.text.items l.ending is) c.pictured.result c.pictured.ensures.text
