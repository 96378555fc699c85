use Rattle.std.proofs.Common.{sym, subst, ◌∙◌}
use Rattle.mls_advice.specs.Excerpt.{Begins}
use Rattle.mls_command.specs.Accounting.{all_accepted}
use Rattle.mls_command.specs.Opening.{denial_text}
use Rattle.mls_command.proofs.AccountLemmas.{denied_told, store_told}
use Rattle.mls_command.proofs.TellingLemmas.{if_ok}
use Rattle.mls_command.proofs.accounting.accepted_listing.Goals as goal

pub returns-in-Some : goal.returns-in-Some
returns-in-Some g c =
    denied_told (g.H.Host.hosting c.args.host.now) c.args.job c.args.inputs.now c.in-Some.denial c.requires
    (sym c.opening_denial.ensures ∙ c.in-Some.is) _ _ _
    (subst (Begins (denial_text c.in-Some.denial))
    (sym c.listing_of.ensures.text) c.in_ok-text-in-Some.ensures) c.listing_of.ensures.told c.listing_of.ensures.end

pub returns : goal.returns
returns g c =
    let h = g.H.Host.hosting c.args.host.now in
    if_ok (λ l is. all_accepted c.args.inputs.now c.requires (sym c.opening_denial.ensures ∙ c.in-None.is)
    (store_told h c.args.inputs.now.setting c.args.job.task (h.ignores c.args.job.documents) c.deref-in-None.result.now
    (subst (h.ignores c.args.job.documents) (sym c.deref-in-None.ensures) c.in_ok-ignored.ensures) _ _ _ _ is))
    c.store_account.result c.store_account.ensures
