use Rattle.std.proofs.Common.{◌≡◌, ◌<◌, length, Some, rules, sym, subst}
use Rattle.mls_translang.specs.Tx.{Tx}
use Rattle.mls_translang.specs.Fits.{IsReadUnder}
use Rattle.mls_certcheck.specs.declared.stored.Stored.TheVariants.{Certified}
use Rattle.mls_machine.specs.Denying.{stored_named}
use Rattle.mls_sessions.specs.Sessions.{site_of_run}
use Rattle.mls_sessions.proofs.StoredLemmas.{found_read}
use Rattle.mls_sessions.proofs.denying_calls.call_denial.Goals as goal

pub certified_denial-requires-clause-lo : goal.certified_denial-requires-clause-lo
certified_denial-requires-clause-lo c =
    let found : stored_named c.args.site.now.stored c.args.name.now ≡ Some (Certified c.in-Some-Certified.certified) =
    search rules in
    let same : c.tx.result.now ≡ c.in-Some-Certified.certified.tx = search rules in
    subst (λ (tx : Tx). tx.lo < length c.args.site.now.policy.now.labels) (sym same)
    (IsReadUnder.lo (found_read (site_of_run c.args.site.now) c.args.name.now
    (Certified c.in-Some-Certified.certified) c.requires.read found))

pub certified_denial-requires-clause-hi : goal.certified_denial-requires-clause-hi
certified_denial-requires-clause-hi c =
    let found : stored_named c.args.site.now.stored c.args.name.now ≡ Some (Certified c.in-Some-Certified.certified) =
    search rules in
    let same : c.tx.result.now ≡ c.in-Some-Certified.certified.tx = search rules in
    subst (λ (tx : Tx). tx.hi < length c.args.site.now.policy.now.labels) (sym same)
    (IsReadUnder.hi (found_read (site_of_run c.args.site.now) c.args.name.now
    (Certified c.in-Some-Certified.certified) c.requires.read found))
