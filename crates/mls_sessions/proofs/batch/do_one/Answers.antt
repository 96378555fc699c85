use Rattle.std.proofs.Common.{Ok, Err, IfOk, ap, sym, subst, rules}
use Rattle.mls_filterview.specs.Content.{State}
use Rattle.mls_audit.specs.Sound.{IsSoundContent}
use Rattle.mls_certcheck.specs.Site.{site_labels}
use Rattle.mls_machine.specs.Machine.{did_one}
use Rattle.mls_sessions.specs.Access.{IsOnePermitted}
use Rattle.mls_sessions.specs.Batches.{MayDoOne, IsOneDone}
use Rattle.mls_sessions.specs.Sessions.{site_of_run}
use Rattle.mls_sessions.proofs.AccessLemmas.{view_in_permitted, expect_permitted}
use Rattle.mls_sessions.proofs.BatchLemmas.{view_may, expect_may, view_done, expect_done}
use Rattle.mls_sessions.proofs.GoingLemmas.{goes_well, goes_back, read_goes}
use Rattle.mls_sessions.proofs.batch.do_one.Goals as goal

pub found_by-requires-clause-relation : goal.found_by-requires-clause-relation
found_by-requires-clause-relation g c = (view_may
    (site_of_run c.args.site.now) c.args.level c.args.one.now c.requires.may c.in-View.relation c.in-View.label c.in-View.query c.in-View.counts c.in-View.is).in_schemes

pub found_by-requires-clause-label : goal.found_by-requires-clause-label
found_by-requires-clause-label g c = (view_may
    (site_of_run c.args.site.now) c.args.level c.args.one.now c.requires.may c.in-View.relation c.in-View.label c.in-View.query c.in-View.counts c.in-View.is).in_policy

pub returns-in_err-rows-in-View-clause-step : goal.returns-in_err-rows-in-View-clause-step
returns-in_err-rows-in-View-clause-step g c =
    let fault = c.in_err-rows-in-View.field-0.0 in
    goes_back g.B.Base.seen c.args.base.now c.found_by.new.base fault c.from_residual.result (search rules)
    (read_goes g.B.Base.seen c.args.base.now c.found_by.new.base
    (Err fault) c.requires.found.mode c.in_err-rows-in-View.ensures.read)

pub returns-in_err-rows-in-View-clause-access : goal.returns-in_err-rows-in-View-clause-access
returns-in_err-rows-in-View-clause-access g c =
    let site = site_of_run c.args.site.now in
    let may = view_may site c.args.level c.args.one.now c.requires.may c.in-View.relation c.in-View.label c.in-View.query c.in-View.counts c.in-View.is in
    view_in_permitted g.B.Base.seen c.args.base.now c.found_by.new.base (site_labels site) c.args.level c.args.one.now c.in-View.relation c.in-View.label c.in-View.query c.in-View.counts c.in-View.is may.low
    c.in_err-rows-in-View.ensures.access

pub returns-in_ok-rows-in-View-clause-step : goal.returns-in_ok-rows-in-View-clause-step
returns-in_ok-rows-in-View-clause-step g c =
    goes_well g.B.Base.seen c.args.base.now c.found_by.new.base c.in_ok-rows-in-View.rows _
    (read_goes g.B.Base.seen c.args.base.now c.found_by.new.base
    (Ok c.in_ok-rows-in-View.rows) c.requires.found.mode c.in_ok-rows-in-View.ensures.read)

pub returns-in_ok-rows-in-View-clause-access : goal.returns-in_ok-rows-in-View-clause-access
returns-in_ok-rows-in-View-clause-access g c =
    let site = site_of_run c.args.site.now in
    let may = view_may site c.args.level c.args.one.now c.requires.may c.in-View.relation c.in-View.label c.in-View.query c.in-View.counts c.in-View.is in
    view_in_permitted g.B.Base.seen c.args.base.now c.found_by.new.base (site_labels site) c.args.level c.args.one.now c.in-View.relation c.in-View.label c.in-View.query c.in-View.counts c.in-View.is may.low
    c.in_ok-rows-in-View.ensures.access

pub returns-in_ok-rows-in-View-clause-done : goal.returns-in_ok-rows-in-View-clause-done
returns-in_ok-rows-in-View-clause-done g c = λ clean.
    view_done (site_of_run c.args.site.now) c.args.level c.args.one.now (g.B.Base.seen c.args.base.now).state.now
    (g.B.Base.seen c.found_by.new.base).state.now (ap (λ (s : State). s.now) (c.in_ok-rows-in-View.ensures.read.same clean))
    c.in-View.relation c.in-View.label c.in-View.query c.in_ok-rows-in-View.rows (c.in_ok-rows-in-View.ensures.rows clean)
    c.in-View.counts c.in-View.is

pub returns-in_ok-rows-in-View-clause-sound : goal.returns-in_ok-rows-in-View-clause-sound
returns-in_ok-rows-in-View-clause-sound g c = λ clean.
    let read = c.in_ok-rows-in-View.ensures.read in
    subst (λ (s : State). IsSoundContent c.args.site.now.policy.now c.args.site.now.schemes.now s.now)
    (sym (read.same clean)) (c.requires.found.sound (read.call.clean clean))

pub found_by-requires-in-Expect-clause-relation : goal.found_by-requires-in-Expect-clause-relation
found_by-requires-in-Expect-clause-relation g c =
    (expect_may (site_of_run c.args.site.now) c.args.level c.args.one.now c.requires.may c.in-Expect.rows c.in-Expect.relation c.in-Expect.label c.in-Expect.query c.in-Expect.is).in_schemes

pub found_by-requires-in-Expect-clause-label : goal.found_by-requires-in-Expect-clause-label
found_by-requires-in-Expect-clause-label g c =
    (expect_may (site_of_run c.args.site.now) c.args.level c.args.one.now c.requires.may c.in-Expect.rows c.in-Expect.relation c.in-Expect.label c.in-Expect.query c.in-Expect.is).in_policy

pub returns-in_err-there-in-Expect-clause-step : goal.returns-in_err-there-in-Expect-clause-step
returns-in_err-there-in-Expect-clause-step g c =
    let fault = c.in_err-there-in-Expect.field-0.0 in
    goes_back g.B.Base.seen c.args.base.now c.found_by-in-Expect.new.base fault c.from_residual-in_err-there-in-Expect.result
    (search rules)
    (read_goes g.B.Base.seen c.args.base.now c.found_by-in-Expect.new.base
    (Err fault) c.requires.found.mode c.in_err-there-in-Expect.ensures.read)

pub returns-in_err-there-in-Expect-clause-access : goal.returns-in_err-there-in-Expect-clause-access
returns-in_err-there-in-Expect-clause-access g c =
    let site = site_of_run c.args.site.now in
    let may = expect_may site c.args.level c.args.one.now c.requires.may c.in-Expect.rows c.in-Expect.relation c.in-Expect.label c.in-Expect.query c.in-Expect.is in
    expect_permitted g.B.Base.seen c.args.base.now c.found_by-in-Expect.new.base (site_labels site) c.args.level c.args.one.now c.in-Expect.rows c.in-Expect.relation c.in-Expect.label c.in-Expect.query c.in-Expect.is may.low
    c.in_err-there-in-Expect.ensures.access

pub returns-in_ok-there-in-Expect-clause-step : goal.returns-in_ok-there-in-Expect-clause-step
returns-in_ok-there-in-Expect-clause-step g c =
    goes_well g.B.Base.seen c.args.base.now c.found_by-in-Expect.new.base c.in_ok-there-in-Expect.there _
    (read_goes g.B.Base.seen c.args.base.now c.found_by-in-Expect.new.base
    (Ok c.in_ok-there-in-Expect.there) c.requires.found.mode c.in_ok-there-in-Expect.ensures.read)

pub returns-in_ok-there-in-Expect-clause-access : goal.returns-in_ok-there-in-Expect-clause-access
returns-in_ok-there-in-Expect-clause-access g c =
    let site = site_of_run c.args.site.now in
    let may = expect_may site c.args.level c.args.one.now c.requires.may c.in-Expect.rows c.in-Expect.relation c.in-Expect.label c.in-Expect.query c.in-Expect.is in
    expect_permitted g.B.Base.seen c.args.base.now c.found_by-in-Expect.new.base (site_labels site) c.args.level c.args.one.now c.in-Expect.rows c.in-Expect.relation c.in-Expect.label c.in-Expect.query c.in-Expect.is may.low
    c.in_ok-there-in-Expect.ensures.access

pub returns-in_ok-there-in-Expect-clause-done : goal.returns-in_ok-there-in-Expect-clause-done
returns-in_ok-there-in-Expect-clause-done g c = λ clean.
    expect_done (site_of_run c.args.site.now) c.args.level c.args.one.now (g.B.Base.seen c.args.base.now).state.now
    (g.B.Base.seen c.found_by-in-Expect.new.base).state.now (ap (λ (s : State). s.now)
    (c.in_ok-there-in-Expect.ensures.read.same clean))
    c.in-Expect.relation c.in-Expect.label c.in-Expect.query c.in_ok-there-in-Expect.there (c.in_ok-there-in-Expect.ensures.rows clean)
    c.in-Expect.rows c.in-Expect.is c.len.result c.len.ensures c.outcome_of.result c.outcome_of.ensures

pub returns-in_ok-there-in-Expect-clause-sound : goal.returns-in_ok-there-in-Expect-clause-sound
returns-in_ok-there-in-Expect-clause-sound g c = λ clean.
    let read = c.in_ok-there-in-Expect.ensures.read in
    subst (λ (s : State). IsSoundContent c.args.site.now.policy.now c.args.site.now.schemes.now s.now)
    (sym (read.same clean)) (c.requires.found.sound (read.call.clean clean))

pub write-requires-clause-may : goal.write-requires-clause-may
write-requires-clause-may g c = subst (MayDoOne (site_of_run c.args.site.now) c.args.level) c.in-Write.is c.requires.may

pub returns-in-Write-clause-access : goal.returns-in-Write-clause-access
returns-in-Write-clause-access g c =
    let ls = site_labels (site_of_run c.args.site.now) in
    subst (λ one. IsOnePermitted g.B.Base.seen ls c.args.level one c.args.base.now c.write.new.base) (sym c.in-Write.is)
    c.write.ensures.access

pub returns-in-Write-clause-done : goal.returns-in-Write-clause-done
returns-in-Write-clause-done g c = λ clean.
    let site = site_of_run c.args.site.now in
    let s = (g.B.Base.seen c.args.base.now).state.now in
    let t = (g.B.Base.seen c.write.new.base).state.now in
    subst (λ one. IfOk c.write.result (IsOneDone (did_one site c.args.level one s.db) s t)) (sym c.in-Write.is)
    (c.write.ensures.done clean)
