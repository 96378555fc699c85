-- Two runs for one reader write the same.
use Rattle.std.proofs.Common.{ℕ, List, Option, length, Some, IfSome, sym, subst, arith, take, take_all}
use Rattle.mls_machine.specs.Showing.{ShowsOnlyReleases}
use Rattle.mls_host.specs.Hosting.{Hosted}
use Rattle.mls_host.specs.declared.job.Setting.{Setting}
use Rattle.mls_runs.specs.Running.{first_world, form_of, output}
use Rattle.mls_runs.specs.ScriptRun.{audience_of, site_of_setting}
use Rattle.mls_runs.specs.Alike.{WriteTheSame}

pub write_the_same : (h : Hosted) (W : List ℕ → Type 0) (k : Hosted) (V : List ℕ → Type 0) → WriteTheSame h W k V
write_the_same h W k V i j c is_table store other reader setting x y stored was is alike =
    let site = site_of_setting i.setting x.stored in
    let first = (x.run was).first in
    let second = (y.run is).first in
    let r = (x.run was).leads in
    let s = (y.run is).leads in
    let to : IfSome (Some c) (λ c. (n : ℕ) → ShowsOnlyReleases site c (first_world site first) (take n i.events))
    = subst (λ (o : Option ℕ). IfSome o (λ c. (n : ℕ) → ShowsOnlyReleases site c (first_world site first)
    (take n i.events))) reader r.shown in
    let shows : ShowsOnlyReleases site c (first_world site first) i.events
    = subst (ShowsOnlyReleases site c (first_world site first)) (take_all (length i.events) i.events (omega arith))
    (to (length i.events)) in
    let same = shows (form_of is_table) (first_world site second) j.events alike.stored alike.fits alike.agree alike.seen_same alike.released_same in
    let at_stored : V (output (site_of_setting j.setting x.stored) (audience_of j.setting is_table) second j.events)
    = subst (λ ss. V (output (site_of_setting j.setting ss)
    (audience_of j.setting is_table) second j.events)) stored s.written in
    let at_setting : V (output site (audience_of i.setting is_table) second j.events)
    = subst (λ (t : Setting). V (output (site_of_setting t x.stored)
    (audience_of t is_table) second j.events)) setting at_stored in
    let to_reader : V (output site (record { reader = Some c; form = form_of is_table }) second j.events)
    = subst (λ o. V (output site (record { reader = o; form = form_of is_table }) second j.events)) reader at_setting in
    let wrote : W (output site (record { reader = Some c; form = form_of is_table }) first i.events)
    = subst (λ o. W (output site (record { reader = o; form = form_of is_table }) first i.events)) reader r.written in (
      output site (record { reader = Some c; form = form_of is_table }) first i.events,
      wrote,
      subst V (sym same) to_reader,
    )
