use Rattle.std.proofs.Common.{◌≡◌, ℕ, List, Option, Some, Result, refl, sym, subst, Bor}
use Rattle.mls_filterview.specs.Content.{Content}
use Rattle.mls_translang.specs.declared.run_fault.RunFault.{RunFault}
use Rattle.mls_host.specs.declared.reason.Reason.{Reason}
use Rattle.mls_host.specs.declared.reason.Reason.TheVariants.{Store}
use Rattle.mls_host.specs.declared.stop.Stop.{Stop}
use Rattle.mls_host.specs.Hosting.{hosted}
use Rattle.mls_host.specs.Causes.{IsBarred}
use Rattle.mls_host.specs.Stop.{IsEnd}
use Rattle.mls_host.specs.Stopping.{IsCaused}
use Rattle.mls_host.specs.Words.{named}
use Rattle.mls_translang.specs.declared.event.Event.{Event}
use Rattle.mls_certcheck.specs.Site.{Site, site_of}
use Rattle.mls_runs.specs.Access.{IsAccessedAs}
use Rattle.mls_runs.specs.Work.{IsOverStore}
use Rattle.mls_runs.proofs.AccessLemmas.{accessed_kept}
use Rattle.mls_runs.proofs.RunningLemmas.{ended_so, from_memory, from_store}
use Rattle.mls_host.proofs.StoppingLemmas.{untouched, caused_at, caused_from_memory, caused_in_store}
use Rattle.mls_runs.proofs.work.over_store.Goals as goal

pub returns-in-None-clause-ends : goal.returns-in-None-clause-ends
returns-in-None-clause-ends g c =
    let new = c.in_memory.new.work in
    from_memory (hosted g.H.Host.hosting g.H.Lines.TypedLines.echo c.args.host.now c.args.host.now) c.args.setting.now.file c.args.setting.now.policy
    (g.K.Work.leads c.args.work.now new (site_of c.args.setting.now.policy c.args.setting.now.file.schemes c.args.stored))
    (site_of c.args.setting.now.policy c.args.setting.now.file.schemes c.args.stored)
    (g.K.Work.answered c.args.work.now new (site_of c.args.setting.now.policy c.args.setting.now.file.schemes c.args.stored))
    (λ store reason. IsBarred (g.H.Host.hosting c.args.host.now) c.args.setting.now.policy c.args.setting.now.file store reason × (new ≡ c.args.work.now)) c.args.store c.in_memory.result c.in-None.is c.in_memory.ensures.ends

pub returns-in-None-clause-caused : goal.returns-in-None-clause-caused
returns-in-None-clause-caused g c =
    caused_from_memory (hosted g.H.Host.hosting g.H.Lines.TypedLines.echo c.args.host.now c.args.host.now) c.args.store c.in-None.is (untouched (g.H.Host.hosting c.args.host.now)) c.in_memory.result c.in_memory.ensures.caused

pub returns-in-Err-clause-ends : goal.returns-in-Err-clause-ends
returns-in-Err-clause-ends g c = (
  subst (λ (s : Option (Bor (List ℕ))). IsBarred
      (g.H.Host.hosting c.store.new.self) c.args.setting.now.policy c.args.setting.now.file (named s)
      (Store c.in-Err.fault)) (sym c.in-Some.is)
      (c.in-Err.fault, c.in-Err.ensures.barred, refl),
  refl,
)

pub returns-in-Err-clause-caused : goal.returns-in-Err-clause-caused
returns-in-Err-clause-caused g c = c.in-Err.ensures.same

pub returns-clause-ends : goal.returns-clause-ends
returns-clause-ends g c =
    let End = g.row.K-End.Denot in
    let h = hosted g.H.Host.hosting g.H.Lines.TypedLines.echo c.args.host.now c.keep-closed.new.self in
    let path = c.in-Some.path in
    let new = c.over-outcome.new.self in
    let end = c.over-outcome.result.0 in
    let at : Site = site_of c.args.setting.now.policy c.args.setting.now.file.schemes c.args.stored in
    let Leads : Result End RunFault → Content → Content → Type 0 = g.K.Work.leads c.args.work.now new at in
    let Answered : List Event → Type 0 = g.K.Work.answered c.args.work.now new at in
    let Ends : Result End RunFault → Type 0
    = λ end. IsOverStore h c.args.setting.now.policy c.args.setting.now.file (Some path.now) Leads end
    × IsAccessedAs h.after at Answered (Some path.now) in
    let led : Ends end = (
      (λ honest. let clean = c.keep-closed.ensures.honest.0 honest in record {
        first = _;
        left = _;
        begins = c.in-Ok.ensures.kept (c.over-outcome.ensures.leaves.clean clean);
        kept = c.keep-closed.ensures.kept honest;
        leads = c.over-outcome.ensures.led clean;
      }),
      accessed_kept g.H.Store.Base.seen h.after c.in-Ok.base c.over-outcome.result.1 c.in-Ok.ensures.fresh
          c.keep-closed.ensures.asked c.keep-closed.ensures.changed at Answered c.over-outcome.ensures.access,
    ) in
    let Nothing : Option (List ℕ) → Reason → Type 0
    = λ store reason. IsBarred (g.H.Host.hosting c.keep-closed.new.self) c.args.setting.now.policy c.args.setting.now.file store reason × (new ≡ c.args.work.now) in
    from_store h c.args.setting.now.file c.args.setting.now.policy Leads at Answered Nothing c.args.store c.ended.result path c.in-Some.is
    (subst (λ (r : Result End Stop). IsEnd Ends (Nothing (Some path.now)) r) (sym c.ended.ensures)
    (ended_so Ends (Nothing (Some path.now)) end c.keep-closed.result led))

pub returns-clause-caused : goal.returns-clause-caused
returns-clause-caused g c =
    let h = hosted g.H.Host.hosting g.H.Lines.TypedLines.echo c.args.host.now c.keep-closed.new.self in
    let path = c.in-Some.path in
    caused_at h c.args.store (Some path) c.in-Some.is c.ended.result
    (subst (λ (r : Result g.row.K-End.Denot Stop). IsCaused h (Some path.now) r) (sym c.ended.ensures)
    (caused_in_store h path.now c.over-outcome.result.0 c.keep-closed.result (g.H.Store.Base.seen c.in-Ok.base).failures
    (g.H.Store.Base.seen c.over-outcome.result.1).failures
    c.keep-closed.ensures.closed.1 c.keep-closed.ensures.closed.0 c.keep-closed.ensures.failed.1
    (λ honest. c.over-outcome.ensures.leaves.store (c.keep-closed.ensures.honest.0 honest))))
