use Rattle.std.proofs.Common.{◌≡◌, Result, Ok, refl, sym, subst, ap}
use Rattle.mls_filterview.specs.Content.{State, Content, no_content}
use Rattle.mls_fragments.specs.Based.{state_of}
use Rattle.mls_translang.specs.declared.run_fault.RunFault.{RunFault}
use Rattle.mls_fragments.specs.declared.open_fault.OpenFault.TheVariants as stores
use Rattle.mls_host.specs.declared.reason.Reason.{Reason}
use Rattle.mls_host.specs.declared.reason.Reason.TheVariants.{Store}
use Rattle.mls_host.specs.declared.stop.Stop.{Stop}
use Rattle.mls_host.specs.Stop.{IsEnd}
use Rattle.mls_certcheck.specs.Site.{site_of}
use Rattle.mls_audit.proofs.SoundLemmas.{none_sound}
use Rattle.mls_runs.proofs.RunningLemmas.{ended_so}
use Rattle.mls_host.specs.Stopping.{IsCausedInMemory}
use Rattle.mls_host.proofs.StoppingLemmas.{ended_in_memory}
use Rattle.mls_runs.proofs.work.in_memory.Goals as goal

pub over-outcome-requires-clause-rest : goal.over-outcome-requires-clause-rest
over-outcome-requires-clause-rest g c = record {
  idle = ap (λ (s : State). s.begun) c.in-Ok.ensures.content;
  sound =
      λ _. none_sound c.args.setting.now.policy c.args.setting.now.file.schemes _ c.in-Ok.ensures.content;
}

pub returns-in-Err-clause-ends : goal.returns-in-Err-clause-ends
returns-in-Err-clause-ends g c = (refl, refl)

pub returns-clause-ends : goal.returns-clause-ends
returns-clause-ends g c =
    let End = g.row.K-End.Denot in
    let new = c.over-outcome.new.self in
    let end = c.over-outcome.result.0 in
    let left = (state_of c.over-outcome.result.1.base).now in
    let Leads : Result End RunFault → Content → Content → Type 0
    = g.K.Work.leads c.args.work.now new (site_of c.args.setting.now.policy c.args.setting.now.file.schemes c.args.stored) in
    let Ends : Result End RunFault → Type 0 = λ end. (last : Content) × Leads end no_content last in
    let led : Ends end = (
      left,
      subst (λ (x : State). Leads end x.now left) c.in-Ok.ensures.content
          (c.over-outcome.ensures.led c.close.ensures.clean),
    ) in
    let Nothing : Reason → Type 0 = λ reason. (reason ≡ Store stores.Memory) × (new ≡ c.args.work.now) in
    subst (λ (r : Result End Stop). IsEnd Ends Nothing r) (sym c.ended.ensures) (ended_so Ends Nothing end (Ok tt) led)

pub returns-clause-caused : goal.returns-clause-caused
returns-clause-caused g c =
    subst (λ (r : Result g.row.K-End.Denot Stop). IsCausedInMemory r) (sym c.ended.ensures)
    (ended_in_memory c.over-outcome.result.0 (c.over-outcome.ensures.leaves.store c.close.ensures.clean))
