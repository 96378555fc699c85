-- Runs of scripts.
use Rattle.std.proofs.Common.{refl, ◌≡◌, ℕ, Bool, List, [], Option, Result, Ok, Err, sym, subst, IsErrAnd}
use Rattle.mls_certcheck.specs.declared.stored.Stored.{Stored}
use Rattle.mls_translang.specs.declared.event.Event.{Event}
use Rattle.mls_translang.specs.declared.run_fault.RunFault.{RunFault}
use Rattle.mls_machine.specs.declared.form.Form.{Form}
use Rattle.mls_host.specs.declared.reason.Reason.{Reason}
use Rattle.mls_host.specs.declared.stop.Stop.{Stop}
use Rattle.mls_host.specs.declared.stop.Stop.TheVariants.{Before}
use Rattle.mls_host.specs.Hosting.{Hosted}
use Rattle.mls_host.specs.declared.reason.Reason.TheVariants.{Memory}
use Rattle.mls_host.specs.declared.job.Inputs.{Inputs}
use Rattle.mls_host.specs.Storing.{AreStoredWith}
use Rattle.mls_host.specs.Causes.{IsBarred, IsNotBegun, no_memory, no_store}
use Rattle.mls_host.specs.Stop.{IsEnd}
use Rattle.mls_runs.proofs.RunningLemmas.{end_weaker}
use Rattle.mls_runs.specs.ScriptRun.{site_of_setting, IsScriptRun}
use Rattle.mls_runs.specs.Running.{IsRun, form_of}
use Rattle.mls_runs.specs.Access.{IsAccessedAs}
use Rattle.mls_runs.specs.Work.{IsOverStore}

-- ---- the events of a script

module _ (h : Hosted) (inputs : Inputs) (store : Option (List ℕ)) (is_table : Bool) (Wrote : List ℕ → Type 0) where
  -- it was not begun, and nothing was written
  abbrev pub NotBegun : Reason → Type 0
  NotBegun reason = IsNotBegun h.after inputs.setting.policy inputs.setting.file store reason × Wrote []

  abbrev pub Ends : Result (Unit {0}) Stop → Type 0
  Ends r = IsEnd (IsScriptRun h inputs store is_table Wrote) NotBegun r

  module _ (stored : List Stored) (stored_are : AreStoredWith inputs.setting.policy inputs.certificates inputs.transactions stored) (Still : Type 0) (still : Still → Wrote []) where
    abbrev Runs : Form → List Event → Result (Unit {0}) RunFault → Type 0
    Runs form events end = IsOverStore h inputs.setting.policy inputs.setting.file store
        (IsRun (site_of_setting inputs.setting stored) (record {
          reader = inputs.setting.reader;
          form =
              form;
        }) events Wrote) end
        × IsAccessedAs h.after (site_of_setting inputs.setting stored) (λ es. es ≡ events) store

    -- the events of a script, over what is stored; where none is answered, all is still as it was
    pub script_run : (form : Form) (events : List Event) → form ≡ form_of is_table → events ≡ inputs.events
        → (r : Result (Unit {0}) Stop)
        → IsEnd (Runs form events) (λ reason. IsBarred h.after inputs.setting.policy inputs.setting.file store reason
        × Still) r → Ends r
    script_run form events is are r run =
        let f : (end : Result (Unit {0}) RunFault) → Runs form events end
        → IsScriptRun h inputs store is_table Wrote end
        = λ end k.
        let o = subst (λ es. Runs (form_of is_table) es end) are (subst (λ (x : Form). Runs x events end) is k) in
        record { stored = stored; stored_are = stored_are; run = o.0; access = o.1 } in
        let g : (reason : Reason) → (IsBarred h.after inputs.setting.policy inputs.setting.file store reason × Still)
        → NotBegun reason
        = λ reason k. (no_store k.0, still k.1) in
        end_weaker (Runs form events) (λ reason. IsBarred h.after inputs.setting.policy inputs.setting.file store reason
        × Still) (IsScriptRun h inputs store is_table Wrote) NotBegun f g r run

  -- at the exit of a `?`
  pub not_begun : (r : Result (Unit {0}) Stop) → IsErrAnd r (λ e. e ≡ Before Memory) → Wrote [] → Ends r
  not_begun (Ok u) is k = absurd is
  not_begun (Err e) is k = subst (λ x. Ends (Err x)) (sym is) (no_memory refl, k)
