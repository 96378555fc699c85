-- A script that is run, over a store or over nothing.
use Rattle.std.specs.Prelude.{◌≡◌, ◌<◌, ℕ, Bool, List, length, Option, IfSome, Result}
use Rattle.mls_translang.specs.declared.event.Event.{Event}
use Rattle.mls_certcheck.specs.declared.stored.Stored.{Stored}
use Rattle.mls_machine.specs.declared.form.Audience.{Audience}
use Rattle.mls_certcheck.specs.Site.{Site, site_of}
use Rattle.mls_machine.specs.Observation.{EventsFit}
use Rattle.mls_translang.specs.declared.run_fault.RunFault.{RunFault}
use Rattle.mls_sessions.specs.Engine.{MayServe}
use Rattle.mls_host.specs.Hosting.{Hosted}
use Rattle.mls_host.specs.declared.job.Setting.{Setting}
use Rattle.mls_host.specs.declared.job.Inputs.{Inputs}
use Rattle.mls_host.specs.Storing.{AreStoredWith}
use Rattle.mls_runs.specs.Running.{IsRun, form_of}
use Rattle.mls_runs.specs.Access.{IsAccessedAs}
use Rattle.mls_runs.specs.Work.{IsOverStore}

-- events may be run for an audience: they fit, and the reader, if there is one, is a label
pub record MayRun (site : Site) (audience : Audience) (events : List Event) : Type 0 where
  pub serves : MayServe site
  pub fits : EventsFit site events
  pub declared : IfSome audience.reader (λ c. c < length site.policy.labels)

-- the reader, if there is one, and a table where the words ask for one
abbrev pub audience_of : Setting → Bool → Audience
audience_of s is_table = record { reader = s.reader; form = form_of is_table }

-- under a policy and schemes, over what is stored
abbrev pub site_of_setting : Setting → List Stored → Site
site_of_setting s stored = site_of s.policy s.file.schemes stored

-- the events that were read are run, over what is stored of the transactions with the certificates; the run ended, or
-- stopped at a fault
pub record IsScriptRun (h : Hosted) (inputs : Inputs) (store : Option (List ℕ)) (is_table : Bool)
    (Wrote : List ℕ → Type 0) (end : Result (Unit {0}) RunFault) : Type 0 where
  pub stored : List Stored
  pub stored_are : AreStoredWith inputs.setting.policy inputs.certificates inputs.transactions stored
  pub run : IsOverStore h inputs.setting.policy inputs.setting.file store
      (IsRun (site_of_setting inputs.setting stored) (audience_of inputs.setting is_table) inputs.events Wrote) end
  -- the store is read nowhere up and changed nowhere down, however the run ends
  pub access : IsAccessedAs h.after (site_of_setting inputs.setting stored) (λ events. events ≡ inputs.events) store
