-- A desk that the words of a command line ask for, over a store or over nothing.
use Rattle.std.specs.Prelude.{ℕ, List, Option, Result}
use Rattle.mls_certcheck.specs.declared.stored.Stored.{Stored}
use Rattle.mls_certcheck.specs.Site.{site_of}
use Rattle.mls_translang.specs.declared.run_fault.RunFault.{RunFault}
use Rattle.mls_host.specs.declared.ending.Ending.{Ending}
use Rattle.mls_host.specs.declared.job.Inputs.{Inputs}
use Rattle.mls_host.specs.Hosting.{Hosted}
use Rattle.mls_host.specs.Storing.{AreStoredWith}
use Rattle.mls_runs.specs.Access.{AreEventsOf, IsAccessedAs}
use Rattle.mls_runs.specs.Desk.{IsDesk, IsDeskFate}
use Rattle.mls_runs.specs.Work.{IsOverStore}

-- what the host says is typed is answered, over what is stored of the transactions with the certificates
pub record IsDeskRun (h : Hosted) (inputs : Inputs) (store : Option (List ℕ)) (Wrote : List ℕ → Type 0)
    (end : Result Ending RunFault) : Type 0 where
  pub stored : List Stored
  pub before : Option (List ℕ)
  pub after : Option (List ℕ)
  pub stored_are : AreStoredWith inputs.setting.policy inputs.certificates inputs.transactions stored
  pub typed : h.before.types before
  pub desk : IsOverStore h inputs.setting.policy inputs.setting.file store
      (IsDesk h.echo (site_of inputs.setting.policy inputs.setting.file.schemes stored) before after h.before.breaks
      Wrote) end
  -- the store is read nowhere up and changed nowhere down, however the desk ends
  pub access : IsAccessedAs h.after (site_of inputs.setting.policy inputs.setting.file.schemes stored)
      (AreEventsOf h.echo (IsDeskFate inputs.setting.policy inputs.setting.file.schemes) before after) store
