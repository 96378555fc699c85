-- A shell that the words of a command line ask for, over a store or over nothing.
use Rattle.std.specs.Prelude.{◌≡◌, ℕ, Bool, List, Option, Some, None, Result}
use Rattle.mls_certcheck.specs.declared.stored.Stored.{Stored}
use Rattle.mls_certcheck.specs.Site.{site_of}
use Rattle.mls_translang.specs.declared.run_fault.RunFault.{RunFault}
use Rattle.mls_host.specs.declared.ending.Ending.{Ending}
use Rattle.mls_runs.specs.declared.shell_session.ShellSession.{ShellSession}
use Rattle.mls_host.specs.declared.reason.Reason.{Reason}
use Rattle.mls_host.specs.declared.reason.Reason.TheVariants.{Label}
use Rattle.mls_host.specs.declared.job.Setting.{Setting}
use Rattle.mls_host.specs.declared.job.Inputs.{Inputs}
use Rattle.mls_host.specs.Causes.{IsNotBegun}
use Rattle.mls_host.specs.Hosting.{Hosting, Hosted}
use Rattle.mls_host.specs.Storing.{AreStoredWith}
use Rattle.mls_runs.specs.Explaining.{Explaining}
use Rattle.mls_runs.specs.Access.{AreEventsOf, IsAccessedAs}
use Rattle.mls_runs.specs.Shell.{IsShell, IsShellFate}
use Rattle.mls_runs.specs.Work.{IsOverStore}

-- who sits at a shell, by its words
abbrev pub shell_session_of : List ℕ → List ℕ → ℕ → Bool → Bool → ShellSession
shell_session_of label user level has_prompt is_watched = record {
  level = level;
  label = label;
  user = user;
  has_prompt = has_prompt;
  is_watched = is_watched;
}

-- what the host says is typed is answered, at a label for a user, over what is stored of the transactions with the
-- certificates, and what is refused is explained
pub record IsShellRun (x : Explaining) (h : Hosted) (inputs : Inputs) (store : Option (List ℕ)) (label user : List ℕ)
    (Wrote Told : List ℕ → Type 0) (end : Result Ending RunFault) : Type 0 where
  pub stored : List Stored
  pub level : ℕ
  pub before : Option (List ℕ)
  pub after : Option (List ℕ)
  pub stored_are : AreStoredWith inputs.setting.policy inputs.certificates inputs.transactions stored
  pub level_is : inputs.setting.reader ≡ Some level
  pub typed : h.before.types before
  pub shell : IsOverStore h inputs.setting.policy inputs.setting.file store
      (IsShell x h.echo (site_of inputs.setting.policy inputs.setting.file.schemes stored)
      (shell_session_of label user level h.before.is_terminal h.before.is_watched)
      before after h.before.breaks Wrote Told) end
  -- the store is read nowhere up and changed nowhere down, however the shell ends
  pub access : IsAccessedAs h.after (site_of inputs.setting.policy inputs.setting.file.schemes stored)
      (AreEventsOf h.echo (IsShellFate inputs.setting.policy inputs.setting.file.schemes
      (shell_session_of label user level h.before.is_terminal h.before.is_watched)) before after) store

-- a shell is not begun: it has no level; or there is no memory; or its store is barred
pub data IsShellRefused (h : Hosting) (s : Setting) (store : Option (List ℕ)) (reason : Reason) : Type 0 where
  no_level : s.reader ≡ None → reason ≡ Label → IsShellRefused h s store reason
  not_begun : IsNotBegun h s.policy s.file store reason → IsShellRefused h s store reason
