-- What is done for a job, by what its host gives.
use Rattle.std.specs.Prelude.{◌≡◌, ℕ, Bool, true, false, List, [], ◌++◌, Result, Ok, Err, ◌⊎◌}
use Rattle.mls_lattice.specs.Canon as lattice
use Rattle.mls_scheme.specs.Canon as scheme
use Rattle.mls_translang.specs.declared.run_fault.RunFault.{RunFault}
use Rattle.mls_host.specs.declared.words.Job.{Job}
use Rattle.mls_host.specs.declared.words.Task.{Task}
use Rattle.mls_host.specs.declared.words.Task.TheVariants.{ShowPolicy, Picture, Run, Shell, Serve, Turn, Certify, Check}
use Rattle.mls_host.specs.declared.words.Task.TheVariants.{Explain}
use Rattle.mls_host.specs.Words.{named}
use Rattle.mls_host.specs.declared.ending.Ending.{Ending}
use Rattle.mls_host.specs.declared.ending.Ending.TheVariants.{Well}
use Rattle.mls_host.specs.declared.job.Inputs.{Inputs}
use Rattle.mls_host.specs.declared.reason.Reason.{Reason}
use Rattle.mls_host.specs.declared.reason.Reason.TheVariants.{Memory}
use Rattle.mls_host.specs.declared.stop.Stop.TheVariants.{Before}
use Rattle.mls_host.specs.Hosting.{Hosted, KeepsStores}
use Rattle.mls_host.specs.Stopping.{IsCaused}
use Rattle.mls_host.specs.Deed.{Deed, IsQuiet}
use Rattle.mls_host.specs.declared.stop.Stop.{Stop}
use Rattle.mls_host.specs.Stop.{IsEnd, served, turned}
use Rattle.mls_host.specs.Causes.{IsNotBegun}
use Rattle.mls_host.specs.Reading.{AreInputs, AreInputsRefused}
use Rattle.mls_command.specs.Accounting.{IsRefusalOf}
use Rattle.mls_command.specs.Printing.{IsPrinting}
use Rattle.mls_command.specs.Showing.{IsPictured}
use Rattle.mls_command.specs.Certifying.{IsCertified}
use Rattle.mls_command.specs.Checking.{IsChecked}
use Rattle.mls_command.specs.Explaining.{IsExplained, IsUnexplained}
use Rattle.mls_runs.specs.Explaining.{Explaining}
use Rattle.mls_runs.specs.ScriptRun.{IsScriptRun}
use Rattle.mls_runs.specs.ShellRun.{IsShellRun, IsShellRefused}
use Rattle.mls_runs.specs.DeskRun.{IsDeskRun}
use Rattle.mls_runs.specs.TurnRun.{IsTurnRun, IsTurnRefused}

-- the tasks that explain inputs of their own
abbrev pub explains : Task → Bool
explains Picture = true
explains (Explain name) = true
explains task = false

-- the tasks that print at once what they make of what is read
abbrev pub prints : Task → Bool
prints (Run at is_table) = false
prints (Shell label user) = false
prints Serve = false
prints (Turn at) = false
prints task = true

-- `Ignores text`: what is said of the fields of the policy and the schemes that nobody reads
module _ (Ignores : List ℕ → Type 0) (inputs : Inputs) where
  -- what a command prints that runs nothing and turns nothing, on standard output,
  -- what it tells on standard error, and how it ends
  abbrev pub Prints : Task → List ℕ → List ℕ → Ending → Type 0
  Prints ShowPolicy text told end =
      (text ≡ lattice.canon_of inputs.setting.policy
      ++ scheme.canon_of inputs.setting.policy inputs.setting.file.version inputs.setting.file.schemes)
      × (told ≡ []) × (end ≡ Well)
  Prints Picture text told end = IsPictured Ignores text end × (told ≡ [])
  Prints Certify text told end = IsCertified inputs.setting.policy inputs.transactions text told end
  Prints Check text told end =
      IsChecked inputs.setting.policy inputs.transactions inputs.certificates text told end
  Prints (Explain name) text told end =
      IsExplained inputs.setting.policy inputs.setting.file.schemes inputs.transactions
      (named name) Ignores text told end
  Prints task text told end = ⊥

module _ (h : Hosted) (job : Job) (inputs : Inputs) where
  -- why a task is not begun: its store is not opened; or none has the name that it explains; or memory
  abbrev pub IsTaskRefused : Task → Reason → Type 0
  IsTaskRefused (Run at is_table) reason =
      IsNotBegun h.after inputs.setting.policy inputs.setting.file (named job.files.store) reason
  IsTaskRefused (Shell label user) reason = IsShellRefused h.after inputs.setting (named job.files.store) reason
  IsTaskRefused Serve reason = IsNotBegun h.after inputs.setting.policy inputs.setting.file
      (named job.files.store) reason
  IsTaskRefused (Explain name) reason = IsUnexplained inputs.transactions (named name) reason
  IsTaskRefused task reason = reason ≡ Memory

module _ (explaining : Explaining) (h : Hosted) (job : Job) (inputs : Inputs) where
  -- a run, a shell or a desk ended so, or stopped; a run and a desk tell nothing; no other task is one
  abbrev pub IsRunOf : Task → Deed → Result Ending RunFault → Type 0
  IsRunOf (Run at is_table) d (Ok end) =
      (end ≡ Well) × d.told [] × IsScriptRun h inputs (named job.files.store) is_table d.wrote (Ok tt)
  IsRunOf (Run at is_table) d (Err fault) = d.told [] × IsScriptRun h inputs (named job.files.store) is_table d.wrote
      (Err fault)
  IsRunOf (Shell label user) d end = IsShellRun explaining h inputs
      (named job.files.store) label.now user.now d.wrote d.told end
  IsRunOf Serve d end = d.told [] × IsDeskRun h inputs (named job.files.store) d.wrote end
  IsRunOf task d end = ⊥

  -- It ended, or was given up, for a cause. What was written and told is all, where it ended or its store was not
  -- closed; what it was up to there, where it stopped; and nothing, where it was not begun.
  abbrev pub IsRunDeed : Task → Deed → Type 0
  IsRunDeed task d =
      IsCaused h (named job.files.store) d.end × IsEnd (IsRunOf task d)
      (λ reason. IsTaskRefused h job inputs task reason × IsQuiet d) d.end

  -- of a desk it is told without a number how it ended
  abbrev pub IsDeskDeed : Deed → Type 0
  IsDeskDeed d =
      (end : Result Ending Stop) × (d.end ≡ served end)
      × IsRunDeed Serve (record { wrote = d.wrote; told = d.told; end = end })

  -- an audit list is turned, or that is given up; it is told without a number why
  abbrev pub IsTurnDeed : Deed → Type 0
  IsTurnDeed d =
      (end : Result (Unit {0}) Stop) × (d.end ≡ turned end) × IsCaused h (named job.files.store) end × d.told []
      × IsEnd (λ e. IsTurnRun inputs.setting d.wrote e h (named job.files.store))
      (λ reason. IsTurnRefused h.after inputs.setting (named job.files.store) reason × d.wrote []) end

  -- all else is printed, and each store keeps what it kept
  abbrev pub IsTaskDeed : Task → Deed → Type 0
  IsTaskDeed (Run at is_table) d = IsRunDeed (Run at is_table) d
  IsTaskDeed (Shell label user) d = IsRunDeed (Shell label user) d
  IsTaskDeed Serve d = IsDeskDeed d
  IsTaskDeed (Turn at) d = IsTurnDeed d
  IsTaskDeed task d = KeepsStores h × IsPrinting (Prints (h.before.ignores job.documents) inputs task)
      (IsTaskRefused h job inputs task) d

module _ (h : Hosted) (job : Job) where
  -- an input is refused: nothing is written, and each store keeps what it kept
  abbrev pub IsGivenUpBefore : Deed → Type 0
  IsGivenUpBefore d =
      (reason : Reason) × (d.end ≡ Err (Before reason)) × AreInputsRefused h.before job reason × KeepsStores h
      × IsQuiet d

  -- a task that explains prints which one, and why
  abbrev pub IsRefusedDeed : Bool → Deed → Type 0
  IsRefusedDeed true d = KeepsStores h × IsRefusalOf h.before job d
  IsRefusedDeed false d = IsGivenUpBefore d

module _ (explaining : Explaining) (h : Hosted) (job : Job) where
  -- an input is refused; or all are read, and the task is done with them, or given up
  abbrev pub IsDeedOf : Deed → Type 0
  IsDeedOf d =
      IsRefusedDeed h job (explains job.task) d
      ⊎ ((inputs : Inputs) × AreInputs h.before job inputs × IsTaskDeed explaining h job inputs job.task d)
