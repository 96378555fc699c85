-- Tasks and jobs: what is done, and what is given up.
use Rattle.std.proofs.Common.{◌≡◌, ℕ, Bool, true, false, List, [], ◌++◌, Option, Some, None, Result, Ok, Err, inl, inr, refl, sym, subst, append-nil, IsErrAnd, Bor}
use Rattle.mls_translang.specs.declared.run_fault.RunFault.{RunFault}
use Rattle.mls_host.specs.declared.words.Job.{Job}
use Rattle.mls_host.specs.declared.words.Task.{Task}
use Rattle.mls_host.specs.declared.words.Task.TheVariants as tasks
use Rattle.mls_host.specs.Words.{named, usage_text, usage_status}
use Rattle.mls_host.specs.declared.usage.Usage.TheVariants as usages
use Rattle.clap.specs.Words.{Text}
use Rattle.mls_host.specs.declared.ending.Ending.{Ending}
use Rattle.mls_host.specs.declared.ending.Ending.TheVariants.{Well}
use Rattle.mls_host.specs.declared.job.Inputs.{Inputs}
use Rattle.mls_host.specs.declared.stop.Stop.{Stop}
use Rattle.mls_host.specs.declared.stop.Stop.TheVariants.{Before, Run, NotClosed}
use Rattle.mls_host.specs.Deed.{Deed, end_text}
use Rattle.mls_host.specs.declared.errors.Errors.{Errors}
use Rattle.mls_host.specs.Hosting.{Hosted, KeepsStores, IsTold}
use Rattle.mls_host.proofs.HostingLemmas.{told_more}
use Rattle.mls_host.specs.Causes.{IsNotBegun}
use Rattle.mls_host.specs.Stop.{IsEnd}
use Rattle.mls_host.specs.Stopping.{IsCaused}
use Rattle.mls_command.specs.Printing.{IsPrinting}
use Rattle.mls_command.proofs.PrintingLemmas.{printing_told}
use Rattle.mls_runs.specs.Explaining.{Explaining}
use Rattle.mls_runs.proofs.ShellEndLemmas.{shell_told_more}
use Rattle.mls_runs.specs.ScriptRun.{IsScriptRun}
use Rattle.mls_runs.specs.ShellRun.{IsShellRun, IsShellRefused}
use Rattle.mls_runs.specs.DeskRun.{IsDeskRun}
use Rattle.mls_command.specs.Acting.{explains, Prints, IsRunDeed, IsTaskRefused, IsTaskDeed, IsRefusedDeed, IsDeedOf}
use Rattle.mls_command.specs.Accounting.{Accounts, TellsRefusal, IsUnread, IsAccountOf}
use Rattle.mls_command.specs.Answering.{IsFinished, IsNoted, AnswersWords, asked, IsAnsweredAs, IsOutcomeOf, not_asked}
use Rattle.mls_command.specs.Explained.{explained_of}

-- ---- tasks

module _ (explaining : Explaining) (h : Hosted) (job : Job) (inputs : Inputs) where
  abbrev store : Option (List ℕ)
  store = named job.files.store

  -- what is done for a task is done for one that is the same
  pub for_task : (d : Deed) (task same : Task) → task ≡ same → IsTaskDeed explaining h job inputs same d
      → IsTaskDeed explaining h job inputs task d
  for_task d task same is k = subst (λ t. IsTaskDeed explaining h job inputs t d) (sym is) k

  module _ (at : Option (Bor (List ℕ))) (is_table : Bool) (wrote told : List ℕ → Type 0) where
    abbrev IsRunEnd : Result (Unit {0}) Stop → Type 0
    IsRunEnd r = IsCaused h store r × IsEnd (IsScriptRun h inputs store is_table wrote)
        (λ reason. IsNotBegun h.after inputs.setting.policy inputs.setting.file store reason × wrote []) r

    -- one that ended
    pub run_done : (r : Result (Unit {0}) Stop) → r ≡ Ok tt → IsRunEnd r → told [] → IsRunDeed explaining h job inputs
        (tasks.Run at is_table) (record { wrote = wrote; told = told; end = Ok Well })
    run_done r is k quiet = let ended : IsRunEnd (Ok tt) = subst IsRunEnd is k in (ended.0, (refl, quiet, ended.1))

    run_ended : (e : Stop) → IsRunEnd (Err e) → told [] → IsRunDeed explaining h job inputs (tasks.Run at is_table)
        (record { wrote = wrote; told = told; end = Err e })
    run_ended (Before reason) k quiet = (k.0, (k.1.0, (k.1.1, quiet)))
    run_ended (Run fault is_closed) k quiet = (k.0, (quiet, k.1))
    run_ended NotClosed k quiet = (k.0, (Well, (refl, quiet, k.1.1)))
    run_ended _ k quiet = absurd k.1

    -- one that was given up, at the exit of a `?`
    pub run_given_up : (r : Result (Unit {0}) Stop) (e : Stop) → r ≡ Err e → IsRunEnd r → told []
        → (end : Result Ending Stop) → IsErrAnd end (λ x. x ≡ e)
        → IsRunDeed explaining h job inputs (tasks.Run at is_table) (record { wrote = wrote; told = told; end = end })
    run_given_up r e is k quiet (Ok end) same = absurd same
    run_given_up r e is k quiet (Err x) same =
        subst (λ (y : Stop). IsRunDeed explaining h job inputs (tasks.Run at is_table)
        (record { wrote = wrote; told = told; end = Err y })) (sym same) (run_ended e (subst IsRunEnd is k) quiet)

  -- a shell that ended, or was given up
  pub shell_ended : (label user : Bor (List ℕ)) (wrote told : List ℕ → Type 0) (r : Result Ending Stop)
      → IsCaused h store r
      → IsEnd (IsShellRun explaining h inputs store label.now user.now wrote told)
      (λ reason. IsShellRefused h.after inputs.setting store reason × wrote [] × told []) r
      → IsRunDeed explaining h job inputs (tasks.Shell label user) (record { wrote = wrote; told = told; end = r })
  shell_ended label user wrote told (Ok end) caused k = (caused, k)
  shell_ended label user wrote told (Err (Before reason)) caused k = (caused, (k.0, (k.1, k.2)))
  shell_ended label user wrote told (Err (Run fault is_closed)) caused k = (caused, k)
  shell_ended label user wrote told (Err NotClosed) caused k = (caused, k)
  shell_ended label user wrote told _ caused k = absurd k

  -- a desk that ended, or was given up
  pub desk_ended : (wrote told : List ℕ → Type 0) (r : Result Ending Stop) → IsCaused h store r
      → IsEnd (IsDeskRun h inputs store wrote) (λ reason. IsNotBegun h.after inputs.setting.policy inputs.setting.file store reason × wrote []) r → told []
      → IsRunDeed explaining h job inputs tasks.Serve (record { wrote = wrote; told = told; end = r })
  desk_ended wrote told (Ok end) caused k quiet = (caused, (quiet, k))
  desk_ended wrote told (Err (Before reason)) caused k quiet = (caused, (k.0, (k.1, quiet)))
  desk_ended wrote told (Err (Run fault is_closed)) caused k quiet = (caused, (quiet, k))
  desk_ended wrote told (Err NotClosed) caused k quiet = (caused, (k.0, (quiet, k.1)))
  desk_ended wrote told _ caused k quiet = absurd k

-- ---- more is told

module _ (explaining : Explaining) (h : Hosted) (job : Job) (wrote told more : List ℕ → Type 0) (f : (text : List ℕ)
    → told text → more text) where
  module _ (inputs : Inputs) where
    shell_told : (label user : List ℕ) (end : Result Ending RunFault) → IsShellRun explaining h inputs
        (named job.files.store) label user wrote told end → IsShellRun explaining h inputs
        (named job.files.store) label user wrote more end
    shell_told label user end x = shell_told_more explaining h inputs
        (named job.files.store) label user wrote told more f end x

    shell_end_told : (label user : Bor (List ℕ)) (end : Result Ending Stop) → IsRunDeed explaining h job inputs
        (tasks.Shell label user) (record { wrote = wrote; told = told; end = end })
        → IsRunDeed explaining h job inputs (tasks.Shell label user) (record { wrote = wrote; told = more; end = end })
    shell_end_told label user (Ok end) k = (k.0, shell_told label.now user.now (Ok end) k.1)
    shell_end_told label user (Err (Before reason)) k = (k.0, (k.1.0, (k.1.1.0, f [] k.1.1.1)))
    shell_end_told label user (Err (Run fault is_closed)) k = (k.0, shell_told label.now user.now (Err fault) k.1)
    shell_end_told label user (Err NotClosed) k = (k.0, (k.1.0, shell_told label.now user.now (Ok k.1.0) k.1.1))
    shell_end_told label user _ k = k

    desk_end_told : (end : Result Ending Stop) → IsRunDeed explaining h job inputs tasks.Serve
        (record { wrote = wrote; told = told; end = end })
        → IsRunDeed explaining h job inputs tasks.Serve (record { wrote = wrote; told = more; end = end })
    desk_end_told (Ok end) k = (k.0, (f [] k.1.0, k.1.1))
    desk_end_told (Err (Before reason)) k = (k.0, (k.1.0, (k.1.1.0, f [] k.1.1.1)))
    desk_end_told (Err (Run fault is_closed)) k = (k.0, (f [] k.1.0, k.1.1))
    desk_end_told (Err NotClosed) k = (k.0, (k.1.0, (f [] k.1.1.0, k.1.1.1)))
    desk_end_told _ k = k

    run_end_told : (at : Option (Bor (List ℕ))) (is_table : Bool) (end : Result Ending Stop)
        → IsRunDeed explaining h job inputs (tasks.Run at is_table) (record { wrote = wrote; told = told; end = end })
        → IsRunDeed explaining h job inputs (tasks.Run at is_table) (record { wrote = wrote; told = more; end = end })
    run_end_told at is_table (Ok end) k = (k.0, (k.1.0, f [] k.1.1, k.1.2))
    run_end_told at is_table (Err (Before reason)) k = (k.0, (k.1.0, (k.1.1.0, f [] k.1.1.1)))
    run_end_told at is_table (Err (Run fault is_closed)) k = (k.0, (f [] k.1.0, k.1.1))
    run_end_told at is_table (Err NotClosed) k = (k.0, (k.1.0, (k.1.1.0, f [] k.1.1.1, k.1.1.2)))
    run_end_told at is_table _ k = k

    printed_told : (task : Task) (end : Result Ending Stop) → KeepsStores h
        × IsPrinting (Prints (h.before.ignores job.documents) inputs task) (IsTaskRefused h job inputs task)
        (record { wrote = wrote; told = told; end = end })
        → KeepsStores h × IsPrinting (Prints (h.before.ignores job.documents) inputs task)
        (IsTaskRefused h job inputs task) (record { wrote = wrote; told = more; end = end })
    printed_told task end k = (
      k.0,
      printing_told (Prints (h.before.ignores job.documents) inputs task)
          (IsTaskRefused h job inputs task) wrote told more f end k.1,
    )

    task_told : (end : Result Ending Stop) (task : Task) → IsTaskDeed explaining h job inputs task
        (record { wrote = wrote; told = told; end = end })
        → IsTaskDeed explaining h job inputs task (record { wrote = wrote; told = more; end = end })
    task_told end (tasks.Run at is_table) k = run_end_told at is_table end k
    task_told end (tasks.Shell label user) k = shell_end_told label user end k
    task_told end tasks.Serve k = (k.0, k.1, desk_end_told k.0 k.2)
    task_told end (tasks.Turn at) k = (k.0, k.1, k.2, f [] k.3, k.4)
    task_told end tasks.ShowPolicy k = printed_told tasks.ShowPolicy end k
    task_told end tasks.Picture k = printed_told tasks.Picture end k
    task_told end tasks.Certify k = printed_told tasks.Certify end k
    task_told end tasks.Check k = printed_told tasks.Check end k
    task_told end (tasks.Explain name) k = printed_told (tasks.Explain name) end k

  refused_told : (is : Bool) (end : Result Ending Stop) → IsRefusedDeed h job is (record {
    wrote = wrote;
    told = told;
    end = end;
  }) → IsRefusedDeed h job is (record { wrote = wrote; told = more; end = end })
  refused_told true end k = (
    k.0,
    printing_told (TellsRefusal h.before job)
        (IsUnread h.before job) wrote told more f end k.1,
  )
  refused_told false end k = (k.0, k.1, k.2, k.3, (k.4.0, f [] k.4.1))

  pub deed_told : (end : Result Ending Stop) → IsDeedOf explaining h job (record {
    wrote = wrote;
    told = told;
    end = end;
  }) → IsDeedOf explaining h job (record { wrote = wrote; told = more; end = end })
  deed_told end (inl k) = inl (refused_told (explains job.task) end k)
  deed_told end (inr u) = inr (u.0, u.1, task_told u.0 end job.task u.2)

module _ (explaining : Explaining) (h : Hosted) (wrote told more : List ℕ → Type 0) (f : (text : List ℕ) → told text
    → more text) where
  module _ (status : ℕ) where
    -- a deed whose told texts can be told otherwise
    abbrev Retells : (Deed → Type 0) → Type 1
    Retells Does = (t m : List ℕ → Type 0) → ((text : List ℕ) → t text → m text) → (end : Result Ending Stop)
        → Does (record { wrote = wrote; told = t; end = end }) → Does (record { wrote = wrote; told = m; end = end })

    finished_told : (is_watched : Bool) (Does : Deed → Type 0) → Retells Does
        → IsFinished is_watched Does wrote told status → IsFinished is_watched Does wrote more status
    finished_told is_watched Does retell x = record {
      end = x.end;
      more = x.more;
      does = retell (λ text. told ((text ++ end_text x.end) ++ x.more)) (λ text. more ((text ++ end_text x.end)
          ++ x.more)) (λ text t. f ((text ++ end_text x.end) ++ x.more) t) x.end x.does;
      plain = x.plain;
      of_refusals = x.of_refusals;
      status_is = x.status_is;
    }

    answers_told : (Does : Job → Deed → Type 0) → ((job : Job) → Retells (Does job)) → (words : List Text)
        → AnswersWords h Does words wrote told status → AnswersWords h Does words wrote more status
    answers_told Does retell words (asked job is finished) = asked job is (finished_told h.before.is_watched (Does job)
        (retell job) finished)
    answers_told Does retell words (not_asked usage nothing kept w t s) = not_asked usage nothing kept w
        (f (usage_text usage) t) s

    pub answered_told : (other : Option (List Text)) (words : List Text)
        → IsAnsweredAs explaining h other words wrote told status
        → IsAnsweredAs explaining h other words wrote more status
    answered_told None words k = answers_told (IsDeedOf explaining h)
        (λ job t m g end d. deed_told explaining h job wrote t m g end d) words k
    answered_told (Some other) words k = (
      k.0,
      answers_told (IsAccountOf h.before) (λ job t m g end d. printing_told
          (Accounts h.before job) (IsUnread h.before job) wrote t m g end d) other k.1,
    )

-- a command, behind what is told before all else
pub noted : {E : Type 0} (contents : E → Option (List ℕ)) (old mid new : Errors E) (explaining : Explaining)
    (h : Hosted) (words : List Text) (wrote : List ℕ → Type 0) (status : ℕ)
    → IsNoted h.before words (IsTold contents old mid)
    → IsAnsweredAs explaining h (explained_of words) words wrote (IsTold contents mid new) status
    → IsOutcomeOf explaining h words wrote (IsTold contents old new) status
noted contents old mid new explaining h words wrote status n k = record {
  note = n.note;
  none = n.none;
  leads = answered_told explaining h wrote (IsTold contents mid new) (λ text. IsTold contents old new (n.note ++ text))
      (λ text t. told_more contents old mid new n.note text n.leads t) status (explained_of words) words k;
}

-- nothing more is told of what ended
pub told_end : (told : List ℕ → Type 0) (ending : Ending) (text : List ℕ) → told text
    → told (text ++ end_text (Ok ending))
told_end told ending text t = subst told (sym (append-nil text)) t

-- nor is anything explained
pub told_all : (told : List ℕ → Type 0) (ending : Ending) (text : List ℕ) → told text
    → told ((text ++ end_text (Ok ending)) ++ [])
told_all told ending text t = subst told (sym (append-nil (text ++ end_text (Ok ending)))) (told_end told ending text t)

-- ---- words

-- there was no memory for them
pub lacks_memory : (explaining : Explaining) (h : Hosted) (other : Option (List Text)) (words : List Text)
    (wrote told : List ℕ → Type 0) (status : ℕ) → KeepsStores h → wrote [] → told (usage_text usages.Memory)
    → status ≡ usage_status usages.Memory
    → IsAnsweredAs explaining h other words wrote told status
lacks_memory explaining h None words wrote told status kept w t s = not_asked usages.Memory tt kept w t s
lacks_memory explaining h (Some other) words wrote told status kept w t s =
    (kept, not_asked usages.Memory tt kept w t s)
