-- What is told of the inputs of a command that is explained: all are accepted, and its store is opened or not; or the
-- session of its shell is denied; or which one is refused first. A command that explains tells the last of its own.
use Rattle.std.specs.Prelude.{◌≡◌, ◌≢◌, ℕ, List, [], ◌++◌, Some, None, ◌⊎◌}
use Rattle.mls_host.specs.declared.words.Job.{Job}
use Rattle.mls_host.specs.Words.{named}
use Rattle.mls_host.specs.declared.ending.Ending.{Ending}
use Rattle.mls_host.specs.declared.ending.Ending.TheVariants.{Refused}
use Rattle.mls_host.specs.declared.job.Inputs.{Inputs}
use Rattle.mls_host.specs.declared.reason.Reason.{Reason}
use Rattle.mls_host.specs.declared.reason.Reason.TheVariants.{Memory}
use Rattle.mls_host.specs.Deed.{Deed}
use Rattle.mls_host.specs.Hosting.{Hosting}
use Rattle.mls_host.specs.Reading.{AreInputs, AreInputsRefused}
use Rattle.mls_host.specs.Reason.{reason_status}
use Rattle.mls_machine.specs.declared.reply.Denial.{Denial}
use Rattle.mls_command.specs.Printing.{IsPrinting}
use Rattle.mls_command.specs.Looking.{IsStoreAccount}
use Rattle.mls_command.specs.Opening.{opening_denial, denial_text}
use Rattle.mls_command.specs.Telling.{IsToldOf}

-- what is told of an input that is refused, for another reason than memory: the line which tells that
pub record IsRefusalTold (job : Job) (reason : Reason) (text told : List ℕ) (end : Ending) : Type 0 where
  pub other : reason_status reason ≢ 3
  pub text_is : IsToldOf job reason text
  pub told_is : told ≡ []
  pub end_is : end ≡ Refused

module _ (h : Hosting) (job : Job) where
  -- all inputs are accepted, and the session of a shell is opened, and what is told then; or that is denied; or an
  -- input
  -- is refused
  pub data Accounts (text told : List ℕ) (end : Ending) : Type 0 where
    all_accepted : (inputs : Inputs) → AreInputs h job inputs
        → opening_denial inputs.setting.policy inputs.setting.reader job.task ≡ None
        → IsStoreAccount h inputs.setting job.task (h.ignores job.documents) (named job.files.store) text told end
        → Accounts text told end
    one_denied : (inputs : Inputs) (denial : Denial) (more : List ℕ) → AreInputs h job inputs
        → opening_denial inputs.setting.policy inputs.setting.reader job.task ≡ Some denial
        → text ≡ denial_text denial ++ more → told ≡ [] → end ≡ Refused → Accounts text told end
    one_refused : (reason : Reason) → AreInputsRefused h job reason → IsRefusalTold job reason text told end
        → Accounts text told end

  -- there was no memory to read an input, or to tell of it
  abbrev pub IsUnread : Reason → Type 0
  IsUnread reason = (AreInputsRefused h job reason ⊎ (reason ≡ Memory)) × (reason_status reason ≡ 3)

  -- which is printed; or nothing is, for want of memory
  abbrev pub IsAccountOf : Deed → Type 0
  IsAccountOf d = IsPrinting Accounts IsUnread d

  -- that an input is refused is printed; or nothing is, for want of memory
  abbrev pub TellsRefusal : List ℕ → List ℕ → Ending → Type 0
  TellsRefusal text told end = (reason : Reason) × AreInputsRefused h job reason
      × IsRefusalTold job reason text told end

  abbrev pub IsRefusalOf : Deed → Type 0
  IsRefusalOf d = IsPrinting TellsRefusal IsUnread d
