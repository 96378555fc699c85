-- What comes of a command line, by what its host gives.
use Rattle.std.specs.Prelude.{◌≡◌, ℕ, ◌≤◌, Bool, false, List, [], ◌++◌, length, Option, Some, None, Result, IfOk, ◌⊎◌}
use Rattle.clap.specs.Words.{Text}
use Rattle.mls_host.specs.declared.words.Job.{Job}
use Rattle.mls_host.specs.declared.usage.Usage.{Usage}
use Rattle.mls_host.specs.Words.{Asks, AskNothing, usage_text, usage_status}
use Rattle.mls_command.specs.Explained.{explained_of}
use Rattle.mls_host.specs.declared.ending.Ending.{Ending}
use Rattle.mls_host.specs.declared.stop.Stop.{Stop}
use Rattle.mls_host.specs.Deed.{Deed, end_text, end_status}
use Rattle.mls_host.specs.Hosting.{Hosting, Hosted, KeepsStores}
use Rattle.mls_command.specs.Acting.{IsDeedOf}
use Rattle.mls_command.specs.Accounting.{IsAccountOf}
use Rattle.mls_runs.specs.Explaining.{Explaining}

-- A deed was done; where it was given up, the line of that was told behind all else, and, where somebody reads standard
-- error at a terminal, more of it; and the status is that of its end.
pub record IsFinished (is_watched : Bool) (Does : Deed → Type 0) (wrote told : List ℕ → Type 0)
    (status : ℕ) : Type 0 where
  pub end : Result Ending Stop
  pub more : List ℕ
  pub does : Does (record { wrote = wrote; told = λ text. told ((text ++ end_text end) ++ more); end = end })
  pub plain : is_watched ≡ false → more ≡ []
  pub of_refusals : IfOk end (λ ending. more ≡ [])
  pub status_is : status ≡ end_status end

-- what is told before all else: nothing, but where the program is called without words and somebody reads standard
-- error
-- at a terminal
pub record IsNoted (h : Hosting) (words : List Text) (Then : List ℕ → Type 0) : Type 0 where
  pub note : List ℕ
  pub none : (h.is_watched ≡ false) ⊎ (2 ≤ length words) → note ≡ []
  pub leads : Then note

module _ (h : Hosted) where
  -- the words ask for a job, which is done or given up; or for none, and each store keeps what it kept
  pub data AnswersWords (Does : Job → Deed → Type 0) (words : List Text) (wrote told : List ℕ → Type 0)
      (status : ℕ) : Type 0 where
    asked : (job : Job) → Asks words job → IsFinished h.before.is_watched (Does job) wrote told status
        → AnswersWords Does words wrote told status
    not_asked : (usage : Usage) → AskNothing words usage → KeepsStores h → wrote [] → told (usage_text usage)
        → status ≡ usage_status usage → AnswersWords Does words wrote told status

module _ (explaining : Explaining) (h : Hosted) where
  -- the command does what it says; where another one is explained, what is told of the inputs of that, and stores are
  -- left
  abbrev pub IsAnsweredAs : Option (List Text) → List Text → (wrote told : List ℕ → Type 0) → ℕ → Type 0
  IsAnsweredAs None words wrote told status = AnswersWords h (IsDeedOf explaining h) words wrote told status
  IsAnsweredAs (Some other) words wrote told status =
      KeepsStores h × AnswersWords h (IsAccountOf h.before) other wrote told status

  abbrev pub IsOutcomeOf : List Text → (wrote told : List ℕ → Type 0) → ℕ → Type 0
  IsOutcomeOf words wrote told status =
      IsNoted h.before words (λ note. IsAnsweredAs (explained_of words) words wrote
      (λ text. told (note ++ text)) status)
