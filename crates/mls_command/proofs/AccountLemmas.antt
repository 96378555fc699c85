-- What is told of inputs.
use Rattle.std.proofs.Common.{◌≡◌, ◌⊎◌, ℕ, List, [], string_bytes, Option, Some, Result, Ok, Err, IfOk, IfErr, inl, inr, sym, subst}
use Rattle.mls_host.specs.declared.words.Job.{Job}
use Rattle.mls_host.specs.declared.job.Inputs.{Inputs}
use Rattle.mls_host.specs.declared.job.Setting.{Setting}
use Rattle.mls_host.specs.declared.words.Task.{Task}
use Rattle.mls_host.specs.declared.reason.Reason.{Reason}
use Rattle.mls_host.specs.declared.reason.Reason.TheVariants.{Memory}
use Rattle.mls_host.specs.declared.ending.Ending.{Ending}
use Rattle.mls_host.specs.declared.ending.Ending.TheVariants.{Refused}
use Rattle.mls_host.specs.Hosting.{Hosting}
use Rattle.mls_host.specs.Reading.{AreInputs, AreInputsRefused}
use Rattle.mls_host.specs.Reason.{reason_status}
use Rattle.mls_command.specs.declared.listing.Listing.{Listing}
use Rattle.mls_advice.specs.Excerpt.{Begins}
use Rattle.mls_machine.specs.declared.reply.Denial.{Denial}
use Rattle.mls_command.specs.Opening.{opening_denial, denial_text}
use Rattle.mls_command.specs.Accounting.{IsRefusalTold, Accounts, IsUnread, one_denied, one_refused}
use Rattle.mls_command.specs.Looking.{IsStoreAccount}

module _ (h : Hosting) (job : Job) (reason : Reason) (is : AreInputsRefused h job reason) where
  -- one is refused
  pub refused_told : (r : Result Listing Reason)
      → IfOk r (λ l. IsRefusalTold job reason l.text.items (string_bytes l.told) l.ending)
      → IfOk r (λ l. Accounts h job l.text.items (string_bytes l.told) l.ending)
  refused_told (Ok l) told = one_refused reason is told
  refused_told (Err e) told = tt

  pub refused_unread : (r : Result Listing Reason) → IfErr r (λ e. (e ≡ reason) ⊎ (e ≡ Memory))
      → IfErr r (λ e. reason_status e ≡ 3) → IfErr r (IsUnread h job)
  refused_unread (Ok l) same three = tt
  refused_unread (Err e) (inl same) three = (inl (subst (AreInputsRefused h job) (sym same) is), three)
  refused_unread (Err e) (inr memory) three = (inr memory, three)

-- all are accepted, and the session of a shell would be denied
pub denied_told : (h : Hosting) (job : Job) (inputs : Inputs) (denial : Denial) → AreInputs h job inputs
    → opening_denial inputs.setting.policy inputs.setting.reader job.task ≡ Some denial
    → (text told : List ℕ) (end : Ending) → Begins (denial_text denial) text → told ≡ [] → end ≡ Refused
    → Accounts h job text told end
denied_told h job inputs denial read is text told end begins t e =
    one_denied inputs denial begins.0 read is begins.1 t e

-- the fields that nobody reads are those of which this is said
pub store_told : (h : Hosting) (s : Setting) (task : Task) (Ignores : List ℕ → Type 0) (ignored : List ℕ)
    → Ignores ignored → (store : Option (List ℕ)) (text told : List ℕ) (end : Ending)
    → IsStoreAccount h s task (λ t. t ≡ ignored) store text told end
    → IsStoreAccount h s task Ignores store text told end
store_told h s task Ignores ignored is store text told end x = record {
  fault = x.fault;
  more = x.more;
  ignored = x.ignored;
  found = x.found;
  ignored_are = subst Ignores (sym x.ignored_are) is;
  text_is = x.text_is;
  told_is = x.told_is;
  end_is = x.end_is;
}
