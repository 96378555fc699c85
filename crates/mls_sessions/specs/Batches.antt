-- What the calls of a batch promise.
use Rattle.std.specs.Prelude.{◌≡◌, ℕ, ◌<◌, Bool, true, false, if◌then◌else◌, List, length, Result, Ok, Err, OnOk}
use Rattle.std.specs.List.{AllByRecursion}
use Rattle.mls_filterview.specs.declared.base.BaseFault.{BaseFault}
use Rattle.mls_filterview.specs.Calls.{IsChange}
use Rattle.mls_filterview.specs.Content.{Seen, Content, State, ended, committed}
use Rattle.mls_updates.specs.declared.outcome.Outcome.{Outcome}
use Rattle.mls_translang.specs.declared.event.One.{One}
use Rattle.mls_translang.specs.Event.{OneFits}
use Rattle.mls_certcheck.specs.Site.{Site, site_labels}
use Rattle.mls_machine.specs.declared.reply.Answer.{Answer}
use Rattle.mls_machine.specs.declared.reply.Reply.{Reply}
use Rattle.mls_machine.specs.declared.reply.Reply.TheVariants.{Did, Undone}
use Rattle.mls_machine.specs.Denying.{LooksBelow}
use Rattle.mls_machine.specs.Machine.{OneStep, BatchEnd}

-- ---- what may be asked for

-- a command at a declared level, of declared labels and relations, that looks below that level
pub record MayDoOne (site : Site) (level : ℕ) (one : One) : Type 0 where
  pub declared : level < length site.policy.labels
  pub fits : OneFits site.policy site.schemes one
  pub low : LooksBelow (site_labels site) level one

-- commands at a declared level
pub record MayDoAll (site : Site) (level : ℕ) (batch : List One) : Type 0 where
  pub declared : level < length site.policy.labels
  pub each : AllByRecursion (MayDoOne site level) batch

-- ---- what is then done

-- an answer was given, and content left, as by a step of a batch
abbrev pub IsOneDone : OneStep → Content → Content → Answer → Type 0
IsOneDone step s t answer = (answer ≡ step.answer) × (t ≡ record s { db = step.db })

-- the reply is that of what commands have come to, and where none is refused so is the content
abbrev pub HaveEnded : Result BatchEnd (ℕ × Outcome) → Content → Content → Reply → Type 0
HaveEnded (Ok end) s t r = (r ≡ Did end.answers) × (t ≡ record s { db = end.db })
HaveEnded (Err refused) s t r = r ≡ Undone refused.0 refused.1

-- ---- the end

-- the reply to a batch of which a command is refused
abbrev pub is_undone : Reply → Bool
is_undone (Undone number o) = true
is_undone reply = false

-- what a batch did is kept, or undone
abbrev pub over : Bool → State → State
over undone s = if undone then ended s else committed s

module _ {Self : Type 0} (seen : Self → Seen) where
  -- the change of a batch has ended
  pub record IsOver {A : Type 0} (undone : Bool) (old new : Self) (result : Result A BaseFault) : Type 0 where
    pub change : IsChange seen false old new result
    pub done : (seen new).is_clean → OnOk result ((seen new).state ≡ over undone (seen old).state)
