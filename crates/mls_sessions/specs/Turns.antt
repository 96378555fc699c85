-- What the calls of one event promise.
use Rattle.std.specs.Prelude.{◌≡◌, ℕ, ◌<◌, ◌≤◌, true, false, Bool, IfErr, IfOk, OnOk, length, None, Result}
use Rattle.std.specs.List.{AllByRecursion}
use Rattle.mls_filterview.specs.declared.base.BaseFault.{BaseFault}
use Rattle.mls_filterview.specs.declared.base.BaseFault.TheVariants as faults
use Rattle.mls_filterview.specs.Calls.{IsCall, IsServed}
use Rattle.mls_filterview.specs.Content.{Seen, Content}
use Rattle.mls_queries.specs.Views.{Kept, AreViews}
use Rattle.mls_translang.specs.declared.event.Event.{Event}
use Rattle.mls_translang.specs.declared.event.Command.{Command}
use Rattle.mls_translang.specs.declared.event.Command.TheVariants as commands
use Rattle.mls_translang.specs.Event.{EventFits}
use Rattle.mls_machine.specs.declared.reply.Reply.{Reply}
use Rattle.mls_certcheck.specs.Site.{Site, AreRead}
use Rattle.mls_machine.specs.Machine.{Sessions, World, Step, denied, step_inside}
use Rattle.mls_machine.specs.Known.{HasKnownNumbers}
use Rattle.mls_sessions.specs.declared.change.Effect.{Effect}
use Rattle.mls_sessions.specs.declared.change.Effect.TheVariants.{Deny, Write, Call}
use Rattle.mls_sessions.specs.Denying.{denial_in}
use Rattle.mls_audit.specs.Spelling.{IsEntryOf}
use Rattle.mls_audit.specs.Sound.{IsSoundContent}
use Rattle.mls_sessions.specs.World.{world_at}

-- ---- faults

-- of a thing over a store: whether the store is clean, how many calls of it have failed, and what the thing holds
module _ {Self : Type 0} {Held : Type 0} (seen : Self → Seen) (held : Self → Held) where
  -- a fault of the store or of memory, which leaves what is held
  pub record IsUndone (e : BaseFault) (old new : Self) : Type 0 where
    pub served : IsServed e
    pub store : e ≡ faults.Store → (seen old).failures < (seen new).failures
    pub same : (seen new).is_clean → held new ≡ held old

  -- a store that is clean after the event was clean before it, and what describes it is as it was
  pub record IsTurn {A : Type 0} (old new : Self) (result : Result A BaseFault) : Type 0 where
    pub clean : (seen new).is_clean → (seen old).is_clean
    pub about : (seen new).is_clean → (seen new).about ≡ (seen old).about
    pub count : (seen old).failures ≤ (seen new).failures
    pub fault : IfErr result (λ e. IsUndone e old new)

-- ---- answers

-- content changed, and a reply given, as by a step of the machine that leaves the sessions
pub record IsStepOver (site : Site) (step : World → Step) (s t : Content) (r : Reply) : Type 0 where
  pub reply : (sessions : Sessions) → r ≡ (step (world_at site sessions s)).reply
  pub world : (sessions : Sessions) → world_at site sessions t ≡ (step (world_at site sessions s)).world
  pub entries : AllByRecursion (IsEntryOf (length site.policy.labels)) s.audit
      → AllByRecursion (IsEntryOf (length site.policy.labels)) t.audit

-- ---- effects

abbrev pub is_write : Command → Bool
is_write (commands.Write relation wr) = true
is_write command = false

abbrev pub is_call : Command → Bool
is_call (commands.Call name args) = true
is_call command = false

-- the user is one of the policy; the event writes; it is a call that is not denied
abbrev pub IsEffectOf : Site → Event → Effect → Type 0
IsEffectOf site event (Deny user denial) = user < length site.policy.users
IsEffectOf site event Write = is_write event.command ≡ true
IsEffectOf site event (Call user) =
    (user < length site.policy.users) × (is_call event.command ≡ true)
    × (denial_in site event.level user event.command ≡ None)

-- the denial is entered; the event of a session in which it is not denied is answered
abbrev pub IsDoneOf : Site → Event → Effect → Content → Content → Reply → Type 0
IsDoneOf site event (Deny user denial) s t r = IsStepOver site (λ w. denied site w event user denial) s t r
IsDoneOf site event Write s t r =
    (user : ℕ) → denial_in site event.level user event.command ≡ None
    → IsStepOver site (λ w. step_inside site w event event.command user) s t r
IsDoneOf site event (Call user) s t r = IsStepOver site (λ w. step_inside site w event event.command user) s t r

-- ---- changes

-- the event fits, all that is stored was read under the policy and the schemes, and the effect is one of the event
pub record MayDo (site : Site) (event : Event) (effect : Effect) : Type 0 where
  pub fits : EventFits site.policy site.schemes event
  pub read : AreRead site
  pub asked : IsEffectOf site event effect

module _ {Self : Type 0} (seen : Self → Seen) where
  -- a step inside a change: it goes on, over what was committed before it; or a fault has ended it
  pub record Steps {A : Type 0} (old new : Self) (result : Result A BaseFault) : Type 0 where
    pub call : IsCall seen old new result
    pub served : IfErr result IsServed
    pub mode : OnOk result ((seen new).state.begun ≡ true)
    pub kept : (seen new).is_clean → OnOk result ((seen new).state.kept ≡ (seen old).state.kept)

  -- a whole change, or none: it is over
  pub record EndsChange {A : Type 0} (old new : Self) (result : Result A BaseFault) : Type 0 where
    pub turn : IsTurn seen (λ b. (seen b).state.now) old new result
    pub idle : (seen new).state.begun ≡ false

-- what an event finds: whether a change is begun, sound content, and views of it
module _ {Self : Type 0} (seen : Self → Seen) where
  pub record IsOpen (site : Site) (begun : Bool) (base : Self) (kept : Kept) : Type 0 where
    pub mode : (seen base).state.begun ≡ begun
    pub sound : (seen base).is_clean → IsSoundContent site.policy site.schemes (seen base).state.now
    pub views : AreViews site.policy seen base kept

-- an event is answered as by a step of the machine, by numbers of the policy, and no change is begun then
module _ {Self : Type 0} (seen : Self → Seen)
    (site : Site) (step : World → Step) where
  pub record HasAnswered (old new : Self) (result : Result Reply BaseFault) : Type 0 where
    pub over : EndsChange seen old new result
    pub done : (seen new).is_clean → IfOk result (IsStepOver site step (seen old).state.now (seen new).state.now)
    pub known : IfOk result (HasKnownNumbers site.policy)

-- an effect is done, and answered by numbers of the policy
module _ {Self : Type 0} (seen : Self → Seen)
    (site : Site) (event : Event) (effect : Effect) where
  pub record HasDone (old new : Self) (result : Result Reply BaseFault) : Type 0 where
    pub done : (seen new).is_clean → IfOk result (IsDoneOf site event effect (seen old).state.now (seen new).state.now)
    pub known : IfOk result (HasKnownNumbers site.policy)
