-- Shells over stores, and how they end.
use Rattle.mls_sessions.proofs.FrameLemmas.{carried}
use Rattle.std.proofs.Common.{◌≡◌, ℕ, ◌<◌, length, true, ◌∷◌, List, [], Option, Some, Result, refl, subst, IsErrAnd}
use Rattle.std.specs.Io.KnownBytes.{Appends}
use Rattle.mls_filterview.specs.Content.{Content}
use Rattle.mls_lattice.specs.Name.{is_name}
use Rattle.mls_lattice.specs.Labels.{AreDistinct}
use Rattle.mls_translang.specs.declared.event.Event.{Event}
use Rattle.mls_audit.specs.Sound.{IsSoundContent}
use Rattle.mls_certcheck.specs.declared.stored.Stored.{Stored}
use Rattle.mls_certcheck.specs.Site.{Site, site_labels, AreRead, AreCertified, site_of}
use Rattle.mls_machine.specs.Machine.{World, Sessions}
use Rattle.mls_machine.specs.Observation.{AreStored, EventsFit}
use Rattle.mls_machine.proofs.KeepingLemmas.{keep_integrity}
use Rattle.mls_machine.proofs.RunLemmas.{first_accepted_alike}
use Rattle.mls_sessions.specs.World.{world_at}
use Rattle.mls_translang.specs.declared.run_fault.RunFault.{RunFault}
use Rattle.mls_host.specs.declared.ending.Ending.{Ending}
use Rattle.mls_runs.specs.declared.shell_session.ShellSession.{ShellSession}
use Rattle.mls_host.specs.declared.reason.Reason.{Reason}
use Rattle.mls_host.specs.declared.stop.Stop.{Stop}
use Rattle.mls_host.specs.declared.stop.Stop.TheVariants.{Before}
use Rattle.mls_host.specs.Hosting.{Hosted}
use Rattle.mls_host.specs.declared.reason.Reason.TheVariants.{Memory}
use Rattle.mls_host.specs.declared.job.Inputs.{Inputs}
use Rattle.mls_host.specs.Storing.{AreStoredWith}
use Rattle.mls_host.specs.Causes.{IsBarred, no_memory, no_store}
use Rattle.mls_host.specs.Stop.{IsEnd}
use Rattle.mls_runs.specs.Running.{first_world}
use Rattle.mls_runs.specs.Explaining.{Explaining}
use Rattle.mls_runs.specs.Access.{AreEventsOf, IsAccessedAs}
use Rattle.mls_runs.specs.Shell.{audience_at, opening, events_in, IsConversation, IsShell, IsShellFate}
use Rattle.mls_runs.specs.ShellRun.{shell_session_of, IsShellRun, IsShellRefused, not_begun}
use Rattle.mls_runs.specs.Work.{IsOverStore}
use Rattle.mls_runs.proofs.RunningLemmas.{run_at, end_weaker}

pub opening_fits : (site : Site) (session : ShellSession) → session.level < length site.policy.labels
    → is_name session.user ≡ true → EventsFit site (opening session ∷ [])
opening_fits site session level name = (record { level = level; session = name; timed = tt; command = name }, tt)

-- a conversation over a content that it leaves as another
pub shell_at : (x : Explaining) (echo : List ℕ → List ℕ) (site : Site) (session : ShellSession) (sessions : Sessions)
    (first left : Content) (before after was is : Option (List ℕ)) (Broken : Type 0)
    (Told : List ℕ → Type 0) (end : Result Ending RunFault)
    → AreDistinct (site_labels site) → AreRead site → AreCertified site → IsSoundContent site.policy site.schemes first
    → IsSoundContent site.policy site.schemes left
    → IsConversation x echo site session before after was is Broken Told end (first_world site first)
    (world_at site sessions left)
    → IsShell x echo site session before after Broken (Appends was is) Told end first left
shell_at x echo site session sessions first left before after was is Broken Told end distinct read certified sound sound_left k =
    let w = first_world site first in
    let es : List Event = opening session ∷ events_in k.talk.turns in
    let stored : AreStored site w.db = λ relation. (sound.content relation).stored in
    record {
      talk = k.talk;
      run = λ silent. let a = k.run silent in
          run_at site (audience_at session) sessions first left es was is k.talk.run_end sound_left
          (record {
            ok = a.whole;
            err = a.stopped;
            fault = a.fault;
            integrity =
                keep_integrity site distinct read w es stored k.fits;
            secret =
                first_accepted_alike site distinct read certified w es stored k.fits;
          });
    }

-- a conversation at what is the same site, from and to what are the same worlds
pub conversation_at : (x : Explaining) (echo : List ℕ → List ℕ) (session : ShellSession) (before after was is : Option
    (List ℕ)) (Broken : Type 0) (Told : List ℕ → Type 0) (end : Result Ending RunFault)
    (s t : Site) (v u w y : World) → s ≡ t → v ≡ u → w ≡ y
    → IsConversation x echo s session before after was is Broken Told end v w
    → IsConversation x echo t session before after was is Broken Told end u y
conversation_at x echo session before after was is Broken Told end s t v u w y e f g k =
    subst (λ w. IsConversation x echo t session before after was is Broken Told end u w) g
    (subst (λ v. IsConversation x echo t session before after was is Broken Told end v w) f
    (subst (λ s. IsConversation x echo s session before after was is Broken Told end v w) e k))

-- ---- tasks

-- a read of the lines has failed only where the host says that it may
read_only_so : (x : Explaining) (echo : List ℕ → List ℕ) (site : Site) (session : ShellSession)
    (before after : Option (List ℕ)) (Broken May : Type 0) (Wrote Told : List ℕ → Type 0) (end : Result Ending RunFault)
    (first left : Content)
    → (Broken → May) → IsShell x echo site session before after Broken Wrote Told end first left
    → IsShell x echo site session before after May Wrote Told end first left
read_only_so x echo site session before after Broken May Wrote Told end first left f k = record {
  talk = record {
    turns = k.talk.turns;
    run_end = k.talk.run_end;
    lines = k.talk.lines;
    broken =
        λ b. f (k.talk.broken b);
    told = k.talk.told;
    ended = k.talk.ended;
  };
  run = k.run;
}

module _ (x : Explaining) (h : Hosted) (inputs : Inputs) (store : Option (List ℕ)) (label user : List ℕ)
    (Wrote Told : List ℕ → Type 0) where
  -- it was not begun, and nothing was written or told
  abbrev Nothing : Reason → Type 0
  Nothing reason = IsShellRefused h.after inputs.setting store reason × Wrote [] × Told []

  abbrev pub Ends : Result Ending Stop → Type 0
  Ends r = IsEnd (IsShellRun x h inputs store label user Wrote Told) Nothing r

  -- at the exit of a `?`
  pub shell_before : (r : Result Ending Stop) → IsErrAnd r (λ e. e ≡ Before Memory) → Wrote [] → Told [] → Ends r
  shell_before r is wrote told = carried Ends r (Before Memory) is (not_begun (no_memory refl), wrote, told)

  module _ (stored : List Stored) (level : ℕ) (before after : Option (List ℕ)) (Broken : Type 0)
      (stored_are : AreStoredWith inputs.setting.policy inputs.certificates inputs.transactions stored)
      (level_is : inputs.setting.reader ≡ Some level) (typed : h.before.types before) (broken : Broken
      → h.before.breaks)
      (Still : Type 0) (still : Still → (Wrote [] × Told [])) where
    abbrev at : Site
    at = site_of inputs.setting.policy inputs.setting.file.schemes stored

    abbrev session : ShellSession
    session = shell_session_of label user level h.before.is_terminal h.before.is_watched

    abbrev Shells : ShellSession → Result Ending RunFault → Type 0
    Shells who end = IsOverStore h inputs.setting.policy inputs.setting.file store
        (IsShell x h.echo at who before after Broken Wrote Told) end
        × IsAccessedAs h.after at (AreEventsOf h.echo (IsShellFate at.policy at.schemes who) before after) store

    shell_run : (end : Result Ending RunFault) → Shells session end
        → IsShellRun x h inputs store label user Wrote Told end
    shell_run end k = record {
      stored = stored;
      level = level;
      before = before;
      after = after;
      stored_are = stored_are;
      level_is = level_is;
      typed = typed;
      shell = λ clean. let o = k.0 clean in record {
        first = o.first;
        left = o.left;
        begins = o.begins;
        kept = o.kept;
        leads = read_only_so x h.echo at session before after Broken h.before.breaks Wrote Told end o.first o.left broken o.leads;
      };
      access = k.1;
    }

    -- its store was barred, and all is still as it was
    abbrev Barred : Reason → Type 0
    Barred reason = IsBarred h.after inputs.setting.policy inputs.setting.file store reason × Still

    pub shell_over_stored : (who : ShellSession) → who ≡ session → (r : Result Ending Stop)
        → IsEnd (Shells who) Barred r → Ends r
    shell_over_stored who is r k =
        let f : (end : Result Ending RunFault) → Shells who end → IsShellRun x h inputs store label user Wrote Told end
        = λ end o. shell_run end (subst (λ w. Shells w end) is o) in
        let g : (reason : Reason) → Barred reason → Nothing reason = λ reason n. (let s = still n.1
        in (not_begun (no_store n.0), s.0, s.1)) in
        end_weaker (Shells who) Barred (IsShellRun x h inputs store label user Wrote Told) Nothing f g r k

-- ---- more is told

pub shell_told_more : (x : Explaining) (h : Hosted) (inputs : Inputs) (store : Option (List ℕ)) (label user : List ℕ)
    (Wrote Told More : List ℕ → Type 0) → ((text : List ℕ) → Told text → More text)
    → (end : Result Ending RunFault) → IsShellRun x h inputs store label user Wrote Told end
    → IsShellRun x h inputs store label user Wrote More end
shell_told_more x h inputs store label user Wrote Told More f end r = record {
  stored = r.stored;
  level = r.level;
  before = r.before;
  after = r.after;
  stored_are = r.stored_are;
  level_is = r.level_is;
  typed = r.typed;
  access = r.access;
  shell = λ clean. let o = r.shell clean in let k = o.leads.talk in record {
    first = o.first;
    left = o.left;
    begins = o.begins;
    kept = o.kept;
    leads = record {
      talk = record {
        turns = k.turns;
        run_end = k.run_end;
        lines = k.lines;
        broken = k.broken;
        told = record {
          lines = k.told.lines;
          are = k.told.are;
          opening = record {
            more = k.told.opening.more;
            none =
                k.told.opening.none;
            may = k.told.opening.may;
            leads = f _ k.told.opening.leads;
          };
        };
        ended = k.ended;
      };
      run = o.leads.run;
    };
  };
}
