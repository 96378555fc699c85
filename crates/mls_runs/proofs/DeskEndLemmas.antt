-- Desks over stores, and how they end.
use Rattle.mls_sessions.proofs.FrameLemmas.{carried}
use Rattle.std.proofs.Common.{◌≡◌, ℕ, List, [], Option, Result, refl, take, IsErrAnd}
use Rattle.mls_filterview.specs.Content.{Content}
use Rattle.mls_lattice.specs.Labels.{AreDistinct}
use Rattle.mls_audit.specs.Sound.{IsSoundContent}
use Rattle.mls_certcheck.specs.declared.stored.Stored.{Stored}
use Rattle.mls_certcheck.specs.Site.{Site, site_labels, AreRead, AreCertified, site_of}
use Rattle.mls_machine.specs.Machine.{Sessions}
use Rattle.mls_machine.specs.Observation.{AreStored, PassesOnlyReleasesDown}
use Rattle.mls_machine.proofs.KeepingLemmas.{keep_integrity}
use Rattle.mls_machine.proofs.RunLemmas.{first_accepted_alike}
use Rattle.mls_machine.proofs.ServingLemmas.{served_alike}
use Rattle.mls_sessions.specs.World.{world_at}
use Rattle.mls_translang.specs.declared.run_fault.RunFault.{RunFault}
use Rattle.mls_host.specs.declared.ending.Ending.{Ending}
use Rattle.mls_host.specs.declared.reason.Reason.{Reason}
use Rattle.mls_host.specs.declared.reason.Reason.TheVariants.{Memory}
use Rattle.mls_host.specs.declared.stop.Stop.{Stop}
use Rattle.mls_host.specs.declared.stop.Stop.TheVariants.{Before}
use Rattle.mls_host.specs.declared.job.Inputs.{Inputs}
use Rattle.mls_host.specs.Hosting.{Hosted}
use Rattle.mls_host.specs.Storing.{AreStoredWith}
use Rattle.mls_host.specs.Causes.{IsBarred, IsNotBegun, no_memory, no_store}
use Rattle.mls_host.specs.Stop.{IsEnd}
use Rattle.mls_runs.specs.Running.{first_world}
use Rattle.mls_runs.proofs.RunningLemmas.{end_weaker}
use Rattle.mls_runs.specs.Shell.{events_in}
use Rattle.mls_runs.specs.Access.{AreEventsOf, IsAccessedAs}
use Rattle.mls_runs.specs.Desk.{IsService, IsDesk, IsDeskFate}
use Rattle.mls_runs.specs.DeskRun.{IsDeskRun}
use Rattle.mls_runs.specs.Work.{IsOverStore}

-- lines that are answered over a content, which is left as another
pub desk_at : (echo : List ℕ → List ℕ) (site : Site) (sessions : Sessions) (first left : Content)
    (before after : Option (List ℕ)) (Broken : Type 0) (Wrote : List ℕ → Type 0) (end : Result Ending RunFault)
    → AreDistinct (site_labels site) → AreRead site → AreCertified site → IsSoundContent site.policy site.schemes first
    → IsSoundContent site.policy site.schemes left
    → IsService echo site before after Broken Wrote end (first_world site first) (world_at site sessions left)
    → IsDesk echo site before after Broken Wrote end first left
desk_at echo site sessions first left before after Broken Wrote end distinct read certified sound sound_left k =
    let w = first_world site first in
    let es = events_in k.service.turns in
    let stored : AreStored site w.db = λ relation. (sound.content relation).stored in
    let secret : (n : ℕ) → PassesOnlyReleasesDown site w (take n es) =
    first_accepted_alike site distinct read certified w es stored k.fits in
    record {
      service = k.service;
      left_by = (sessions, k.world);
      sound = sound_left;
      integrity = keep_integrity site distinct read w es stored k.fits;
      secret = secret;
      served = λ c n. served_alike site c w (take n es) (secret n);
    }

-- ---- tasks

-- a read of the lines has failed only where the host says that it may
read_only_so : (echo : List ℕ → List ℕ) (site : Site) (before after : Option (List ℕ)) (Broken May : Type 0)
    (Wrote : List ℕ → Type 0) (end : Result Ending RunFault) (first left : Content)
    → (Broken → May) → IsDesk echo site before after Broken Wrote end first left
    → IsDesk echo site before after May Wrote end first left
read_only_so echo site before after Broken May Wrote end first left f k = record {
  service = record {
    turns = k.service.turns;
    kept = k.service.kept;
    lines = k.service.lines;
    broken =
        λ b. f (k.service.broken b);
    written = k.service.written;
  };
  left_by = k.left_by;
  sound = k.sound;
  integrity = k.integrity;
  secret = k.secret;
  served = k.served;
}

module _ (h : Hosted) (inputs : Inputs) (store : Option (List ℕ)) (Wrote : List ℕ → Type 0) where
  -- it was not begun, and nothing was written
  abbrev Nothing : Reason → Type 0
  Nothing reason = IsNotBegun h.after inputs.setting.policy inputs.setting.file store reason × Wrote []

  abbrev pub Ends : Result Ending Stop → Type 0
  Ends r = IsEnd (IsDeskRun h inputs store Wrote) Nothing r

  -- at the exit of a `?`
  pub desk_before : (r : Result Ending Stop) → IsErrAnd r (λ e. e ≡ Before Memory) → Wrote [] → Ends r
  desk_before r is wrote = carried Ends r (Before Memory) is (no_memory refl, wrote)

  module _ (stored : List Stored) (before after : Option (List ℕ)) (Broken : Type 0)
      (stored_are : AreStoredWith inputs.setting.policy inputs.certificates inputs.transactions stored)
      (typed : h.before.types before) (broken : Broken → h.before.breaks)
      (Still : Type 0) (still : Still → Wrote []) where
    abbrev at : Site
    at = site_of inputs.setting.policy inputs.setting.file.schemes stored

    abbrev Desks : Result Ending RunFault → Type 0
    Desks end = IsOverStore h inputs.setting.policy inputs.setting.file store
        (IsDesk h.echo at before after Broken Wrote) end
        × IsAccessedAs h.after at (AreEventsOf h.echo (IsDeskFate at.policy at.schemes) before after) store

    desk_run : (end : Result Ending RunFault) → Desks end → IsDeskRun h inputs store Wrote end
    desk_run end k = record {
      stored = stored;
      before = before;
      after = after;
      stored_are = stored_are;
      typed = typed;
      desk = λ clean. let o = k.0 clean in record {
        first = o.first;
        left = o.left;
        begins = o.begins;
        kept = o.kept;
        leads = read_only_so h.echo at before after Broken h.before.breaks Wrote end o.first o.left broken o.leads;
      };
      access = k.1;
    }

    -- its store was barred, and all is still as it was
    abbrev Barred : Reason → Type 0
    Barred reason = IsBarred h.after inputs.setting.policy inputs.setting.file store reason × Still

    pub desk_over_stored : (r : Result Ending Stop) → IsEnd Desks Barred r → Ends r
    desk_over_stored r k =
        let g : (reason : Reason) → Barred reason → Nothing reason = λ reason n. (no_store n.0, still n.1) in
        end_weaker Desks Barred (IsDeskRun h inputs store Wrote) Nothing desk_run g r k
