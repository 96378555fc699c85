-- Runs over a content: where they begin, the lines of their events, what they leave, and how they end.
use Rattle.std.proofs.Common.{◌≡◌, ℕ, List, Option, Some, None, Result, Ok, Err, OnOk, IfErr, IfSome, take, refl, sym, subst, Bor}
use Rattle.std.specs.Io.KnownBytes.{Appends}
use Rattle.std.specs.List.{AllByRecursion}
use Rattle.mls_lattice.specs.Policy.{Policy}
use Rattle.mls_scheme.specs.declared.file.SchemesFile.{SchemesFile}
use Rattle.mls_filterview.specs.Content.{Content, no_content}
use Rattle.mls_audit.specs.Sound.{IsSoundContent}
use Rattle.mls_translang.specs.Fits.{IsReadUnder}
use Rattle.mls_translang.specs.Tx.{Tx}
use Rattle.mls_translang.specs.declared.event.Event.{Event}
use Rattle.mls_machine.specs.declared.form.Audience.{Audience}
use Rattle.mls_certcheck.specs.Reading.{Block}
use Rattle.mls_certcheck.specs.Site.{Site, site_of}
use Rattle.mls_certcheck.specs.declared.stored.Stored.{Stored}
use Rattle.mls_machine.specs.Machine.{World, Sessions}
use Rattle.mls_machine.specs.Observation.{PassesOnlyReleasesDown}
use Rattle.mls_machine.specs.Showing.{ShowsOnlyReleases}
use Rattle.mls_machine.specs.Laws.{KeepsIntegrity}
use Rattle.mls_machine.proofs.RunLemmas.{shows_only_releases}
use Rattle.mls_translang.specs.declared.run_fault.RunFault.{RunFault}
use Rattle.mls_sessions.specs.World.{world_at}
use Rattle.mls_sessions.specs.Engine.{MayServe}
use Rattle.mls_sessions.specs.Run.{IsWhole, IsStopped as IsHalted, IsFaultOf}
use Rattle.mls_host.specs.declared.host.CloseFault.{CloseFault}
use Rattle.mls_host.specs.declared.job.Setting.{Setting}
use Rattle.mls_host.specs.Storing.{AreStoredWith}
use Rattle.mls_host.proofs.StoringLemmas.{stored_read, stored_certified}
use Rattle.mls_host.specs.declared.stop.Stop.{Stop}
use Rattle.mls_host.specs.declared.reason.Reason.{Reason}
use Rattle.mls_host.specs.declared.stop.Stop.TheVariants.{Before, Run, NotClosed}
use Rattle.mls_host.specs.Hosting.{Hosted}
use Rattle.mls_host.specs.Stop.{ended, IsEnd}
use Rattle.mls_host.specs.Words.{named}
use Rattle.mls_runs.specs.Running.{first_world, IsRun}
use Rattle.mls_runs.specs.Access.{IsAccessedAs}
use Rattle.mls_runs.specs.Work.{IsOverStore}

-- what an engine's run comes to: its lines, its last world, and what is proved of it
pub record IsEngineRun (site : Site) (audience : Audience) (v : World) (es : List Event)
    (before after : Option (List ℕ)) (new : World) (r : Result (Unit {0}) RunFault) : Type 0 where
  pub ok : OnOk r (IsWhole site audience v es before after new)
  pub err : IfErr r (IsHalted site audience v es before after new)
  pub fault : IfErr r (IsFaultOf es)
  pub integrity : KeepsIntegrity site v es
  pub secret : (n : ℕ) → PassesOnlyReleasesDown site v (take n es)

shown_to : (site : Site) (reader : Option ℕ) (v : World) (es : List Event)
    → ((n : ℕ) → PassesOnlyReleasesDown site v (take n es)) → IfSome reader (λ c. (n : ℕ)
    → ShowsOnlyReleases site c v (take n es))
shown_to site None v es secret = tt
shown_to site (Some c) v es secret = λ n. shows_only_releases site c v (take n es) (secret n)

-- over a base that holds a content at first and another at last
pub run_at : (site : Site) (audience : Audience) (sessions : Sessions) (first left : Content) (es : List Event)
    (before after : Option (List ℕ)) (r : Result (Unit {0}) RunFault)
    → IsSoundContent site.policy site.schemes left → IsEngineRun site audience (first_world site first) es before after
    (world_at site sessions left) r
    → IsRun site audience es (Appends before after) r first left
run_at site audience sessions first left es before after (Ok u) sound h = record {
  written = h.ok.bytes;
  left_by = (sessions, h.ok.world);
  sound = sound;
  integrity = h.integrity;
  secret = h.secret;
  shown = shown_to site audience.reader (first_world site first) es h.secret;
}
run_at site audience sessions first left es before after (Err fault) sound h = record {
  written = record {
    part = h.err.part;
    rest = h.err.rest;
    written = h.err.bytes;
    whole = h.err.reply;
    none =
        h.err.none;
    is = h.fault;
  };
  left_by = (sessions, h.err.world);
  sound = sound;
  integrity = h.integrity;
  secret = h.secret;
  shown = shown_to site audience.reader (first_world site first) es h.secret;
}

-- ---- what may be served

-- what is stored of transactions, with certificates
pub may_serve : (s : Setting) (blocks : List Block) (txs : List Tx) (stored : List Stored)
    → AllByRecursion (IsReadUnder s.policy s.file.schemes) txs → AreStoredWith s.policy blocks txs stored
    → MayServe (site_of s.policy s.file.schemes stored)
may_serve s blocks txs stored read h = record {
  under = s.under;
  read =
      stored_read s.policy s.file.schemes blocks txs stored read h;
  certified =
      stored_certified s.policy s.file.schemes blocks txs stored h;
}

-- ---- how runs and shells end

module _ {A : Type 0} (Ends : Result A RunFault → Type 0) (Nothing : Reason → Type 0) where
  -- one that ended, or stopped, over a store that was closed, or not
  pub ended_so : (outcome : Result A RunFault) (closed : Result (Unit {0}) CloseFault) → Ends outcome
      → IsEnd Ends Nothing (ended outcome closed)
  ended_so (Err fault) (Err e) h = h
  ended_so (Err fault) (Ok v) h = h
  ended_so (Ok end) (Err e) h = (end, h)
  ended_so (Ok end) (Ok v) h = h

  pub end_weaker : (More : Result A RunFault → Type 0) (Less : Reason → Type 0) → ((end : Result A RunFault) → Ends end
      → More end) → ((reason : Reason) → Nothing reason → Less reason)
      → (r : Result A Stop) → IsEnd Ends Nothing r → IsEnd More Less r
  end_weaker More Less f g (Ok end) h = f (Ok end) h
  end_weaker More Less f g (Err (Before reason)) h = g reason h
  end_weaker More Less f g (Err (Run fault is_closed)) h = f (Err fault) h
  end_weaker More Less f g (Err NotClosed) h = (h.0, f (Ok h.0) h.1)
  end_weaker More Less f g _ h = absurd h

-- ---- where they begin

module _ {A : Type 0} (h : Hosted) (file : SchemesFile) (policy : Policy) (Leads : Result A RunFault → Content → Content
    → Type 0) (site : Site) (Answered : List Event → Type 0) where
  abbrev From : Option (List ℕ) → Result A RunFault → Type 0
  From store end = IsOverStore h policy file store Leads end × IsAccessedAs h.after site Answered store

  abbrev Fresh : Result A RunFault → Type 0
  Fresh end = (left : Content) × Leads end no_content left

  module _ (Nothing : Option (List ℕ) → Reason → Type 0) (store : Option (Bor (List ℕ))) (r : Result A Stop) where
    -- with nothing
    pub from_memory : store ≡ None → IsEnd Fresh (Nothing None) r → IsEnd (From (named store)) (Nothing (named store)) r
    from_memory none run =
        let f : (end : Result A RunFault) → Fresh end → From None end
        = λ end k. (
          (λ clean. record { first = no_content; left = k.0; begins = refl; kept = tt; leads = k.1 }),
          tt,
        ) in
        subst (λ (s : Option (Bor (List ℕ))). IsEnd (From (named s)) (Nothing (named s)) r) (sym none)
        (end_weaker Fresh (Nothing None) (From None) (Nothing None) f (λ _ k. k) r run)

    -- with what a store kept
    pub from_store : (path : Bor (List ℕ)) → store ≡ Some path → IsEnd (From (Some path.now))
        (Nothing (Some path.now)) r → IsEnd (From (named store)) (Nothing (named store)) r
    from_store path some run = subst (λ (s : Option (Bor (List ℕ))). IsEnd (From (named s)) (Nothing (named s)) r)
        (sym some) run
