-- The world that an engine holds, and what an engine keeps to.
use Rattle.std.specs.Prelude.{◌≡◌, ◌<◌, ◌≤◌, false, length, IfOk, IfErr, Result}
use Rattle.mls_lattice.specs.Policy.{Policy}
use Rattle.mls_scheme.specs.Scheme.{Schemes, AreUnder}
use Rattle.mls_filterview.specs.declared.base.BaseFault.{BaseFault}
use Rattle.mls_filterview.specs.Content.{Seen}
use Rattle.mls_audit.specs.Sound.{IsSoundContent}
use Rattle.mls_machine.specs.declared.reply.Reply.{Reply}
use Rattle.mls_certcheck.specs.Site.{Site, AreRead, AreCertified}
use Rattle.mls_machine.specs.Machine.{World, Step, step}
use Rattle.mls_translang.specs.declared.event.Event.{Event}
use Rattle.mls_translang.specs.declared.run_fault.RunCause.TheVariants.{Store}
use Rattle.mls_translang.specs.declared.run_fault.RunFault.{RunFault}
use Rattle.mls_sessions.specs.declared.engine.Engine.{Engine}
use Rattle.mls_sessions.specs.Sessions.{site_of_run, sessions_of, AreForUsers}
use Rattle.mls_sessions.specs.World.{world_at}
use Rattle.mls_sessions.specs.Turns.{IsTurn}
use Rattle.mls_queries.specs.Views.{AreViews}

abbrev pub site : {B : Type 0} → Engine B → Site
site e = site_of_run e.site

-- sessions may be held under a site: what is stored was read under its policy and schemes, and checked where it has a
-- certificate
pub record MayServe (site : Site) : Type 0 where
  pub under : AreUnder (length site.policy.labels) site.schemes
  pub read : AreRead site
  pub certified : AreCertified site

module _ {B : Type 0} (seen : B → Seen) where
  abbrev pub world_of : Engine B → World
  world_of e = world_at (site e) (sessions_of e.sessions.items) (seen e.base).state.now

  -- no change of a base is begun, and what it holds is sound, where no call of it went wrong
  pub record IsAtRest (policy : Policy) (schemes : Schemes) (base : B) : Type 0 where
    pub idle : (seen base).state.begun ≡ false
    pub sound : (seen base).is_clean → IsSoundContent policy schemes (seen base).state.now

  -- what an engine holds between events; over a clean base each view that it keeps is that of the content now
  -- (no invariant of its type: that needs a code for the value, and a stored transaction keeps a proof, which
  -- has none)
  pub record IsEngineReady (e : Engine B) : Type 0 where
    pub read : AreRead (site e)
    pub users : AreForUsers (length (site e).policy.users) e.sessions.items
    pub rest : IsAtRest (site e).policy (site e).schemes e.base
    pub views : AreViews (site e).policy seen e.base e.views

  -- an event was answered, and the world left, as by a step of the machine
  pub record IsEngineStep (old : Engine B) (s : Step) (new : Engine B) (r : Reply) : Type 0 where
    pub reply : r ≡ s.reply
    pub world : world_of new ≡ s.world

  -- an event leaves the engine ready, at the same site
  pub record IsKept (old new : Engine B) : Type 0 where
    pub site : new.site ≡ old.site
    pub ready : IsEngineReady new

  -- an event of an engine, whatever it answers
  abbrev pub IsEngineTurn : Engine B → Engine B → Result Reply BaseFault → Type 0
  IsEngineTurn = IsTurn (λ e. seen e.base) world_of

  -- what an event leaves and answers
  pub record Answers (old : Engine B) (event : Event) (new : Engine B) (result : Result Reply BaseFault) : Type 0 where
    pub turn : IsEngineTurn old new result
    pub kept : IsKept old new
    pub done : (seen new.base).is_clean → IfOk result (IsEngineStep old (step (site old) (world_of old) event) new)

  -- events leave the engine ready; a store that is clean afterwards was clean before, and then `Store` stops them only
  -- where a call of it failed
  pub record Continues {A : Type 0} (old new : Engine B) (result : Result A RunFault) : Type 0 where
    pub clean : (seen new.base).is_clean → (seen old.base).is_clean
    pub about : (seen new.base).is_clean → (seen new.base).about ≡ (seen old.base).about
    pub count : (seen old.base).failures ≤ (seen new.base).failures
    pub kept : IsKept old new
    pub store : (seen new.base).is_clean → IfErr result (λ f. f.cause ≡ Store
        → (seen old.base).failures < (seen new.base).failures)

  -- the same of a base that is given back: no change is begun
  pub record Leaves {A : Type 0} (old new : B) (result : Result A RunFault) : Type 0 where
    pub clean : (seen new).is_clean → (seen old).is_clean
    pub about : (seen new).is_clean → (seen new).about ≡ (seen old).about
    pub idle : (seen new).state.begun ≡ false
    pub count : (seen old).failures ≤ (seen new).failures
    pub store : (seen new).is_clean → IfErr result (λ f. f.cause ≡ Store → (seen old).failures < (seen new).failures)
