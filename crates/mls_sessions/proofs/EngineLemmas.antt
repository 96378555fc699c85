-- What each way through a step does is the machine's step, and the engine keeps what it holds.
use Rattle.std.proofs.Common.{◌≡◌, ℕ, Bool, false, List, length, Option, Some, None, Result, Ok, Err, refl, sym, ap, ◌∙◌, subst, Vec, Global, arith, IfOk, IfErr, OnErr}
use Rattle.mls_filterview.specs.declared.base.BaseFault.{BaseFault}
use Rattle.mls_filterview.specs.declared.base.BaseFault.TheVariants as faults
use Rattle.mls_filterview.specs.Calls.{IsServed}
use Rattle.mls_filterview.specs.Content.{Seen, Content}
use Rattle.mls_filterview.specs.Stored.{AreContent}
use Rattle.mls_lattice.specs.Policy.{Name, Policy}
use Rattle.mls_scheme.specs.declared.value.Value.{Value}
use Rattle.mls_audit.specs.Sound.{IsSoundContent}
use Rattle.mls_translang.specs.declared.query.Query.{Query}
use Rattle.mls_translang.specs.declared.event.Event.{Event}
use Rattle.mls_translang.specs.declared.event.Command.{Command}
use Rattle.mls_translang.specs.declared.event.Command.TheVariants as commands
use Rattle.mls_translang.specs.declared.event.One.{One}
use Rattle.mls_translang.specs.Event.{EventFits}
use Rattle.mls_machine.specs.declared.reply.Denial.{Denial}
use Rattle.mls_machine.specs.declared.reply.Denial.TheVariants.{AlreadyOpen, UnknownTransaction, NotCertified}
use Rattle.mls_certcheck.specs.declared.stored.Stored.{Stored}
use Rattle.mls_certcheck.specs.declared.stored.Stored.TheVariants.{Certified, Plain}
use Rattle.mls_machine.specs.Denying.{stored_named, call_denial}
use Rattle.mls_machine.specs.declared.reply.Reply.{Reply}
use Rattle.mls_machine.specs.declared.reply.Reply.TheVariants.{Closed, Rows, Dumped, Did}
use Rattle.mls_machine.specs.Known.{HasKnownNumbers}
use Rattle.mls_machine.specs.Printable.{ReplyIsKnown}
use Rattle.mls_certcheck.specs.Site.{Site, site_labels}
use Rattle.mls_machine.specs.Machine.{World, Step, with_session, closed, denied, unless, viewed, dumped, wrote, listed, did, called, call_step, step_inside, step_outside, step_at, step}
use Rattle.mls_machine.proofs.KeepingLemmas.{step_content}
use Rattle.mls_sessions.specs.declared.engine.Engine.{Engine}
use Rattle.mls_sessions.specs.declared.session.Session.{Session}
use Rattle.mls_sessions.specs.Denying.{denial_in}
use Rattle.mls_sessions.specs.Sessions.{sessions_of, AreForUsers, IsSessionStep}
use Rattle.mls_sessions.specs.World.{world_at}
use Rattle.mls_sessions.specs.Turns.{IsTurn, IsStepOver}
use Rattle.mls_queries.specs.Views.{Kept, AreViews}
use Rattle.mls_queries.proofs.WrittenLemmas.{kept_same}
use Rattle.mls_sessions.specs.Engine.{site, world_of, IsEngineReady, IsEngineStep, IsKept, IsEngineTurn, Answers}

-- ---- the machine's step

some_is : (a b : Denial) → Some a ≡ Some b → a ≡ b
some_is a b e = cc

none_is : {A : Type 0} (d : Denial) → None ≡ Some d → A
none_is d e = absurd cc

module _ (at : Site) (w : World) (e : Event) where
  pub outside_is : w.sessions e.level e.session ≡ None → step at w e ≡ step_outside at w e e.command
  unfolding step
  outside_is h = ap (step_at at w e e.command) h

  module _ (user : ℕ) (held : w.sessions e.level e.session ≡ Some user) where
    inside_is : step at w e ≡ step_inside at w e e.command user
    unfolding step
    inside_is = ap (step_at at w e e.command) held

    denied_call : (name : Name) (args : List (Option Value)) (o : Option Stored) (d : Denial)
        → call_denial at e.level user args o ≡ Some d → call_step at w e user name args o ≡ denied at w e user d
    denied_call name args None d h = ap (denied at w e user) (some_is UnknownTransaction d h)
    denied_call name args (Some (Plain tx)) d h = ap (denied at w e user) (some_is NotCertified d h)
    denied_call name args (Some (Certified k)) d h =
        ap (λ o. unless at o w e user (called at w e user name k.tx args)) h

    denied_inside : (command : Command) (d : Denial) → denial_in at e.level user command ≡ Some d
        → step_inside at w e command user ≡ denied at w e user d
    denied_inside (commands.Open name) d h = ap (denied at w e user) (some_is AlreadyOpen d h)
    denied_inside commands.Close d h = none_is d h
    denied_inside commands.Audit d h = none_is d h
    denied_inside (commands.View relation label query counts) d h =
        ap (λ o. unless at o w e user (viewed at w relation label query)) h
    denied_inside (commands.Dump relation) d h = ap (λ o. unless at o w e user (dumped at w relation e.level)) h
    denied_inside (commands.Write relation wr) d h = ap (λ o. unless at o w e user (wrote at w e.level relation wr)) h
    denied_inside (commands.Call name args) d h = denied_call name args (stored_named at.stored name) d h
    denied_inside (commands.All batch) d h = ap (λ o. unless at o w e user (did at w e.level batch)) h

    pub denied_is : (d : Denial) → denial_in at e.level user e.command ≡ Some d → step at w e ≡ denied at w e user d
    denied_is d h = inside_is ∙ denied_inside e.command d h

    pub viewed_is : (relation label : ℕ) (query : Query) (counts : Bool)
        → e.command ≡ commands.View relation label query counts → denial_in at e.level user e.command ≡ None
        → step at w e ≡ viewed at w relation label query
    viewed_is relation label query counts is h =
        inside_is ∙ ap (λ x. step_inside at w e x user) is
        ∙ ap (λ o. unless at o w e user (viewed at w relation label query)) (sym (ap (denial_in at e.level user) is)
        ∙ h)

    pub dumped_is : (relation : ℕ) → e.command ≡ commands.Dump relation → denial_in at e.level user e.command ≡ None
        → step at w e ≡ dumped at w relation e.level
    dumped_is relation is h =
        inside_is ∙ ap (λ x. step_inside at w e x user) is
        ∙ ap (λ o. unless at o w e user (dumped at w relation e.level)) (sym (ap (denial_in at e.level user) is) ∙ h)

    pub did_is : (batch : List One) → e.command ≡ commands.All batch → denial_in at e.level user e.command ≡ None
        → step at w e ≡ did at w e.level batch
    did_is batch is h =
        inside_is ∙ ap (λ x. step_inside at w e x user) is
        ∙ ap (λ o. unless at o w e user (did at w e.level batch)) (sym (ap (denial_in at e.level user) is) ∙ h)

    pub listed_is : e.command ≡ commands.Audit → step at w e ≡ listed at w e.level
    listed_is is = inside_is ∙ ap (λ x. step_inside at w e x user) is

    pub closed_is : e.command ≡ commands.Close → step at w e ≡ closed w e
    closed_is is = inside_is ∙ ap (λ x. step_inside at w e x user) is

    pub wrote_is : step at w e ≡ step_inside at w e e.command user
    wrote_is = inside_is

pub none_from : (o : Option Denial) → ((d : Denial) → o ≡ Some d → ⊥) → o ≡ None
none_from None h = refl
none_from (Some d) h = absurd (h d refl)

-- what can be printed has known numbers
pub numbers_known : (policy : Policy) (r : Reply) → ReplyIsKnown policy r → HasKnownNumbers policy r
numbers_known policy (Rows tuples) h = tt
numbers_known policy (Dumped tuples) h = tt
numbers_known policy (Did given) h = tt
numbers_known policy _ h = h

-- ---- engines

not_served : {A : Type 0} (e : BaseFault) → e ≡ faults.Memory → e ≡ faults.Store → A
not_served e h k = absurd (let both : faults.Memory ≡ faults.Store = sym h ∙ k in cc)

memory_served : (e : BaseFault) → e ≡ faults.Memory → IsServed e
memory_served e h = (
  λ k. (let both : faults.Memory ≡ faults.NotBegun = sym h ∙ k in cc),
  λ k. (let both : faults.Memory ≡ faults.Begun = sym h ∙ k in cc),
)

module _ {B : Type 0} (seen : B → Seen) (old : Engine B) (ready : IsEngineReady seen old)
    (event : Event) (fits : EventFits (site old).policy (site old).schemes event) where
  abbrev w : World
  w = world_of seen old

  abbrev s : Step
  s = step (site old) w event

  abbrev now : B → Content
  now b = (seen b).state.now

  abbrev Answered : Engine B → Result Reply BaseFault → Type 0
  Answered = Answers seen old event

  -- ---- over a base that a call left

  module _ (b : B) (X : World → Step) (is : s ≡ X w) (views : Kept) where
    abbrev new : Engine B
    new = record old { base = b; views = views }

    abbrev Over : Result Reply BaseFault → Type 0
    Over r = IfOk r (IsStepOver (site old) X (now old.base) (now b))

    over_turn : (r : Result Reply BaseFault) → IsTurn seen now old.base b r → IsEngineTurn seen old new r
    over_turn (Ok r) t = record { clean = t.clean; about = t.about; count = t.count; fault = tt }
    over_turn (Err e) t = record {
      clean = t.clean;
      about = t.about;
      count = t.count;
      fault = record {
        served = t.fault.served;
        store = t.fault.store;
        same =
            λ c. ap (world_at (site old) (sessions_of old.sessions.items)) (t.fault.same c);
      };
    }

    over_world : (r : Reply) → IsStepOver (site old) X (now old.base) (now b) r → world_of seen new ≡ s.world
    over_world r h = h.world (sessions_of old.sessions.items) ∙ ap (λ (t : Step). t.world) (sym is)

    over_done : (r : Result Reply BaseFault) → Over r → IfOk r (IsEngineStep seen old s new)
    over_done (Ok r) h = record {
      reply = h.reply (sessions_of old.sessions.items) ∙ ap (λ (t : Step). t.reply)
          (sym is);
      world = over_world r h;
    }
    over_done (Err e) h = tt

    over_sound : (r : Result Reply BaseFault) → IsTurn seen now old.base b r → (seen b).is_clean → Over r
        → IsSoundContent (site old).policy (site old).schemes (now b)
    over_sound (Ok r) t c h = record {
      content = subst (AreContent (site_labels (site old)) (site old).schemes)
          (sym (ap (λ (x : World). x.db) (over_world r h)))
          (step_content (site old) old.site.distinct ready.read w event (ready.rest.sound (t.clean c)).content fits);
      entries = h.entries (ready.rest.sound (t.clean c)).entries;
    }
    over_sound (Err e) t c h = subst (IsSoundContent (site old).policy (site old).schemes) (sym (t.fault.same c))
        (ready.rest.sound (t.clean c))

    -- views of the content that the event leaves
    abbrev Are : Kept → Type 0
    Are = AreViews (site old).policy seen b

    -- where it leaves the database
    db_stays : (r : Result Reply BaseFault) → IsTurn seen now old.base b r → ((seen b).is_clean → Over r)
        → (X w).world.db ≡ w.db → (seen b).is_clean → (now b).db ≡ w.db
    db_stays (Ok r) t h same c = ap (λ (x : World). x.db) (over_world r (h c)) ∙ ap (λ (x : Step). x.world.db) is ∙ same
    db_stays (Err e) t h same c = ap (λ (x : Content). x.db) (t.fault.same c)

    pub answers_over : (r : Result Reply BaseFault) → IsTurn seen now old.base b r → (seen b).state.begun ≡ false
        → ((seen b).is_clean → Over r) → Are views → Answered new r
    answers_over r t idle h are = record {
      turn = over_turn r t;
      kept = record {
        site = refl;
        ready = record {
          read = ready.read;
          users = ready.users;
          rest = record { idle = idle; sound = λ c. over_sound r t c (h c) };
          views = are;
        };
      };
      done = λ c. over_done r (h c);
    }

    pub answers_stay : (r : Result Reply BaseFault) → IsTurn seen now old.base b r → (seen b).state.begun ≡ false
        → ((seen b).is_clean → Over r) → (X w).world.db ≡ w.db → views ≡ old.views → Answered new r
    answers_stay r t idle h same kept =
        answers_over r t idle h
        (subst Are (sym kept) (kept_same (site old).policy seen old.base b old.views t.clean
        (db_stays r t h same) ready.views))

  -- ---- with other sessions

  module _ (sessions : Vec Session Global) (users : AreForUsers (length (site old).policy.users) sessions.items) where
    abbrev with_them : Engine B
    with_them = record old { sessions = sessions }

    them_kept : IsKept seen old with_them
    them_kept = record {
      site = refl;
      ready = record {
        read = ready.read;
        users = users;
        rest = ready.rest;
        views =
            ready.views;
      };
    }

    pub answers_closed : sessions_of sessions.items
        ≡ with_session (sessions_of old.sessions.items) event.level event.session None → s ≡ closed w event
        → Answered with_them (Ok Closed)
    answers_closed h is = record {
      turn = record { clean = λ c. c; about = λ c. refl; count = omega arith; fault = tt };
      kept = them_kept;
      done = λ c. record {
        reply = ap (λ (t : Step). t.reply) (sym is);
        world = ap (λ ss. record { db = w.db; sessions = ss; audit = w.audit }) h ∙ ap (λ (t : Step). t.world) (sym is);
      };
    }

    abbrev Opens : Result Reply BaseFault → Type 0
    Opens r = IfOk r (IsSessionStep (λ v. step_outside
        (site old) v event event.command) old.sessions.items sessions.items)

    opened_turn : (r : Result Reply BaseFault) → IfErr r (λ e. e ≡ faults.Memory)
        → OnErr r (sessions.items ≡ old.sessions.items) → IsEngineTurn seen old with_them r
    opened_turn (Ok r) memory same = record { clean = λ c. c; about = λ c. refl; count = omega arith; fault = tt }
    opened_turn (Err e) memory same = record {
      clean = λ c. c;
      about = λ c. refl;
      count = omega arith;
      fault = record {
        served = memory_served e memory;
        store = λ k. not_served e memory k;
        same = λ c. ap (λ (ss : _). world_at (site old) (sessions_of ss) (now old.base)) same;
      };
    }

    opened_done : (r : Result Reply BaseFault) → s ≡ step_outside (site old) w event event.command → Opens r
        → IfOk r (IsEngineStep seen old s with_them)
    opened_done (Ok r) is h = record {
      reply = h.reply w.db w.audit ∙ ap (λ (t : Step). t.reply) (sym is);
      world = h.world w.db w.audit ∙ ap (λ (t : Step). t.world) (sym is);
    }
    opened_done (Err e) is h = tt

    pub answers_opened : (r : Result Reply BaseFault) → s ≡ step_outside (site old) w event event.command → Opens r
        → IfErr r (λ e. e ≡ faults.Memory) → OnErr r (sessions.items ≡ old.sessions.items) → Answered with_them r
    answers_opened r is h memory same = record {
      turn = opened_turn r memory same;
      kept = them_kept;
      done =
          λ c. opened_done r is h;
    }
