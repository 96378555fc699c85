-- One event of a run, and a run up to an event.
use Rattle.std.proofs.Common.{◌≡◌, ℕ, ◌+◌, ◌-◌, ◌<◌, ◌≤◌, ◌&&◌, ◌||◌, Bool, true, false, not, cond, List, [], ◌∷◌, ◌++◌, Option, Some, None, length, take, get_or, refl, sym, ap, ◌∙◌, subst, append_assoc, arith, is_some}
use Rattle.std.specs.Io.KnownBytes.{Appends}
use Rattle.std.proofs.KnownBytes.{Appends-nil, Appends-trans}
use Rattle.std.proofs.lemmas.List.{take_more}
use Rattle.mls_filterview.specs.declared.base.BaseFault.{BaseFault}
use Rattle.mls_filterview.specs.declared.base.BaseFault.TheVariants as faults
use Rattle.mls_filterview.specs.Calls.{IsServed}
use Rattle.mls_filterview.specs.Content.{Seen}
use Rattle.mls_translang.specs.declared.event.Event.{Event}
use Rattle.mls_translang.specs.Event.{EventFits}
use Rattle.mls_machine.specs.declared.form.Audience.{Audience}
use Rattle.mls_updates.specs.declared.outcome.Outcome.{Outcome}
use Rattle.mls_updates.specs.Outcome.{is_done as is_write_done}
use Rattle.mls_machine.specs.declared.reply.Reply.{Reply}
use Rattle.mls_machine.specs.declared.reply.Reply.TheVariants.{Denied, Wrote, Undone}
use Rattle.mls_certcheck.specs.Site.{Site, site_labels}
use Rattle.mls_machine.specs.Machine.{World, step, end_of}
use Rattle.mls_machine.specs.Output.{run_lines}
use Rattle.mls_machine.specs.Printable.{ReplyIsKnown}
use Rattle.mls_machine.specs.Observation.{AreStored}
use Rattle.mls_machine.specs.Showing.{reply_shows}
use Rattle.mls_machine.proofs.LineLemmas.{nothing_heard, end_more, printed_more}
use Rattle.mls_machine.proofs.ReplyLemmas.{step_known}
use Rattle.mls_translang.specs.declared.run_fault.RunCause.{RunCause}
use Rattle.mls_translang.specs.declared.run_fault.RunFault.{RunFault}
use Rattle.mls_translang.specs.declared.run_fault.RunCause.TheVariants.{Store, Memory}
use Rattle.mls_sessions.specs.declared.engine.Engine.{Engine}
use Rattle.mls_sessions.specs.declared.notice.Notice.{Notice}
use Rattle.mls_sessions.specs.declared.notice.Notice.TheVariants as notices
use Rattle.mls_sessions.specs.Cause.{cause_of}
use Rattle.mls_sessions.specs.Sessions.{site_of_run}
use Rattle.mls_sessions.specs.Engine.{site, world_of, IsEngineReady, IsEngineStep, IsKept}
use Rattle.mls_sessions.specs.Run.{is_done, are_done, notice_of, last_of, notice_in, printed_to, world_after, IsStopped, answer_text, IsEventAnswered, IsHalted}
use Rattle.mls_sessions.specs.Access.{IsPermitted, ArePermitted}
use Rattle.mls_sessions.proofs.AccessLemmas.{permitted_start, permitted_more}
use Rattle.mls_sessions.proofs.StepLemmas.{entries_known}

-- ---- one event

module _ {B : Type 0} (seen : B → Seen) (old new : Engine B) (audience : Audience) (event : Event)
    (a b : Option (List ℕ)) where
  abbrev first : World
  first = world_of seen old

  pub halted_before : (cause : RunCause) → world_of seen new ≡ first → IsHalted (site old) audience first event a a
      (world_of seen new) cause false
  halted_before cause h = record {
    reply = record {
      part = [];
      rest = answer_text (site old) audience first event a a first;
      appends = Appends-nil a;
      whole = refl;
    };
    none = λ x. refl;
    world = h;
  }

  module _ (r : Reply) (h : IsEngineStep seen old (step (site old) first event) new r) where
    pub halted_unprinted : (cause : RunCause) → IsHalted (site old) audience first event a a
        (world_of seen new) cause true
    halted_unprinted cause = record {
      reply = record {
        part = [];
        rest = answer_text (site old) audience first event a a first;
        appends = Appends-nil a;
        whole = refl;
      };
      none = λ x. refl;
      world = h.world;
    }

    module _ (kept : new.site ≡ old.site) (bytes : List ℕ) (is : bytes ≡ reply_shows (site new) audience event r) where
      text_is : bytes ≡ answer_text (site old) audience first event a b first
      text_is = is ∙ (λ i. reply_shows (site_of_run (kept i)) audience event (h.reply i))

      pub answered : Appends a b bytes → IsEventAnswered (site old) audience first event a b (world_of seen new)
      answered p = record { bytes = subst (Appends a b) text_is p; world = h.world }

pub stored_at : {B : Type 0} (seen : B → Seen) (e : Engine B) → IsEngineReady seen e → (seen e.base).is_clean
    → AreStored (site e) (world_of seen e).db
stored_at seen e ready c relation = ((ready.rest.sound c).content relation).stored

-- a notice is noted
module _ {B : Type 0} (seen : B → Seen) where
  ready_noted : (e : Engine B) (notice : Option Notice) → IsEngineReady seen e
      → IsEngineReady seen (record e { notice = notice })
  ready_noted e notice ready = record {
    read = ready.read;
    users = ready.users;
    rest = record { idle = ready.rest.idle; sound = ready.rest.sound };
    views = ready.views;
  }

  pub noted : (old new : Engine B) (notice : Option Notice) → IsKept seen old new
      → IsKept seen old (record new { notice = notice })
  noted old new notice kept = record { site = kept.site; ready = ready_noted new notice kept.ready }

-- over a sound base the reply can be printed
module _ {B : Type 0} (seen : B → Seen) (old new : Engine B) (event : Event) (r : Reply) where
  pub reply_known : IsEngineStep seen old (step (site old) (world_of seen old) event) new r → new.site ≡ old.site
      → IsEngineReady seen old → (seen old.base).is_clean → EventFits (site old).policy (site old).schemes event
      → ReplyIsKnown (site new).policy r
  reply_known h kept ready c fits =
      subst (λ at. ReplyIsKnown (site_of_run at).policy r) (sym kept)
      (subst (ReplyIsKnown (site old).policy) (sym h.reply)
      (step_known (site old) old.site.distinct ready.read (world_of seen old) (stored_at seen old ready c)
      (entries_known (length (site old).policy.labels) (seen old.base).state.now.audit) event fits).reply)

-- ---- the cause of the store

pub not_store : (cause : RunCause) → cause ≡ Memory → cause ≡ Store → ⊥
not_store cause h k = absurd (let e : Memory ≡ Store = sym h ∙ k in cc)

pub only_store : (e : BaseFault) → IsServed e → cause_of e ≡ Store → e ≡ faults.Store
only_store faults.Store h k = refl
only_store faults.Memory h k = absurd (let e : Memory ≡ Store = k in cc)
only_store faults.NotBegun h k = absurd (h.0 refl)
only_store faults.Begun h k = absurd (h.1 refl)

-- ---- why events are not done

last_none : (n : Option Notice) → last_of n None ≡ n
last_none None = refl
last_none (Some n) = refl

last_assoc : (a b c : Option Notice) → last_of (last_of a b) c ≡ last_of a (last_of b c)
last_assoc None b c = refl
last_assoc (Some n) b c = refl

last_some : (a b : Option Notice) → is_some (last_of a b) ≡ (is_some b || is_some a)
last_some None None = refl
last_some None (Some n) = refl
last_some (Some m) None = refl
last_some (Some m) (Some n) = refl

is_refused : (outcome : Outcome) (done : Bool) → is_some (cond done None (Some (notices.Refused outcome))) ≡ not done
is_refused outcome true = refl
is_refused outcome false = refl

noticed_one : (r : Reply) → is_some (notice_of r) ≡ not (is_done r)
noticed_one (Wrote outcome) = is_refused outcome (is_write_done outcome)
noticed_one (Denied denial) = refl
noticed_one (Undone number outcome) = refl
noticed_one _ = refl

module _ (site : Site) where
  notice_in-snoc : (w : World) (es : List Event) (e : Event) → notice_in site w (es ++ e ∷ [])
      ≡ last_of (notice_of (step site (end_of site w es) e).reply) (notice_in site w es)
  unfolding notice_in end_of
  notice_in-snoc w [] e = sym (last_none (notice_of (step site w e).reply))
  notice_in-snoc w (x ∷ es) e =
      ap (λ n. last_of n (notice_of (step site w x).reply)) (notice_in-snoc (step site w x).world es e) ∙ last_assoc
      (notice_of (step site (end_of site (step site w x).world es) e).reply) _ _

  -- one event more
  notice_more : (w : World) (es : List Event) (i : ℕ) (e : Event) → i < length es → get_or es i e ≡ e
      → notice_in site w (take (i + 1) es) ≡ last_of (notice_of (step site (end_of site w (take i es)) e).reply)
      (notice_in site w (take i es))
  notice_more w es i e within is = ap (notice_in site w) (take_more es i e within ∙ ap (λ x. take i es ++ x ∷ []) is)
      ∙ notice_in-snoc w (take i es) e

  -- something is noticed where not all are done
  pub is_noticed : (w : World) (es : List Event) → is_some (notice_in site w es) ≡ not (are_done site w es)
  unfolding notice_in are_done
  is_noticed w [] = refl
  is_noticed w (e ∷ es) =
      last_some (notice_in site (step site w e).world es) (notice_of (step site w e).reply)
      ∙ ap (λ b. b || is_some (notice_in site (step site w e).world es)) (noticed_one (step site w e).reply)
      ∙ ap (λ b. not (is_done (step site w e).reply) || b) (is_noticed (step site w e).world es)
      ∙ not_both (is_done (step site w e).reply) (are_done site (step site w e).world es)
    where
      not_both : (a b : Bool) → (not a || not b) ≡ not (a && b)
      not_both true b = refl
      not_both false b = refl

-- ---- a run up to an event

-- the first i events are answered
pub record Running {B : Type 0} (seen : B → Seen) (audience : Audience) (es : List Event) (first : Engine B)
    (start : Option (List ℕ)) (i : ℕ) (now : Engine B) (held : Option (List ℕ)) : Type 0 where
  pub clean : (seen now.base).is_clean → (seen first.base).is_clean
  pub about : (seen now.base).is_clean → (seen now.base).about ≡ (seen first.base).about
  pub count : (seen first.base).failures ≤ (seen now.base).failures
  pub access : ArePermitted seen (site first) es first.base now.base
  pub kept : IsKept seen first now
  pub bytes : (seen now.base).is_clean → Appends start held (printed_to (site first) audience
      (world_of seen first) es i)
  pub world : (seen now.base).is_clean → world_of seen now ≡ world_after (site first) (world_of seen first) es i
  pub noticed : (seen now.base).is_clean → now.notice ≡ notice_in (site first) (world_of seen first) (take i es)

moved : (P : Site → World → Type 0) (p q : Site) (v w : World) → p ≡ q → v ≡ w → P p v → P q w
moved P p q v w a b h = subst (λ x. P x w) a (subst (P p) b h)

module _ {B : Type 0} (seen : B → Seen) (audience : Audience) (es : List Event) (first : Engine B)
    (start : Option (List ℕ)) where
  pub running_start : IsEngineReady seen first → Running seen audience es first start 0
      (record first { notice = None }) start
  unfolding end_of run_lines notice_in
  running_start ready = record {
    clean = λ c. c;
    about = λ c. refl;
    count = omega arith;
    access = permitted_start seen (site first) es first.base;
    kept = record { site = refl; ready = ready_noted seen first None ready };
    noticed = λ c. refl;
    bytes = λ c. subst (Appends start start) (sym (nothing_heard (site_labels (site first)) audience.reader))
        (Appends-nil start);
    world = λ c. refl;
  }

  abbrev w : World
  w = world_of seen first

  abbrev to : ℕ → List ℕ
  to = printed_to (site first) audience w es

  abbrev at : ℕ → World
  at = world_after (site first) w es

  module _ (i : ℕ) (now : Engine B) (held : Option (List ℕ)) (r : Running seen audience es first start i now held)
      (e : Event) (within : i < length es) (is : get_or es i e ≡ e) (new : Engine B) (after : Option (List ℕ))
      (clean : (seen new.base).is_clean → (seen now.base).is_clean) where
    same_site : site now ≡ site first
    same_site = ap site_of_run r.kept.site

    -- with the accesses of one event more
    pub access_more : IsPermitted seen (site now) e now.base new.base
        → ArePermitted seen (site first) es first.base new.base
    access_more one = permitted_more seen (site first) es first.base i e within is now.base new.base
        (subst (λ at. IsPermitted seen at e now.base new.base) same_site one) r.access

    pub running_more : (seen now.base).failures ≤ (seen new.base).failures
        → IsPermitted seen (site now) e now.base new.base → ((seen new.base).is_clean → (seen new.base).about
        ≡ (seen now.base).about) → IsKept seen now new
        → ((seen new.base).is_clean → IsEventAnswered (site now) audience (world_of seen now) e held after
        (world_of seen new))
        → ((seen new.base).is_clean → new.notice ≡ last_of
        (notice_of (step (site now) (world_of seen now) e).reply) now.notice)
        → Running seen audience es first start (i + 1) new after
    running_more count access about kept answer notice =
        let h : (seen new.base).is_clean → IsEventAnswered (site first) audience (at i) e held after
        (world_of seen new) =
        λ c. moved (λ p v. IsEventAnswered p audience v e held after (world_of seen new)) (site now) (site first)
        (world_of seen now) (at i) same_site (r.world (clean c)) (answer c) in
        record {
          clean = λ c. r.clean (clean c);
          about = λ c. about c ∙ r.about (clean c);
          count = least r.count count;
          access = access_more access;
          kept = record { site = kept.site ∙ r.kept.site; ready = kept.ready };
          bytes = λ c. subst (Appends start after) (sym (printed_more (site first) w es i e within is audience))
              (Appends-trans start held after (to i) _ (r.bytes (clean c)) (h c).bytes);
          world = λ c. (h c).world ∙ sym (end_more (site first) w es i e within is);
          noticed = λ c.
              moved (λ p v. new.notice ≡ last_of (notice_of (step p v e).reply) now.notice) (site now) (site first)
              (world_of seen now) (at i) same_site (r.world (clean c)) (notice c)
              ∙ ap (last_of (notice_of (step (site first) (at i) e).reply)) (r.noticed (clean c))
              ∙ sym (notice_more (site first) w es i e within is);
        }
      where
        least : {a b c : ℕ} → a ≤ b → b ≤ c → a ≤ c
        least h k = omega arith

    left : (done : Bool) → world_of seen new ≡ cond done (step (site first) (at i) e).world (at i) → world_of seen new
        ≡ at (cond done (i + 1) (i + 1 - 1))
    left true h = h ∙ sym (end_more (site first) w es i e within is)
    left false h = h ∙ ap at same
      where
        same : i ≡ i + 1 - 1
        same = omega arith

    stopped_at : (cause : RunCause) (done : Bool) → ((seen new.base).is_clean → IsHalted (site now) audience
        (world_of seen now) e held after (world_of seen new) cause done) → (seen new.base).is_clean
        → IsStopped (site first) audience w es start after (world_of seen new) (record {
          event = i + 1;
          cause = cause;
          done = done;
        })
    stopped_at cause done halt c =
        let h : IsHalted (site first) audience (at i) e held after (world_of seen new) cause done =
        moved (λ p v. IsHalted p audience v e held after (world_of seen new) cause done) (site now) (site first)
        (world_of seen now) (at i) same_site (r.world (clean c)) (halt c) in
        record {
          part = h.reply.part;
          rest = h.reply.rest;
          bytes = subst (λ n. Appends start after (to n ++ h.reply.part)) same (Appends-trans start held after
              (to i) h.reply.part (r.bytes (clean c)) h.reply.appends);
          reply = ap (λ n. (to n ++ h.reply.part) ++ h.reply.rest) (sym same) ∙ append_assoc
              (to i) h.reply.part h.reply.rest ∙ ap (λ l. to i ++ l) h.reply.whole
              ∙ sym (printed_more (site first) w es i e within is audience);
          none = h.none;
          world = left done h.world;
        }
      where
        same : i ≡ i + 1 - 1
        same = omega arith

    pub running_stopped : (f : RunFault) → f.event ≡ i + 1 → ((seen new.base).is_clean → IsHalted (site now) audience
        (world_of seen now) e held after (world_of seen new) f.cause f.done) → (seen new.base).is_clean
        → IsStopped (site first) audience w es start after (world_of seen new) f
    running_stopped f number halt c =
        subst (IsStopped (site first) audience w es start after (world_of seen new))
        (λ j. record { event = sym number j; cause = f.cause; done = f.done })
        (stopped_at f.cause f.done halt c)
