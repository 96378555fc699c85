-- Calls over a store are steps of a history.
use Rattle.std.proofs.Common.{◌≡◌, inl, inr, ℕ, zero, suc, ◌-◌, if◌then◌else◌, Bool, true, false, cond, List, [], ◌∷◌, ◌++◌, length, take, Option, Result, Ok, Err, refl, sym, ap, ◌∙◌, subst, append-nil, arith, take_all}
use Rattle.std.proofs.Math.Seq.{take-append_seam}
use Rattle.mls_lattice.specs.Labels.{AreDistinct}
use Rattle.mls_lattice.specs.Policy.{Policy, labels_of}
use Rattle.mls_scheme.specs.Scheme.{Schemes}
use Rattle.mls_filterview.specs.Content.{Content}
use Rattle.mls_audit.specs.Sound.{IsSoundContent}
use Rattle.mls_fragments.specs.Holdings.{Holdings, Takes, holdings_of, made, as_it_was, widened}
use Rattle.mls_fragments.specs.Migrating.{IsWidenedContent, more}
use Rattle.mls_filterview.proofs.WidenLemmas.{view_of_widened_table}
use Rattle.mls_audit.specs.Entry.{visible}
use Rattle.mls_sessions.specs.World.{entries_in}
use Rattle.mls_fragments.proofs.HoldingsLemmas.{sound_is_taken}
use Rattle.mls_translang.specs.declared.event.Event.{Event}
use Rattle.mls_translang.specs.declared.run_fault.RunFault.{RunFault}
use Rattle.mls_certcheck.specs.Site.{Site, site_labels, site_of}
use Rattle.mls_machine.specs.declared.form.Audience.{Audience}
use Rattle.mls_machine.specs.Machine.{World, end_of}
use Rattle.mls_certcheck.specs.Throughout.{Throughout}
use Rattle.mls_certcheck.specs.Stored.{tx_of}
use Rattle.mls_machine.specs.Denying.{fitted}
use Rattle.mls_machine.specs.Laws.{AreWhole, KeepsIntegrity}
use Rattle.mls_machine.specs.Observation.{AreStored, PassesOnlyReleasesDown}
use Rattle.mls_machine.specs.History.{RunAt, settled, run_at, run_start, run_end, history_end, KeepsIntegrityInHistory, EachPassesOnlyReleasesDown, IsHistoryUnder}
use Rattle.mls_machine.proofs.HistoryLemmas.{histories_pass}
use Rattle.mls_machine.proofs.KeepingLemmas.{keep_integrity}
use Rattle.mls_machine.proofs.RunLemmas.{first_accepted_alike}
use Rattle.mls_sessions.specs.Engine.{MayServe}
use Rattle.mls_host.specs.declared.ending.Ending.{Ending}
use Rattle.mls_host.specs.declared.job.Setting.{Setting}
use Rattle.mls_host.specs.Hosting.{Hosted}
use Rattle.mls_runs.specs.Explaining.{Explaining}
use Rattle.mls_runs.specs.Running.{first_world, IsLeftBy, IsRun}
use Rattle.mls_runs.specs.History.{world_of, run_to}
use Rattle.mls_runs.specs.ScriptRun.{site_of_setting}
use Rattle.mls_runs.specs.Shell.{Turn, events_of, events_in}
use Rattle.mls_runs.specs.Desk.{IsDesk, IsEndOf, IsGivenUp, IsCutAt, at_line, between}
use Rattle.mls_runs.specs.TurnRun.{IsTurning}
use Rattle.mls_runs.specs.Steps.{StoreStep, AreStoreSteps, StepsAreHistories, WideningPassesNothingDown, OpeningsAreSteps, CallsAreSteps, CallsAreInTurn, turning_at}
use Rattle.mls_runs.proofs.ShellLemmas.{events-snoc}

-- ---- first events

-- the first of first events are first events
first_of_first : {A : Type 0} (n k : ℕ) (xs : List A) → (m : ℕ) × (take n (take k xs) ≡ take m xs)
first_of_first zero k xs = (zero, refl)
first_of_first (suc n) zero xs = (zero, refl)
first_of_first (suc n) (suc k) [] = (zero, refl)
first_of_first (suc n) (suc k) (x ∷ xs) = let rest = first_of_first n k xs in (suc rest.0, ap (λ l. x ∷ l) rest.1)

integrity_first : (site : Site) (w : World) (es : List Event) (k : ℕ) → KeepsIntegrity site w es
    → KeepsIntegrity site w (take k es)
integrity_first site w es k h = record {
  after = λ n. let m = first_of_first n k es in subst (λ l. AreWhole site (end_of site w l).db) (sym m.1) (h.after m.0);
  within = λ n name args s is. let m = first_of_first n k es in
      subst (λ l. Throughout (site_labels site) site.schemes (tx_of s) (fitted (tx_of s).params args)
      (end_of site w l).db (AreWhole site)) (sym m.1) (h.within m.0 name args s is);
}

-- ---- a history of steps

module _ (policy : Policy) (schemes : Schemes) where
  abbrev Steps : List RunAt → Content → Content → Type 0
  Steps = AreStoreSteps policy schemes

  steps_end : (rs : List RunAt) (first last : Content) → Steps rs first last → history_end (world_of policy first) rs
      ≡ world_of policy last
  unfolding history_end
  steps_end [] first last h = ap (world_of policy) h
  steps_end (r ∷ rs) first last h = ap (λ v. history_end v rs) h.1.left_by ∙ steps_end rs h.0 last h.2

  steps_whole : (rs : List RunAt) (first last : Content) → Steps rs first last
      → KeepsIntegrityInHistory (world_of policy first) rs
  steps_whole [] first last h = tt
  steps_whole (r ∷ rs) first last h = (
    h.1.integrity,
    subst (λ v. KeepsIntegrityInHistory v rs) (sym h.1.left_by)
        (steps_whole rs h.0 last h.2),
  )

  steps_pass : (rs : List RunAt) (first last : Content) → Steps rs first last
      → EachPassesOnlyReleasesDown (world_of policy first) rs
  steps_pass [] first last h = tt
  steps_pass (r ∷ rs) first last h = (
    h.1.secret,
    subst (λ v. EachPassesOnlyReleasesDown v rs) (sym h.1.left_by)
        (steps_pass rs h.0 last h.2),
  )

  steps_under : (rs : List RunAt) (first last : Content) → Steps rs first last
      → IsHistoryUnder (labels_of policy) schemes rs
  steps_under [] first last h = tt
  steps_under (r ∷ rs) first last h = (h.1.site, steps_under rs h.0 last h.2)

pub steps_are_histories : StepsAreHistories
steps_are_histories policy schemes distinct rs first last h = record {
  left_by = steps_end policy schemes rs first last h;
  integrity = steps_whole policy schemes rs first last h;
  secret = histories_pass (labels_of policy) schemes distinct (world_of policy first) rs
      (steps_under policy schemes rs first last h) (steps_pass policy schemes rs first last h);
}

-- ---- a store that is opened under later files

widening_passes : (policy : Policy) (schemes : Schemes) (counts : List ℕ) (first left : Content)
    → IsWidenedContent schemes counts first left → WideningPassesNothingDown policy schemes counts first left
widening_passes policy schemes counts first left w c other next v alike =
    let ls = labels_of policy in
    let seen : List (List ℕ) → _ = λ audit. visible ls c (entries_in (length policy.labels) audit) in
    record {
      views = λ relation t.
          let n = more schemes counts relation in
          let one = view_of_widened_table ls n (first.db relation) (left.db relation) (w.tables relation) c t in
          let two = view_of_widened_table ls n (other.db relation) (next.db relation) (v.tables relation) c t in (
            (λ h. let s = one.0 h in two.1 (s.0, (alike.views relation s.0).0 s.1, s.2)),
            (λ h. let s = two.0 h in one.1 (s.0, (alike.views relation s.0).1 s.1, s.2)),
          );
      sessions = λ level name low. refl;
      entries = ap seen w.audit ∙ alike.entries ∙ sym (ap seen v.audit);
    }

pub openings_are_steps : OpeningsAreSteps
openings_are_steps policy file had now (made none is) sound = inl (ap (λ (h : Holdings). h.content) is
    ∙ sym (ap (λ (h : Holdings). h.content) none))
openings_are_steps policy file had now (as_it_was m meta texts is) sound = inl (ap (λ (h : Holdings). h.content) is)
openings_are_steps policy file had now (widened m labels counts meta extended was wide row) sound =
    inr (
      counts,
      record {
        widened = wide;
        sound = sound;
        secret =
            widening_passes policy file.schemes counts had.content now.content wide;
      },
    )

-- ---- calls

module _ (site : Site) (first left : Content) (may : MayServe site) where
  abbrev w : World
  w = first_world site first

  -- the first of some events lead from the one content to the other
  step_first : (es : List Event) (n : ℕ) (ds : List Event) → ds ≡ take n es → IsLeftBy site first ds left
      → IsSoundContent site.policy site.schemes left → KeepsIntegrity site w es
      → ((n : ℕ) → PassesOnlyReleasesDown site w (take n es)) → StoreStep site.policy site.schemes
      (run_at site ds) first left
  step_first es n ds is leads sound whole secret = record {
    site = record { labels = refl; relations = refl; read = may.read };
    left_by = ap settled (sym leads.1);
    sound = sound;
    integrity = subst (KeepsIntegrity site w) (sym is) (integrity_first site w es n whole);
    secret = subst (PassesOnlyReleasesDown site w) (sym is) (secret n);
  }

  -- a run, up to where it ended or stopped
  step_run : (audience : Audience) (es : List Event) (W : List ℕ → Type 0) (end : Result (Unit {0}) RunFault)
      → IsRun site audience es W end first left → StoreStep site.policy site.schemes
      (run_to (run_at site es) end) first left
  step_run audience es W (Ok u) r = step_first es (length es) es
      (sym (take_all (length es) es (omega arith))) r.left_by r.sound r.integrity r.secret
  step_run audience es W (Err fault) r = step_first es
      (if fault.done then fault.event else fault.event - 1) _ refl r.left_by r.sound r.integrity r.secret

  -- the events of a desk that stand are its first ones
  module _ (echo : List ℕ → List ℕ) (before after : Option (List ℕ)) (Broken : Type 0) (W : List ℕ → Type 0) where
    kept_at : (turns : List Turn) (fault : RunFault) (kept : List Event) → IsCutAt site w turns W fault kept → (n : ℕ)
        × (kept ≡ take n (events_in turns))
    kept_at turns fault kept h = ends h.stands h.kept_are
      where
        es : List Event
        es = events_in h.front

        all : events_in turns ≡ es ++ events_of h.last.fate
        all = ap events_in h.all ∙ events-snoc h.front h.last

        ends : (stands : Bool) → kept ≡ es ++ cond stands (events_of h.last.fate) [] → (n : ℕ)
            × (kept ≡ take n (events_in turns))
        ends true is = (
          length (events_in turns),
          is ∙ sym all ∙ sym (take_all (length (events_in turns))
              (events_in turns) (omega arith)),
        )
        ends false is = (
          length es,
          is ∙ append-nil es ∙ sym (take-append_seam es (events_of h.last.fate))
              ∙ ap (take (length es)) (sym all),
        )

    all_kept : (turns : List Turn) (kept : List Event) → kept ≡ events_in turns → (n : ℕ)
        × (kept ≡ take n (events_in turns))
    all_kept turns kept is = (
      length (events_in turns),
      is ∙ sym (take_all (length (events_in turns)) (events_in turns)
          (omega arith)),
    )

    kept_given_up : (turns : List Turn) (fault : RunFault) (kept : List Event) → IsGivenUp site w turns W fault kept
        → (n : ℕ) × (kept ≡ take n (events_in turns))
    kept_given_up turns fault kept (at_line k) = kept_at turns fault kept k
    kept_given_up turns fault kept (between memory wrote is) = all_kept turns kept is

    kept_first : (turns : List Turn) (kept : List Event) (end : Result Ending RunFault)
        → IsEndOf site w turns W after kept end → (n : ℕ) × (kept ≡ take n (events_in turns))
    kept_first turns kept (Ok ending) h = all_kept turns kept h.1
    kept_first turns kept (Err fault) h = kept_given_up turns fault kept h

    step_desk : (end : Result Ending RunFault) (d : IsDesk echo site before after Broken W end first left)
        → StoreStep site.policy site.schemes (run_at site d.service.kept) first left
    step_desk end d =
        let n = kept_first d.service.turns d.service.kept end d.service.written in
        step_first (events_in d.service.turns) n.0 d.service.kept n.1 d.left_by d.sound d.integrity d.secret

-- an audit list that is turned
module _ (s : Setting) (W : List ℕ → Type 0) (first left : Content) (distinct : AreDistinct (labels_of s.policy)) where
  step_turning : IsTurning s W (Ok tt) first left → StoreStep s.policy s.file.schemes (turning_at s) first left
  unfolding end_of
  step_turning k =
      let site = site_of s.policy s.file.schemes [] in
      let v = run_start (world_of s.policy first) (turning_at s) in
      let stored : AreStored site v.db = subst (λ (c : Content). AreStored site c.db) k.list.1
      (λ relation. (k.sound.content relation).stored) in
      record {
        site = record { labels = refl; relations = refl; read = tt };
        left_by = ap (world_of s.policy) (sym k.list.1);
        sound = k.sound;
        integrity = keep_integrity site distinct tt v [] stored tt;
        secret = first_accepted_alike site distinct tt tt v [] stored tt zero;
      }

pub calls_are_steps : (x : Explaining) (h : Hosted) (W T : List ℕ → Type 0) → CallsAreSteps x h W T
calls_are_steps x h W T = record {
  run = λ i store is_table end a was may. step_run (site_of_setting i.setting a.stored) (a.run was).first
      (a.run was).left may _ i.events W end (a.run was).leads;
  shell = λ silent i store label user end a was may. let k = (a.shell was).leads
      in step_run (site_of_setting i.setting a.stored) (a.shell was).first (a.shell was).left may _ _ W k.talk.run_end
      (k.run silent);
  desk = λ i store end a was may. step_desk (site_of_setting i.setting a.stored) (a.desk was).first
      (a.desk was).left may h.echo a.before a.after h.before.breaks W end (a.desk was).leads;
  turning = λ s store a was distinct. step_turning s W (a.turned was).first (a.turned was).left distinct
      (a.turned was).leads;
  none = λ s store fault a was. sym (a.turned was).leads.list.same;
}

-- ---- one call behind another

pub calls_are_in_turn : (h k : Hosted) → CallsAreInTurn h k
calls_are_in_turn h k path one policy file left next kept sound begins =
    let same : holdings_of kept.0 left ≡ begins.had = one (holdings_of kept.0 left) begins.had kept.1 begins.was in
    let takes : Takes policy file (holdings_of kept.0 left) (holdings_of begins.row next) =
    subst (λ a. Takes policy file a (holdings_of begins.row next)) (sym same) begins.takes in
    sym (sound_is_taken policy file (holdings_of kept.0 left) (holdings_of begins.row next) sound takes)
