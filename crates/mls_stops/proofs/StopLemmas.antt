-- Runs and shells that stop: what is written is a first part of what the events show that stand.
use Rattle.std.proofs.Common.{◌≡◌, ◌≢◌, ℕ, zero, suc, ◌-◌, Bool, true, false, cond, true≢false, List, [], ◌∷◌, ◌++◌, take, Result, Ok, Err, refl, sym, ap, ◌∙◌, subst, append-nil}
use Rattle.mls_filterview.specs.Content.{Content}
use Rattle.mls_translang.specs.declared.event.Event.{Event}
use Rattle.mls_translang.specs.declared.run_fault.RunCause.TheVariants.{Write}
use Rattle.mls_translang.specs.declared.run_fault.RunFault.{RunFault}
use Rattle.mls_certcheck.specs.Site.{Site}
use Rattle.mls_machine.specs.declared.form.Form.{Form}
use Rattle.mls_machine.specs.declared.form.Audience.{Audience}
use Rattle.mls_machine.specs.Observation.{PassesOnlyReleasesDown}
use Rattle.mls_machine.specs.Showing.{reader_of}
use Rattle.mls_host.specs.Hosting.{Hosted}
use Rattle.mls_host.specs.declared.job.Setting.{Setting}
use Rattle.mls_runs.specs.Explaining.{Explaining}
use Rattle.mls_runs.specs.Running.{first_world, form_of, output, IsStopped, IsWritten, IsRun, standing}
use Rattle.mls_runs.specs.ScriptRun.{audience_of, site_of_setting}
use Rattle.mls_runs.specs.declared.shell_session.ShellSession.{ShellSession}
use Rattle.mls_runs.specs.Shell.{audience_at, opening, events_in}
use Rattle.mls_runs.specs.ShellRun.{shell_session_of}
use Rattle.mls_stops.specs.SoFar.{IsFirstPart}
use Rattle.mls_stops.specs.Stops.{AreWrittenAlike, StandAlike, WriteTheSameSoFar, TellTheSameSoFar}
use Rattle.mls_stops.proofs.SoFarLemmas.{agree_parts, runs_agree}

-- what was written, a first part of this
abbrev pub IsWrittenOf : (List ℕ → Type 0) → List ℕ → Type 0
IsWrittenOf W whole = (text : List ℕ) × W text × IsFirstPart text whole

module _ (site : Site) (audience : Audience) (first : Content) (es : List Event) (W : List ℕ → Type 0) where
  stopped_part : (fault : RunFault) (done : Bool) → fault.done ≡ done → IsStopped site audience first es W fault
      → IsWrittenOf W (output site audience first (take (cond done fault.event (fault.event - 1)) es))
  stopped_part fault true is h = (
    output site audience first (take (fault.event - 1) es) ++ h.part,
    h.written,
    (h.rest, h.whole),
  )
  stopped_part fault false is h =
      let no_write : fault.cause ≢ Write = λ write. true≢false (sym (h.is.write write) ∙ is) in (
        output site audience first (take (fault.event - 1) es) ++ h.part,
        h.written,
        (
          [],
          append-nil _ ∙ ap (λ l. output site audience first (take (fault.event - 1) es) ++ l) (h.none no_write)
              ∙ append-nil _,
        ),
      )

  pub written_part : (end : Result (Unit {0}) RunFault) → IsWritten site audience first es W end
      → IsWrittenOf W (output site audience first (standing es end))
  written_part (Ok u) h = (output site audience first es, h, ([], append-nil _))
  written_part (Err fault) h = stopped_part fault fault.done refl h

-- first parts of a first part
first_of_first : {A : Type 0} (n m : ℕ) (xs : List A) → (k : ℕ) × (take n (take m xs) ≡ take k xs)
first_of_first zero m xs = (zero, refl)
first_of_first (suc n) zero xs = (zero, refl)
first_of_first (suc n) (suc m) [] = (zero, refl)
first_of_first (suc n) (suc m) (x ∷ xs) = let r = first_of_first n m xs in (suc r.0, ap (λ l. x ∷ l) r.1)

-- ---- two runs

module _ (site : Site) (c : ℕ) (form : Form) (W V : List ℕ → Type 0) (end over : Result (Unit {0}) RunFault) where
  runs_written : (first left other left_2 : Content) (es fs : List Event)
      → IsRun site (reader_of c form) es W end first left → IsRun site (reader_of c form) fs V over other left_2
      → StandAlike site c first (standing es end) other (standing fs over) → AreWrittenAlike W V
  runs_written first left other left_2 es fs r s alike =
      let one = written_part site (reader_of c form) first es W end r.written in
      let two = written_part site (reader_of c form) other fs V over s.written in (
        one.0,
        two.0,
        one.1,
        two.1,
        agree_parts one.0 two.0 (output site (reader_of c form) first (standing es end))
            (output site (reader_of c form) other (standing fs over)) one.2 two.2
            (runs_agree site c (first_world site first) (standing es end) (secret_first end) (first_world site other)
            (standing fs over) alike form),
      )
    where
      secret_first : (end : Result (Unit {0}) RunFault) (n : ℕ) → PassesOnlyReleasesDown site (first_world site first)
          (take n (standing es end))
      secret_first (Ok u) n = r.secret n
      secret_first (Err fault) n =
          let k = first_of_first n (cond fault.done fault.event (fault.event - 1)) es in
          subst (PassesOnlyReleasesDown site (first_world site first)) (sym k.1) (r.secret k.0)

pub write_so_far : (h : Hosted) (W : List ℕ → Type 0) (k : Hosted) (V : List ℕ → Type 0) → WriteTheSameSoFar h W k V
write_so_far h W k V i j c is_table store other end over reader setting x y stored was is alike =
    let site = site_of_setting i.setting x.stored in
    let p = x.run was in
    let q = y.run is in
    let r : IsRun site (reader_of c (form_of is_table)) i.events W end p.first p.left
    = subst (λ o. IsRun site (record {
      reader = o;
      form =
          form_of is_table;
    }) i.events W end p.first p.left) reader p.leads in
    let at_stored = subst (λ ss. IsRun (site_of_setting j.setting ss)
    (audience_of j.setting is_table) j.events V over q.first q.left) stored q.leads in
    let at_setting = subst (λ (t : Setting). IsRun (site_of_setting t x.stored)
    (audience_of t is_table) j.events V over q.first q.left) setting at_stored in
    let s : IsRun site (reader_of c (form_of is_table)) j.events V over q.first q.left
    = subst (λ o. IsRun site (record {
      reader = o;
      form =
          form_of is_table;
    }) j.events V over q.first q.left) reader at_setting in
    runs_written site c (form_of is_table) W V end over p.first p.left q.first q.left i.events j.events r s alike

-- ---- two shells

pub tell_so_far : (x : Explaining) (h : Hosted) (W T : List ℕ → Type 0) (k : Hosted) (V U : List ℕ → Type 0)
    → TellTheSameSoFar x h W T k V U
tell_so_far x h W T k V U i j store other label user end over setting term watched silent silent_2 a b stored level was is alike =
    let site = site_of_setting i.setting a.stored in
    let who = shell_session_of label user a.level h.before.is_terminal h.before.is_watched in
    let p = a.shell was in
    let q = b.shell is in
    let later = q.leads.talk in
    let es : List Event = opening who ∷ events_in p.leads.talk.turns in
    let P : Site → ShellSession → Type 0 = λ (s : Site) (w : ShellSession). IsRun s (audience_at w)
    (opening w ∷ events_in later.turns) V later.run_end q.first q.left in
    let sites : site_of_setting j.setting b.stored ≡ site = λ n. site_of_setting (setting n) (stored n) in
    let whos : shell_session_of label user b.level k.before.is_terminal k.before.is_watched ≡ who =
    λ n. shell_session_of label user (level n) (term n) (watched n) in
    let s : P site who = subst (P site) whos (subst
    (λ (s : Site). P s (shell_session_of label user b.level k.before.is_terminal k.before.is_watched)) sites
    (q.leads.run silent_2)) in
    runs_written site a.level (form_of who.has_prompt) W V p.leads.talk.run_end later.run_end p.first p.left q.first q.left es (opening who ∷ events_in later.turns) (p.leads.run silent) s alike
