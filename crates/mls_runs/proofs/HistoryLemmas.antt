-- Histories grow by runs at their end, over the files of one store.
use Rattle.std.proofs.Common.{◌≡◌, ℕ, ◌+◌, ◌-◌, if◌then◌else◌, List, [], ◌∷◌, ◌++◌, map, length, Option, Some, None, Result, Ok, Err, OnOk, IfErr, IfSome, refl, sym, ap, subst, ◌∙◌, arith, append-nil, append_assoc, length-append}
use Rattle.std.specs.List.{AllByRecursion, concat}
use Rattle.std.specs.Io.KnownBytes.{Appends}
use Rattle.std.proofs.KnownBytes.{Appends-trans}
use Rattle.std.proofs.lemmas.List.{map-append, length-map}
use Rattle.sqlite_disk.specs.declared.Disk.{Ghosts}
use Rattle.sqlite_disk.specs.declared.Files.{Files}
use Rattle.sqlite.specs.Files.{image_of}
use Rattle.sqlite.specs.WalReads.{AreClean}
use Rattle.mls_lattice.specs.Labels.{Labels, AreDistinct}
use Rattle.mls_lattice.specs.Policy.{Policy, labels_of}
use Rattle.mls_lattice.proofs.EachLemmas.{all_append, all_take}
use Rattle.mls_scheme.specs.Scheme.{Schemes}
use Rattle.mls_scheme.specs.declared.file.SchemesFile.{SchemesFile}
use Rattle.mls_filterview.specs.Content.{Content}
use Rattle.mls_audit.specs.Sound.{IsSoundContent}
use Rattle.mls_fragments.specs.Again.{AreRefused}
use Rattle.mls_fragments.specs.Holdings.{holdings_of}
use Rattle.mls_fragments.proofs.AgainLemmas.{kept_is_taken}
use Rattle.mls_fragments.proofs.HoldingsLemmas.{sound_is_taken}
use Rattle.mls_certcheck.specs.Secure.{AreStored}
use Rattle.mls_translang.specs.declared.event.Event.{Event}
use Rattle.mls_machine.specs.declared.form.Audience.{Audience}
use Rattle.mls_certcheck.specs.declared.stored.Stored.{Stored}
use Rattle.mls_certcheck.specs.Site.{Site, AreCertified, site_of}
use Rattle.mls_machine.specs.Machine.{World}
use Rattle.mls_machine.specs.Output.{run_lines, printed}
use Rattle.mls_machine.specs.Observation.{EventsFit, heard}
use Rattle.mls_machine.specs.History.{RunAt, settled, run_at, run_start, run_end, turning_lines, history_end, history_lines, history_bytes, HistoryFits, IsHistoryUnder, IsSiteUnder, ShowsOnlyReleasesInHistory}
use Rattle.mls_machine.proofs.HistoryLemmas.{histories_keep, accepted_histories, histories_show}
use Rattle.mls_translang.specs.declared.run_fault.RunFault.{RunFault}
use Rattle.mls_runs.specs.Running.{IsRun}
use Rattle.mls_runs.specs.declared.history.Run.{Run}
use Rattle.mls_runs.specs.declared.history.HistoryCause.{HistoryCause}
use Rattle.mls_runs.specs.declared.history.HistoryCause.TheVariants.{Unopened, Stopped, NotClosed}
use Rattle.mls_fragments.specs.Based.{BaseState, state_of}
use Rattle.mls_runs.specs.History.{run_to, IsHistory, run_of, cause_of, IsPrepared, world_of, IsHistoryRun, KeepContent, BeginsIn, AreRunsKept, AreRunsOver, IsRunAfter, IsBrokenOff, IsHistoryFault}

-- ---- runs behind others

end_more : (w : World) (rs ss : List RunAt) → history_end w (rs ++ ss) ≡ history_end (history_end w rs) ss
unfolding history_end
end_more w [] ss = refl
end_more w (r ∷ rs) ss = end_more (run_end w r) rs ss

bytes_more : (ls : Labels) (audience : Audience) (w : World) (rs ss : List RunAt)
    → concat (history_bytes ls audience w (rs ++ ss)) ≡ concat (history_bytes ls audience w rs)
    ++ concat (history_bytes ls audience (history_end w rs) ss)
unfolding history_end history_lines
bytes_more ls audience w [] ss = refl
bytes_more ls audience w (r ∷ rs) ss =
    let here = printed (heard ls audience.reader (turning_lines w r ++ run_lines audience.form r.site
    (run_start w r) r.events)) in
    ap (λ l. here ++ l) (bytes_more ls audience (run_end w r) rs ss)
    ∙ sym (append_assoc here (concat (history_bytes ls audience (run_end w r) rs))
    (concat (history_bytes ls audience (history_end (run_end w r) rs) ss)))

bytes_none : (ls : Labels) (audience : Audience) (w : World) → concat (history_bytes ls audience w []) ≡ []
unfolding history_lines
bytes_none ls audience w = refl

bytes_one : (ls : Labels) (audience : Audience) (w : World) (site : Site) (es : List Event)
    → concat (history_bytes ls audience w (run_at site es ∷ []))
    ≡ printed (heard ls audience.reader (run_lines audience.form site w es))
unfolding history_lines
bytes_one ls audience w site es = append-nil (printed (heard ls audience.reader (run_lines audience.form site w es)))

end_none : (w : World) → history_end w [] ≡ w
unfolding history_end
end_none w = refl

end_one : (w : World) (r : RunAt) → history_end w (r ∷ []) ≡ run_end w r
unfolding history_end
end_one w r = refl

-- what is written of a run may be told of otherwise
told : (site : Site) (audience : Audience) (es : List Event) (P Q : List ℕ → Type 0) (end : Result (Unit {0}) RunFault)
    (first left : Content) → ((bs : List ℕ) → P bs → Q bs)
    → IsRun site audience es P end first left → IsRun site audience es Q end first left
told site audience es P Q (Ok u) first left f h = record {
  written = f _ h.written;
  left_by = h.left_by;
  sound =
      h.sound;
  integrity = h.integrity;
  secret = h.secret;
  shown = h.shown;
}
told site audience es P Q (Err fault) first left f h = record {
  written = record {
    part = h.written.part;
    rest = h.written.rest;
    written = f _ h.written.written;
    whole =
        h.written.whole;
    none = h.written.none;
    is = h.written.is;
  };
  left_by = h.left_by;
  sound = h.sound;
  integrity = h.integrity;
  secret = h.secret;
  shown = h.shown;
}

-- ---- runs that are prepared

module _ (policy : Policy) (schemes : Schemes) where
  -- at a site of the labels and the schemes, where what is stored was checked, and the events fit
  abbrev pub IsReady : RunAt → Type 0
  IsReady r = IsSiteUnder (labels_of policy) schemes r.site × EventsFit r.site r.events × AreCertified r.site

  abbrev pub AreReady : List RunAt → Type 0
  AreReady = AllByRecursion IsReady

  abbrev pub runs_at : List Run → List RunAt
  runs_at = map (run_of policy schemes)

  pub ready_run : (run : Run) → IsPrepared policy schemes run → IsReady (run_of policy schemes run)
  ready_run run h = (record { labels = refl; relations = refl; read = h.read }, h.fits, h.certified)

  -- so is a run up to where it stopped
  ready_to : (r : RunAt) (end : Result (Unit {0}) RunFault) → IsReady r → IsReady (run_to r end)
  ready_to r (Ok u) h = h
  ready_to r (Err fault) h = (h.0, all_take _ r.events (if fault.done then fault.event else fault.event - 1) h.1, h.2)

  under : (rs : List RunAt) → AreReady rs → IsHistoryUnder (labels_of policy) schemes rs
  under [] h = tt
  under (r ∷ rs) h = (h.0.0, under rs h.1)

  fit : (rs : List RunAt) → AreReady rs → HistoryFits rs
  fit [] h = tt
  fit (r ∷ rs) h = (h.0.1, fit rs h.1)

  certified : (rs : List RunAt) → AreReady rs → AllByRecursion (λ (r : RunAt). AreCertified r.site) rs
  certified [] h = tt
  certified (r ∷ rs) h = (h.0.2, certified rs h.1)

  stored_of : (c : Content) → IsSoundContent policy schemes c → AreStored (labels_of policy) schemes c.db
  stored_of c sound = λ relation. (sound.content relation).stored

  module _ (distinct : AreDistinct (labels_of policy)) where
    -- a history is known by what it leaves
    history_is : (rs : List RunAt) (first left : Content) → AreReady rs → IsSoundContent policy schemes first
        → history_end (world_of policy first) rs ≡ world_of policy left
        → IsHistory (labels_of policy) schemes rs (world_of policy first) (world_of policy left)
    history_is rs first left h sound leaves = record {
      left_by = leaves;
      integrity = histories_keep (labels_of policy) schemes distinct (world_of policy first) rs (stored_of first sound)
          (under rs h) (fit rs h);
      secret = accepted_histories (labels_of policy) schemes distinct (world_of policy first) rs (stored_of first sound)
          (under rs h) (fit rs h) (certified rs h);
    }

    -- and its bytes are shown to one reader alone, if there is one
    history_run : (audience : Audience) (rs : List RunAt) (Wrote : List ℕ → Type 0) (first left : Content) → AreReady rs
        → IsSoundContent policy schemes first
        → Wrote (concat (history_bytes (labels_of policy) audience (world_of policy first) rs))
        → history_end (world_of policy first) rs ≡ world_of policy left
        → IsSoundContent policy schemes left → IsHistoryRun policy schemes audience rs Wrote first left
    history_run audience rs Wrote first left h sound wrote leaves sound_left =
        let is = history_is rs first left h sound leaves in
        let shown : (o : Option ℕ) → IfSome o (λ c. ShowsOnlyReleasesInHistory (labels_of policy) schemes c
        (world_of policy first) rs)
        = λ o. elim o as (λ x. IfSome x (λ c. ShowsOnlyReleasesInHistory (labels_of policy) schemes c
        (world_of policy first) rs)) [
          | None ↦ tt
          | Some c ↦ histories_show (labels_of policy) schemes (world_of policy first) rs is.secret c
        ] in
        record { begins = sound; written = wrote; history = is; sound = sound_left; shown = shown audience.reader }

    no_runs : (audience : Audience) (Wrote : List ℕ → Type 0) (first : Content) → IsSoundContent policy schemes first
        → Wrote [] → IsHistoryRun policy schemes audience [] Wrote first first
    no_runs audience Wrote first sound wrote =
        history_run audience [] Wrote first first tt sound
        (subst Wrote (sym (bytes_none (labels_of policy) audience (world_of policy first))) wrote)
        (end_none (world_of policy first)) sound

    module _ (stored : List Stored) (events : List Event) (audience : Audience)
        (ready : IsReady (run_at (site_of policy schemes stored) events)) where
      abbrev At : RunAt
      At = run_at (site_of policy schemes stored) events

      -- what a run leaves without its sessions
      left_world : (Wrote : List ℕ → Type 0) (end : Result (Unit {0}) RunFault) (first left : Content)
          → IsRun At.site audience events Wrote end first left → run_end (world_of policy first) (run_to At end)
          ≡ world_of policy left
      left_world Wrote end first left r = ap settled (sym r.left_by.1)

      one_run : (Wrote : List ℕ → Type 0) (first left : Content) → IsSoundContent policy schemes first
          → IsRun At.site audience events Wrote (Ok tt) first left → IsHistoryRun policy schemes audience
          (At ∷ []) Wrote first left
      one_run Wrote first left sound r =
          history_run audience (At ∷ []) Wrote first left (ready, tt) sound
          (subst Wrote (sym (bytes_one (labels_of policy) audience
          (world_of policy first) At.site events)) r.written)
          (end_one (world_of policy first) At ∙ left_world Wrote (Ok tt) first left r) r.sound

      -- with whole runs before it, up to where it stopped
      stands_behind : (rs : List RunAt) (P Wrote : List ℕ → Type 0) (end : Result (Unit {0}) RunFault)
          (first last left : Content) → AreReady rs → IsHistoryRun policy schemes audience rs P first last
          → IsRun At.site audience events Wrote end last left
          → IsHistory (labels_of policy) schemes (rs ++ run_to At end ∷ []) (world_of policy first)
          (world_of policy left)
      stands_behind rs P Wrote end first last left h before r =
          let w = world_of policy first in
          let s = run_to At end in
          history_is (rs ++ s ∷ []) first left (all_append IsReady rs (s ∷ []) h (
            ready_to At end ready,
            tt,
          )) before.begins
          (end_more w rs (s ∷ []) ∙ end_one (history_end w rs) s ∙ ap (λ v. run_end v s) before.history.left_by
          ∙ left_world Wrote end last left r)

    -- whole runs behind others
    runs_more : (audience : Audience) (rs ss : List RunAt) (P Q R : List ℕ → Type 0) (first mid left : Content)
        → AreReady rs → AreReady ss → ((xs ys : List ℕ) → P xs → Q ys → R (xs ++ ys))
        → IsHistoryRun policy schemes audience rs P first mid → IsHistoryRun policy schemes audience ss Q mid left
        → IsHistoryRun policy schemes audience (rs ++ ss) R first left
    runs_more audience rs ss P Q R first mid left ready later f h k =
        let ls = labels_of policy in
        let w = world_of policy first in
        let bytes = bytes_more ls audience w rs ss ∙ ap (λ v. concat (history_bytes ls audience w rs)
        ++ concat (history_bytes ls audience v ss)) h.history.left_by in
        history_run audience (rs ++ ss) R first left (all_append IsReady rs ss ready later) h.begins
        (subst R (sym bytes) (f _ _ h.written k.written))
        (end_more w rs ss ∙ ap (λ v. history_end v ss) h.history.left_by ∙ k.history.left_by) k.sound

-- what is written of whole runs may be told of otherwise
told_runs : (policy : Policy) (schemes : Schemes) (audience : Audience) (rs : List RunAt) (P Q : List ℕ → Type 0)
    (first left : Content)
    → (P (concat (history_bytes (labels_of policy) audience (world_of policy first) rs))
    → Q (concat (history_bytes (labels_of policy) audience (world_of policy first) rs)))
    → IsHistoryRun policy schemes audience rs P first left → IsHistoryRun policy schemes audience rs Q first left
told_runs policy schemes audience rs P Q first left f h = record {
  begins = h.begins;
  written = f h.written;
  history =
      h.history;
  sound = h.sound;
  shown = h.shown;
}

-- ---- one run over files

module _ {D : Type 0} (g : Ghosts D) (policy : Policy) (file : SchemesFile) (audience : Audience)
    (distinct : AreDistinct (labels_of policy)) (start now : Files D) (stored : List Stored) (events : List Event)
    (Wrote : List ℕ → Type 0) (first left : Content) (ready : IsReady policy file.schemes
    (run_at (site_of policy file.schemes stored) events)) (sound : IsSoundContent policy file.schemes first) where
  abbrev One : RunAt
  One = run_at (site_of policy file.schemes stored) events

  -- it begins with what is found in the files
  abbrev pub Ran : Result (Unit {0}) RunFault → Type 0
  Ran end = BeginsIn g policy file start first × IsRun One.site audience events Wrote end first left

  pub run_alone : (end : Result (Unit {0}) RunFault) → Ran end
      → IsRunAfter g policy file audience start [] One Wrote end left
  run_alone end ran =
      let before = no_runs policy file.schemes distinct audience (λ text. [] ≡ text) first sound refl in record {
        first = first;
        last = first;
        bytes = [];
        begins = ran.0;
        before = before;
        run = ran.1;
        stands = stands_behind policy file.schemes distinct stored events audience ready [] (λ text. []
            ≡ text) Wrote end first first left tt before ran.1;
      }

  -- and its files are closed
  pub closed_whole : (outcome : Result (Unit {0}) RunFault) (r : Result (Unit {0}) HistoryCause) → r ≡ cause_of outcome
      → (AreClean g now.log now.db → Ran outcome × KeepContent g now left)
      → OnOk r (AreRunsOver g policy file audience start (One ∷ []) Wrote now)
  closed_whole (Ok u) r is k = subst (λ x. OnOk x (AreRunsOver g policy file audience start (One ∷ []) Wrote now))
      (sym is)
      (λ clean. let so = k clean in record {
        first = first;
        left = left;
        begins = so.0.0;
        runs =
            one_run policy file.schemes distinct stored events audience ready Wrote first left sound so.0.1;
        kept =
            so.1;
      })
  closed_whole (Err fault) r is k = subst (λ x. OnOk x (AreRunsOver g policy file audience start (One ∷ []) Wrote now))
      (sym is) tt

  pub closed_broken : (unclosed : Option BaseState) (outcome : Result (Unit {0}) RunFault)
      (r : Result (Unit {0}) HistoryCause) → r ≡ cause_of outcome
      → (AreClean g now.log now.db → Ran outcome × KeepContent g now left)
      → IfErr r (IsBrokenOff g policy file audience start [] One Wrote now unclosed)
  closed_broken unclosed (Ok u) r is k =
      subst (λ x. IfErr x (IsBrokenOff g policy file audience start [] One Wrote now unclosed)) (sym is) tt
  closed_broken unclosed (Err fault) r is k =
      subst (λ x. IfErr x (IsBrokenOff g policy file audience start [] One Wrote now unclosed)) (sym is) (λ clean. let so = k clean in (left, run_alone (Err fault) so.0, so.1))

-- ---- behind others

module _ {D : Type 0} (g : Ghosts D) (policy : Policy) (file : SchemesFile) (audience : Audience)
    (distinct : AreDistinct (labels_of policy)) (start : Files D) where
  -- whole runs end with what the next begins with
  reached : (rs : List RunAt) (Wrote : List ℕ → Type 0) (mid : Files D)
      → AreRunsOver g policy file audience start rs Wrote mid → (next : Content) → BeginsIn g policy file mid next
      → IsSoundContent policy file.schemes next
      → (first : Content) × BeginsIn g policy file start first
      × IsHistoryRun policy file.schemes audience rs Wrote first next
  reached [] Wrote mid over next begins sound = (
    next,
    subst (λ (f : Files D). BeginsIn g policy file f next) over.1 begins,
    no_runs policy file.schemes distinct audience Wrote next sound over.0,
  )
  reached (r ∷ rs) Wrote mid over next begins sound =
      let h = over begins.0 in
      let again = kept_is_taken policy file (image_of g mid)
      (holdings_of h.kept.0 h.left) next h.kept.1.seen.both begins.1 in
      let same : next ≡ h.left = sound_is_taken policy file (holdings_of h.kept.0 h.left)
      (holdings_of again.0 next) h.runs.sound again.1 in
      (h.first, h.begins, subst (IsHistoryRun policy file.schemes audience (r ∷ rs) Wrote h.first) (sym same) h.runs)

  over_some : (rs : List RunAt) (r : RunAt) (Wrote : List ℕ → Type 0) (now : Files D) → (AreClean g now.log now.db
      → AreRunsKept g policy file audience start (rs ++ r ∷ []) Wrote now)
      → AreRunsOver g policy file audience start (rs ++ r ∷ []) Wrote now
  over_some [] r Wrote now k = k
  over_some (s ∷ rs) r Wrote now k = k

  -- nothing more is written
  over_nothing : (rs : List RunAt) (a b c : Option (List ℕ)) (now : Files D) → Appends b c []
      → AreRunsOver g policy file audience start rs (Appends a b) now → AreRunsOver g policy file audience start rs
      (Appends a c) now
  over_nothing [] a b c now none over = (Appends-trans a b c [] [] over.0 none, over.1)
  over_nothing (r ∷ rs) a b c now none over = λ clean.
      let h = over clean in
      let bytes = concat (history_bytes (labels_of policy) audience (world_of policy h.first) (r ∷ rs)) in record {
        first = h.first;
        left = h.left;
        begins = h.begins;
        runs = told_runs policy file.schemes audience (r ∷ rs) (Appends a b) (Appends a c) h.first h.left
            (λ w. subst (Appends a c) (append-nil bytes) (Appends-trans a b c bytes [] w none)) h.runs;
        kept = h.kept;
      }

  module _ (rs : List RunAt) (stored : List Stored) (events : List Event) (a b c : Option (List ℕ)) (mid now : Files D)
      (ready : AreReady policy file.schemes rs)
      (fits : IsReady policy file.schemes (run_at (site_of policy file.schemes stored) events))
      (over : AreRunsOver g policy file audience start rs (Appends a b) mid) where
    abbrev Next : RunAt
    Next = run_at (site_of policy file.schemes stored) events

    -- a whole run more
    pub whole_more : AreRunsOver g policy file audience mid (Next ∷ []) (Appends b c) now
        → AreRunsOver g policy file audience start (rs ++ Next ∷ []) (Appends a c) now
    whole_more one = over_some rs Next (Appends a c) now (λ clean.
        let h = one clean in
        let so = reached rs (Appends a b) mid over h.first h.begins h.runs.begins in record {
          first = so.0;
          left = h.left;
          begins = so.1;
          runs = runs_more policy file.schemes distinct audience rs (Next ∷ []) (Appends a b) (Appends b c)
              (Appends a c) so.0 h.first h.left ready (fits, tt) (λ xs ys. Appends-trans a b c xs ys) so.2 h.runs;
          kept = h.kept;
        })

    run_more : (end : Result (Unit {0}) RunFault) (left : Content) → IsRunAfter g policy file audience mid [] Next
        (Appends b c) end left → IsRunAfter g policy file audience start rs Next (Appends a c) end left
    run_more end left h =
        let ls = labels_of policy in
        let so = reached rs (Appends a b) mid over h.first h.begins h.before.begins in
        let bytes = concat (history_bytes ls audience (world_of policy so.0) rs) in
        let empty : h.bytes ≡ [] = h.before.written ∙ bytes_none ls audience (world_of policy h.first) in
        let before = told_runs policy file.schemes audience (rs ++ []) (Appends a b) (λ text. bytes ≡ text) so.0 h.last
        (λ w. ap (λ xs. concat (history_bytes ls audience (world_of policy so.0) xs)) (sym (append-nil rs)))
        (runs_more policy file.schemes distinct audience rs [] (Appends a b) (λ text. h.bytes ≡ text)
        (Appends a b) so.0 h.first h.last ready tt (λ xs ys w e. subst (Appends a b) (sym (append-nil xs)
        ∙ ap (λ l. xs ++ l) (sym empty ∙ e)) w) so.2 h.before) in
        let whole = subst (λ xs. IsHistoryRun policy file.schemes audience xs (λ text. bytes ≡ text) so.0 h.last)
        (append-nil rs) before in
        let wrote : (part : List ℕ) → Appends b c (h.bytes ++ part) → Appends a c (bytes ++ part) =
        λ part w. Appends-trans a b c bytes part so.2.written (subst (λ l. Appends b c (l ++ part)) empty w) in
        let run = told Next.site audience events (λ part. Appends b c (h.bytes ++ part))
        (λ part. Appends a c (bytes ++ part)) end h.last left wrote h.run in
        record {
          first = so.0;
          last = h.last;
          bytes = bytes;
          begins = so.1;
          before = whole;
          run = run;
          stands = stands_behind policy file.schemes distinct stored events audience fits rs (λ text. bytes ≡ text)
              (λ part. Appends a c (bytes ++ part)) end so.0 h.last left ready whole run;
        }

    -- or one that breaks the history off
    pub broken_more : (unclosed : Option BaseState) (cause : HistoryCause)
        → IsBrokenOff g policy file audience mid [] Next (Appends b c) now unclosed cause
        → IsBrokenOff g policy file audience start rs Next (Appends a c) now unclosed cause
    broken_more unclosed (Unopened fault) h = record {
      was = mid;
      runs = over_nothing rs a b c mid h.runs.0 over;
      refused = subst (λ (f : Files D). AreRefused g policy file f fault now) h.runs.1 h.refused;
    }
    broken_more unclosed (Stopped fault) h = λ clean. let k = h clean in (k.0, run_more (Err fault) k.0 k.1, k.2)
    broken_more None NotClosed h = absurd h
    broken_more (Some base) NotClosed h = record {
      run = λ clean. let k = h.run clean in (k.0, run_more k.0 (state_of base).now k.1);
      files = h.files;
    }

-- ---- runs in order

ready_front : (policy : Policy) (schemes : Schemes) (xs : List Run) (y : Run) (ys : List Run)
    → AllByRecursion (IsPrepared policy schemes) (xs ++ y ∷ ys) → AreReady policy schemes (runs_at policy schemes xs)
    × IsReady policy schemes (run_of policy schemes y)
ready_front policy schemes [] y ys h = (tt, ready_run policy schemes y h.0)
ready_front policy schemes (x ∷ xs) y ys h = let rest = ready_front policy schemes xs y ys h.1
    in ((ready_run policy schemes x h.0, rest.0), rest.1)

-- some of the runs are done, and the others are to come
pub record Goes {D : Type 0} (g : Ghosts D) (policy : Policy) (file : SchemesFile) (audience : Audience)
    (runs : List Run) (start : Files D) (before : Option (List ℕ)) (done rest : List Run) (number : ℕ) (now : Files D)
    (after : Option (List ℕ)) : Type 0 where
  pub all : done ++ rest ≡ runs
  pub count : number ≡ length done
  pub over : AreRunsOver g policy file audience start (runs_at policy file.schemes done) (Appends before after) now

module _ {D : Type 0} (g : Ghosts D) (policy : Policy) (file : SchemesFile) (audience : Audience) (runs : List Run)
    (start : Files D) (before : Option (List ℕ)) where
  pub goes_whole : (done rest : List Run) (number : ℕ) (now : Files D) (after : Option (List ℕ))
      → Goes g policy file audience runs start before done rest number now after → rest ≡ []
      → AreRunsOver g policy file audience start (runs_at policy file.schemes runs) (Appends before after) now
  goes_whole done rest number now after h empty =
      subst (λ rs. AreRunsOver g policy file audience start (runs_at policy file.schemes rs) (Appends before after) now)
      (sym (append-nil done) ∙ ap (λ rs. done ++ rs) (sym empty) ∙ h.all) h.over

  module _ (distinct : AreDistinct (labels_of policy)) (prepared : AllByRecursion (IsPrepared policy file.schemes) runs)
      (done rest : List Run) (run : Run) (number : ℕ) (mid now : Files D) (after last : Option (List ℕ))
      (h : Goes g policy file audience runs start before done (run ∷ rest) number mid after) where
    ready : AreReady policy file.schemes (runs_at policy file.schemes done) × IsReady policy file.schemes
        (run_of policy file.schemes run)
    ready = ready_front policy file.schemes done run rest (subst (AllByRecursion (IsPrepared policy file.schemes))
        (sym h.all) prepared)

    pub goes_more : AreRunsOver g policy file audience mid (run_of policy file.schemes run ∷ [])
        (Appends after last) now → Goes g policy file audience runs start before (done ++ run ∷ []) rest
        (number + 1) now last
    goes_more one = record {
      all = append_assoc done (run ∷ []) rest ∙ h.all;
      count = ap (λ n. n + 1) h.count ∙ sym (length-append done (run ∷ []));
      over = subst (λ rs. AreRunsOver g policy file audience start rs (Appends before last) now)
          (sym (map-append (run_of policy file.schemes) done (run ∷ [])))
          (whole_more g policy file audience distinct start
          (runs_at policy file.schemes done) run.stored run.events.items before after last mid now ready.0 ready.1 h.over one);
    }

    pub goes_broken : (unclosed : Option BaseState) (cause : HistoryCause) → IsBrokenOff g policy file audience mid []
        (run_of policy file.schemes run) (Appends after last) now unclosed cause
        → IsHistoryFault g policy file audience start (runs_at policy file.schemes runs) (Appends before last) now
        unclosed (record { run = number + 1; cause = cause })
    goes_broken unclosed cause broken = record {
      before = runs_at policy file.schemes done;
      run = run_of policy file.schemes run;
      after = runs_at policy file.schemes rest;
      all = ap (runs_at policy file.schemes) (sym h.all) ∙ map-append (run_of policy file.schemes) done (run ∷ rest);
      number = omega (arith, h.count, length-map done (run_of policy file.schemes));
      broken = broken_more g policy file audience distinct start
          (runs_at policy file.schemes done) run.stored run.events.items before after last mid now ready.0 ready.1 h.over unclosed cause broken;
    }
