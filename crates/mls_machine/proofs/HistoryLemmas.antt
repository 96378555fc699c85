-- Histories, as a level sees them: each run by the law of runs, and what it leaves by the next.
use Rattle.std.proofs.Common.{◌≡◌, ℕ, Bool, true, false, cond, List, [], ◌∷◌, ◌++◌, map, refl, sym, ap, ◌∙◌, subst}
use Rattle.std.specs.Bool.{⊤}
use Rattle.std.specs.List.{AllByRecursion, AllZip}
use Rattle.std.proofs.lemmas.Simd.{map-map}
use Rattle.std.proofs.lemmas.List.Elements.{filter-append}
use Rattle.mls_lattice.specs.Labels.{Labels, AreDistinct, below}
use Rattle.mls_lattice.specs.Policy.{Policy}
use Rattle.mls_scheme.specs.Table.{Database}
use Rattle.mls_scheme.specs.Scheme.{Schemes}
use Rattle.mls_certcheck.specs.Secure as secure
use Rattle.mls_translang.specs.declared.event.Event.{Event}
use Rattle.mls_machine.specs.declared.form.Form.{Form}
use Rattle.mls_certcheck.specs.Site.{Site, site_labels, AreCertified}
use Rattle.mls_machine.specs.Machine.{World, end_of}
use Rattle.mls_machine.specs.Output.{run_lines, printed}
use Rattle.mls_machine.specs.Observation.{AreStored, EventsFit, AreSecure, HaveNoCall, AgreeAt, EndAlike, seen, ReleaseTheSame, out, replies_shown}
use Rattle.mls_machine.specs.Telling.{Test, by_ceiling, by_releases}
use Rattle.mls_machine.specs.Turning.{turn_line, turn_lines, turned, TurnedWorldsAreAlike, TurningsShowTheSame}
use Rattle.mls_machine.specs.History.{RunAt, settled, run_start, run_end, turning_lines, history_end, history_lines, history_replies, KeepsIntegrityInHistory, LookAlike, ReleaseAlikeBy, HistoriesEndAlike, HistoryFits, HistoryHasNoCall, IsSiteUnder, IsHistoryUnder, EachPassesOnlyReleasesDown, HistoriesKeepIntegrity, LowHistoriesAreAlike, SecureHistoriesAreAlike, AcceptedHistoriesAreAlike, HistoriesPassWhatRunsPass, HistoriesShowOnlyReleases}
use Rattle.mls_machine.proofs.ItemLemmas.{filter-map}
use Rattle.mls_machine.proofs.KeepingLemmas.{run_stored, all_calls_read, keep_integrity}
use Rattle.mls_machine.proofs.RunLemmas.{secure_alike, accepted_alike, runs_alike, none_seen, none_secure}
use Rattle.mls_machine.proofs.ToldLemmas.{none_untold, untold_same}

-- ---- turnings

pub turned_alike : TurnedWorldsAreAlike
turned_alike ls c v w h = record { views = h.views; sessions = h.sessions; entries = refl }

pub turned_lines : TurningsShowTheSame
turned_lines p ls c v w h =
    filter-map (λ l. below ls l.label c) (turn_line p) v.audit ∙ ap (map (turn_line p)) h.entries
    ∙ sym (filter-map (λ l. below ls l.label c) (turn_line p) w.audit)

-- the list is turned in both worlds, or in neither
module _ (ls : Labels) (c : ℕ) (v w : World) (h : AgreeAt ls c v w) where
  both_turned : (b : Bool) → AgreeAt ls c (cond b (turned v) v) (cond b (turned w) w)
  both_turned true = turned_alike ls c v w h
  both_turned false = h

  both_lines : (p : Policy) (b : Bool) → out ls c (cond b (turn_lines p v.audit) [])
      ≡ out ls c (cond b (turn_lines p w.audit) [])
  both_lines p true = turned_lines p ls c v w h
  both_lines p false = refl

  starts_alike : (r s : RunAt) → LookAlike c r s → AgreeAt ls c (run_start v r) (run_start w s)
  starts_alike r s look = subst (λ b. AgreeAt ls c (run_start v r) (cond b (turned w) w)) look.turns
      (both_turned r.turns)

  turnings_alike : (r s : RunAt) → LookAlike c r s → out ls c (turning_lines v r) ≡ out ls c (turning_lines w s)
  turnings_alike r s look = both_lines r.site.policy r.turns
      ∙ (λ i. out ls c (cond (look.turns i) (turn_lines (look.site i).policy w.audit) []))

-- a turning leaves the database
start_stored : (P : Database → Type 0) (w : World) (b : Bool) → P w.db → P (cond b (turned w) w).db
start_stored P w true h = h
start_stored P w false h = h

-- ---- runs

settled_alike : {ls : Labels} {c : ℕ} {v w : World} → AgreeAt ls c v w → AgreeAt ls c (settled v) (settled w)
settled_alike h = record { views = h.views; sessions = λ l n b. refl; entries = h.entries }

-- a run from v passes nothing down but what it releases, to any other run of which so much is known
abbrev Passes : Test → (List Event → Type 0) → World → RunAt → Type 0
Passes tells Other v r =
    (c : ℕ) (w : World) (fs : List Event) → AreStored r.site w.db → EventsFit r.site fs → Other fs
    → AgreeAt (site_labels r.site) c v w → seen r.site c r.events ≡ seen r.site c fs
    → ReleaseTheSame tells c r.site v r.events r.site w fs
    → EndAlike r.site c v w r.events fs

abbrev EachPasses : Test → (List Event → Type 0) → World → List RunAt → Type 0
EachPasses tells Other v [] = ⊤
EachPasses tells Other v (r ∷ rs) = Passes tells Other (run_start v r) r × EachPasses tells Other (run_end v r) rs

-- nothing is known of it
abbrev Any : List Event → Type 0
Any fs = ⊤

any_other : (ss : List RunAt) → AllByRecursion (λ s. Any s.events) ss
any_other [] = tt
any_other (s ∷ ss) = (tt, any_other ss)

module _ (ls : Labels) (schemes : Schemes) (distinct : AreDistinct ls) where
  -- ---- one run under the labels and the schemes

  module _ (site : Site) (under : IsSiteUnder ls schemes site) where
    distinct_at : AreDistinct (site_labels site)
    distinct_at = subst AreDistinct (sym under.labels) distinct

    stored_at : (db : Database) → secure.AreStored ls schemes db → AreStored site db
    stored_at db h = subst (λ l. secure.AreStored l site.schemes db) (sym under.labels)
        (subst (λ s. secure.AreStored ls s db) (sym under.relations) h)

    stored_back : (db : Database) → AreStored site db → secure.AreStored ls schemes db
    stored_back db h = subst (λ s. secure.AreStored ls s db) under.relations
        (subst (λ l. secure.AreStored l site.schemes db) under.labels h)

    stored_end : (w : World) (es : List Event) → EventsFit site es → secure.AreStored ls schemes w.db
        → secure.AreStored ls schemes (end_of site w es).db
    stored_end w es fits h = stored_back _ (run_stored site distinct_at w es (stored_at w.db h) fits
        (all_calls_read site distinct_at under.read es))

  start_at : (w : World) (r : RunAt) → secure.AreStored ls schemes w.db → secure.AreStored ls schemes (run_start w r).db
  start_at w r h = start_stored (secure.AreStored ls schemes) w r.turns h

  -- ---- two runs

  record RunsEnd (c : ℕ) (v w : World) (r s : RunAt) : Type 0 where
    pub lines : (form : Form) → out ls c (turning_lines v r ++ run_lines form r.site (run_start v r) r.events)
        ≡ out ls c (turning_lines w s ++ run_lines form s.site (run_start w s) s.events)
    pub replies : replies_shown r.site c (run_start v r) r.events ≡ replies_shown s.site c (run_start w s) s.events
    pub world : AgreeAt ls c (run_end v r) (run_end w s)

  runs_end : (tells : Test) (Other : List Event → Type 0) (c : ℕ) (r s : RunAt) (v w : World)
      → IsSiteUnder ls schemes r.site → LookAlike c r s → Passes tells Other (run_start v r) r
      → secure.AreStored ls schemes w.db → EventsFit s.site s.events → Other s.events → AgreeAt ls c v w
      → ReleaseTheSame tells c r.site (run_start v r) r.events s.site (run_start w s) s.events → RunsEnd c v w r s
  runs_end tells Other c r s v w under look passes sw fits other agree released =
      let x = run_start v r in let y = run_start w s in
      let end = passes c y s.events (stored_at r.site under y.db (start_at w s sw)) (subst (λ at. EventsFit at s.events)
      (sym look.site) fits) other
      (subst (λ l. AgreeAt l c x y) (sym under.labels) (starts_alike ls c v w agree r s look))
      look.events
      (subst (λ at. ReleaseTheSame tells c r.site x r.events at y s.events) (sym look.site) released) in
      let ran : (form : Form) → out ls c (run_lines form r.site x r.events)
      ≡ out ls c (run_lines form s.site y s.events)
      = λ form. ap (λ l. out l c (run_lines form r.site x r.events)) (sym under.labels) ∙ end.out form
      ∙ (λ i. out (under.labels i) c (run_lines form (look.site i) y s.events)) in
      record {
        lines = λ form. filter-append (λ l. below ls l.label c) (turning_lines v r) (run_lines form r.site x r.events)
            ∙ (λ i. turnings_alike ls c v w agree r s look i ++ ran form i)
            ∙ sym (filter-append (λ l. below ls l.label c) (turning_lines w s) (run_lines form s.site y s.events));
        replies = end.replies ∙ (λ i. replies_shown (look.site i) c y s.events);
        world = settled_alike
            (subst (λ at. AgreeAt ls c (end_of r.site x r.events) (end_of at y s.events)) look.site
            (subst (λ l. AgreeAt l c (end_of r.site x r.events) (end_of r.site y s.events)) under.labels end.worlds));
      }

  -- ---- run by run

  alike : (tells : Test) (Other : List Event → Type 0) (c : ℕ) (rs ss : List RunAt) (v w : World)
      → IsHistoryUnder ls schemes rs → EachPasses tells Other v rs
      → secure.AreStored ls schemes w.db → HistoryFits ss → AllByRecursion (λ s. Other s.events) ss
      → AgreeAt ls c v w → AllZip (LookAlike c) rs ss → ReleaseAlikeBy tells c v w rs ss
      → HistoriesEndAlike ls c v w rs ss
  unfolding history_end history_lines history_replies
  alike tells Other c [] [] v w under passes sw fits other agree look released = record {
    lines = λ form. refl;
    replies =
        refl;
    worlds = agree;
  }
  alike tells Other c [] (s ∷ ss) v w under passes sw fits other agree look released = absurd look
  alike tells Other c (r ∷ rs) [] v w under passes sw fits other agree look released = absurd look
  alike tells Other c (r ∷ rs) (s ∷ ss) v w under passes sw fits other agree look released =
      let end = runs_end tells Other c r s v w under.0 look.0 passes.0 sw fits.0 other.0 agree released.0 in
      let left = stored_end s.site (subst (IsSiteUnder ls schemes) look.0.site under.0) (run_start w s) s.events fits.0
      (start_at w s sw) in
      let rest = alike tells Other c rs ss (run_end v r)
      (run_end w s) under.1 passes.1 left fits.1 other.1 end.world look.1 released.1 in
      record {
        lines = λ form. λ i. end.lines form i ∷ rest.lines form i;
        replies = λ i. end.replies i ∷ rest.replies i;
        worlds = rest.worlds;
      }

  -- ---- what is known of each run

  secure_pass : (v : World) (rs : List RunAt) → secure.AreStored ls schemes v.db → IsHistoryUnder ls schemes rs
      → HistoryFits rs → AllByRecursion (λ r. AreSecure r.site) rs → EachPasses by_ceiling Any v rs
  secure_pass v [] sv under fits safe = tt
  secure_pass v (r ∷ rs) sv under fits safe = (
    (λ c w fs sw ff other agree same released.
        secure_alike r.site (distinct_at r.site under.0) under.0.read safe.0 (run_start v r) r.events
        (stored_at r.site under.0 (run_start v r).db (start_at v r sv)) fits.0 c w fs sw ff agree same released),
    secure_pass (run_end v r) rs (stored_end r.site under.0 (run_start v r) r.events fits.0
        (start_at v r sv)) under.1 fits.1 safe.1,
  )

  plain_pass : (v : World) (rs : List RunAt) → secure.AreStored ls schemes v.db → IsHistoryUnder ls schemes rs
      → HistoryFits rs → HistoryHasNoCall rs → EachPasses by_ceiling HaveNoCall v rs
  plain_pass v [] sv under fits plain = tt
  plain_pass v (r ∷ rs) sv under fits plain = (
    (λ c w fs sw ff other agree same released.
        runs_alike r.site (distinct_at r.site under.0) (run_start v r) r.events (stored_at r.site under.0
        (run_start v r).db (start_at v r sv)) fits.0 (none_secure r.site r.events plain.0) c w fs sw ff
        (none_secure r.site fs other) (none_seen r.site c r.events plain.0) agree same),
    plain_pass (run_end v r) rs (stored_end r.site under.0 (run_start v r) r.events fits.0
        (start_at v r sv)) under.1 fits.1 plain.1,
  )

  any_pass : (v : World) (rs : List RunAt) → EachPassesOnlyReleasesDown v rs → EachPasses by_releases Any v rs
  any_pass v [] passes = tt
  any_pass v (r ∷ rs) passes = (
    (λ c w fs sw ff other agree same released. passes.0 c w fs sw ff agree same released),
    any_pass (run_end v r) rs passes.1,
  )

  accepted_pass : (v : World) (rs : List RunAt) → secure.AreStored ls schemes v.db → IsHistoryUnder ls schemes rs
      → HistoryFits rs → AllByRecursion (λ r. AreCertified r.site) rs → EachPassesOnlyReleasesDown v rs
  accepted_pass v [] sv under fits certified = tt
  accepted_pass v (r ∷ rs) sv under fits certified = (
    accepted_alike r.site (distinct_at r.site under.0) under.0.read certified.0 (run_start v r) r.events
        (stored_at r.site under.0 (run_start v r).db (start_at v r sv)) fits.0,
    accepted_pass (run_end v r) rs (stored_end r.site under.0 (run_start v r) r.events fits.0
        (start_at v r sv)) under.1 fits.1 certified.1,
  )

  integrity : (v : World) (rs : List RunAt) → secure.AreStored ls schemes v.db → IsHistoryUnder ls schemes rs
      → HistoryFits rs → KeepsIntegrityInHistory v rs
  integrity v [] sv under fits = tt
  integrity v (r ∷ rs) sv under fits = (
    keep_integrity r.site (distinct_at r.site under.0) under.0.read (run_start v r) r.events (stored_at r.site under.0
        (run_start v r).db (start_at v r sv)) fits.0,
    integrity (run_end v r) rs (stored_end r.site under.0 (run_start v r) r.events fits.0
        (start_at v r sv)) under.1 fits.1,
  )

-- no call reads anything
plain_release : (tells : Test) (c : ℕ) (v w : World) (rs ss : List RunAt) → HistoryHasNoCall rs
    → AllZip (LookAlike c) rs ss → ReleaseAlikeBy tells c v w rs ss
plain_release tells c v w [] ss plain look = tt
plain_release tells c v w (r ∷ rs) [] plain look = tt
plain_release tells c v w (r ∷ rs) (s ∷ ss) plain look = (
  subst (λ at. ReleaseTheSame tells c r.site (run_start v r) r.events at (run_start w s) s.events) look.0.site
      (untold_same tells r.site c (run_start v r) r.events (run_start w s) s.events look.0.events
      (none_untold tells r.site c (seen r.site c r.events) (none_seen r.site c r.events plain.0))),
  plain_release tells c (run_end v r) (run_end w s) rs ss plain.1 look.1,
)

-- ---- the laws

pub histories_keep : HistoriesKeepIntegrity
histories_keep ls schemes distinct v rs sv under fits = integrity ls schemes distinct v rs sv under fits

pub low_histories : LowHistoriesAreAlike
low_histories ls schemes distinct v rs sv under fits plain c w ss sw other_fits other agree look =
    alike ls schemes distinct by_ceiling HaveNoCall c rs ss v w under
    (plain_pass ls schemes distinct v rs sv under fits plain) sw other_fits other agree look
    (plain_release by_ceiling c v w rs ss plain look)

pub secure_histories : SecureHistoriesAreAlike
secure_histories ls schemes distinct v rs sv under fits safe c w ss sw other_fits agree look released =
    alike ls schemes distinct by_ceiling Any c rs ss v w under
    (secure_pass ls schemes distinct v rs sv under fits safe) sw other_fits (any_other ss) agree look released

pub histories_pass : HistoriesPassWhatRunsPass
histories_pass ls schemes distinct v rs under passes c w ss sw other_fits agree look released =
    alike ls schemes distinct by_releases Any c rs ss v w under (any_pass ls schemes distinct v rs passes) sw other_fits
    (any_other ss) agree look released

pub accepted_histories : AcceptedHistoriesAreAlike
accepted_histories ls schemes distinct v rs sv under fits certified =
    histories_pass ls schemes distinct v rs under (accepted_pass ls schemes distinct v rs sv under fits certified)

pub histories_show : HistoriesShowOnlyReleases
histories_show ls schemes v rs passes c form w ss sw fits agree look released =
    sym (map-map printed (out ls c) (history_lines form v rs)) ∙ ap (map printed)
    ((passes c w ss sw fits agree look released).lines form) ∙ map-map printed (out ls c) (history_lines form w ss)
