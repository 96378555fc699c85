-- Two shells, and two desks, over contents that look alike, show the same.
use Rattle.std.proofs.Common.{◌≡◌, ℕ, suc, ◌+◌, Bool, true, false, true≢false, cond, not, ◌&&◌, ◌||◌, nat_eq, eqb-true, List, [], ◌∷◌, ◌++◌, length, Option, None, is_some, Ok, refl, sym, ap, ◌∙◌, subst, ◌⊎◌, append_assoc, arith, take_all, bytes_eq}
use Rattle.std.specs.List.{list_all, list_any, concat}
use Rattle.mls_lattice.specs.Labels.{below}
use Rattle.mls_lattice.proofs.LatticeLemmas.{below-refl}
use Rattle.mls_filterview.specs.Content.{Content}
use Rattle.mls_translang.specs.declared.event.Event.{Event}
use Rattle.mls_script.specs.declared.fault.ScriptFault.{ScriptFault}
use Rattle.mls_certcheck.specs.Site.{Site, site_labels}
use Rattle.mls_machine.specs.declared.reply.Reply.{Reply}
use Rattle.mls_machine.specs.declared.reply.Reply.TheVariants as replies
use Rattle.mls_machine.specs.Machine.{World, step, end_of}
use Rattle.mls_machine.specs.Observation.{seen, reply_shown, replies_shown, run_shows, EndAlike, ReleaseTheSame, PassesOnlyReleasesDown}
use Rattle.mls_machine.specs.Showing.{ShowsOnlyReleases}
use Rattle.mls_machine.specs.Telling.{by_releases}
use Rattle.mls_machine.proofs.RunLemmas.{none_seen}
use Rattle.mls_machine.proofs.ToldLemmas.{none_untold, untold_same}
use Rattle.mls_machine.specs.Serving.{answer_to, answers_to, served_to, ServesOnlyReleases}
use Rattle.mls_sessions.specs.declared.notice.Notice.{Notice}
use Rattle.mls_sessions.specs.Run.{is_done, are_done, notice_of, last_of, notice_in}
use Rattle.mls_host.specs.declared.ending.Ending.{Ending}
use Rattle.mls_host.specs.Ending.{ending_if}
use Rattle.mls_host.specs.Hosting.{Hosted}
use Rattle.mls_runs.specs.declared.shell_session.ShellSession.{ShellSession}
use Rattle.mls_runs.specs.declared.shell_session.Fate.{Fate}
use Rattle.mls_runs.specs.declared.shell_session.Fate.TheVariants as fates
use Rattle.mls_runs.specs.Explaining.{Explaining, heard_of}
use Rattle.mls_runs.specs.Running.{first_world, form_of, output, IsWritten}
use Rattle.mls_runs.specs.ScriptRun.{site_of_setting}
use Rattle.mls_runs.specs.Marks.{mark_of}
use Rattle.mls_runs.specs.Shell.{Turn, IsShellTurn, IsShellFate, over, help, asked, said, blank, refused, whole, long, cut, IsCut, AreTold, AreAllTold, told_from, tally, is_short, end_told, has_refused, last_told, audience_at, opening, is_own, is_open, is_failed, events_of, events_in, answers, after_opening, verdict_of, verdicts_in, AreTurns, IsSilent, IsShell}
use Rattle.mls_runs.specs.ShellRun.{shell_session_of}
use Rattle.mls_runs.specs.Desk.{desk, IsDesk}
use Rattle.mls_runs.specs.Alike.{LooksAlike, ShowTheSame, TellTheSame, ServeTheSame}
use Rattle.mls_runs.proofs.ShellLemmas.{pipes_told}

-- ---- lists

head_or : {A : Type 0} → A → List A → A
head_or d [] = d
head_or d (x ∷ xs) = x

tail_of : {A : Type 0} → List A → List A
tail_of [] = []
tail_of (x ∷ xs) = xs

-- lists that are one behind fronts of one length
cancel : {A : Type 0} (ps qs xs ys : List A) → length ps ≡ length qs → ps ++ xs ≡ qs ++ ys → (ps ≡ qs) × (xs ≡ ys)
unfolding tail_of head_or
cancel [] [] xs ys l h = (refl, h)
cancel [] (q ∷ qs) xs ys l h = absurd cc
cancel (p ∷ ps) [] xs ys l h = absurd cc
cancel (p ∷ ps) (q ∷ qs) xs ys l h =
    let less : length ps ≡ length qs = omega (arith, l) in
    let rest = cancel ps qs xs ys less (ap tail_of h) in
    let first : p ≡ q = ap (head_or p) h in
    ((λ i. first i ∷ rest.0 i), rest.1)

both : (a b : Bool) → (a && b) ≡ true → (a ≡ true) × (b ≡ true)
both true b h = (refl, h)
both false b h = absurd (true≢false (sym h))

all_parts : {A : Type 0} (p : A → Bool) (xs ys : List A) → list_all p (xs ++ ys) ≡ true → (list_all p xs ≡ true)
    × (list_all p ys ≡ true)
all_parts p [] ys h = (refl, h)
all_parts p (x ∷ xs) ys h =
    let first = both (p x) (list_all p (xs ++ ys)) h in
    let rest = all_parts p xs ys first.1 in
    (ap (λ b. b && list_all p xs) first.0 ∙ rest.0, rest.1)

all_joined : {A : Type 0} (p : A → Bool) (xs ys : List A) → list_all p xs ≡ true → list_all p ys ≡ true
    → list_all p (xs ++ ys) ≡ true
all_joined p [] ys h k = k
all_joined p (x ∷ xs) ys h k =
    let first = both (p x) (list_all p xs) h in
    ap (λ b. b && list_all p (xs ++ ys)) first.0 ∙ all_joined p xs ys first.1 k

one_or_none : {A : Type 0} (b : Bool) (x y : A) (xs ys : List A) → length xs ≡ length ys
    → length (cond b (x ∷ []) [] ++ xs) ≡ length (cond b (y ∷ []) [] ++ ys)
one_or_none true x y xs ys h = ap suc h
one_or_none false x y xs ys h = h

module _ (site : Site) (c : ℕ) where
  -- ---- what sessions are answered, event by event

  served-append : (w : World) (es fs : List Event) → served_to site c w (es ++ fs) ≡ served_to site c w es
      ++ served_to site c (end_of site w es) fs
  unfolding served_to end_of
  served-append w [] fs = refl
  served-append w (e ∷ es) fs =
      let here = cond (below (site_labels site) e.level c) (answer_to site w e ∷ []) [] in
      ap (λ l. here ++ l) (served-append (step site w e).world es fs) ∙ sym (append_assoc here _ _)

  served_as_many : (v w : World) (es : List Event) → length (served_to site c v es) ≡ length (served_to site c w es)
  unfolding served_to
  served_as_many v w [] = refl
  served_as_many v w (e ∷ es) =
      one_or_none (below (site_labels site) e.level c) (answer_to site v e) (answer_to site w e) _ _
      (served_as_many (step site v e).world (step site w e).world es)

  abbrev Sees : List Event → Type 0
  Sees es = list_all (λ (e : Event). below (site_labels site) e.level c) es ≡ true

  served_all : (w : World) (es : List Event) → Sees es → answers_to site w es ≡ concat (served_to site c w es)
  unfolding served_to answers_to
  served_all w [] h = refl
  served_all w (e ∷ es) h =
      let first = both (below (site_labels site) e.level c)
      (list_all (λ (e : Event). below (site_labels site) e.level c) es) h in
      let v = (step site w e).world in
      ap (λ l. answer_to site w e ++ l) (served_all v es first.1)
      ∙ ap (λ b. concat (cond b (answer_to site w e ∷ []) [] ++ served_to site c v es)) (sym first.0)

  desk_same : (v w : World) (ts : List Turn) → Sees (events_in ts) → served_to site c v (events_in ts)
      ≡ served_to site c w (events_in ts) → desk site v ts ≡ desk site w ts
  unfolding desk
  desk_same v w [] s h = refl
  desk_same v w (t ∷ ts) s h =
      let es = events_of t.fate in
      let fs = events_in ts in
      let sees = all_parts (λ (e : Event). below (site_labels site) e.level c) es fs s in
      let parts = cancel (served_to site c v es) (served_to site c w es) _ _ (served_as_many v w es)
      (sym (served-append v es fs) ∙ h ∙ served-append w es fs) in
      let first : answers_to site v es ≡ answers_to site w es = served_all v es sees.0 ∙ ap concat parts.0
      ∙ sym (served_all w es sees.0) in
      let rest = desk_same (end_of site v es) (end_of site w es) ts sees.1 parts.1 in
      (λ i. ((t.shown ++ first i) ++ mark_of t.fate) ++ rest i)

  -- ---- replies to events of levels that c dominates

  replies-append : (w : World) (es fs : List Event) → replies_shown site c w (es ++ fs) ≡ replies_shown site c w es
      ++ replies_shown site c (end_of site w es) fs
  unfolding replies_shown end_of
  replies-append w [] fs = refl
  replies-append w (e ∷ es) fs =
      let here = cond (below (site_labels site) e.level c) (reply_shown (site_labels site) c (step site w e).reply
      ∷ []) [] in
      ap (λ l. here ++ l) (replies-append (step site w e).world es fs) ∙ sym (append_assoc here _ _)

  replies_as_many : (v w : World) (es : List Event) → length (replies_shown site c v es)
      ≡ length (replies_shown site c w es)
  unfolding replies_shown
  replies_as_many v w [] = refl
  replies_as_many v w (e ∷ es) =
      one_or_none (below (site_labels site) e.level c) (reply_shown (site_labels site) c (step site v e).reply)
      (reply_shown (site_labels site) c (step site w e).reply) _ _
      (replies_as_many (step site v e).world (step site w e).world es)

  shown_done : (r : Reply) → is_done (reply_shown (site_labels site) c r) ≡ is_done r
  shown_done (replies.Ran run) = refl
  shown_done _ = refl

  shown_notice : (r : Reply) → notice_of (reply_shown (site_labels site) c r) ≡ notice_of r
  shown_notice (replies.Ran run) = refl
  shown_notice _ = refl

  notice_among : List Reply → Option Notice
  notice_among [] = None
  notice_among (r ∷ rs) = last_of (notice_among rs) (notice_of r)

  done_shown : (w : World) (es : List Event) → Sees es → are_done site w es ≡ list_all is_done
      (replies_shown site c w es)
  unfolding are_done replies_shown
  done_shown w [] h = refl
  done_shown w (e ∷ es) h =
      let first = both (below (site_labels site) e.level c)
      (list_all (λ (e : Event). below (site_labels site) e.level c) es) h in
      let v = (step site w e).world in
      let r = reply_shown (site_labels site) c (step site w e).reply in
      (λ i. sym (shown_done (step site w e).reply) i && done_shown v es first.1 i)
      ∙ ap (λ b. list_all is_done (cond b (r ∷ []) [] ++ replies_shown site c v es)) (sym first.0)

  notice_shown : (w : World) (es : List Event) → Sees es → notice_in site w es
      ≡ notice_among (replies_shown site c w es)
  unfolding notice_in replies_shown notice_among
  notice_shown w [] h = refl
  notice_shown w (e ∷ es) h =
      let first = both (below (site_labels site) e.level c)
      (list_all (λ (e : Event). below (site_labels site) e.level c) es) h in
      let v = (step site w e).world in
      let r = reply_shown (site_labels site) c (step site w e).reply in
      (λ i. last_of (notice_shown v es first.1 i) (sym (shown_notice (step site w e).reply) i))
      ∙ ap (λ b. notice_among (cond b (r ∷ []) [] ++ replies_shown site c v es)) (sym first.0)

  -- ---- lines with such events

  abbrev AreSame : World → World → List Event → Type 0
  AreSame v w es = replies_shown site c v es ≡ replies_shown site c w es

  parts_same : (v w : World) (es fs : List Event) → AreSame v w (es ++ fs) → AreSame v w es × AreSame (end_of site v es)
      (end_of site w es) fs
  parts_same v w es fs h = cancel (replies_shown site c v es) (replies_shown site c w es) _ _ (replies_as_many v w es)
      (sym (replies-append v es fs) ∙ h ∙ replies-append w es fs)

  done_same : (v w : World) (es : List Event) → Sees es → AreSame v w es → are_done site v es ≡ are_done site w es
  done_same v w es s h = done_shown v es s ∙ ap (list_all is_done) h ∙ sym (done_shown w es s)

  notice_same : (v w : World) (es : List Event) → Sees es → AreSame v w es → notice_in site v es ≡ notice_in site w es
  notice_same v w es s h = notice_shown v es s ∙ ap notice_among h ∙ sym (notice_shown w es s)

  module _ (session : ShellSession) where
    verdicts_same : (v w : World) (ts : List Turn) → Sees (events_in ts) → AreSame v w (events_in ts)
        → verdicts_in site session v ts ≡ verdicts_in site session w ts
    unfolding verdicts_in
    verdicts_same v w [] s h = refl
    verdicts_same v w (t ∷ ts) s h =
        let es = events_of t.fate in
        let sees = all_parts (λ (e : Event). below (site_labels site) e.level c) es (events_in ts) s in
        let parts = parts_same v w es (events_in ts) h in
        let first = done_same v w es sees.0 parts.0 in
        let rest = verdicts_same (end_of site v es) (end_of site w es) ts sees.1 parts.1 in
        (λ i. verdict_of (first i) t.fate ∷ rest i)

    told_same : (x : Explaining) (v w : World) (n : ℕ) (ts : List Turn) (text : List ℕ) → Sees (events_in ts)
        → AreSame v w (events_in ts) → AreTold x site session v n ts text → AreTold x site session w n ts text
    unfolding AreTold
    told_same x v w n [] text s h k = k
    told_same x v w n (t ∷ ts) text s h k =
        let es = events_of t.fate in
        let sees = all_parts (λ (e : Event). below (site_labels site) e.level c) es (events_in ts) s in
        let parts = parts_same v w es (events_in ts) h in
        let (rest, is, are) = k.leads in
        record {
          more = k.more;
          none = k.none;
          may = subst (λ m. (k.more ≡ []) ⊎ x.says site session (heard_of t.fate t.line) t.fate m k.more)
              (notice_same v w es sees.0 parts.0) k.may;
          leads = (rest, is, told_same x (end_of site v es) (end_of site w es) (n + 1) ts rest sees.1 parts.1 are);
        }

-- ---- all events of a shell are of its session

own_events : (session : ShellSession) (b : Bool) (events : List Event) (fault : ScriptFault)
    → list_all (is_own session) events ≡ b → list_all (is_own session)
    (events_of (cond b (fates.Said events) (fates.Refused fault))) ≡ true
own_events session true events fault h = h
own_events session false events fault h = refl

module _ (session : ShellSession) where
  abbrev AreOwn : List Event → Type 0
  AreOwn es = list_all (is_own session) es ≡ true

  own_fate : (site : Site) (line : List ℕ) (fate : Fate) → IsShellFate site.policy site.schemes session line fate
      → AreOwn (events_of fate)
  own_fate site line fate (over e f) = ap (λ (y : Fate). list_all (is_own session) (events_of y)) f
  own_fate site line fate (help e f) = ap (λ (y : Fate). list_all (is_own session) (events_of y)) f
  own_fate site line fate (asked e f) = ap (λ (y : Fate). list_all (is_own session) (events_of y)) f
  own_fate site line fate (said events k r f) = ap (λ (y : Fate). list_all (is_own session) (events_of y)) f
      ∙ own_events session (list_all (is_own session) events) events _ refl
  own_fate site line fate (blank k n r f) = ap (λ (y : Fate). list_all (is_own session) (events_of y)) f
  own_fate site line fate (refused fault k r n f) = ap (λ (y : Fate). list_all (is_own session) (events_of y)) f

  own_cut : (fate : Fate) → IsCut fate → AreOwn (events_of fate)
  own_cut (fates.Said events) k = absurd k
  own_cut _ k = refl

  own_turn : (site : Site) (echo : List ℕ → List ℕ) (a b : Option (List ℕ)) (t : Turn)
      → IsShellTurn echo (IsShellFate site.policy site.schemes session) a b t → AreOwn (events_of t.fate)
  own_turn site echo a b t (whole n s e f) = own_fate site t.line t.fate f
  own_turn site echo a b t (long l e f) = ap (λ (y : Fate). list_all (is_own session) (events_of y)) f
  own_turn site echo a b t (cut line rest r e k) = own_cut t.fate k

  own_turns : (site : Site) (echo : List ℕ → List ℕ) (w : World) (a b : Option (List ℕ)) (ts : List Turn)
      → AreTurns echo site session w a b ts → AreOwn (events_in ts)
  unfolding AreTurns
  own_turns site echo w a b [] h = refl
  own_turns site echo w a b (t ∷ ts) h =
      let (left, opened, turn, on, more) = h in
      all_joined (is_own session) (events_of t.fate) (events_in ts) (own_turn site echo a left t turn)
      (own_turns site echo (end_of site w (events_of t.fate)) left b ts more)

  own_seen : (site : Site) (es : List Event) → AreOwn es → Sees site session.level es
  own_seen site [] h = refl
  own_seen site (e ∷ es) h =
      let first = both (is_own session e) (list_all (is_own session) es) h in
      let level : e.level ≡ session.level = eqb-true e.level session.level (both (nat_eq e.level session.level)
      (bytes_eq e.session session.user) first.0).0 in
      ap (λ b. b && list_all (λ (e : Event). below (site_labels site) e.level session.level) es)
      (ap (λ l. below (site_labels site) l session.level) level ∙ below-refl (site_labels site) session.level)
      ∙ own_seen site es first.1

-- ---- two shells

-- what is told where nobody reads it at a terminal
plain_told : (x : Explaining) (site : Site) (session : ShellSession) (w : World) (ts : List Turn) → session.is_watched
    ≡ false → (P : List ℕ → Type 0) (last : List ℕ) → AreAllTold x site session w ts last P
    → P (told_from session 1 ts ++ last)
plain_told x site session w ts plain P last h =
    subst (λ l. P (l ++ last)) (pipes_told x site session (after_opening site session w) 1 ts h.lines plain h.are)
    (subst (λ m. P (m ++ h.lines ++ last)) (h.opening.none plain) h.opening.leads)

opening_tells : (site : Site) (c : ℕ) (v w : World) (session : ShellSession)
    → ReleaseTheSame by_releases c site v (opening session ∷ []) site w (opening session ∷ [])
opening_tells site c v w session =
    let es : List Event = opening session ∷ [] in
    untold_same by_releases site c v es w es refl
    (none_untold by_releases site c (seen site c es) (none_seen site c es (tt, tt)))

module _ (x : Explaining) (echo other_echo : List ℕ → List ℕ) (site : Site) (session : ShellSession)
    (before after before_2 after_2 : Option (List ℕ)) (Broken Broken_2 : Type 0)
    (W T V U : List ℕ → Type 0) (end other : Ending) (first left second left_2 : Content) where
  shells_alike : IsSilent echo → IsSilent other_echo → (a : IsShell x echo site session before after Broken W T
      (Ok end) first left) (b : IsShell x other_echo site session before_2 after_2 Broken_2 V U
      (Ok other) second left_2)
      → b.talk.turns ≡ a.talk.turns → LooksAlike site session.level first (opening session
      ∷ events_in a.talk.turns) second (opening session ∷ events_in a.talk.turns)
      → ShowTheSame x site session a.talk.turns second W T V U end other
  shells_alike silent silent_2 a b same alike =
      let c = session.level in
      let ts = a.talk.turns in
      let es : List Event = opening session ∷ events_in ts in
      let v = first_world site first in
      let w = first_world site second in
      let r = a.run silent in
      let s = b.run silent_2 in
      let secret : PassesOnlyReleasesDown site v es = subst (PassesOnlyReleasesDown site v)
      (take_all (length es) es (omega arith)) (r.secret (length es)) in
      let ends : EndAlike site c v w es es = secret c w es alike.stored alike.fits alike.agree refl alike.released_same
      in
      let opens : EndAlike site c v w (opening session ∷ []) (opening session ∷ []) =
      r.secret 1 c w (opening session ∷ []) alike.stored (alike.fits.0, tt) alike.agree refl
      (opening_tells site c v w session) in
      let is_same : is_open session (after_opening site session v) ≡ is_open session (after_opening site session w)
      = ap is_some (opens.worlds.sessions c session.user (below-refl (site_labels site) c)) in
      let own = own_turns session site echo (after_opening site session v) before after ts a.talk.lines in
      let sees : Sees site c (events_in ts) = own_seen session site (events_in ts) own in
      let parts = parts_same site c v w (opening session ∷ []) (events_in ts) ends.replies in
      let verdicts : verdicts_in site session (after_opening site session v) ts ≡ verdicts_in site session
      (after_opening site session w) ts
      = verdicts_same site c session (after_opening site session v) (after_opening site session w) ts sees parts.1 in
      let refused_same : has_refused site session v ts ≡ has_refused site session w ts =
      (λ i. not (is_same i) || is_short (tally (verdicts i))) in
      let last_same : last_told site session v ts (Ok end) ≡ last_told site session w ts (Ok other) =
      (λ i. end_told session (tally (verdicts i))) in
      let greeting = notice_same site c v w (opening session ∷ [])
      (ap (λ b. b && true) (below-refl (site_labels site) c)) parts.0 in
      let told = a.talk.told in
      let told_2 : AreAllTold x site session w ts (last_told site session w ts (Ok other)) U =
      subst (λ l. AreAllTold x site session w l (last_told site session w l (Ok other)) U) same b.talk.told in
      let shows : run_shows site (audience_at session) v es ≡ run_shows site (audience_at session) w es =
      (subst (ShowsOnlyReleases site c v) (take_all (length es) es (omega arith)) (r.shown (length es)))
      (form_of session.has_prompt) w es alike.stored alike.fits alike.agree refl alike.released_same in
      let wrote : W (output site (audience_at session) first es) =
      subst (IsWritten site (audience_at session) first es W) a.talk.ended.0 r.written in
      let wrote_2 : V (output site (audience_at session) second es) =
      subst (λ l. V (output site (audience_at session) second (opening session ∷ events_in l))) same
      (subst (IsWritten site (audience_at session) second (opening session
      ∷ events_in b.talk.turns) V) b.talk.ended.0 s.written) in
      record {
        written = (output site (audience_at session) first es, wrote, subst V (sym shows) wrote_2);
        told = λ plain. (
          told_from session 1 ts ++ end_told session
              (tally (verdicts_in site session (after_opening site session v) ts)),
          plain_told x site session v ts plain T (last_told site session v ts (Ok end)) told,
          subst (λ l. U (told_from session 1 ts ++ l)) (sym last_same) (plain_told x site session w ts plain U
              (last_told site session w ts (Ok other)) told_2),
        );
        may = record {
          lines = told.lines;
          are = told_same site c session x (after_opening site session v)
              (after_opening site session w) 1 ts told.lines sees parts.1 told.are;
          opening = record {
            more = told.opening.more;
            none = told.opening.none;
            may = subst (λ m. (told.opening.more ≡ []) ⊎ x.greets site session (opening session
                ∷ []) m told.opening.more) greeting told.opening.may;
            leads = subst (λ l. T (told.opening.more ++ told.lines ++ l)) last_same told.opening.leads;
          };
        };
        status = a.talk.ended.1.status ∙ ap ending_if refused_same
            ∙ sym (subst (λ l. other ≡ ending_if (has_refused site session w l)) same b.talk.ended.1.status);
      }

pub tell_the_same : (x : Explaining) (h : Hosted) (W T : List ℕ → Type 0) (k : Hosted) (V U : List ℕ → Type 0)
    → TellTheSame x h W T k V U
tell_the_same x h W T k V U i j store other label user e f setting term watched silent silent_2 a b stored level was is same alike =
    let site = site_of_setting i.setting a.stored in
    let who = shell_session_of label user a.level h.before.is_terminal h.before.is_watched in
    let p = a.shell was in
    let q = b.shell is in
    let turns = p.leads.talk.turns in
    let P : Site → ShellSession → Type 0 = λ (s : Site) (w : ShellSession).
    (o : IsShell x k.echo s w b.before b.after k.before.breaks V U (Ok f) q.first q.left) → o.talk.turns ≡ turns
    → ShowTheSame x site who turns q.first W T V U e f in
    let here : P site who = λ o is_same. shells_alike x h.echo k.echo site who a.before a.after b.before b.after h.before.breaks k.before.breaks W T V U e f p.first p.left q.first q.left silent silent_2 p.leads o is_same alike in
    let sites : site_of_setting j.setting b.stored ≡ site = λ n. site_of_setting (setting n) (stored n) in
    let whos : shell_session_of label user b.level k.before.is_terminal k.before.is_watched ≡ who =
    λ n. shell_session_of label user (level n) (term n) (watched n) in
    (subst (λ (s : Site). P s (shell_session_of label user b.level k.before.is_terminal k.before.is_watched))
    (sym sites) (subst (P site) (sym whos) here)) q.leads same

-- ---- two desks

module _ (echo other_echo : List ℕ → List ℕ) (site : Site) (c : ℕ) (before after before_2 after_2 : Option (List ℕ))
    (Broken Broken_2 : Type 0)
    (W V : List ℕ → Type 0) (end other : Ending) (first left second left_2 : Content) where
  desks_alike : (a : IsDesk echo site before after Broken W (Ok end) first left)
      (b : IsDesk other_echo site before_2 after_2 Broken_2 V (Ok other) second left_2) → b.service.turns
      ≡ a.service.turns
      → Sees site c (events_in a.service.turns) → LooksAlike site c first (events_in a.service.turns) second
      (events_in a.service.turns) → ((text : List ℕ) × W text × V text) × (end ≡ other)
  desks_alike a b same sees alike =
      let ts = a.service.turns in
      let es = events_in ts in
      let v = first_world site first in
      let w = first_world site second in
      let serves : ServesOnlyReleases site c v es = subst (ServesOnlyReleases site c v)
      (take_all (length es) es (omega arith)) (a.served c (length es)) in
      let answers : served_to site c v es ≡ served_to site c w es =
      serves w es alike.stored alike.fits alike.agree refl alike.released_same in
      let texts : desk site v ts ≡ desk site w ts = desk_same site c v w ts sees answers in
      let wrote_2 : V (desk site w ts) = subst (λ l. V (desk site w l)) same b.service.written.0.written in (
        (desk site v ts, a.service.written.0.written, subst V (sym texts) wrote_2),
        a.service.written.0.status ∙ sym (subst (λ l. other
            ≡ ending_if (list_any (λ (t : Turn). is_failed t.fate) l)) same b.service.written.0.status),
      )

pub serve_the_same : (h : Hosted) (W : List ℕ → Type 0) (k : Hosted) (V : List ℕ → Type 0) → ServeTheSame h W k V
serve_the_same h W k V i j store other c e f setting a b stored was is same sees alike =
    let site = site_of_setting i.setting a.stored in
    let p = a.desk was in
    let q = b.desk is in
    let turns = p.leads.service.turns in
    let P : Site → Type 0 = λ (s : Site). (o : IsDesk k.echo s b.before b.after k.before.breaks V (Ok f) q.first q.left)
    → o.service.turns ≡ turns → ((text : List ℕ) × W text × V text) × (e ≡ f) in
    let here : P site = λ o is_same. desks_alike h.echo k.echo site c a.before a.after b.before b.after h.before.breaks k.before.breaks W V e f p.first p.left q.first q.left p.leads o is_same sees alike in
    let sites : site_of_setting j.setting b.stored ≡ site = λ n. site_of_setting (setting n) (stored n) in
    (subst P (sym sites) here) q.leads same
