-- Desks that stop: what is written is a first part of what lines show whose events stand.
use Rattle.std.proofs.Common.{◌≡◌, ◌≢◌, ℕ, suc, Bool, true, false, true≢false, cond, not, ◌&&◌, List, [], ◌∷◌, ◌++◌, length, take, Option, Result, Ok, Err, refl, sym, ap, ◌∙◌, subst, inl, inr, append_assoc, append-nil, arith}
use Rattle.std.specs.List.{list_all, concat}
use Rattle.std.proofs.lemmas.List.Elements.{filter-append}
use Rattle.std.proofs.lemmas.Grind.{flat_map-append}
use Rattle.mls_lattice.specs.Labels.{below}
use Rattle.mls_filterview.specs.Content.{Content}
use Rattle.mls_translang.specs.declared.event.Event.{Event}
use Rattle.mls_translang.specs.declared.run_fault.RunCause.TheVariants.{Write}
use Rattle.mls_translang.specs.declared.run_fault.RunFault.{RunFault}
use Rattle.mls_certcheck.specs.Site.{Site, site_labels}
use Rattle.mls_machine.specs.Machine.{World, step, end_of}
use Rattle.mls_machine.specs.Telling.{by_releases}
use Rattle.mls_machine.specs.Observation.{EventsFit, seen, ReleaseTheSame}
use Rattle.mls_machine.specs.Serving.{answer_to, answers_to, served_to, ServesOnlyReleases}
use Rattle.mls_machine.proofs.KeepingLemmas.{first_fit}
use Rattle.mls_host.specs.Hosting.{Hosted}
use Rattle.mls_host.specs.declared.ending.Ending.{Ending}
use Rattle.mls_runs.specs.declared.shell_session.Fate.{Fate}
use Rattle.mls_runs.specs.declared.shell_session.Fate.TheVariants as fates
use Rattle.mls_runs.specs.Running.{first_world}
use Rattle.mls_runs.specs.ScriptRun.{site_of_setting}
use Rattle.mls_runs.specs.Marks.{mark_of}
use Rattle.mls_runs.specs.Shell.{Turn, IsShellTurn, AreLines, whole, long, cut, events_of, events_in, is_lost, IsSilent}
use Rattle.mls_runs.specs.Desk.{IsDeskFate, answer_of, desk, IsCutAt, IsGivenUp, at_line, between, IsEndOf, IsDesk}
use Rattle.mls_stops.specs.SoFar.{IsFirstPart, AgreeSoFar}
use Rattle.mls_stops.specs.Stops.{AreWrittenAlike, StandAlike, heard_turns, ServeTheSameSoFar}
use Rattle.mls_stops.proofs.SoFarLemmas.{part_of_part, agree_parts}

-- ---- lists

head_or : {A : Type 0} → A → List A → A
head_or d [] = d
head_or d (x ∷ xs) = x

tail_of : {A : Type 0} → List A → List A
tail_of [] = []
tail_of (x ∷ xs) = xs

-- lists that are one behind fronts of one length
cancel : {A : Type 0} (ps qs xs ys : List A) → length ps ≡ length qs → ps ++ xs ≡ qs ++ ys → (ps ≡ qs) × (xs ≡ ys)
unfolding tail_of head_or
cancel [] [] xs ys l h = (refl, h)
cancel [] (q ∷ qs) xs ys l h = absurd cc
cancel (p ∷ ps) [] xs ys l h = absurd cc
cancel (p ∷ ps) (q ∷ qs) xs ys l h =
    let less : length ps ≡ length qs = omega (arith, l) in
    let rest = cancel ps qs xs ys less (ap tail_of h) in
    let first : p ≡ q = ap (head_or p) h in
    ((λ i. first i ∷ rest.0 i), rest.1)

both : (a b : Bool) → (a && b) ≡ true → (a ≡ true) × (b ≡ true)
both true b h = (refl, h)
both false b h = absurd (true≢false (sym h))

all_parts : {A : Type 0} (p : A → Bool) (xs ys : List A) → list_all p (xs ++ ys) ≡ true → (list_all p xs ≡ true)
    × (list_all p ys ≡ true)
all_parts p [] ys h = (refl, h)
all_parts p (x ∷ xs) ys h =
    let first = both (p x) (list_all p (xs ++ ys)) h in
    let rest = all_parts p xs ys first.1 in
    (ap (λ b. b && list_all p xs) first.0 ∙ rest.0, rest.1)

one_or_none : {A : Type 0} (b : Bool) (x y : A) (xs ys : List A) → length xs ≡ length ys
    → length (cond b (x ∷ []) [] ++ xs) ≡ length (cond b (y ∷ []) [] ++ ys)
one_or_none true x y xs ys h = ap suc h
one_or_none false x y xs ys h = h

-- ---- lines of sessions whose levels c dominates

module _ (site : Site) (c : ℕ) where
  abbrev Sees : List Event → Type 0
  Sees es = list_all (λ (e : Event). below (site_labels site) e.level c) es ≡ true

  served-append : (w : World) (es fs : List Event) → served_to site c w (es ++ fs) ≡ served_to site c w es
      ++ served_to site c (end_of site w es) fs
  unfolding served_to end_of
  served-append w [] fs = refl
  served-append w (e ∷ es) fs =
      let here = cond (below (site_labels site) e.level c) (answer_to site w e ∷ []) [] in
      ap (λ l. here ++ l) (served-append (step site w e).world es fs) ∙ sym (append_assoc here _ _)

  served_as_many : (v w : World) (es : List Event) → length (served_to site c v es) ≡ length (served_to site c w es)
  unfolding served_to
  served_as_many v w [] = refl
  served_as_many v w (e ∷ es) =
      one_or_none (below (site_labels site) e.level c) (answer_to site v e) (answer_to site w e) _ _
      (served_as_many (step site v e).world (step site w e).world es)

  served_all : (w : World) (es : List Event) → Sees es → answers_to site w es ≡ concat (served_to site c w es)
  unfolding served_to answers_to
  served_all w [] h = refl
  served_all w (e ∷ es) h =
      let first = both (below (site_labels site) e.level c)
      (list_all (λ (e : Event). below (site_labels site) e.level c) es) h in
      let v = (step site w e).world in
      ap (λ l. answer_to site w e ++ l) (served_all v es first.1)
      ∙ ap (λ b. concat (cond b (answer_to site w e ∷ []) [] ++ served_to site c v es)) (sym first.0)

  desk_same : (v w : World) (ts : List Turn) → Sees (events_in ts) → served_to site c v (events_in ts)
      ≡ served_to site c w (events_in ts) → desk site v ts ≡ desk site w ts
  unfolding desk
  desk_same v w [] s h = refl
  desk_same v w (t ∷ ts) s h =
      let es = events_of t.fate in
      let fs = events_in ts in
      let sees = all_parts (λ (e : Event). below (site_labels site) e.level c) es fs s in
      let parts = cancel (served_to site c v es) (served_to site c w es) _ _ (served_as_many v w es)
      (sym (served-append v es fs) ∙ h ∙ served-append w es fs) in
      let first : answers_to site v es ≡ answers_to site w es = served_all v es sees.0 ∙ ap concat parts.0
      ∙ sym (served_all w es sees.0) in
      let rest = desk_same (end_of site v es) (end_of site w es) ts sees.1 parts.1 in
      (λ i. ((t.shown ++ first i) ++ mark_of t.fate) ++ rest i)

module _ (site : Site) where
  end-append : (w : World) (es fs : List Event) → end_of site w (es ++ fs) ≡ end_of site (end_of site w es) fs
  unfolding end_of
  end-append w [] fs = refl
  end-append w (e ∷ es) fs = end-append (step site w e).world es fs

  desk-append : (w : World) (ts us : List Turn) → desk site w (ts ++ us) ≡ desk site w ts ++ desk site
      (end_of site w (events_in ts)) us
  unfolding desk end_of
  desk-append w [] us = refl
  desk-append w (t ∷ ts) us =
      let first = answer_of site w t ++ mark_of t.fate in
      let next = end_of site w (events_of t.fate) in
      ap (λ l. first ++ l) (desk-append next ts us) ∙ sym (append_assoc first _ _)
      ∙ ap (λ (x : World). (first ++ desk site next ts) ++ desk site x us)
      (sym (end-append w (events_of t.fate) (events_in ts)))

  -- a line that is lost shows nothing where none is shown
  abbrev AreQuiet : List Turn → Type 0
  AreQuiet [] = Unit {0}
  AreQuiet (t ∷ ts) = (is_lost t.fate ≡ true → t.shown ≡ []) × AreQuiet ts

  nothing_lost : (fate : Fate) → is_lost fate ≡ true → (events_of fate ≡ []) × (mark_of fate ≡ [])
  nothing_lost (fates.Lost cause) h = (refl, refl)
  nothing_lost (fates.Said events) h = absurd (true≢false (sym h))
  nothing_lost (fates.Refused fault) h = absurd (true≢false (sym h))
  nothing_lost fates.Over h = absurd (true≢false (sym h))
  nothing_lost fates.Blank h = absurd (true≢false (sym h))
  nothing_lost fates.Help h = absurd (true≢false (sym h))
  nothing_lost fates.Asked h = absurd (true≢false (sym h))
  nothing_lost fates.TooLong h = absurd (true≢false (sym h))
  nothing_lost fates.Unreadable h = absurd (true≢false (sym h))

  heard_desk : (w : World) (ts : List Turn) → AreQuiet ts → desk site w ts ≡ desk site w (heard_turns ts)
  unfolding desk end_of answers_to
  heard_desk w [] q = refl
  heard_desk w (t ∷ ts) q = by_loss (is_lost t.fate) refl (λ u. heard_desk u ts q.1)
    where
      by_loss : (b : Bool) → is_lost t.fate ≡ b → ((u : World) → desk site u ts ≡ desk site u (heard_turns ts))
          → desk site w (t ∷ ts) ≡ desk site w (cond (not b) (t ∷ heard_turns ts) (heard_turns ts))
      by_loss false h rest = ap (λ l. (answer_of site w t ++ mark_of t.fate) ++ l)
          (rest (end_of site w (events_of t.fate)))
      by_loss true h rest =
          let none = nothing_lost t.fate h in
          (λ i. ((q.0 h i ++ answers_to site w (none.0 i)) ++ none.1 i) ++ desk site (end_of site w (none.0 i)) ts)
          ∙ rest w

  heard_events : (ts : List Turn) → events_in ts ≡ events_in (heard_turns ts)
  heard_events [] = refl
  heard_events (t ∷ ts) = by_loss (is_lost t.fate) refl (heard_events ts)
    where
      by_loss : (b : Bool) → is_lost t.fate ≡ b → events_in ts ≡ events_in (heard_turns ts) → events_in (t ∷ ts)
          ≡ events_in (cond (not b) (t ∷ heard_turns ts) (heard_turns ts))
      by_loss false h rest = ap (λ l. events_of t.fate ++ l) rest
      by_loss true h rest = ap (λ es. es ++ events_in ts) (nothing_lost t.fate h).0 ∙ rest

-- where no line is shown no turn shows anything
module _ (echo : List ℕ → List ℕ) (silent : IsSilent echo) where
  nothing_in_front : (xs ys : List ℕ) → xs ++ ys ≡ [] → xs ≡ []
  nothing_in_front [] ys h = refl
  nothing_in_front (x ∷ xs) ys h = absurd cc

  shows_nothing : (Fated : List ℕ → Fate → Type 0) (a b : Option (List ℕ)) (t : Turn) → IsShellTurn echo Fated a b t
      → t.shown ≡ []
  shows_nothing Fated a b t (whole n s e f) = e ∙ silent t.line
  shows_nothing Fated a b t (long l e f) = e
  shows_nothing Fated a b t (cut line rest r e k) = nothing_in_front t.shown rest (e ∙ silent line)

  none_shown : (site : Site) (a b : Option (List ℕ)) (ts : List Turn)
      → AreLines echo (IsDeskFate site.policy site.schemes) a b ts → AreQuiet site ts
  unfolding AreLines
  none_shown site a b [] h = tt
  none_shown site a b (t ∷ ts) h = let (left, turn, on, more) = h in (
    (λ lost. shows_nothing _ a left t turn),
    none_shown site left b ts more,
  )

-- ---- what is written

-- a first part of what turns show that are a first part of all, and of which the events stand
record IsWrittenBy (site : Site) (w : World) (turns : List Turn) (kept : List Event) (W : List ℕ
    → Type 0) : Type 0 where
  pub text : List ℕ
  pub wrote : W text
  pub front : List Turn
  pub first : IsFirstPart front turns
  pub stand : kept ≡ events_in front
  pub part : IsFirstPart text (desk site w front)

module _ (site : Site) (w : World) (turns : List Turn) (quiet : (front : List Turn) (last : Turn)
    → turns ≡ front ++ last ∷ [] → last.shown ≡ []) (W : List ℕ → Type 0) where
  last_desk : (front : List Turn) (last : Turn) → desk site w (front ++ last ∷ []) ≡ desk site w front
      ++ (answer_of site (end_of site w (events_in front)) last ++ mark_of last.fate)
  unfolding desk
  last_desk front last = desk-append site w front (last ∷ []) ∙ ap (λ l. desk site w front ++ l) (append-nil _)

  last_events : (front : List Turn) (last : Turn) → events_in (front ++ last ∷ []) ≡ events_in front
      ++ events_of last.fate
  last_events front last = flat_map-append (λ (t : Turn). events_of t.fate) front (last ∷ []) ∙ ap (λ l. events_in front
      ++ l) (append-nil (events_of last.fate))

  cut_written : (fault : RunFault) (kept : List Event) (h : IsCutAt site w turns W fault kept) (b : Bool) → h.stands ≡ b
      → IsWrittenBy site w turns kept W
  cut_written fault kept h true is = record {
    text = desk site w h.front ++ h.part;
    wrote = h.written;
    front = turns;
    first = ([], append-nil turns);
    stand = h.kept_are ∙ ap (λ b. events_in h.front ++ cond b (events_of h.last.fate) []) is
        ∙ sym (last_events h.front h.last) ∙ ap events_in (sym h.all);
    part = (
      h.rest,
      append_assoc (desk site w h.front) h.part h.rest ∙ ap (λ l. desk site w h.front ++ l) h.whole
          ∙ sym (last_desk h.front h.last) ∙ ap (desk site w) (sym h.all),
    );
  }
  cut_written fault kept h false is =
      let no_write : fault.cause ≢ Write = λ write. true≢false (sym (h.cut.write write) ∙ is) in
      let nothing : h.part ≡ [] = elim (h.cut.other no_write) [
        | inl shown ↦ shown
            ∙ quiet h.front h.last h.all
        | inr more ↦ absurd (true≢false (sym more.2 ∙ is))
      ] in
      record {
        text = desk site w h.front ++ h.part;
        wrote = h.written;
        front = h.front;
        first = (h.last ∷ [], sym h.all);
        stand = h.kept_are ∙ ap (λ b. events_in h.front ++ cond b (events_of h.last.fate) []) is ∙ append-nil
            (events_in h.front);
        part = ([], append-nil _ ∙ ap (λ l. desk site w h.front ++ l) nothing ∙ append-nil _);
      }

  given_up : (fault : RunFault) (kept : List Event) → IsGivenUp site w turns W fault kept
      → IsWrittenBy site w turns kept W
  given_up fault kept (at_line h) = cut_written fault kept h h.stands refl
  given_up fault kept (between memory wrote stand) = record {
    text = desk site w turns;
    wrote = wrote;
    front = turns;
    first = ([], append-nil turns);
    stand = stand;
    part = ([], append-nil _);
  }

  end_written : (left : Option (List ℕ)) (kept : List Event) (end : Result Ending RunFault)
      → IsEndOf site w turns W left kept end → IsWrittenBy site w turns kept W
  end_written left kept (Ok ending) h = record {
    text = desk site w turns;
    wrote = h.0.written;
    front = turns;
    first = ([], append-nil turns);
    stand = h.1;
    part = ([], append-nil _);
  }
  end_written left kept (Err fault) h = given_up fault kept h

-- ---- two desks

take_front : {A : Type 0} (xs more : List A) → take (length xs) (xs ++ more) ≡ xs
take_front [] more = refl
take_front (x ∷ xs) more = ap (λ l. x ∷ l) (take_front xs more)

-- what is a first part is what is taken
taken : {A : Type 0} (xs ys : List A) → IsFirstPart xs ys → take (length xs) ys ≡ xs
taken xs ys h = ap (take (length xs)) (sym h.1) ∙ take_front xs h.0

events_part : (ts us : List Turn) → IsFirstPart ts us → IsFirstPart (events_in ts) (events_in us)
events_part ts us h = (events_in h.0, sym (flat_map-append (λ (t : Turn). events_of t.fate) ts h.0) ∙ ap events_in h.1)

heard_part : (ts us : List Turn) → IsFirstPart ts us → IsFirstPart (heard_turns ts) (heard_turns us)
heard_part ts us h = (
  heard_turns h.0,
  sym (filter-append (λ (t : Turn). not (is_lost t.fate)) ts h.0)
      ∙ ap heard_turns h.1,
)

quiet_part : (site : Site) (ts us : List Turn) → AreQuiet site (ts ++ us) → AreQuiet site ts
quiet_part site [] us h = tt
quiet_part site (t ∷ ts) us h = (h.0, quiet_part site ts us h.1)

-- lines of lists of which what each shows is nothing
last_quiet : (echo : List ℕ → List ℕ) (silent : IsSilent echo) (site : Site) (a b : Option (List ℕ)) (front : List Turn)
    (last : Turn) → AreLines echo (IsDeskFate site.policy site.schemes) a b (front ++ last ∷ []) → last.shown ≡ []
unfolding AreLines
last_quiet echo silent site a b [] last h = let (left, turn, on, more) = h
    in shows_nothing echo silent _ a left last turn
last_quiet echo silent site a b (t ∷ front) last h = let (left, turn, on, more) = h
    in last_quiet echo silent site left b front last more

module _ (echo other_echo : List ℕ → List ℕ) (site : Site) (c : ℕ) (before after before_2 after_2 : Option (List ℕ))
    (Broken Broken_2 : Type 0)
    (W V : List ℕ → Type 0) (end over : Result Ending RunFault) (first left second left_2 : Content)
    (silent : IsSilent echo) (silent_2 : IsSilent other_echo)
    (a : IsDesk echo site before after Broken W end first left)
    (b : IsDesk other_echo site before_2 after_2 Broken_2 V over second left_2)
    (alike : StandAlike site c first a.service.kept second b.service.kept) where
  abbrev v : World
  v = first_world site first

  abbrev w : World
  w = first_world site second

  -- lines whose events stand in both
  same_desk : (ts : List Turn) → IsFirstPart (events_in ts) a.service.kept → IsFirstPart (events_in ts) b.service.kept
      → IsFirstPart (events_in ts) (events_in a.service.turns)
      → Sees site c (events_in ts) → desk site v ts ≡ desk site w ts
  same_desk ts one two all sees =
      let es = events_in ts in
      let n = length es in
      let at_one = taken es a.service.kept one in
      let at_two = taken es b.service.kept two in
      let serves : ServesOnlyReleases site c v es = subst (ServesOnlyReleases site c v)
      (taken es (events_in a.service.turns) all) (a.served c n) in
      desk_same site c v w ts sees
      (serves w es alike.stored (subst (EventsFit site) at_two
      (first_fit site n b.service.kept alike.fits)) alike.agree refl
      (subst (λ l. ReleaseTheSame by_releases c site v l site w es) at_one
      (subst (λ l. ReleaseTheSame by_releases c site v (take n a.service.kept) site w l) at_two
      (alike.released_so_far n n (ap (seen site c) (at_one ∙ sym at_two))))))

  desks_written : AgreeSoFar (heard_turns a.service.turns) (heard_turns b.service.turns)
      → Sees site c (events_in a.service.turns) → Sees site c (events_in b.service.turns) → AreWrittenAlike W V
  desks_written agree sees sees_2 =
      let ts = a.service.turns in
      let us = b.service.turns in
      let quiet = none_shown echo silent site before after ts a.service.lines in
      let quiet_2 = none_shown other_echo silent_2 site before_2 after_2 us b.service.lines in
      let x = end_written site v ts (λ front last all. last_quiet echo silent site before after front last
      (subst (AreLines echo (IsDeskFate site.policy site.schemes) before after) all a.service.lines)) W
      after a.service.kept end a.service.written in
      let y = end_written site w us (λ front last all. last_quiet other_echo silent_2 site before_2 after_2 front last
      (subst (AreLines other_echo (IsDeskFate site.policy site.schemes) before_2 after_2) all b.service.lines)) V
      after_2 b.service.kept over b.service.written in
      let quiet_x = quiet_part site x.front x.first.0 (subst (AreQuiet site) (sym x.first.1) quiet) in
      let quiet_y = quiet_part site y.front y.first.0 (subst (AreQuiet site) (sym y.first.1) quiet_2) in
      let p = heard_turns x.front in
      let q = heard_turns y.front in
      let kept_x : a.service.kept ≡ events_in p = x.stand ∙ heard_events site x.front in
      let kept_y : b.service.kept ≡ events_in q = y.stand ∙ heard_events site y.front in
      let desk_x : desk site v x.front ≡ desk site v p = heard_desk site v x.front quiet_x in
      let desk_y : desk site w y.front ≡ desk site w q = heard_desk site w y.front quiet_y in
      let in_x : IsFirstPart (events_in p) (events_in ts) = subst (λ es. IsFirstPart es (events_in ts))
      (heard_events site x.front) (events_part x.front ts x.first) in
      let in_y : IsFirstPart (events_in q) (events_in us) = subst (λ es. IsFirstPart es (events_in us))
      (heard_events site y.front) (events_part y.front us y.first) in
      let sees_x : Sees site c (events_in p) = (all_parts (λ (e : Event). below (site_labels site) e.level c)
      (events_in p) in_x.0 (subst (Sees site c) (sym in_x.1) sees)).0 in
      let sees_y : Sees site c (events_in q) = (all_parts (λ (e : Event). below (site_labels site) e.level c)
      (events_in q) in_y.0 (subst (Sees site c) (sym in_y.1) sees_2)).0 in
      let texts : AgreeSoFar (desk site v x.front) (desk site w y.front)
      = elim (agree_parts p q (heard_turns ts) (heard_turns us) (heard_part x.front ts x.first)
      (heard_part y.front us y.first) agree) [
        | inl part ↦
            let events = events_part p q part in
            let same = same_desk p ([], append-nil _ ∙ sym kept_x) (events.0, events.1 ∙ sym kept_y) in_x sees_x in
            inl (
              desk site (end_of site w (events_in p)) part.0,
              ap (λ l. l ++ desk site (end_of site w (events_in p)) part.0) (desk_x ∙ same)
                  ∙ sym (desk-append site w p part.0) ∙ ap (desk site w) part.1 ∙ sym desk_y,
            )
        | inr part ↦
            let events = events_part q p part in
            let same = same_desk q (events.0, events.1 ∙ sym kept_x) ([], append-nil _ ∙ sym kept_y)
            (part_of_part (events_in q) (events_in p) (events_in ts) events in_x) sees_y in
            inr (
              desk site (end_of site v (events_in q)) part.0,
              ap (λ l. l ++ desk site (end_of site v (events_in q)) part.0) (desk_y ∙ sym same)
                  ∙ sym (desk-append site v q part.0) ∙ ap (desk site v) part.1 ∙ sym desk_x,
            )
      ] in (
        x.text,
        y.text,
        x.wrote,
        y.wrote,
        agree_parts x.text y.text (desk site v x.front)
            (desk site w y.front) x.part y.part texts,
      )

pub serve_so_far : (h : Hosted) (W : List ℕ → Type 0) (k : Hosted) (V : List ℕ → Type 0) → ServeTheSameSoFar h W k V
serve_so_far h W k V i j store other c end over setting silent silent_2 a b stored was is agree sees sees_2 alike =
    let site = site_of_setting i.setting a.stored in
    let p = a.desk was in
    let q = b.desk is in
    let P : Site → Type 0 = λ (s : Site). (o : IsDesk k.echo s b.before b.after k.before.breaks V over q.first q.left)
    → AgreeSoFar (heard_turns p.leads.service.turns) (heard_turns o.service.turns)
    → Sees site c (events_in o.service.turns)
    → StandAlike site c p.first p.leads.service.kept q.first o.service.kept → AreWrittenAlike W V in
    let here : P site = λ o in_step seen_2 look.
    desks_written h.echo k.echo site c a.before a.after b.before b.after h.before.breaks k.before.breaks W V end over p.first p.left q.first q.left silent silent_2 p.leads o look in_step sees seen_2 in
    let sites : site_of_setting j.setting b.stored ≡ site = λ n. site_of_setting (setting n) (stored n) in
    (subst P (sym sites) here) q.leads agree sees_2 alike
