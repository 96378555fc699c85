-- Desks, line by line: what holds of the lines up to here, and how a desk ends.
use Rattle.std.proofs.Common.{◌≡◌, ◌⊎◌, inl, inr, ℕ, Bool, true, false, true≢false, cond, ◌||◌, List, [], ◌∷◌, ◌++◌, Option, Result, Ok, Err, refl, sym, ap, ◌∙◌, subst, append_assoc, append-nil}
use Rattle.std.specs.List.{list_any}
use Rattle.std.specs.Io.KnownBytes.{Appends}
use Rattle.std.proofs.KnownBytes.{Appends-nil, Appends-trans}
use Rattle.mls_lattice.specs.Policy.{Policy}
use Rattle.mls_scheme.specs.Scheme.{Schemes}
use Rattle.mls_filterview.specs.Content.{Seen}
use Rattle.mls_translang.specs.declared.event.Event.{Event}
use Rattle.mls_certcheck.specs.Site.{Site}
use Rattle.mls_machine.specs.Machine.{World, end_of}
use Rattle.mls_machine.specs.Observation.{EventsFit}
use Rattle.mls_machine.specs.Serving.{answers_to}
use Rattle.mls_sessions.specs.Sessions.{site_of_run}
use Rattle.mls_translang.specs.declared.run_fault.RunCause.TheVariants.{Memory}
use Rattle.mls_translang.specs.declared.run_fault.RunFault.{RunFault}
use Rattle.mls_sessions.specs.declared.engine.Engine.{Engine}
use Rattle.mls_sessions.specs.Engine.{site, world_of, IsEngineReady, IsKept}
use Rattle.mls_host.specs.declared.ending.Ending.{Ending}
use Rattle.mls_host.specs.Ending.{ending_if}
use Rattle.mls_runs.specs.declared.shell_session.Fate.{Fate}
use Rattle.mls_runs.specs.Shell.{Turn, IsShellTurn, AreLines, events_of, events_in, is_last, is_failed, is_lost, FateFits, IsLineRead}
use Rattle.mls_runs.proofs.ShellLemmas.{or_none, end_of-append, events-snoc, any-snoc, none_failed, failed_there}
use Rattle.mls_runs.proofs.TalkLemmas.{AreHeard, heard_more, fits_more, last_line, failed_last}
use Rattle.mls_runs.specs.Marks.{mark_of}
use Rattle.mls_runs.specs.Desk.{IsDeskFate, answer_of, desk, IsCutShort, IsDeskFollowed, IsService, at_line, between}

-- ---- a line more

module _ (site : Site) where
  pub desk-snoc : (w : World) (ts : List Turn) (t : Turn)
      → desk site w (ts ++ t ∷ []) ≡ desk site w ts ++ (answer_of site (end_of site w (events_in ts)) t
      ++ mark_of t.fate)
  unfolding desk end_of
  desk-snoc w [] t = append-nil (answer_of site w t ++ mark_of t.fate)
  desk-snoc w (x ∷ ts) t =
      let here = answer_of site w x ++ mark_of x.fate in
      let v = end_of site w (events_of x.fate) in
      ap (λ l. here ++ l) (desk-snoc v ts t
      ∙ ap (λ u. desk site v ts ++ (answer_of site u t ++ mark_of t.fate))
      (sym (end_of-append site w (events_of x.fate) (events_in ts))))
      ∙ sym (append_assoc here _ _)

  world-snoc : (w : World) (ts : List Turn) (t : Turn) → end_of site (end_of site w (events_in ts)) (events_of t.fate)
      ≡ end_of site w (events_in (ts ++ t ∷ []))
  world-snoc w ts t = sym (ap (end_of site w) (events-snoc ts t) ∙ end_of-append site w (events_in ts)
      (events_of t.fate))

pub lines-snoc : (echo : List ℕ → List ℕ) (IsFateOf : List ℕ → Fate → Type 0) (a b c : Option (List ℕ)) (ts : List Turn)
    (t : Turn) → AreLines echo IsFateOf a b ts → list_any (λ (t : Turn). is_last t.fate) ts ≡ false
    → IsShellTurn echo IsFateOf b c t → AreLines echo IsFateOf a c (ts ++ t ∷ [])
unfolding AreLines
lines-snoc echo IsFateOf a b c [] t h l n = (
  c,
  subst (λ x. IsShellTurn echo IsFateOf x c t) (sym h) n,
  (λ e. absurd (e refl)),
  refl,
)
lines-snoc echo IsFateOf a b c (x ∷ ts) t h l n =
    let (left, turn, on, more) = h in
    let none = or_none (is_last x.fate) (list_any (λ (t : Turn). is_last t.fate) ts) l in
    (left, turn, (λ e. none.0), lines-snoc echo IsFateOf left b c ts t more none.1 n)

-- behind what the line shows
shown_before : (shown answer part : List ℕ) (stands : Bool) (fault : RunFault) → IsCutShort [] answer part stands fault
    → IsCutShort shown answer (shown ++ part) stands fault
shown_before shown answer part stands fault k = record { write = k.write; other = λ n. behind (k.other n) }
  where
    behind : (part ≡ []) ⊎ ((fault.cause ≡ Memory) × (part ≡ answer) × (stands ≡ true)) → (shown ++ part ≡ shown)
        ⊎ ((fault.cause ≡ Memory) × (shown ++ part ≡ shown ++ answer) × (stands ≡ true))
    behind (inl none) = inl (ap (λ l. shown ++ l) none ∙ append-nil shown)
    behind (inr (memory, whole, stand)) = inr (memory, ap (λ l. shown ++ l) whole, stand)

-- ---- the lines up to here

module _ {B : Type 0} (seen : B → Seen) (echo : List ℕ → List ℕ) (first : Engine B) (given was : Option (List ℕ)) where
  abbrev at : Site
  at = site first

  abbrev w : World
  w = world_of seen first

  -- the lines that were read and answered; of the last it is said whether it is one behind which no other is read
  pub record SoFar (now : Engine B) (left is : Option (List ℕ)) (last : Bool) : Type 0 where
    pub turns : List Turn
    pub heard : AreHeard seen first now turns last
    pub lines : AreLines echo (IsDeskFate at.policy at.schemes) given left turns
    pub world : (seen now.base).is_clean → world_of seen now ≡ end_of at w (events_in turns)
    pub written : (seen now.base).is_clean → Appends was is (desk at w turns)

  pub so_far_start : IsEngineReady seen first → SoFar first given was false
  unfolding desk AreLines end_of
  so_far_start ready = record {
    turns = [];
    heard = record {
      clean = λ c. c;
      kept = record { site = refl; ready = ready };
      none_lost = refl;
      last_is = refl;
      fits = tt;
    };
    lines = refl;
    world = λ c. refl;
    written = λ c. Appends-nil was;
  }

  module _ (now : Engine B) (left is : Option (List ℕ)) (s : SoFar now left is false) where
    same_site : site now ≡ at
    same_site = ap site_of_run s.heard.kept.site

    -- a line is read, and something becomes of it
    pub record Heard (fate : Fate) (over shown : Option (List ℕ)) (Broken : Type 0) : Type 0 where
      pub read : IsLineRead echo (IsDeskFate at.policy at.schemes) left over is shown Broken fate
      pub fits : FateFits at.policy at.schemes fate

    module _ (fate : Fate) (over shown : Option (List ℕ)) (Broken : Type 0) (l : Heard fate over shown Broken) where
      abbrev turn : Turn
      turn = l.read.turn

      abbrev turns : List Turn
      turns = s.turns ++ turn ∷ []

      fits_now : EventsFit at (events_in turns)
      fits_now = fits_more at s.turns turn fate s.heard.fits l.read.same l.fits

      lines_now : AreLines echo (IsDeskFate at.policy at.schemes) given over turns
      lines_now =
          lines-snoc echo (IsDeskFate at.policy at.schemes) given left over s.turns turn s.lines s.heard.last_is
          l.read.is_turn

      broken_now : list_any (λ (t : Turn). is_failed t.fate) turns ≡ true → Broken
      broken_now h = l.read.broken (sym l.read.same ∙ failed_there s.turns turn s.heard.last_is h)

      module _ (new : Engine B) (after : Option (List ℕ)) (clean : (seen new.base).is_clean → (seen now.base).is_clean)
          (kept : IsKept seen now new) where
        abbrev Followed : Site → World → Fate → Result (Unit {0}) RunFault → Type 0
        Followed site v fate r = IsDeskFollowed site v (events_of fate) (mark_of fate) shown after (world_of seen new) r

        -- what becomes of the line, from the world up to here
        moved : {r : Result (Unit {0}) RunFault} → (c : (seen new.base).is_clean)
            → Followed (site now) (world_of seen now) fate r → Followed at (end_of at w (events_in s.turns)) turn.fate r
        moved {r} c h =
            subst (λ (x : Fate). Followed at (end_of at w (events_in s.turns)) x r) (sym l.read.same)
            (subst (λ (u : World). Followed at u fate r) (s.world (clean c))
            (subst (λ (p : Site). Followed p (world_of seen now) fate r) same_site h))

        pub so_far_more : is_lost fate ≡ false → ((seen new.base).is_clean
            → Followed (site now) (world_of seen now) fate (Ok tt))
            → SoFar new over after (is_last fate)
        so_far_more found h = record {
          turns = turns;
          heard = heard_more seen first now new s.turns turn fate s.heard l.read.same found fits_now clean kept;
          lines = lines_now;
          world = λ c. let k = moved c (h c) in k.world ∙ ap (λ b. end_of at (end_of at w (events_in s.turns))
              (cond b (events_of turn.fate) [])) k.all.1 ∙ world-snoc at w s.turns turn;
          written = λ c. let k = moved c (h c) in
              subst (Appends was after) (sym (desk-snoc at w s.turns turn))
              (Appends-trans was is after (desk at w s.turns) _ (s.written (clean c))
              (subst (Appends is after)
              (ap (λ l. turn.shown ++ l) (sym (append-nil k.part) ∙ ap (λ l. k.part ++ l) (sym k.all.0) ∙ k.whole)
              ∙ sym (append_assoc turn.shown (answers_to at (end_of at w (events_in s.turns)) (events_of turn.fate))
              (mark_of turn.fate)))
              (Appends-trans is shown after turn.shown k.part l.read.shown k.bytes)));
        }

        -- ---- a desk that is given up at the line

        pub broken : (fault : RunFault) (c : (seen new.base).is_clean) → Followed (site now) (world_of seen now) fate
            (Err fault)
            → IsService echo at given over Broken (Appends was after) (Err fault) w (world_of seen new)
        broken fault c h =
            let k = moved c h in
            let front = desk at w s.turns in
            let answers = answers_to at (end_of at w (events_in s.turns)) (events_of turn.fate) in
            let kept : List Event = cond k.stands (events_of turn.fate) [] in
            record {
              service = record {
                turns = turns;
                kept = events_in s.turns ++ kept;
                lines = lines_now;
                broken = broken_now;
                written = at_line (record {
                  front = s.turns;
                  last = turn;
                  stands = k.stands;
                  part = turn.shown ++ k.part;
                  rest = k.rest;
                  all = refl;
                  written = Appends-trans was is after front (turn.shown ++ k.part) (s.written (clean c))
                      (Appends-trans is shown after turn.shown k.part l.read.shown k.bytes);
                  whole = append_assoc turn.shown k.part k.rest ∙ ap (λ l. turn.shown ++ l) k.whole
                      ∙ sym (append_assoc turn.shown answers (mark_of turn.fate));
                  cut = shown_before turn.shown answers k.part k.stands fault k.cut;
                  kept_are = refl;
                });
              };
              fits = fits_now;
              world = k.world ∙ sym (end_of-append at w (events_in s.turns) kept);
            }

        -- ---- it ends well at a line behind which no other is read

        pub over_last : is_lost fate ≡ false → ((seen new.base).is_clean → Followed (site now) (world_of seen now) fate
            (Ok tt)) → is_last fate ≡ true → (seen new.base).is_clean
            → IsService echo at given over Broken (Appends was after) (Ok (ending_if (is_failed fate))) w
            (world_of seen new)
        unfolding so_far_more
        over_last found h last c =
            let all = so_far_more found h in
            let fails : list_any (λ (t : Turn). is_failed t.fate) turns ≡ is_failed fate =
            any-snoc (λ (t : Turn). is_failed t.fate) s.turns turn ∙ ap (λ b. b || is_failed turn.fate)
            (none_failed s.turns s.heard.last_is) ∙ ap is_failed l.read.same in
            record {
              service = record {
                turns = turns;
                kept = events_in turns;
                lines = lines_now;
                broken = broken_now;
                written = (
                  record {
                    written = all.written c;
                    status = ap ending_if (sym fails);
                    none_lost = all.heard.none_lost;
                    all = failed_last s.turns turn over
                        (last_line turn.fate over (ap is_last l.read.same ∙ last) (ap is_lost l.read.same ∙ found)
                        (λ e. l.read.over (sym l.read.same ∙ e)));
                  },
                  refl,
                );
              };
              fits = fits_now;
              world = all.world c;
            }

    -- ---- it is given up between two lines

    pub worn_out : (Broken : Type 0) (fault : RunFault) → fault.cause ≡ Memory → (seen now.base).is_clean
        → IsService echo at given left Broken (Appends was is) (Err fault) w (world_of seen now)
    worn_out Broken fault memory c = record {
      service = record {
        turns = s.turns;
        kept = events_in s.turns;
        lines = s.lines;
        broken = λ f. absurd (true≢false (sym f ∙ none_failed s.turns s.heard.last_is));
        written = between memory (s.written c) refl;
      };
      fits = s.heard.fits;
      world = s.world c;
    }

-- ---- at a site that is the same

pub heard_at : (echo : List ℕ → List ℕ) (q : Site) (policy : Policy) (schemes : Schemes) (a b c d : Option (List ℕ))
    (Broken : Type 0) (fate : Fate) → q.policy ≡ policy → q.schemes ≡ schemes
    → IsLineRead echo (IsDeskFate policy schemes) a b c d Broken fate
    → IsLineRead echo (IsDeskFate q.policy q.schemes) a b c d Broken fate
heard_at echo q policy schemes a b c d Broken fate e f h =
    subst (λ y. IsLineRead echo (IsDeskFate q.policy y) a b c d Broken fate) (sym f)
    (subst (λ x. IsLineRead echo (IsDeskFate x schemes) a b c d Broken fate) (sym e) h)

-- lines are answered at what is the same site, from and to what are the same worlds
pub service_at : (echo : List ℕ → List ℕ) (before after : Option (List ℕ)) (Broken : Type 0) (Wrote : List ℕ → Type 0)
    (end : Result Ending RunFault) (s t : Site) (v x w y : World) → s ≡ t → v ≡ x → w ≡ y
    → IsService echo s before after Broken Wrote end v w → IsService echo t before after Broken Wrote end x y
service_at echo before after Broken Wrote end s t v x w y e f g k =
    subst (λ w. IsService echo t before after Broken Wrote end x w) g
    (subst (λ v. IsService echo t before after Broken Wrote end v w) f
    (subst (λ s. IsService echo s before after Broken Wrote end v w) e k))
