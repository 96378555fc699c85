-- Shells, line by line: what holds of the lines up to here, and how a shell ends.
use Rattle.std.proofs.Common.{◌≡◌, ℕ, suc, ◌+◌, ◌<◌, Bool, true, false, true≢false, not, ◌||◌, List, [], ◌∷◌, ◌++◌, length, Option, is_some, Result, Ok, Err, OnOk, IfErr, refl, sym, ap, ◌∙◌, subst, inl, inr, ◌⊎◌, append_assoc, append-nil, arith}
use Rattle.std.specs.List.{list_any}
use Rattle.std.specs.Io.KnownBytes.{Appends, IsAtEnd}
use Rattle.std.proofs.KnownBytes.{Appends-trans}
use Rattle.mls_lattice.proofs.EachLemmas.{all_append}
use Rattle.mls_filterview.specs.Content.{Seen}
use Rattle.mls_translang.specs.declared.event.Event.{Event}
use Rattle.mls_machine.specs.declared.form.Audience.{Audience}
use Rattle.mls_certcheck.specs.declared.stored.Stored.{Stored}
use Rattle.mls_certcheck.specs.Site.{Site, site_of}
use Rattle.mls_machine.specs.Machine.{World, end_of}
use Rattle.mls_machine.specs.Observation.{EventsFit}
use Rattle.mls_lattice.specs.Policy.{Policy}
use Rattle.mls_scheme.specs.Scheme.{Schemes}
use Rattle.mls_sessions.specs.Sessions.{site_of_run}
use Rattle.mls_translang.specs.declared.run_fault.RunFault.{RunFault}
use Rattle.mls_translang.specs.declared.run_fault.RunCause.{RunCause}
use Rattle.mls_sessions.specs.declared.engine.Engine.{Engine}
use Rattle.mls_sessions.specs.Engine.{site, world_of, IsKept}
use Rattle.mls_sessions.specs.declared.notice.Notice.{Notice}
use Rattle.mls_sessions.specs.Run.{are_done, notice_in, IsWhole}
use Rattle.mls_sessions.proofs.AnswerLemmas.{is_noticed}
use Rattle.mls_host.specs.declared.errors.Errors.{Errors}
use Rattle.mls_host.specs.declared.telling.Tally.{Tally}
use Rattle.mls_runs.specs.declared.shell_session.ShellSession.{ShellSession}
use Rattle.mls_runs.specs.declared.shell_session.Fate.{Fate}
use Rattle.mls_runs.specs.declared.shell_session.Fate.TheVariants as fates
use Rattle.mls_runs.specs.Tally.{tally_with}
use Rattle.mls_host.specs.Ending.{ending_if}
use Rattle.mls_host.specs.Hosting.{IsTold}
use Rattle.mls_host.proofs.HostingLemmas.{told_nothing, told_more}
use Rattle.mls_runs.specs.Explaining.{Explaining, IsExplained, heard_of}
use Rattle.mls_runs.specs.Shell.{MayTell, noticed_by, audience_at, verdicts_in, Turn, IsShellFate, events_of, events_in, opening, is_open, is_last, is_failed, is_lost, verdict_of, is_short, end_told, prompt_of, told_of, AreTold, AreAllTold, answers, after_opening, transcript, shown_to, AreTurns, tally_of, IsSilent, FateFits, IsAnswered, IsShellFollowed, IsLineRead, IsShellLineRead, IsConversation}
use Rattle.mls_runs.proofs.ShellLemmas.{nothing_done, whole_more, stopped_more, fault_more, first_part, length-snoc, events-snoc, told-snoc, world-snoc, transcript-snoc, world_is, said_once, shown_before, shown_behind, shown_from, turns-snoc, AreFew, few_more, tally-snoc, none_failed, failed_there, silent_turn, silent_lines, any-snoc}

-- the events of a line are answered
pub followed_whole : (at : Site) (audience : Audience) (w : World) (es : List Event) (was is : Option (List ℕ))
    (new : World) (line : ℕ)
    → IsShellFollowed at audience w es was is new line (Ok tt) → IsWhole at audience w es was is new
followed_whole at audience w es was is new line h = subst (λ (r : Result (Unit {0}) RunFault). OnOk r
    (IsWhole at audience w es was is new)) h.ok h.answered.whole

ok_where : (r e : Result (Unit {0}) RunFault) → e ≡ Ok tt → OnOk r (e ≡ Ok tt)
ok_where (Ok u) e h = h
ok_where (Err f) e h = tt

nothing_where : (r : Result (Unit {0}) RunFault) → IfErr r (λ fault. Unit {0})
nothing_where (Ok u) = tt
nothing_where (Err f) = tt

-- no events are answered
followed_nothing : (at : Site) (audience : Audience) (w : World) (es : List Event) (a : Option (List ℕ)) (line : ℕ)
    (r : Result (Unit {0}) RunFault) → es ≡ [] → IfErr r (λ fault. fault.event ≡ line)
    → IsShellFollowed at audience w es a a w line r
followed_nothing at audience w es a line r none is = record {
  end = Ok tt;
  answered = record {
    whole = subst (λ (es : List Event). IsWhole at audience w es a a w) (sym none)
        (nothing_done at audience w a);
    stopped = tt;
    fault = tt;
  };
  ok = ok_where r (Ok tt) refl;
  line = is;
  cause = nothing_where r;
}

pub none_is_lost : (fate : Fate) → ((cause : RunCause) → fate ≡ fates.Lost cause → ⊥) → is_lost fate ≡ false
none_is_lost (fates.Lost cause) h = absurd (h cause refl)
none_is_lost _ h = refl

pub followed_lost : (at : Site) (audience : Audience) (w : World) (fate : Fate) (a : Option (List ℕ)) (line : ℕ)
    (cause : RunCause) → fate ≡ fates.Lost cause
    → IsShellFollowed at audience w (events_of fate) a a w line
    (Err (record { event = line; cause = cause; done = false }))
followed_lost at audience w fate a line cause is = followed_nothing at audience w (events_of fate) a line _
    (ap events_of is) refl

pub no_events : (fate : Fate) → ((events : List Event) → fate ≡ fates.Said events → ⊥) → events_of fate ≡ []
no_events (fates.Said events) h = absurd (h events refl)
no_events _ h = refl

pub followed_none : (at : Site) (audience : Audience) (w : World) (fate : Fate) (a : Option (List ℕ)) (line : ℕ)
    → ((events : List Event) → fate ≡ fates.Said events → ⊥)
    → IsShellFollowed at audience w (events_of fate) a a w line (Ok tt)
followed_none at audience w fate a line h = followed_nothing at audience w (events_of fate) a line (Ok tt)
    (no_events fate h) tt

pub fate_fits : (at : Site) (fate : Fate) → FateFits at.policy at.schemes fate → EventsFit at (events_of fate)
fate_fits at (fates.Said events) h = h
fate_fits at _ h = tt

-- ---- what is counted of a line

-- by why its event was not done
pub verdict_noticed : (at : Site) (w : World) (fate : Fate) (notice : Option Notice)
    → notice ≡ notice_in at w (events_of fate)
    → verdict_of (not (is_some notice)) fate ≡ verdict_of (are_done at w (events_of fate)) fate
verdict_noticed at w fate notice h =
    ap (λ b. verdict_of (not b) fate) (ap is_some h ∙ is_noticed at w (events_of fate)) ∙ ap (λ b. verdict_of b fate)
    (not_not (are_done at w (events_of fate)))
  where
    not_not : (b : Bool) → not (not b) ≡ b
    not_not true = refl
    not_not false = refl

-- of a line with events, and of one without
pub noticed_said : (at : Site) (w : World) (fate : Fate) (events es : List Event) (notice : Option Notice)
    → fate ≡ fates.Said events → es ≡ events → notice ≡ notice_in at w es
    → noticed_by fate notice ≡ notice_in at w (events_of fate)
noticed_said at w fate events es notice is same h =
    ap (λ f. noticed_by f notice) is ∙ h ∙ ap (notice_in at w) (same ∙ sym (ap events_of is))

pub noticed_none : (at : Site) (w : World) (fate : Fate) (notice : Option Notice)
    → ((events : List Event) → fate ≡ fates.Said events → ⊥) → noticed_by fate notice ≡ notice_in at w (events_of fate)
unfolding notice_in
noticed_none at w (fates.Said events) notice h = absurd (h events refl)
noticed_none at w _ notice h = refl

-- what is read under the policy and the schemes is read under the site
pub fits_at : (p q : Site) (policy : Policy) (schemes : Schemes) → p ≡ q → q.policy ≡ policy → q.schemes ≡ schemes
    → (fate : Fate) → FateFits policy schemes fate → FateFits p.policy p.schemes fate
fits_at p q policy schemes same a b fate h =
    subst (λ (x : Site). FateFits x.policy x.schemes fate) (sym same) (subst (λ y. FateFits q.policy y fate) (sym b)
    (subst (λ x. FateFits x schemes fate) (sym a) h))

-- the parts of a site make it
pub site_made : (at : Site) (policy : Policy) (schemes : Schemes) (stored : List Stored) → at.policy ≡ policy
    → at.schemes ≡ schemes → stored ≡ at.stored → site_of policy schemes stored ≡ at
site_made at policy schemes stored a b k = (λ i. site_of (sym a i) (sym b i) (k i))

pub policy_at : (p q : Site) (policy : Policy) → p ≡ q → q.policy ≡ policy → p.policy ≡ policy
policy_at p q policy same a = ap (λ (x : Site). x.policy) same ∙ a

pub schemes_at : (p q : Site) (schemes : Schemes) → p ≡ q → q.schemes ≡ schemes → p.schemes ≡ schemes
schemes_at p q schemes same a = ap (λ (x : Site). x.schemes) same ∙ a

pub level_at : (p q : Site) (policy : Policy) → p ≡ q → q.policy ≡ policy → (level : ℕ) → level < length policy.labels
    → level < length p.policy.labels
level_at p q policy same a level h = subst (λ (x : Site). level < length x.policy.labels) (sym same)
    (subst (λ (x : Policy). level < length x.labels) (sym a) h)

pub heard_at : (echo : List ℕ → List ℕ) (q : Site) (policy : Policy) (schemes : Schemes) (session : ShellSession)
    (a b c d : Option (List ℕ)) (Broken : Type 0) (fate : Fate) (heard : List ℕ) → q.policy ≡ policy
    → q.schemes ≡ schemes
    → IsShellLineRead echo policy schemes session a b c d Broken fate heard
    → IsShellLineRead echo q.policy q.schemes session a b c d Broken fate heard
heard_at echo q policy schemes session a b c d Broken fate heard e f h =
    subst (λ y. IsShellLineRead echo q.policy y session a b c d Broken fate heard) (sym f)
    (subst (λ x. IsShellLineRead echo x schemes session a b c d Broken fate heard) (sym e) h)

-- a line behind which no other is read is the end, or it was not read, or the shell is given up at it
pub last_line : (fate : Fate) (left : Option (List ℕ)) → is_last fate ≡ true → is_lost fate ≡ false
    → (fate ≡ fates.Over → IsAtEnd left) → IsAtEnd left ⊎ (is_failed fate ≡ true)
last_line fates.Over left h none over = inl (over refl)
last_line fates.Unreadable left h none over = inr refl
last_line _ left h none over = absurd cc

pub failed_last : (ts : List Turn) (t : Turn) (left : Option (List ℕ)) → IsAtEnd left ⊎ (is_failed t.fate ≡ true)
    → IsAtEnd left ⊎ (list_any (λ (t : Turn). is_failed t.fate) (ts ++ t ∷ []) ≡ true)
failed_last ts t left (inl h) = inl h
failed_last ts t left (inr h) = inr (any-snoc (λ (t : Turn). is_failed t.fate) ts t
    ∙ ap (λ b. list_any (λ (t : Turn). is_failed t.fate) ts || b) h
    ∙ or_true (list_any (λ (t : Turn). is_failed t.fate) ts))
  where
    or_true : (b : Bool) → (b || true) ≡ true
    or_true true = refl
    or_true false = refl

-- ---- lines that were heard, at a shell or a desk

module _ {B : Type 0} (seen : B → Seen) (first : Engine B) where
  -- the engine goes on from the first, no line got lost, and of the last it is said whether it is one behind which no
  -- other is read
  pub record AreHeard (now : Engine B) (turns : List Turn) (last : Bool) : Type 0 where
    pub clean : (seen now.base).is_clean → (seen first.base).is_clean
    pub kept : IsKept seen first now
    pub none_lost : list_any (λ (t : Turn). is_lost t.fate) turns ≡ false
    pub last_is : list_any (λ (t : Turn). is_last t.fate) turns ≡ last
    pub fits : EventsFit (site first) (events_in turns)

  pub heard_more : (now new : Engine B) (ts : List Turn) (t : Turn) (fate : Fate) → AreHeard now ts false
      → t.fate ≡ fate → is_lost fate ≡ false → EventsFit (site first) (events_in (ts ++ t ∷ []))
      → ((seen new.base).is_clean → (seen now.base).is_clean) → IsKept seen now new
      → AreHeard new (ts ++ t ∷ []) (is_last fate)
  heard_more now new ts t fate h same found fits clean kept = record {
    clean = λ c. h.clean (clean c);
    kept = record { site = kept.site ∙ h.kept.site; ready = kept.ready };
    none_lost = any-snoc (λ (t : Turn). is_lost t.fate) ts t ∙ ap (λ b. b || is_lost t.fate) h.none_lost
        ∙ ap is_lost same ∙ found;
    last_is = any-snoc (λ (t : Turn). is_last t.fate) ts t ∙ ap (λ b. b || is_last t.fate) h.last_is ∙ ap is_last same;
    fits = fits;
  }

pub fits_more : (at : Site) (ts : List Turn) (t : Turn) (fate : Fate) → EventsFit at (events_in ts) → t.fate ≡ fate
    → FateFits at.policy at.schemes fate → EventsFit at (events_in (ts ++ t ∷ []))
fits_more at ts t fate h same fit =
    subst (EventsFit at) (sym (events-snoc ts t)) (all_append _ (events_in ts) (events_of t.fate) h
    (subst (λ (x : Fate). EventsFit at (events_of x)) (sym same) (fate_fits at fate fit)))

-- ---- the lines up to here

module _ {B E : Type 0} (seen : B → Seen) (contents : E → Option (List ℕ)) (x : Explaining) (echo : List ℕ → List ℕ)
    (session : ShellSession)
    (first : Engine B) (quiet : Errors E) (given was : Option (List ℕ)) where
  abbrev at : Site
  at = site first

  abbrev w : World
  w = world_of seen first

  -- what may be told behind the opening
  abbrev pub MayGreet : List ℕ → Type 0
  MayGreet = x.greets at session (opening session ∷ []) (notice_in at w (opening session ∷ []))

  pub may_greet : (p : Site) (to : ShellSession) → p ≡ at → to ≡ session
      → (events : List Event) (notice : Option Notice) → events ≡ opening session ∷ [] → notice ≡ notice_in at w events
      → (text : List ℕ) → x.greets p to events notice text → MayGreet text
  may_greet p to same is events notice first noticed text h =
      subst (λ n. x.greets at session (opening session ∷ []) n text) (noticed ∙ ap (notice_in at w) first)
      (subst (λ es. x.greets at session es notice text) first
      (subst (λ (s : ShellSession). x.greets at s events notice text) is
      (subst (λ (q : Site). x.greets q to events notice text) same h)))

  -- what is told of these lines, behind what is told of the opening
  pub record AreSoFarTold (turns : List Turn) (err : Errors E) : Type 0 where
    pub lines : List ℕ
    pub are : AreTold x at session (after_opening at session w) 1 turns lines
    pub opening : IsExplained session.is_watched MayGreet (λ more. IsTold contents quiet err (more ++ lines))

  -- and behind it the last
  all_told : (turns : List Turn) (last : List ℕ) (err final : Errors E) → AreSoFarTold turns err
      → IsTold contents err final last → AreAllTold x at session w turns last (IsTold contents quiet final)
  all_told turns last err final h k = record {
    lines = h.lines;
    are = h.are;
    opening = record {
      more = h.opening.more;
      none = h.opening.none;
      may = h.opening.may;
      leads =
          told_more contents quiet err final (h.opening.more ++ h.lines) last h.opening.leads k;
    };
  }

  -- so many lines were read, answered and counted; of the last it is said whether it is one behind which no other is
  -- read
  pub record SoFar (count : ℕ) (now : Engine B) (err : Errors E) (left is : Option (List ℕ)) (was_opened : Bool)
      (tally : Tally) (last : Bool) : Type 0 where
    pub turns : List Turn
    pub count_is : length turns ≡ count
    pub heard : AreHeard seen first now turns last
    pub told : (seen now.base).is_clean → AreSoFarTold turns err
    pub lines : (seen now.base).is_clean → AreTurns echo at session (after_opening at session w) given left turns
    pub world : (seen now.base).is_clean → world_of seen now ≡ end_of at w (opening session ∷ events_in turns)
    pub written : (seen now.base).is_clean → Appends was is (transcript at session w turns)
    pub few : AreFew tally count
    pub opened_is : (seen now.base).is_clean → was_opened ≡ is_open session (after_opening at session w)
    pub tally_is : (seen now.base).is_clean → tally ≡ tally_of at session w turns

  -- what is said of the session is said of the world
  pub record Opened (now : Engine B) (is : Option (List ℕ)) (was_opened : Bool) : Type 0 where
    pub clean : (seen now.base).is_clean → (seen first.base).is_clean
    pub kept : IsKept seen first now
    pub followed : (seen now.base).is_clean → IsShellFollowed at (audience_at session) w (opening session ∷ []) was is
        (world_of seen now) 0 (Ok tt)
    pub opened_is : was_opened ≡ is_open session (world_of seen now)

  pub so_far_start : (now : Engine B) (is : Option (List ℕ)) (was_opened : Bool) → Opened now is was_opened
      → (err : Errors E) → ((seen now.base).is_clean → IsExplained session.is_watched MayGreet
      (IsTold contents quiet err))
      → SoFar 0 now err given is was_opened (record { lines = 0; refused = 0; misunderstood = 0 }) false
  unfolding AreTold Rattle.mls_runs.specs.Shell.dialogue AreTurns verdicts_in
  so_far_start now is was_opened h err m =
      let done : (seen now.base).is_clean → IsWhole at (audience_at session) w (opening session ∷ []) was is
      (world_of seen now) =
      λ c. followed_whole at (audience_at session) w (opening session ∷ []) was is (world_of seen now) 0 (h.followed c)
      in
      record {
        turns = [];
        count_is = refl;
        heard = record { clean = h.clean; kept = h.kept; none_lost = refl; last_is = refl; fits = tt };
        told = λ c. let k = m c in record {
          lines = [];
          are = refl;
          opening = record {
            more = k.more;
            none = k.none;
            may = k.may;
            leads = subst (IsTold contents quiet err) (sym (append-nil k.more)) k.leads;
          };
        };
        lines = λ c. refl;
        world = λ c. (done c).world;
        written = λ c. subst (Appends was is) (sym (append-nil (answers at session w (opening session ∷ []))))
            (done c).bytes;
        few = record { lines = omega arith; refused = omega arith; misunderstood = omega arith };
        opened_is = λ c. h.opened_is ∙ ap (is_open session) (done c).world;
        tally_is = λ c. refl;
      }

  module _ (count : ℕ) (now : Engine B) (err : Errors E) (left is : Option (List ℕ)) (was_opened : Bool) (tally : Tally)
      (s : SoFar count now err left is was_opened tally false) where
    same_site : site now ≡ at
    same_site = ap site_of_run s.heard.kept.site

    -- the prompt is shown, a line is read, and something becomes of it
    pub record Line (fate : Fate) (asked : Errors E) (over shown : Option (List ℕ)) (Broken : Type 0) : Type 0 where
      pub was_open : is_open session (world_of seen now) ≡ true
      pub asked_is : IsTold contents err asked (prompt_of session)
      pub read : IsLineRead echo (IsShellFate at.policy at.schemes session) left over is shown Broken fate
      pub fits : FateFits at.policy at.schemes fate

    module _ (fate : Fate) (asked said : Errors E) (over shown : Option (List ℕ)) (Broken : Type 0)
        (l : Line fate asked over shown Broken) where
      abbrev turn : Turn
      turn = l.read.turn

      abbrev turns : List Turn
      turns = s.turns ++ turn ∷ []

      -- the world in which the line is read
      abbrev met : World
      met = end_of at w (opening session ∷ events_in s.turns)

      -- what becomes of it is told, and beside that what may be told
      abbrev pub IsSaid : Type 0
      IsSaid = IsExplained session.is_watched (MayTell x at session met turn) (λ more. IsTold contents asked said
          (told_of session (count + 1) fate ++ more))

      -- what is said of the line as it was heard may be told
      pub may_tell : (p : Site) (to : ShellSession) → p ≡ at → to ≡ session → (heard : List ℕ) (notice : Option Notice)
          → heard ≡ heard_of fate turn.line → notice ≡ notice_in (site now) (world_of seen now) (events_of fate)
          → (seen now.base).is_clean → (text : List ℕ) → x.says p to heard fate notice text
          → MayTell x at session met turn text
      may_tell p to same is heard notice known noticed c text h =
          let why : notice ≡ notice_in at met (events_of fate)
          = noticed ∙ ap (λ (p : Site). notice_in p (world_of seen now) (events_of fate)) same_site
          ∙ ap (λ (u : World). notice_in at u (events_of fate)) (s.world c) in
          subst (λ (y : Fate). x.says at session (heard_of y turn.line) y (notice_in at met (events_of y)) text)
          (sym l.read.same)
          (subst (λ n. x.says at session (heard_of fate turn.line) fate n text) why
          (subst (λ b. x.says at session b fate notice text) known
          (subst (λ (s : ShellSession). x.says at s heard fate notice text) is
          (subst (λ (q : Site). x.says q to heard fate notice text) same h))))

      told_now : AreSoFarTold s.turns err → IsSaid → AreSoFarTold turns said
      told_now told k = record {
        lines = told.lines ++ here (count + 1) fate;
        are = subst (λ (y : Fate). AreTold x at session (after_opening at session w) 1 turns
            (told.lines ++ here (count + 1) y)) l.read.same
            (subst (λ (n : ℕ). AreTold x at session (after_opening at session w) 1 turns
            (told.lines ++ here n turn.fate)) number
            (told-snoc x at session (after_opening at session w) 1 s.turns turn told.lines k.more k.none
            (subst (λ (u : World). (k.more ≡ []) ⊎ MayTell x at session u turn k.more)
            (world_is at session w s.turns) k.may) told.are));
        opening = record {
          more = told.opening.more;
          none = told.opening.none;
          may = told.opening.may;
          leads = subst (IsTold contents quiet said) (append_assoc told.opening.more told.lines (here (count + 1) fate))
              (told_more contents quiet err said _ _ told.opening.leads (told_more contents err asked said
              (prompt_of session) _ l.asked_is k.leads));
        };
      }
        where
          here : ℕ → Fate → List ℕ
          here n y = prompt_of session ++ (told_of session n y ++ k.more)

          number : 1 + length s.turns ≡ count + 1
          number = let e = s.count_is in omega arith

      fits_now : EventsFit at (events_in turns)
      fits_now = fits_more at s.turns turn fate s.heard.fits l.read.same l.fits

      lines_now : (seen now.base).is_clean → AreTurns echo at session (after_opening at session w) given over turns
      lines_now c = turns-snoc at session w echo given left over s.turns turn (s.lines c) s.heard.last_is
          (subst (λ u. is_open session u ≡ true) (s.world c) l.was_open) l.read.is_turn

      pub broken_now : list_any (λ (t : Turn). is_failed t.fate) turns ≡ true → Broken
      broken_now h = l.read.broken (sym l.read.same ∙ failed_there s.turns turn s.heard.last_is h)

      count_now : length turns ≡ count + 1
      count_now = length-snoc s.turns turn ∙ ap (λ n. n + 1) s.count_is

      module _ (new : Engine B) (after : Option (List ℕ)) (clean : (seen new.base).is_clean → (seen now.base).is_clean)
          (kept : IsKept seen now new) where
        -- the events of the line, from the world up to here
        moved : {r : Result (Unit {0}) RunFault} → (c : (seen new.base).is_clean)
            → IsShellFollowed (site now) (audience_at session) (world_of seen now) (events_of fate) shown after
            (world_of seen new) (count + 1) r
            → IsShellFollowed at (audience_at session) (end_of at w (opening session ∷ events_in s.turns))
            (events_of turn.fate) shown after (world_of seen new) (count + 1) r
        moved {r} c h =
            subst (λ (x : Fate). IsShellFollowed at (audience_at session)
            (end_of at w (opening session ∷ events_in s.turns)) (events_of x) shown after (world_of seen new)
            (count + 1) r) (sym l.read.same)
            (subst (λ (u : World). IsShellFollowed at (audience_at session) u (events_of fate) shown after
            (world_of seen new) (count + 1) r) (s.world (clean c))
            (subst (λ (p : Site). IsShellFollowed p (audience_at session) (world_of seen now)
            (events_of fate) shown after (world_of seen new) (count + 1) r) same_site h))

        moved_verdict : (done : Bool) → (seen new.base).is_clean → verdict_of done fate
            ≡ verdict_of (are_done (site now) (world_of seen now) (events_of fate)) fate
            → verdict_of done fate ≡ verdict_of (are_done at (end_of at w (opening session ∷ events_in s.turns))
            (events_of turn.fate)) turn.fate
        moved_verdict done c h =
            h ∙ ap (λ (p : Site). verdict_of (are_done p (world_of seen now) (events_of fate)) fate) same_site
            ∙ ap (λ (u : World). verdict_of (are_done at u (events_of fate)) fate) (s.world (clean c))
            ∙ ap (λ (x : Fate). verdict_of (are_done at (end_of at w (opening session ∷ events_in s.turns))
            (events_of x)) x) (sym l.read.same)

        pub so_far_more : is_lost fate ≡ false → ((seen new.base).is_clean
            → IsShellFollowed (site now) (audience_at session) (world_of seen now) (events_of fate) shown after
            (world_of seen new) (count + 1) (Ok tt))
            → (done : Bool) → ((seen new.base).is_clean → verdict_of done fate
            ≡ verdict_of (are_done (site now) (world_of seen now) (events_of fate)) fate)
            → ((seen new.base).is_clean → IsSaid)
            → SoFar (count + 1) new said over after was_opened (tally_with tally (verdict_of done fate)) (is_last fate)
        so_far_more found h all counts says =
            let done : (seen new.base).is_clean → IsWhole at (audience_at session)
            (end_of at w (opening session ∷ events_in s.turns)) (events_of turn.fate) shown after
            (world_of seen new) =
            λ c. followed_whole at (audience_at session) (end_of at w (opening session ∷ events_in s.turns))
            (events_of turn.fate) shown after (world_of seen new) (count + 1) (moved c (h c)) in
            record {
              turns = turns;
              count_is = count_now;
              heard = heard_more seen first now new s.turns turn fate s.heard l.read.same found fits_now clean kept;
              told = λ c. told_now (s.told (clean c)) (says c);
              lines = λ c. lines_now (clean c);
              world = λ c. (done c).world ∙ world-snoc at session w s.turns turn;
              written = λ c. subst (Appends was after) (sym (transcript-snoc at session w s.turns turn))
                  (Appends-trans was is after (transcript at session w s.turns) _ (s.written (clean c))
                  (Appends-trans is shown after turn.shown _ l.read.shown (done c).bytes));
              few = few_more tally count (verdict_of all fate) s.few;
              opened_is = λ c. s.opened_is (clean c);
              tally_is = λ c. (λ i. tally_with (s.tally_is (clean c) i) (moved_verdict all c (counts c) i))
                  ∙ sym (tally-snoc at session w s.turns turn);
            }

        -- a shell that is given up at the line
        pub broken : EventsFit at (opening session ∷ []) → (fault : RunFault) → (c : (seen new.base).is_clean)
            → IsTold contents asked said (told_of session (count + 1) fate)
            → IsShellFollowed (site now) (audience_at session) (world_of seen now) (events_of fate) shown after
            (world_of seen new) (count + 1) (Err fault)
            → IsConversation x echo at session given over was after Broken (IsTold contents quiet said) (Err fault) w
            (world_of seen new)
        broken opens fault c tells h =
            let k = moved c h in
            let world = end_of at w (opening session ∷ events_in s.turns) in
            let (part, rest, bytes, both) = first_part at (audience_at session) world (events_of turn.fate) shown after
            (world_of seen new) k.end k.answered in
            let es = (opening session ∷ events_in s.turns) ++ events_of turn.fate in
            let same : es ≡ opening session ∷ events_in turns = ap (λ (l : List Event). opening session ∷ l)
            (sym (events-snoc s.turns turn)) in
            let silent : IsSilent echo → IsWhole at (audience_at session) w (opening session
            ∷ events_in s.turns) was shown world =
            λ q. record {
              bytes = subst (Appends was shown) (append-nil _) (Appends-trans was is shown
                  (answers at session w (opening session ∷ events_in s.turns)) []
                  (subst (Appends was is) (silent_lines at session echo w given left s.turns q (s.lines (clean c)))
                  (s.written (clean c)))
                  (subst (Appends is shown) (silent_turn at session echo
                  (IsShellFate at.policy at.schemes session) left over turn q l.read.is_turn) l.read.shown));
              world = refl;
            } in
            let line : fault.event ≡ length turns = k.line ∙ sym count_now in
            let front = transcript at session w s.turns in
            let before : shown_to at session w turns fault.event ≡ front =
            shown_before at session w s.turns turn fault.event line in
            record {
              talk = record {
                turns = turns;
                run_end = later k.end;
                lines = lines_now (clean c);
                broken = broken_now;
                told = all_told turns [] said said (told_now (s.told (clean c)) (said_once contents session asked said
                    (told_of session (count + 1) fate) (MayTell x at session met turn) tells))
                    (told_nothing contents said);
                ended = record {
                  line = line;
                  cause = later_cause k.end fault k.cause;
                  part = turn.shown ++ part;
                  rest = rest;
                  written = subst (λ t. Appends was after (t ++ (turn.shown ++ part))) (sym before)
                      (Appends-trans was is after front _ (s.written (clean c))
                      (Appends-trans is shown after turn.shown part l.read.shown bytes));
                  whole = ap (λ t. (t ++ (turn.shown ++ part)) ++ rest) before ∙ append_assoc front
                      (turn.shown ++ part) rest
                      ∙ ap (λ t. front ++ t) (append_assoc turn.shown part rest ∙ ap (λ t. turn.shown ++ t) both)
                      ∙ sym (transcript-snoc at session w s.turns turn)
                      ∙ sym (shown_behind at session w turns fault.event line);
                };
              };
              fits = (opens.0, fits_now);
              run = λ q. subst (λ (es : List Event). IsAnswered at (audience_at session) w es was after
                  (world_of seen new) (later k.end)) same (later_answered k.end (silent q) k.answered);
            }
          where
            later : Result (Unit {0}) RunFault → Result (Unit {0}) RunFault
            later (Ok u) = Ok tt
            later (Err f) = Err (record {
              event = length (opening session ∷ events_in s.turns) + f.event;
              cause =
                  f.cause;
              done = f.done;
            })

            later_cause : (end : Result (Unit {0}) RunFault) (fault : RunFault)
                → IfErr end (λ f. (f.cause ≡ fault.cause) × (f.done ≡ fault.done))
                → IfErr (later end) (λ f. (f.cause ≡ fault.cause) × (f.done ≡ fault.done))
            later_cause (Ok u) fault h = tt
            later_cause (Err f) fault h = h

            later_answered : (end : Result (Unit {0}) RunFault) → IsWhole at (audience_at session) w (opening session
                ∷ events_in s.turns) was shown (end_of at w (opening session ∷ events_in s.turns))
                → IsAnswered at (audience_at session) (end_of at w (opening session ∷ events_in s.turns))
                (events_of turn.fate) shown after (world_of seen new) end
                → IsAnswered at (audience_at session) w ((opening session ∷ events_in s.turns)
                ++ events_of turn.fate) was after (world_of seen new) (later end)
            later_answered (Ok u) first h = record {
              whole = whole_more at (audience_at session) w (opening session ∷ events_in s.turns)
                  (events_of turn.fate) was shown after first.bytes (world_of seen new) h.whole;
              stopped = tt;
              fault = tt;
            }
            later_answered (Err f) first h = record {
              whole = tt;
              stopped = stopped_more at (audience_at session) w (opening session ∷ events_in s.turns)
                  (events_of turn.fate) was shown after first.bytes (world_of seen new) f h.fault h.stopped;
              fault = fault_more at (audience_at session) w (opening session ∷ events_in s.turns)
                  (events_of turn.fate) was shown after first.bytes (world_of seen new) f h.fault;
            }

  -- ---- how a shell ends

  module _ (opens : EventsFit at (opening session ∷ [])) (Broken : Type 0) where
    -- it is given up at the opening
    pub broken_first : (new : Engine B) (after : Option (List ℕ)) (fault : RunFault)
        → IsShellFollowed at (audience_at session) w (opening session ∷ []) was after (world_of seen new) 0 (Err fault)
        → IsConversation x echo at session given given was after Broken (IsTold contents quiet quiet) (Err fault) w
        (world_of seen new)
    unfolding AreTold Rattle.mls_runs.specs.Shell.dialogue AreTurns
    broken_first new after fault h =
        let (part, rest, bytes, both) = first_part at (audience_at session) w (opening session ∷ []) was after
        (world_of seen new) h.end h.answered in
        record {
          talk = record {
            turns = [];
            run_end = h.end;
            lines = refl;
            broken = λ f. absurd (true≢false (sym f));
            told = record {
              lines = [];
              are = refl;
              opening = record {
                more = [];
                none = λ off. refl;
                may = inl refl;
                leads = told_nothing contents quiet;
              };
            };
            ended = record {
              line = h.line;
              cause = h.cause;
              part = part;
              rest = rest;
              written = subst (λ n. Appends was after (shown_to at session w [] n ++ part)) (sym h.line) bytes;
              whole = subst (λ n. (shown_to at session w [] n ++ part) ++ rest ≡ shown_to at session w [] (suc n))
                  (sym h.line) (both ∙ sym (append-nil (answers at session w (opening session ∷ []))));
            };
          };
          fits = opens;
          run = λ q. h.answered;
        }

    module _ (count : ℕ) (now : Engine B) (err : Errors E) (left is : Option (List ℕ)) (was_opened : Bool)
        (tally : Tally) (last : Bool) (s : SoFar count now err left is was_opened tally last)
        (c : (seen now.base).is_clean) where
      all_answered : IsSilent echo → IsAnswered at (audience_at session) w (opening session ∷ events_in s.turns) was is
          (world_of seen now) (Ok tt)
      all_answered q = record {
        whole = record {
          bytes = subst (Appends was is) (silent_lines at session echo w given left s.turns q
              (s.lines c)) (s.written c);
          world = s.world c;
        };
        stopped = tt;
        fault = tt;
      }

      -- it ends well
      pub over : (is_open session (world_of seen now) ≡ true → IsAtEnd left
          ⊎ (list_any (λ (t : Turn). is_failed t.fate) s.turns ≡ true))
          → (list_any (λ (t : Turn). is_failed t.fate) s.turns ≡ true → Broken)
          → (final : Errors E) → IsTold contents err final (end_told session tally)
          → IsConversation x echo at session given left was is Broken (IsTold contents quiet final)
          (Ok (ending_if (not was_opened || is_short tally))) w (world_of seen now)
      over all breaks final end = record {
        talk = record {
          turns = s.turns;
          run_end = Ok tt;
          lines = s.lines c;
          broken = breaks;
          told = all_told s.turns (end_told session (tally_of at session w s.turns)) err final (s.told c)
              (subst (λ t. IsTold contents err final (end_told session t)) (s.tally_is c) end);
          ended = (
            refl,
            record {
              written = s.written c;
              status = λ i. ending_if (not (s.opened_is c i) || is_short (s.tally_is c i));
              none_lost = s.heard.none_lost;
              all = λ o. all (subst (λ u. is_open session u ≡ true) (sym (s.world c)) o);
            },
          );
        };
        fits = (opens.0, s.heard.fits);
        run = all_answered;
      }

    module _ (count : ℕ) (now : Engine B) (err : Errors E) (left is : Option (List ℕ)) (was_opened : Bool)
        (tally : Tally) (s : SoFar count now err left is was_opened tally false) (c : (seen now.base).is_clean) where
      none_broken : list_any (λ (t : Turn). is_failed t.fate) s.turns ≡ true → Broken
      none_broken f = absurd (true≢false (sym f ∙ none_failed s.turns s.heard.last_is))

      -- it ends well where the session is closed
      pub over_closed : is_open session (world_of seen now) ≡ false → (final : Errors E)
          → IsTold contents err final (end_told session tally)
          → IsConversation x echo at session given left was is Broken (IsTold contents quiet final)
          (Ok (ending_if (not was_opened || is_short tally))) w (world_of seen now)
      over_closed closed = over count now err left is was_opened tally false s c
          (λ o. absurd (true≢false (sym o ∙ closed))) none_broken

      -- it is given up between two lines
      pub worn_out : (fault : RunFault) → fault.event ≡ count
          → IsConversation x echo at session given left was is Broken (IsTold contents quiet err) (Err fault) w
          (world_of seen now)
      worn_out fault e =
          let line : fault.event ≡ length s.turns = e ∙ sym s.count_is in
          let rest = shown_from at session w s.turns fault.event in
          record {
            talk = record {
              turns = s.turns;
              run_end = Ok tt;
              lines = s.lines c;
              broken = none_broken;
              told = all_told s.turns [] err err (s.told c) (told_nothing contents err);
              ended = record {
                line = line;
                cause = tt;
                part = rest.0;
                rest = [];
                written = subst (Appends was is) (sym rest.1) (s.written c);
                whole = append-nil (shown_to at session w s.turns fault.event ++ rest.0) ∙ rest.1
                    ∙ sym (shown_behind at session w s.turns fault.event line);
              };
            };
            fits = (opens.0, s.heard.fits);
            run = all_answered count now err left is was_opened tally false s c;
          }

    -- it ends well at a line behind which no other is read
    pub over_last : (count : ℕ) (now : Engine B) (err : Errors E) (left is : Option (List ℕ)) (was_opened : Bool)
        (tally : Tally) (s : SoFar count now err left is was_opened tally false)
        (fate : Fate) (asked said : Errors E) (past shown : Option (List ℕ))
        (l : Line count now err left is was_opened tally s fate asked past shown Broken)
        (new : Engine B) (after : Option (List ℕ)) (clean : (seen new.base).is_clean → (seen now.base).is_clean)
        (kept : IsKept seen now new)
        → is_lost fate ≡ false → ((seen new.base).is_clean → IsShellFollowed (site now) (audience_at session)
        (world_of seen now) (events_of fate) shown after (world_of seen new) (count + 1) (Ok tt))
        → (done : Bool) → ((seen new.base).is_clean → verdict_of done fate
        ≡ verdict_of (are_done (site now) (world_of seen now) (events_of fate)) fate)
        → ((seen new.base).is_clean → IsSaid count now err left is was_opened tally s fate asked said past shown Broken l)
        → is_last fate ≡ true → (seen new.base).is_clean → (final : Errors E)
        → IsTold contents said final (end_told session (tally_with tally (verdict_of done fate)))
        → IsConversation x echo at session given past was after Broken (IsTold contents quiet final)
        (Ok (ending_if (not was_opened || is_short (tally_with tally (verdict_of done fate))))) w
        (world_of seen new)
    unfolding so_far_more
    over_last count now err left is was_opened tally s fate asked said past shown l new after clean kept found h done counts says last c =
        over (count + 1) new said past after was_opened (tally_with tally (verdict_of done fate)) (is_last fate)
        (so_far_more count now err left is was_opened tally s fate asked said past shown Broken l new after clean kept found h done counts says) c
        (λ o. failed_last s.turns l.read.turn past
        (last_line l.read.turn.fate past (ap is_last l.read.same ∙ last) (ap is_lost l.read.same ∙ found)
        (λ e. l.read.over (sym l.read.same ∙ e))))
        (broken_now count now err left is was_opened tally s fate asked said past shown Broken l)
