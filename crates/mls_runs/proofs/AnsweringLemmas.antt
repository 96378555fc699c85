-- A line of a desk: its event is answered, and its mark written behind that.
use Rattle.std.proofs.Common.{◌≡◌, ℕ, ◌-◌, ◌<◌, ◌≤◌, Bool, true, false, cond, List, [], ◌∷◌, ◌++◌, length, take, Option, Some, Result, Ok, Err, OnOk, IfErr, refl, sym, ap, ◌∙◌, subst, append_assoc, append-nil, arith, get_or, IsErrAnd, inl, inr}
use Rattle.std.specs.Io.KnownBytes.{Appends}
use Rattle.std.proofs.KnownBytes.{Appends-nil, Appends-trans}
use Rattle.mls_translang.specs.declared.event.Event.{Event}
use Rattle.mls_machine.specs.declared.form.Form.TheVariants.{Lines}
use Rattle.mls_certcheck.specs.Site.{Site, site_labels}
use Rattle.mls_machine.specs.Machine.{World, step, end_of}
use Rattle.mls_machine.specs.Output.{Line, reply_lines_in, run_lines, printed}
use Rattle.mls_machine.specs.Observation.{heard, run_shows}
use Rattle.mls_machine.specs.Showing.{reader_of}
use Rattle.mls_machine.specs.Serving.{answer_to, answers_to}
use Rattle.mls_translang.specs.declared.run_fault.RunCause.{RunCause}
use Rattle.mls_translang.specs.declared.run_fault.RunCause.TheVariants.{Memory, Store, Write}
use Rattle.mls_translang.specs.declared.run_fault.RunFault.{RunFault}
use Rattle.mls_sessions.specs.Run.{IsWhole, IsStopped, IsFaultOf, printed_to}
use Rattle.mls_runs.specs.declared.shell_session.Fate.{Fate}
use Rattle.mls_runs.specs.declared.shell_session.Fate.TheVariants as fates
use Rattle.mls_runs.specs.Shell.{events_of}
use Rattle.mls_runs.proofs.TalkLemmas.{no_events}
use Rattle.mls_runs.specs.Marks.{mark_of, IsCutMark}
use Rattle.mls_runs.specs.Desk.{IsDeskFollowed}

module _ (site : Site) (w : World) where
  -- ---- one event

  -- what a run shows the level of its session is its answer
  pub shown_one : (e : Event) → run_shows site (reader_of e.level Lines) w (e ∷ []) ≡ answers_to site w (e ∷ [])
  unfolding answers_to run_lines
  shown_one e =
      ap (λ (l : List Line). printed (heard (site_labels site) (Some e.level) l))
      (append-nil (reply_lines_in Lines site e (step site w e).reply))
      ∙ sym (append-nil (answer_to site w e))

  -- before the first event nothing is shown
  none_shown : (e : Event) (n : ℕ) → n ≡ 1 → printed_to site (reader_of e.level Lines) w (e ∷ []) (n - 1) ≡ []
  unfolding run_lines
  none_shown e n one = ap (λ n. printed_to site (reader_of e.level Lines) w (e ∷ []) (n - 1)) one

  kept_one : (e : Event) (done : Bool) (n : ℕ) → n ≡ 1 → take (cond done n (n - 1)) (e ∷ []) ≡ cond done (e ∷ []) []
  kept_one e true n one = ap (λ n. take n (e ∷ [])) one
  kept_one e false n one = ap (λ n. take (n - 1) (e ∷ [])) one

  module _ (e : Event) (was is : Option (List ℕ)) (new : World) where
    answered_one : (r : Result (Unit {0}) RunFault)
        → OnOk r (IsWhole site (reader_of e.level Lines) w (e ∷ []) was is new)
        → IfErr r (IsStopped site (reader_of e.level Lines) w (e ∷ []) was is new)
        → IfErr r (IsFaultOf (e ∷ [])) → IsDeskFollowed site w (e ∷ []) [] was is new r
    answered_one (Ok u) ok err fault = record {
      stands = true;
      part = run_shows site (reader_of e.level Lines) w (e ∷ []);
      rest = [];
      bytes = ok.bytes;
      whole = ap (λ l. l ++ []) (shown_one e);
      all = (refl, refl);
      cut = tt;
      world = ok.world;
    }
    answered_one (Err f) ok err fault =
        let first = fault.first in
        let last = fault.last in
        let one : f.event ≡ 1 = omega (arith, first, last) in
        let answers = answers_to site w (e ∷ []) in
        record {
          stands = f.done;
          part = printed_to site (reader_of e.level Lines) w (e ∷ []) (f.event - 1) ++ err.part;
          rest = err.rest;
          bytes = err.bytes;
          whole = err.reply ∙ ap (printed_to site (reader_of e.level Lines) w (e ∷ [])) one ∙ shown_one e
              ∙ sym (append-nil answers);
          all = tt;
          cut = record {
            write = fault.write;
            other = λ n. inl (ap (λ l. l ++ err.part) (none_shown e f.event one) ∙ err.none n);
          };
          world = err.world ∙ ap (end_of site w) (kept_one e f.done f.event one);
        }

  alone : (e : Event) (rest : List Event) → length (e ∷ rest) ≤ 1 → e ∷ rest ≡ e ∷ []
  alone e [] h = refl
  alone e (x ∷ xs) h = absurd (let k = h in omega (arith, k))

  -- of a line with an event, which is answered for the level of its session alone
  pub done_one : (e : Event) (rest es : List Event) → es ≡ e ∷ rest → length es ≤ 1
      → (was is : Option (List ℕ)) (new : World) (r : Result (Unit {0}) RunFault)
      → OnOk r (IsWhole site (reader_of e.level Lines) w es was is new)
      → IfErr r (IsStopped site (reader_of e.level Lines) w es was is new) → IfErr r (IsFaultOf es)
      → IsDeskFollowed site w es [] was is new r
  done_one e rest es first one was is new r ok err fault =
      let same : es ≡ e ∷ [] = first ∙ alone e rest (subst (λ (l : List Event). length l ≤ 1) first one) in
      subst (λ (l : List Event). IsDeskFollowed site w l [] was is new r) (sym same)
      (answered_one e was is new r
      (subst (λ (l : List Event). OnOk r (IsWhole site (reader_of e.level Lines) w l was is new)) same ok)
      (subst (λ (l : List Event). IfErr r (IsStopped site (reader_of e.level Lines) w l was is new)) same err)
      (subst (λ (l : List Event). IfErr r (IsFaultOf l)) same fault))

  -- of a line with a first event
  pub done_first : (e d : Event) (es : List Event) → 1 ≤ length es → e ≡ get_or es 0 d → length es ≤ 1
      → (was is : Option (List ℕ)) (new : World) (r : Result (Unit {0}) RunFault)
      → OnOk r (IsWhole site (reader_of e.level Lines) w es was is new)
      → IfErr r (IsStopped site (reader_of e.level Lines) w es was is new) → IfErr r (IsFaultOf es)
      → IsDeskFollowed site w es [] was is new r
  done_first e d [] some h one was is new r ok err fault = absurd (let k = some in omega (arith, k))
  done_first e d (x ∷ xs) some h one was is new r ok err fault = done_one e xs (x ∷ xs)
      (ap (λ y. y ∷ xs) (sym h)) one was is new r ok err fault

  -- ---- none

  none_done : (a : Option (List ℕ)) (r : Result (Unit {0}) RunFault) → IsDeskFollowed site w [] [] a a w r
  unfolding answers_to end_of
  none_done a (Ok u) = record {
    stands = true;
    part = [];
    rest = [];
    bytes = Appends-nil a;
    whole = refl;
    all = (refl, refl);
    cut = tt;
    world = refl;
  }
  none_done a (Err f) = record {
    stands = true;
    part = [];
    rest = [];
    bytes = Appends-nil a;
    whole = refl;
    all = tt;
    cut = record { write = λ is. refl; other = λ n. inl refl };
    world = refl;
  }

  pub done_none : (es : List Event) → es ≡ [] → (a : Option (List ℕ)) (r : Result (Unit {0}) RunFault)
      → IsDeskFollowed site w es [] a a w r
  done_none es none a r = subst (λ (l : List Event). IsDeskFollowed site w l [] a a w r) (sym none) (none_done a r)

  pub done_without : (es : List Event) → length es < 1 → (a : Option (List ℕ)) (r : Result (Unit {0}) RunFault)
      → IsDeskFollowed site w es [] a a w r
  done_without [] none a r = none_done a r
  done_without (e ∷ es) none a r = absurd (let k = none in omega (arith, k))

  pub done_default : (fate : Fate) → ((events : List Event) → fate ≡ fates.Said events → ⊥)
      → (a : Option (List ℕ)) (r : Result (Unit {0}) RunFault) → IsDeskFollowed site w (events_of fate) [] a a w r
  done_default fate h a r = done_none (events_of fate) (no_events fate h) a r

  -- ---- and its mark

  module _ (fate : Fate) (was mid : Option (List ℕ)) (new : World) where
    abbrev answers : List ℕ
    answers = answers_to site w (events_of fate)

    abbrev Followed : Option (List ℕ) → Result (Unit {0}) RunFault → Type 0
    Followed is r = IsDeskFollowed site w (events_of fate) (mark_of fate) was is new r

    abbrev Done : Result (Unit {0}) RunFault → Type 0
    Done r = IsDeskFollowed site w (events_of fate) [] was mid new r

    -- the answers are not whole: no mark is written
    followed_cut : (f : RunFault) → Done (Err f) → Followed mid (Err f)
    followed_cut f h = record {
      stands = h.stands;
      part = h.part;
      rest = h.rest ++ mark_of fate;
      bytes = h.bytes;
      whole = sym (append_assoc h.part h.rest (mark_of fate)) ∙ ap (λ l. l ++ mark_of fate)
          (h.whole ∙ append-nil answers);
      all = tt;
      cut = h.cut;
      world = h.world;
    }

    -- at the exit of a `?`
    pub followed_given_up : (r s : Result (Unit {0}) RunFault) (f : RunFault) → r ≡ Err f → IsErrAnd s (λ e. e ≡ f)
        → Done r → Followed mid s
    followed_given_up r (Ok u) f is same h = absurd same
    followed_given_up r (Err e) f is same h =
        subst (λ (x : RunFault). Followed mid (Err x)) (sym same) (followed_cut f (subst Done is h))

    module _ (is : Option (List ℕ)) (h : Done (Ok tt)) where
      answers_there : h.part ≡ answers
      answers_there = sym (append-nil h.part) ∙ ap (λ l. h.part ++ l) (sym h.all.0) ∙ h.whole ∙ append-nil answers

      pub followed_whole : Appends mid is (mark_of fate) → Followed is (Ok tt)
      followed_whole mark = record {
        stands = h.stands;
        part = h.part ++ mark_of fate;
        rest = [];
        bytes = Appends-trans was mid is h.part (mark_of fate) h.bytes mark;
        whole = append-nil (h.part ++ mark_of fate) ∙ ap (λ l. l ++ mark_of fate) answers_there;
        all = (refl, h.all.1);
        cut = tt;
        world = h.world;
      }

      -- what neither the writer nor the store stops wants memory
      for_memory : (cause : RunCause) → (cause ≡ Write → ⊥) → (cause ≡ Store → ⊥) → cause ≡ Memory
      for_memory Memory w s = refl
      for_memory Write w s = absurd (w refl)
      for_memory Store w s = absurd (s refl)

      pub followed_unmarked : (fault : RunFault) → IsCutMark (mark_of fate) mid is fault.cause → Followed is (Err fault)
      followed_unmarked fault k = record {
        stands = h.stands;
        part = h.part ++ k.cut.part;
        rest = k.cut.rest;
        bytes = Appends-trans was mid is h.part k.cut.part h.bytes k.cut.appends;
        whole = append_assoc h.part k.cut.part k.cut.rest ∙ ap (λ l. h.part ++ l) k.cut.whole
            ∙ ap (λ l. l ++ mark_of fate) answers_there;
        all = tt;
        cut = record {
          write = λ is. h.all.1;
          other = λ n. inr (
            for_memory fault.cause n k.no_store,
            ap (λ l. h.part ++ l) (k.none n) ∙ append-nil h.part
                ∙ answers_there,
            h.all.1,
          );
        };
        world = h.world;
      }
