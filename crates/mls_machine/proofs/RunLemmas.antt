-- Whole runs, in any two interleavings, as a level sees them.
use Rattle.std.proofs.Common.{◌≡◌, ℕ, Bool, true, false, not, cond, List, [], ◌∷◌, ◌++◌, map, take, refl, sym, ap, ◌∙◌, subst, inl, inr, ◌⊎◌, filter}
use Rattle.std.specs.List.{AllByRecursion}
use Rattle.std.proofs.lemmas.Bool.{cases_Bool}
use Rattle.std.proofs.lemmas.List.{append_cancel_left}
use Rattle.std.proofs.lemmas.List.Elements.{filter-append}
use Rattle.mls_lattice.specs.Labels.{below, AreDistinct}
use Rattle.mls_certcheck.specs.Meaning.{Item}
use Rattle.mls_certcheck.specs.Secure.{seen_items, Split, Secure}
use Rattle.mls_certcheck.proofs.FlowLemmas.{split_more}
use Rattle.mls_certcheck.specs.Rules.{claim}
use Rattle.mls_certcheck.proofs.LawLemmas.{secure_rules, sharp_rules}
use Rattle.mls_translang.specs.declared.event.Event.{Event}
use Rattle.mls_translang.specs.declared.event.Command.{Command}
use Rattle.mls_translang.specs.declared.event.Command.TheVariants as commands
use Rattle.mls_translang.specs.Event.{EventFits}
use Rattle.mls_machine.specs.declared.form.Form.{Form}
use Rattle.mls_machine.specs.declared.reply.Reply.{Reply}
use Rattle.mls_certcheck.specs.declared.stored.Stored.{Stored}
use Rattle.mls_certcheck.specs.declared.stored.Stored.TheVariants.{Certified, Plain}
use Rattle.mls_certcheck.specs.Stored.{WhereCertified, IsCertifiedUnder}
use Rattle.mls_certcheck.specs.Site.{Site, site_labels, AreRead, AreCertified}
use Rattle.mls_machine.specs.Denying.{stored_named}
use Rattle.mls_machine.specs.Machine.{World, step, end_of}
use Rattle.mls_machine.specs.Output.{Line, reply_lines_in, run_lines, printed}
use Rattle.mls_machine.specs.Observation.{AreStored, EventsFit, AreSecure, IsNoCall, HaveNoCall, SeesNoCall, IsCallSecure, AreCallsSecure, shown, glimpse, seen, is_called, AgreeAt, EndAlike, out, released_in, run_released, released_to, told_to, ReleaseTheSame, reply_shown, replies_shown, PassesDownBy, PassesOnlyReleasesDown}
use Rattle.mls_machine.specs.Showing.{ShowsOnlyReleases}
use Rattle.mls_machine.specs.Telling.{Test, by_ceiling, by_releases}
use Rattle.mls_machine.specs.Laws.{LowRunsAreAlike, SecureRunsAreAlike, AcceptedRunsAreAlike}
use Rattle.mls_machine.proofs.CalledLemmas.{WhereCalled, CallsRead, IsSafe, IsJudged, WhereJudged, all_safe, all_judged, secure_call, some_weaker, weaker}
use Rattle.mls_machine.proofs.ToldLemmas.{told_true, none_untold, sees_next, TellsBy, told_next, told_hidden, tells_same, untold_same}
use Rattle.mls_machine.proofs.KeepingLemmas.{step_stored, first_fit}
use Rattle.mls_machine.proofs.LowLemmas.{LowAgree, lows_trans, lows_sym, to_low, from_low}
use Rattle.mls_machine.proofs.HiddenLemmas.{Silent, hidden_step}
use Rattle.mls_machine.proofs.CallLemmas.{StepsAlike, seen_steps}
use Rattle.mls_machine.proofs.FormLemmas.{seen_in, hidden_in}

parts_head : (x y : Event) (xs ys : List Event) → x ∷ xs ≡ y ∷ ys → x ≡ y
parts_head x y xs ys e = cc

parts_tail : (x y : Event) (xs ys : List Event) → x ∷ xs ≡ y ∷ ys → xs ≡ ys
parts_tail x y xs ys e = cc

not_nil : (x : Event) (xs : List Event) → x ∷ xs ≡ [] → ⊥
not_nil x xs e = absurd (cc)

-- no list splits from itself
not_from_itself : (xs : List Item) → Split xs xs → ⊥
not_from_itself [] h = h
not_from_itself (x ∷ xs) (inl h) = h.1 refl
not_from_itself (x ∷ xs) (inr h) = not_from_itself xs h.1

module _ (tells : Test) (site : Site) (distinct : AreDistinct (site_labels site)) (c : ℕ) where
  abbrev next : World → Event → World
  next w e = (step site w e).world

  -- an event fits, and what it calls is secure, and judged by the test
  record IsGood (e : Event) : Type 0 where
    pub fits : EventFits site.policy site.schemes e
    pub safe : WhereCalled site (IsSafe site) e.command
    pub judged : WhereJudged tells site e.command

  abbrev AreGood : List Event → Type 0
  AreGood = AllByRecursion IsGood

  calls_read : (e : Event) → IsGood e → CallsRead site e.command
  calls_read e good = weaker site (IsSafe site) _ (λ tx safe. safe.read) e.command good.safe

  stored_next : (w : World) (e : Event) → AreStored site w.db → IsGood e → AreStored site (next w e).db
  stored_next w e sw good = step_stored site distinct w e sw good.fits (calls_read e good)

  stored_end : (w : World) (es : List Event) → AreStored site w.db → AreGood es → AreStored site (end_of site w es).db
  unfolding end_of
  stored_end w [] sw good = sw
  stored_end w (e ∷ es) sw good = stored_end (next w e) es (stored_next w e sw good.0) good.1

  -- c sees the level of an event, or doesn't
  abbrev Sees : Event → Bool → Type 0
  Sees e b = below (site_labels site) e.level c ≡ b

  -- ---- one event more

  abbrev out_of : Form → World → List Event → List Line
  out_of form w es = out (site_labels site) c (run_lines form site w es)

  out_next : (form : Form) (w : World) (e : Event) (es : List Event) → out_of form w (e ∷ es) ≡ out (site_labels site) c
      (reply_lines_in form site e (step site w e).reply) ++ out_of form (next w e) es
  unfolding run_lines
  out_next form w e es = filter-append (λ l. below (site_labels site) l.label c) (reply_lines_in form site e
      (step site w e).reply) (run_lines form site (next w e) es)

  abbrev released_of : World → List Event → List Item
  released_of w es = released_to site c w es

  released_next : (w : World) (e : Event) (es : List Event) → released_of w (e ∷ es) ≡ seen_items (site_labels site) c
      (released_in (step site w e).reply) ++ released_of (next w e) es
  unfolding run_released
  released_next w e es = filter-append (λ i. below (site_labels site) i.0 c) (released_in (step site w e).reply)
      (run_released site (next w e) es)

  abbrev told_of : World → List Event → List Item
  told_of w es = told_to tells site c w es

  end_next : (w : World) (e : Event) (es : List Event) → end_of site w (e ∷ es) ≡ end_of site (next w e) es
  unfolding end_of
  end_next w e es = refl

  abbrev replies_of : World → List Event → List Reply
  replies_of w es = replies_shown site c w es

  -- the reply to an event at a level that c sees, and at another none
  replies_next : (w : World) (e : Event) (es : List Event) (b : Bool) → Sees e b → replies_of w (e ∷ es)
      ≡ cond b (reply_shown (site_labels site) c (step site w e).reply ∷ []) [] ++ replies_of (next w e) es
  unfolding replies_shown
  replies_next w e es b h = ap (λ x. cond x (reply_shown (site_labels site) c (step site w e).reply ∷ []) []
      ++ replies_of (next w e) es) h

  abbrev sees : List Event → List Event
  sees es = seen site c es

  -- ---- an event that c does not see

  hush : (w : World) (e : Event) → Sees e false → AreStored site w.db → IsGood e → Silent site c w e (step site w e)
  hush w e h sw good = hidden_step site distinct c w sw e h good.fits good.safe

  out_hidden : (form : Form) (w : World) (e : Event) (es : List Event) → Sees e false → AreStored site w.db → IsGood e
      → out_of form w (e ∷ es) ≡ out_of form (next w e) es
  out_hidden form w e es h sw good = out_next form w e es ∙ ap (λ xs. xs ++ out_of form (next w e) es)
      (hidden_in site c e h (step site w e).reply (hush w e h sw good).lines form)

  released_hidden : (w : World) (e : Event) (es : List Event) → Sees e false → AreStored site w.db → IsGood e
      → released_of w (e ∷ es) ≡ released_of (next w e) es
  released_hidden w e es h sw good = released_next w e es ∙ ap (λ xs. xs ++ released_of (next w e) es)
      (hush w e h sw good).released

  -- ---- two runs that end alike

  record Ends (v w : World) (es fs : List Event) : Type 0 where
    pub out : (form : Form) → out_of form v es ≡ out_of form w fs
    pub replies : replies_of v es ≡ replies_of w fs
    pub world : LowAgree (site_labels site) c (end_of site v es) (end_of site w fs)

  -- what is asked of releases
  abbrev Released_alike : World → World → List Event → List Event → Type 0
  Released_alike v w es fs = ReleaseTheSame tells c site v es site w fs

  hidden_first : (v w : World) (e : Event) (es fs : List Event) → Sees e false → AreStored site v.db → IsGood e
      → Ends (next v e) w es fs → Ends v w (e ∷ es) fs
  hidden_first v w e es fs h sv good r = record {
    out = λ form. out_hidden form v e es h sv good ∙ r.out form;
    replies = replies_next v e es false h ∙ r.replies;
    world = subst (λ x. LowAgree (site_labels site) c x (end_of site w fs)) (sym (end_next v e es)) r.world;
  }

  hidden_second : (v w : World) (e : Event) (es fs : List Event) → Sees e false → AreStored site w.db → IsGood e
      → Ends v (next w e) es fs → Ends v w es (e ∷ fs)
  hidden_second v w e es fs h sw good r = record {
    out = λ form. r.out form ∙ sym (out_hidden form w e fs h sw good);
    replies = r.replies ∙ sym (replies_next w e fs false h);
    world = subst (λ x. LowAgree (site_labels site) c (end_of site v es) x) (sym (end_next w e fs)) r.world;
  }

  -- the second world after an event that c does not see
  still_low : (v w : World) (e : Event) → Sees e false → AreStored site w.db → IsGood e
      → LowAgree (site_labels site) c v w → LowAgree (site_labels site) c v (next w e)
  still_low v w e h sw good k = lows_trans k (hush w e h sw good).world

  -- only hidden events
  hidden_rest : (v w : World) (fs : List Event) → AreGood fs → AreStored site w.db → LowAgree (site_labels site) c v w
      → [] ≡ sees fs → Ends v w [] fs
  unfolding run_lines replies_shown end_of
  hidden_rest v w [] gf sw h none = record { out = λ form. refl; replies = refl; world = h }
  hidden_rest v w (x ∷ fs) gf sw h none =
      elim (cases_Bool (below (site_labels site) x.level c)) [
        | inl b ↦ absurd (not_nil (glimpse site c x) (sees fs) (sym (none ∙ sees_next site c x fs true b)))
        | inr b ↦ hidden_second v w x [] fs b sw gf.0 (hidden_rest v (next w x) fs gf.1 (stored_next w x sw gf.0)
            (still_low v w x b sw gf.0 h) (none ∙ sees_next site c x fs false b))
      ]

  Claim : List Event → Type 0
  Claim es = (fs : List Event) (v w : World) → AreGood es → AreGood fs → AreStored site v.db → AreStored site w.db
      → LowAgree (site_labels site) c v w → sees es ≡ sees fs → Released_alike v w es fs → Ends v w es fs

  -- items that split are not the same, whatever follows
  apart : (w v : World) (e x : Event) (xs ys : List Item)
      → seen_items (site_labels site) c (released_in (step site v e).reply) ++ xs
      ≡ seen_items (site_labels site) c (released_in (step site w x).reply) ++ ys
      → Split (seen_items (site_labels site) c (released_in (step site v e).reply))
      (seen_items (site_labels site) c (released_in (step site w x).reply)) → ⊥
  apart w v e x xs ys same s =
      let ours = seen_items (site_labels site) c (released_in (step site v e).reply) in
      not_from_itself _ (subst (Split (ours ++ xs)) (sym same) (split_more _ _ xs ys s))

  -- releases that tell two runs apart are not alike
  no_split : (v w : World) (e x : Event) (es fs : List Event) → Released_alike v w (e ∷ es) (x ∷ fs) → Sees e true
      → Sees x true → glimpse site c e ≡ glimpse site c x
      → Split (seen_items (site_labels site) c (released_in (step site v e).reply)) (seen_items (site_labels site) c
      (released_in (step site w x).reply)) × TellsBy tells site c e true → ⊥
  no_split v w e x es fs (inl same) b also g s =
      apart w v e x (released_of (next v e) es) (released_of (next w x) fs)
      (sym (released_next v e es) ∙ same ∙ released_next w x fs) s.0
  no_split v w e x es fs (inr same) b also g s =
      apart w v e x (told_of (next v e) es) (told_of (next w x) fs)
      (sym (told_next tells site c v e es true true b s.1) ∙ same ∙ told_next tells site c w x fs true true also
      (tells_same tells site c e x g ∙ s.1)) s.0

  -- what follows steps that release the same
  told_rest : (v w : World) (e x : Event) (es fs : List Event) (t : Bool) → Sees e true → Sees x true
      → TellsBy tells site c e t
      → TellsBy tells site c x t → StepsAlike site c e x (step site v e) (step site w x)
      → told_of v (e ∷ es) ≡ told_of w (x ∷ fs) → told_of (next v e) es ≡ told_of (next w x) fs
  told_rest v w e x es fs true b also k l a same =
      append_cancel_left (seen_items (site_labels site) c (released_in (step site v e).reply))
      (told_of (next v e) es) (told_of (next w x) fs)
      (sym (told_next tells site c v e es true true b k) ∙ same ∙ told_next tells site c w x fs true true also l
      ∙ ap (λ xs. xs ++ told_of (next w x) fs) (sym a.released))
  told_rest v w e x es fs false b also k l a same =
      sym (told_next tells site c v e es true false b k) ∙ same ∙ told_next tells site c w x fs true false also l

  rest_alike : (v w : World) (e x : Event) (es fs : List Event) → Sees e true → Sees x true
      → glimpse site c e ≡ glimpse site c x → StepsAlike site c e x (step site v e) (step site w x)
      → Released_alike v w (e ∷ es) (x ∷ fs) → Released_alike (next v e) (next w x) es fs
  rest_alike v w e x es fs b also g a (inl same) =
      inl (append_cancel_left (seen_items (site_labels site) c (released_in (step site v e).reply))
      (released_of (next v e) es) (released_of (next w x) fs)
      (sym (released_next v e es) ∙ same ∙ released_next w x fs ∙ ap (λ xs. xs ++ released_of (next w x) fs)
      (sym a.released)))
  rest_alike v w e x es fs b also g a (inr same) =
      inr (told_rest v w e x es fs (is_called site (tells site c) e.command) b also refl
      (tells_same tells site c e x g) a same)

  -- both runs at an event that c sees
  both_seen : (e x : Event) (es fs : List Event) → Claim es → (v w : World) → IsGood e → IsGood x → AreGood es
      → AreGood fs → Sees e true → glimpse site c e ≡ glimpse site c x → sees es ≡ sees fs
      → AreStored site v.db → AreStored site w.db → LowAgree (site_labels site) c v w
      → Released_alike v w (e ∷ es) (x ∷ fs) → Ends v w (e ∷ es) (x ∷ fs)
  unfolding Claim end_of
  both_seen e x es fs claim v w ge gx ges gfs b g same sv sw h relation =
      let also = ap (λ (y : Event). below (site_labels site) y.level c) (sym g) ∙ b in
      elim (seen_steps tells site distinct c v w sv sw h e b x ge.safe ge.judged g) [
        | inl s ↦ absurd (no_split v w e x es fs relation b also g s)
        | inr a ↦
            let r = claim fs (next v e) (next w x) ges gfs (stored_next v e sv ge) (stored_next w x sw gx) a.world same
            (rest_alike v w e x es fs b also g a relation) in
            record {
              out = λ form. out_next form v e es
                  ∙ (λ i. (seen_in site c e b (step site v e).reply form ∙ (λ j. reply_lines_in form site (g j)
                  (a.reply j)) ∙ sym (seen_in site c x also (step site w x).reply form)) i ++ r.out form i)
                  ∙ sym (out_next form w x fs);
              replies = replies_next v e es true b ∙ (λ i. a.reply i ∷ r.replies i)
                  ∙ sym (replies_next w x fs true also);
              world = r.world;
            }
      ]

  -- the first run is at an event that c sees, and the second goes on to one
  meet : (e : Event) (es : List Event) → Claim es → (v : World) → IsGood e → AreGood es → Sees e true
      → AreStored site v.db
      → (fs : List Event) (w : World) → AreGood fs → AreStored site w.db → LowAgree (site_labels site) c v w
      → glimpse site c e ∷ sees es ≡ sees fs → Released_alike v w (e ∷ es) fs → Ends v w (e ∷ es) fs
  meet e es claim v ge ges b sv [] w gf sw h same relation = absurd (not_nil (glimpse site c e) (sees es) same)
  meet e es claim v ge ges b sv (x ∷ fs) w gf sw h same relation =
      at_x (cases_Bool (below (site_labels site) x.level c)) (meet e es claim v ge ges b sv fs)
    where
      at_x : (Sees x true) ⊎ (Sees x false)
          → ((u : World) → AreGood fs → AreStored site u.db → LowAgree (site_labels site) c v u → glimpse site c e
          ∷ sees es ≡ sees fs → Released_alike v u (e ∷ es) fs → Ends v u (e ∷ es) fs)
          → Ends v w (e ∷ es) (x ∷ fs)
      at_x (inl q) go =
          let k = same ∙ sees_next site c x fs true q in
          both_seen e x es fs claim v w ge gf.0 ges gf.1 b (parts_head (glimpse site c e) (glimpse site c x) (sees es)
          (sees fs) k) (parts_tail (glimpse site c e) (glimpse site c x) (sees es) (sees fs) k) sv sw h relation
      at_x (inr q) go =
          hidden_second v w x (e ∷ es) fs q sw gf.0
          (go (next w x) gf.1 (stored_next w x sw gf.0) (still_low v w x q sw gf.0 h)
          (same ∙ sees_next site c x fs false q)
          (past relation))
        where
          past : Released_alike v w (e ∷ es) (x ∷ fs) → Released_alike v (next w x) (e ∷ es) fs
          past (inl eq) = inl (eq ∙ released_hidden w x fs q sw gf.0)
          past (inr eq) = inr (eq ∙ told_hidden tells site c w x fs q)

  interleaved : (es : List Event) → Claim es
  unfolding Claim
  interleaved [] fs v w ge gf sv sw h same relation = hidden_rest v w fs gf sw h same
  interleaved (e ∷ es) fs v w ge gf sv sw h same relation =
      elim (cases_Bool (below (site_labels site) e.level c)) [
        | inl b ↦ meet e es (interleaved es) v ge.0 ge.1 b sv fs w gf sw h (sym (sees_next site c e es true b)
            ∙ same) relation
        | inr b ↦ hidden_first v w e es fs b sv ge.0
            (interleaved es fs (next v e) w ge.1 gf (stored_next v e sv ge.0) sw
            (lows_trans (lows_sym (hush v e b sv ge.0).world) h) (sym (sees_next site c e es false b) ∙ same)
            (elim relation [
              | inl eq ↦ inl (sym (released_hidden v e es b sv ge.0) ∙ eq)
              | inr eq ↦ inr (sym (told_hidden tells site c v e es b) ∙ eq)
            ]))
      ]

  ends_alike : (v w : World) (es fs : List Event) → AreGood es → AreGood fs → AreStored site v.db → AreStored site w.db
      → AgreeAt (site_labels site) c v w → sees es ≡ sees fs → Released_alike v w es fs
      → EndAlike site c v w es fs
  unfolding Claim
  ends_alike v w es fs ge gf sv sw agree same relation =
      let r = interleaved es fs v w ge gf sv sw (to_low site distinct c v w sv sw agree) same relation in
      record {
        out = r.out;
        replies = r.replies;
        worlds = from_low site c (end_of site v es) (end_of site w fs)
            (stored_end v es sv ge) (stored_end w fs sw gf) r.world;
      }

-- ---- tests

-- what is secure is judged by what it reads
by_reading : (site : Site) (s : Stored) → WhereCertified (Secure site.policy) s → IsJudged by_ceiling site s
by_reading site (Certified k) h = λ c schemes d e args brgs read p q views same.
    elim (h.two_runs c schemes d e args brgs read p q views same) [
      | inl x ↦ inl (ap not x.0, x.1)
      | inr x ↦ inr x
    ]
by_reading site (Plain tx) h = tt

-- and what obeys a certificate by what it releases
by_releasing : (site : Site) → AreDistinct (site_labels site) → (s : Stored) → IsCertifiedUnder site.policy s
    → IsJudged by_releases site s
by_releasing site distinct (Certified k) h = λ c schemes d e args brgs read p q views same.
    elim ((sharp_rules site.policy distinct k.tx k.cert h).two_runs c schemes d e args brgs read p q views same) [
      | inl x ↦ inl (told_true (claim site.policy k.tx k.cert) c x.0, x.1)
      | inr x ↦ inr x
    ]
by_releasing site distinct (Plain tx) h = tt

all_by : {P Q : Stored → Type 0} → ((s : Stored) → P s → Q s) → (ss : List Stored) → AllByRecursion P ss
    → AllByRecursion Q ss
all_by f [] h = tt
all_by f (s ∷ ss) h = (f s h.0, all_by f ss h.1)

-- ---- the laws

all_good : (tells : Test) (site : Site) (distinct : AreDistinct (site_labels site)) (c : ℕ) → AreRead site
    → AreSecure site → AllByRecursion (IsJudged tells site) site.stored
    → (es : List Event) → EventsFit site es → AreGood tells site distinct c es
all_good tells site distinct c read secure judged [] fits = tt
all_good tells site distinct c read secure judged (e ∷ es) fits = (
  record {
    fits = fits.0;
    safe = all_safe site read secure e.command;
    judged = all_judged tells site judged e.command;
  },
  all_good tells site distinct c read secure judged es fits.1,
)

judged_alike : (tells : Test) (site : Site) → AreDistinct (site_labels site) → AreRead site → AreSecure site
    → AllByRecursion (IsJudged tells site) site.stored
    → (v : World) (es : List Event) → AreStored site v.db → EventsFit site es → PassesDownBy tells site v es
judged_alike tells site distinct read secure judged v es sv fits c w fs sw ff agree same relation =
    ends_alike tells site distinct c v w es fs (all_good tells site distinct c read secure judged es fits)
    (all_good tells site distinct c read secure judged fs ff) sv sw agree same relation

pub secure_judged : (site : Site) → AreSecure site → AllByRecursion (IsJudged by_ceiling site) site.stored
secure_judged site secure = all_by (by_reading site) site.stored secure

pub secure_alike : SecureRunsAreAlike
secure_alike site distinct read secure = judged_alike by_ceiling site distinct read secure (secure_judged site secure)

-- where the rules hold under certificates, the transactions are secure
pub certified_secure : (site : Site) → AreDistinct (site_labels site) → AreCertified site → AreSecure site
certified_secure site distinct = all_by one site.stored
  where
    one : (s : Stored) → IsCertifiedUnder site.policy s → WhereCertified (Secure site.policy) s
    one (Certified k) h = secure_rules site.policy distinct k.tx k.cert h
    one (Plain tx) h = tt

-- and judged by what they release
pub certified_judged : (site : Site) → AreDistinct (site_labels site) → AreCertified site
    → AllByRecursion (IsJudged by_releases site) site.stored
certified_judged site distinct = all_by (by_releasing site distinct) site.stored

pub accepted_alike : AcceptedRunsAreAlike
accepted_alike site distinct read certified = judged_alike by_releases site distinct read
    (certified_secure site distinct certified) (certified_judged site distinct certified)

-- of the first events of a run
pub first_accepted_alike : (site : Site) → AreDistinct (site_labels site) → AreRead site → AreCertified site
    → (v : World) (es : List Event) → AreStored site v.db → EventsFit site es → (n : ℕ) → PassesOnlyReleasesDown site v
    (take n es)
first_accepted_alike site distinct read certified v es sv fits n = accepted_alike site distinct read certified v
    (take n es) sv (first_fit site n es fits)

-- the lines that a level is shown are the same, and so are their bytes
pub shows_only_releases : (site : Site) (c : ℕ) (v : World) (es : List Event) → PassesOnlyReleasesDown site v es
    → ShowsOnlyReleases site c v es
shows_only_releases site c v es passes form w fs sw ff agree same relation =
    ap printed ((passes c w fs sw ff agree same relation).out form)

-- ---- without calls that c sees

calls_good : (site : Site) (distinct : AreDistinct (site_labels site)) (c : ℕ) (es : List Event) → EventsFit site es
    → AreCallsSecure site es → AreGood by_ceiling site distinct c es
calls_good site distinct c [] fits secure = tt
calls_good site distinct c (e ∷ es) fits secure = (
  record {
    fits = fits.0;
    safe = secure_call site e.command secure.0;
    judged = judged_call e.command secure.0;
  },
  calls_good site distinct c es fits.1 secure.1,
)
  where
    judged_call : (a : Command) → IsCallSecure site a → WhereJudged by_ceiling site a
    judged_call (commands.Call name args) h = some_weaker _ (IsJudged by_ceiling site)
        (λ s x. by_reading site s x.1) (stored_named site.stored name) h
    judged_call _ h = tt

pub runs_alike : LowRunsAreAlike
runs_alike site distinct v es sv fits secure c w fs sw ff fsecure none agree same =
    ends_alike by_ceiling site distinct c v w es fs (calls_good site distinct c es fits secure)
    (calls_good site distinct c fs ff fsecure) sv sw agree same
    (untold_same by_ceiling site c v es w fs same (none_untold by_ceiling site c (seen site c es) none))

-- ---- without calls

-- c sees none of them
pub none_seen : (site : Site) (c : ℕ) (es : List Event) → HaveNoCall es → SeesNoCall site c es
none_seen site c [] none = tt
none_seen site c (e ∷ es) none =
    elim (below (site_labels site) e.level c) as
    (λ b. HaveNoCall (map (glimpse site c) (cond b (e ∷ filter (λ f. below (site_labels site) f.level c) es)
    (filter (λ f. below (site_labels site) f.level c) es)))) [
      | true ↦ (no_call_shown e.command none.0, none_seen site c es none.1)
      | false ↦ none_seen site c es none.1
    ]
  where
    no_call_shown : (a : Command) → IsNoCall a → IsNoCall (shown site c a)
    no_call_shown (commands.Open name) h = tt
    no_call_shown commands.Close h = tt
    no_call_shown commands.Audit h = tt
    no_call_shown (commands.View relation label query counts) h = tt
    no_call_shown (commands.Dump relation) h = tt
    no_call_shown (commands.Write relation wr) h = tt
    no_call_shown (commands.Call name args) h = absurd h
    no_call_shown (commands.All batch) h = tt

-- and none calls what is not secure
pub none_secure : (site : Site) (es : List Event) → HaveNoCall es → AreCallsSecure site es
none_secure site [] none = tt
none_secure site (e ∷ es) none = (no_call_secure e.command none.0, none_secure site es none.1)
  where
    no_call_secure : (a : Command) → IsNoCall a → IsCallSecure site a
    no_call_secure (commands.Open name) h = tt
    no_call_secure commands.Close h = tt
    no_call_secure commands.Audit h = tt
    no_call_secure (commands.View relation label query counts) h = tt
    no_call_secure (commands.Dump relation) h = tt
    no_call_secure (commands.Write relation wr) h = tt
    no_call_secure (commands.Call name args) h = absurd h
    no_call_secure (commands.All batch) h = tt
