-- What is run in two lives that begin alike to a level, by events that it sees: the same transactions.
use Rattle.std.proofs.Common.{◌≡◌, ℕ, Bool, true, false, cond, List, [], ◌∷◌, ◌++◌, Option, Some, None, Result, Ok, Err, refl, sym, ap, ◌∙◌, subst, inl, inr, ◌⊎◌}
use Rattle.std.proofs.lemmas.Bool.{cases_Bool}
use Rattle.mls_lattice.specs.Labels.{below, AreDistinct}
use Rattle.mls_lattice.specs.Policy.{Name}
use Rattle.mls_scheme.specs.declared.value.Value.{Value}
use Rattle.mls_scheme.specs.Table.{Database}
use Rattle.mls_audit.specs.declared.entry.Entry.{Entry}
use Rattle.mls_certcheck.specs.Meaning.{Item}
use Rattle.mls_certcheck.specs.Secure.{seen_items, Split}
use Rattle.mls_translang.specs.declared.event.Event.{Event}
use Rattle.mls_translang.specs.declared.event.Command.{Command}
use Rattle.mls_translang.specs.declared.event.Command.TheVariants as commands
use Rattle.mls_translang.specs.Event.{EventFits}
use Rattle.mls_updates.specs.declared.outcome.Outcome.{Outcome}
use Rattle.mls_certcheck.specs.declared.stored.Stored.{Stored}
use Rattle.mls_certcheck.specs.declared.stored.Stored.TheVariants.{Certified, Plain}
use Rattle.mls_certcheck.specs.Site.{Site, site_labels, AreRead}
use Rattle.mls_machine.specs.declared.reply.Denial.{Denial}
use Rattle.mls_machine.specs.declared.reply.Reply.{Reply}
use Rattle.mls_certcheck.specs.declared.run.Run.{Run}
use Rattle.mls_machine.specs.declared.reply.Reply.TheVariants.{Opened, Closed, Rows, Dumped, Wrote, Did, Undone, Ran, Entries, Denied}
use Rattle.mls_machine.specs.Denying.{first_denial, cleared, user_named, stored_named, view_denials, write_denials, batch_denials, call_denials}
use Rattle.mls_machine.specs.Machine.{World, Step, BatchEnd, unless, did_all, ended, call_step, step_inside, open_step, step_outside, step_at, step}
use Rattle.mls_machine.specs.Observation.{AreStored, EventsFit, AreSecure, shown, glimpse, seen, released_in, reply_shown}
use Rattle.mls_machine.specs.Telling.{by_ceiling}
use Rattle.mls_machine.proofs.CalledLemmas.{all_read, all_safe, all_judged}
use Rattle.mls_machine.proofs.RunLemmas.{secure_judged}
use Rattle.mls_machine.proofs.ToldLemmas.{sees_next}
use Rattle.mls_machine.proofs.KeepingLemmas.{step_stored}
use Rattle.mls_machine.proofs.HiddenLemmas.{hidden_step}
use Rattle.mls_machine.proofs.CallLemmas.{seen_steps}
use Rattle.mls_lives.specs.Lives.{ran, all_ran}

-- a batch leaves the sessions
ended_sessions : (site : Site) (w : World) (r : Result BatchEnd (ℕ × Outcome)) → (ended site w r).world.sessions
    ≡ w.sessions
ended_sessions site w (Ok end) = refl
ended_sessions site w (Err refused) = refl

module _ (site : Site) (c : ℕ) where
  -- ---- steps in one session over other content

  -- two steps run the same, and leave the same sessions
  record RunsSame (a : Command) (s t : Step) : Type 0 where
    pub ran_same : ran site c a s.reply ≡ ran site c a t.reply
    pub sessions : s.world.sessions ≡ t.world.sessions

  module _ (w : World) (db : Database) (audit : List Entry) (e : Event) where
    -- the same sessions over this content
    abbrev u : World
    u = record { db = db; sessions = w.sessions; audit = audit }

    same_unless : (a : Command) (denial : Option Denial) (user : ℕ) (s t : Step) → RunsSame a s t
        → RunsSame a (unless site denial w e user s) (unless site denial u e user t)
    same_unless a None user s t k = k
    same_unless a (Some denial) user s t k = record { ran_same = refl; sessions = refl }

    same_call : (name : Name) (args : List (Option Value)) (user : ℕ) (o : Option Stored)
        → RunsSame (commands.Call name args) (call_step site w e user name args o) (call_step site u e user name args o)
    same_call name args user None = record { ran_same = refl; sessions = refl }
    same_call name args user (Some (Plain tx)) = record { ran_same = refl; sessions = refl }
    same_call name args user (Some (Certified k)) =
        same_unless (commands.Call name args) (first_denial (call_denials site e.level user k.tx args)) user _ _
        (record { ran_same = refl; sessions = refl })

    same_inside : (a : Command) (user : ℕ) → RunsSame a (step_inside site w e a user) (step_inside site u e a user)
    same_inside (commands.Open name) user = record { ran_same = refl; sessions = refl }
    same_inside commands.Close user = record { ran_same = refl; sessions = refl }
    same_inside commands.Audit user = record { ran_same = refl; sessions = refl }
    same_inside (commands.View relation label query counts) user =
        same_unless _ (first_denial (view_denials site e.level user relation label)) user _ _ (record {
          ran_same = refl;
          sessions = refl;
        })
    same_inside (commands.Dump relation) user =
        same_unless _ (first_denial (view_denials site e.level user relation e.level)) user _ _
        (record { ran_same = refl; sessions = refl })
    same_inside (commands.Write relation wr) user =
        same_unless _ (first_denial (write_denials site e.level user relation wr)) user _ _ (record {
          ran_same = refl;
          sessions = refl;
        })
    same_inside (commands.All batch) user =
        same_unless _ (first_denial (batch_denials site e.level user batch)) user _ _
        (record {
          ran_same = refl;
          sessions = ended_sessions site w (did_all site e.level [] batch w.db)
              ∙ sym (ended_sessions site u (did_all site e.level [] batch db));
        })
    same_inside (commands.Call name args) user = same_call name args user (stored_named site.stored name)

    same_open : (name : Name) (r : Result ℕ Denial) → RunsSame (commands.Open name) (open_step site w e r)
        (open_step site u e r)
    same_open name (Ok user) = record { ran_same = refl; sessions = refl }
    same_open name (Err denial) = record { ran_same = refl; sessions = refl }

    same_outside : (a : Command) → RunsSame a (step_outside site w e a) (step_outside site u e a)
    same_outside (commands.Open name) = same_open name (cleared site e.level (user_named site.policy name))
    same_outside a = record { ran_same = refl; sessions = refl }

    same_at : (session : Option ℕ) → RunsSame e.command (step_at site w e e.command session)
        (step_at site u e e.command session)
    same_at (Some user) = same_inside e.command user
    same_at None = same_outside e.command

    same_step : RunsSame e.command (step site w e) (step site u e)
    unfolding step
    same_step = same_at (w.sessions e.level e.session)

  -- ---- steps that release something leave the sessions

  module _ (w : World) (e : Event) where
    abbrev Quiet : Step → Type 0
    Quiet s = (s.world.sessions ≡ w.sessions) ⊎ (released_in s.reply ≡ [])

    quiet_unless : (denial : Option Denial) (user : ℕ) (s : Step) → Quiet s → Quiet (unless site denial w e user s)
    quiet_unless None user s k = k
    quiet_unless (Some denial) user s k = inl refl

    quiet_call : (name : Name) (args : List (Option Value)) (user : ℕ) (o : Option Stored)
        → Quiet (call_step site w e user name args o)
    quiet_call name args user None = inl refl
    quiet_call name args user (Some (Plain tx)) = inl refl
    quiet_call name args user (Some (Certified k)) =
        quiet_unless (first_denial (call_denials site e.level user k.tx args)) user _ (inl refl)

    quiet_inside : (a : Command) (user : ℕ) → Quiet (step_inside site w e a user)
    quiet_inside (commands.Open name) user = inl refl
    quiet_inside commands.Close user = inr refl
    quiet_inside commands.Audit user = inl refl
    quiet_inside (commands.View relation label query counts) user =
        quiet_unless (first_denial (view_denials site e.level user relation label)) user _ (inl refl)
    quiet_inside (commands.Dump relation) user =
        quiet_unless (first_denial (view_denials site e.level user relation e.level)) user _ (inl refl)
    quiet_inside (commands.Write relation wr) user =
        quiet_unless (first_denial (write_denials site e.level user relation wr)) user _ (inl refl)
    quiet_inside (commands.All batch) user =
        quiet_unless (first_denial (batch_denials site e.level user batch)) user _
        (inl (ended_sessions site w (did_all site e.level [] batch w.db)))
    quiet_inside (commands.Call name args) user = quiet_call name args user (stored_named site.stored name)

    quiet_open : (r : Result ℕ Denial) → Quiet (open_step site w e r)
    quiet_open (Ok user) = inr refl
    quiet_open (Err denial) = inl refl

    quiet_outside : (a : Command) → Quiet (step_outside site w e a)
    quiet_outside (commands.Open name) = quiet_open (cleared site e.level (user_named site.policy name))
    quiet_outside a = inl refl

    quiet_at : (session : Option ℕ) → Quiet (step_at site w e e.command session)
    quiet_at (Some user) = quiet_inside e.command user
    quiet_at None = quiet_outside e.command

    quiet_step : Quiet (step site w e)
    unfolding step
    quiet_step = quiet_at (w.sessions e.level e.session)

  -- ---- what is run, as c sees the command and the reply

  ran_shown : (a : Command) (r : Reply) → ran site c (shown site c a) (reply_shown (site_labels site) c r)
      ≡ ran site c a r
  ran_shown (commands.Call name args) (Ran run) = refl
  ran_shown (commands.Call name args) (Opened user) = refl
  ran_shown (commands.Call name args) Closed = refl
  ran_shown (commands.Call name args) (Rows tuples) = refl
  ran_shown (commands.Call name args) (Dumped tuples) = refl
  ran_shown (commands.Call name args) (Wrote o) = refl
  ran_shown (commands.Call name args) (Did answers) = refl
  ran_shown (commands.Call name args) (Undone number o) = refl
  ran_shown (commands.Call name args) (Entries es) = refl
  ran_shown (commands.Call name args) (Denied d) = refl
  ran_shown a r = refl

  ran_by_shown : (a b : Command) → shown site c a ≡ shown site c b → (x y : Run) → ran site c a (Ran x)
      ≡ ran site c b (Ran y)
  ran_by_shown a b same x y = sym (ran_any a x) ∙ ap (λ k. ran site c k (Ran x)) same ∙ ran_any_as b x y
    where
      ran_any : (a : Command) (x : Run) → ran site c (shown site c a) (Ran x) ≡ ran site c a (Ran x)
      ran_any (commands.Call name args) x = refl
      ran_any a x = refl

      ran_any_as : (a : Command) (x y : Run) → ran site c (shown site c a) (Ran x) ≡ ran site c a (Ran y)
      ran_any_as (commands.Call name args) x y = refl
      ran_any_as a x y = refl

  -- nothing splits from no items
  split_none : (xs : List Item) → Split xs [] → ⊥
  split_none [] h = h
  split_none (x ∷ xs) h = h

  -- replies that split run the same, if c sees the same of their commands
  ran_split : (a b : Command) → shown site c a ≡ shown site c b → (r q : Reply)
      → Split (seen_items (site_labels site) c (released_in r)) (seen_items (site_labels site) c (released_in q))
      → ran site c a r ≡ ran site c b q
  ran_split a b same (Ran x) (Ran y) h = ran_by_shown a b same x y
  ran_split a b same (Ran x) q h = absurd (split_none (seen_items (site_labels site) c x.released) h)
  ran_split a b same r q h = absurd h

  -- ---- two steps

  abbrev SameSessions : World → World → Type 0
  SameSessions v w = (level : ℕ) (name : Name) → below (site_labels site) level c ≡ true → v.sessions level name
      ≡ w.sessions level name

  record StepsRun (e x : Event) (s t : Step) : Type 0 where
    pub ran_same : ran site c e.command s.reply ≡ ran site c x.command t.reply
    pub sessions : SameSessions s.world t.world

  module _ (distinct : AreDistinct (site_labels site)) (read : AreRead site) (secure : AreSecure site) where
    steps_run : (v w : World) (e x : Event) → AreStored site v.db → below (site_labels site) e.level c ≡ true
        → SameSessions v w → glimpse site c e ≡ glimpse site c x
        → StepsRun e x (step site v e) (step site w x)
    steps_run v w e x sv sees h g =
        let there : World = record { db = v.db; sessions = w.sessions; audit = v.audit } in
        let over = same_step w v.db v.audit x in
        let same : shown site c e.command ≡ shown site c x.command = ap (λ y. y.command) g in
        elim (seen_steps by_ceiling site distinct c v there sv sv (record {
          tables = λ r. refl;
          sessions = h;
          entries =
              refl;
        }) e sees x (all_safe site read secure e.command)
        (all_judged by_ceiling site (secure_judged site secure) e.command) g) [
          | inl s ↦ record {
            ran_same = ran_split e.command x.command same _ _ s.0 ∙ sym over.ran_same;
            sessions = λ l n b. split_left v there e x s.0 h l n b ∙ (λ i. sym over.sessions i l n);
          }
          | inr a ↦ record {
            ran_same = sym (ran_shown e.command _) ∙ (λ i. ran site c (same i) (a.reply i)) ∙ ran_shown x.command _
                ∙ sym over.ran_same;
            sessions = λ l n b. a.world.sessions l n b ∙ (λ i. sym over.sessions i l n);
          }
        ]
      where
        split_left : (v u : World) (e x : Event)
            → Split (seen_items (site_labels site) c (released_in (step site v e).reply))
            (seen_items (site_labels site) c (released_in (step site u x).reply))
            → SameSessions v u → SameSessions (step site v e).world (step site u x).world
        split_left v u e x s h l n b =
            elim (quiet_step v e) [
              | inr none ↦ absurd (subst (λ r. Split (seen_items (site_labels site) c r)
                  (seen_items (site_labels site) c (released_in (step site u x).reply))) none s)
              | inl one ↦ elim (quiet_step u x) [
                | inr none ↦ absurd (split_none _ (subst (λ r. Split (seen_items (site_labels site) c
                    (released_in (step site v e).reply)) (seen_items (site_labels site) c r)) none s))
                | inl two ↦ (λ i. one i l n) ∙ h l n b ∙ (λ i. sym two i l n)
              ]
            ]

    -- ---- whole runs, in any two interleavings

    abbrev next : World → Event → World
    next w e = (step site w e).world

    abbrev Sees : Event → Bool → Type 0
    Sees e b = below (site_labels site) e.level c ≡ b

    stored_next : (w : World) (e : Event) → AreStored site w.db → EventFits site.policy site.schemes e
        → AreStored site (next w e).db
    stored_next w e sw fits = step_stored site distinct w e sw fits (all_read site read e.command)

    ran_next : (w : World) (e : Event) (es : List Event) (b : Bool) → Sees e b → all_ran site c w (e ∷ es)
        ≡ cond b (ran site c e.command (step site w e).reply) [] ++ all_ran site c (next w e) es
    unfolding all_ran
    ran_next w e es b h = ap (λ x. cond x (ran site c e.command (step site w e).reply) [] ++ all_ran site c
        (next w e) es) h

    -- sessions after an event that c does not see
    still : (w : World) (e : Event) → AreStored site w.db → EventFits site.policy site.schemes e → Sees e false
        → SameSessions w (next w e)
    still w e sw fits h = (hidden_step site distinct c w sw e h fits
        (all_safe site read secure e.command)).world.sessions

    cons_head : (x y : Event) (xs ys : List Event) → x ∷ xs ≡ y ∷ ys → x ≡ y
    cons_head x y xs ys e = cc

    cons_tail : (x y : Event) (xs ys : List Event) → x ∷ xs ≡ y ∷ ys → xs ≡ ys
    cons_tail x y xs ys e = cc

    not_nil : (x : Event) (xs : List Event) → x ∷ xs ≡ [] → ⊥
    not_nil x xs e = absurd (cc)

    Claim : List Event → Type 0
    Claim es = (fs : List Event) (v w : World) → EventsFit site es → EventsFit site fs → AreStored site v.db
        → AreStored site w.db → SameSessions v w
        → seen site c es ≡ seen site c fs → all_ran site c v es ≡ all_ran site c w fs

    hidden_rest : (v w : World) (fs : List Event) → EventsFit site fs → AreStored site w.db → [] ≡ seen site c fs
        → [] ≡ all_ran site c w fs
    unfolding all_ran
    hidden_rest v w [] fits sw none = refl
    hidden_rest v w (x ∷ fs) fits sw none =
        elim (cases_Bool (below (site_labels site) x.level c)) [
          | inl b ↦ absurd (not_nil (glimpse site c x) (seen site c fs) (sym (none ∙ sees_next site c x fs true b)))
          | inr b ↦ hidden_rest v (next w x) fs fits.1 (stored_next w x sw fits.0)
              (none ∙ sees_next site c x fs false b)
              ∙ sym (ran_next w x fs false b)
        ]

    -- the first run is at an event that c sees, and the second goes on to one
    meet : (e : Event) (es : List Event) → Claim es → (v : World) → EventsFit site (e ∷ es) → Sees e true
        → AreStored site v.db
        → (fs : List Event) (w : World) → EventsFit site fs → AreStored site w.db → SameSessions v w → glimpse site c e
        ∷ seen site c es ≡ seen site c fs
        → all_ran site c v (e ∷ es) ≡ all_ran site c w fs
    unfolding Claim
    meet e es claim v fe b sv [] w gf sw h same = absurd (not_nil (glimpse site c e) (seen site c es) same)
    meet e es claim v fe b sv (x ∷ fs) w gf sw h same =
        elim (cases_Bool (below (site_labels site) x.level c)) [
          | inl q ↦
              let k = same ∙ sees_next site c x fs true q in
              let g = cons_head (glimpse site c e) (glimpse site c x) (seen site c es) (seen site c fs) k in
              let two = steps_run v w e x sv b h g in
              let rest = claim fs (next v e) (next w x) fe.1 gf.1 (stored_next v e sv fe.0)
              (stored_next w x sw gf.0) two.sessions
              (cons_tail (glimpse site c e) (glimpse site c x) (seen site c es) (seen site c fs) k) in
              ran_next v e es true b ∙ (λ i. two.ran_same i ++ rest i) ∙ sym (ran_next w x fs true q)
          | inr q ↦
              meet e es claim v fe b sv fs (next w x) gf.1 (stored_next w x sw gf.0) (λ l n p. h l n p
              ∙ still w x sw gf.0 q l n p) (same ∙ sees_next site c x fs false q)
              ∙ sym (ran_next w x fs false q)
        ]

    interleaved : (es : List Event) → Claim es
    unfolding Claim all_ran
    interleaved [] fs v w fe gf sv sw h same = hidden_rest v w fs gf sw same
    interleaved (e ∷ es) fs v w fe gf sv sw h same =
        elim (cases_Bool (below (site_labels site) e.level c)) [
          | inl b ↦ meet e es (interleaved es) v fe b sv fs w gf sw h (sym (sees_next site c e es true b) ∙ same)
          | inr b ↦ ran_next v e es false b
              ∙ interleaved es fs (next v e) w fe.1 gf (stored_next v e sv fe.0) sw
              (λ l n p. sym (still v e sv fe.0 b l n p)
              ∙ h l n p) (sym (sees_next site c e es false b) ∙ same)
        ]

    pub same_ran : (es fs : List Event) (v w : World) → EventsFit site es → EventsFit site fs → AreStored site v.db
        → AreStored site w.db → SameSessions v w
        → seen site c es ≡ seen site c fs → all_ran site c v es ≡ all_ran site c w fs
    unfolding Claim
    same_ran es fs v w fe gf sv sw h same = interleaved es fs v w fe gf sv sw h same
