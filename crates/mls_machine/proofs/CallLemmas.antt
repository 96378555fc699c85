-- Two steps at one level that c dominates, from worlds that look alike to c: calls of one transaction, whose arguments
-- look alike to c, and two events that look alike to c.
use Rattle.std.proofs.Common.{◌≡◌, ℕ, Bool, true, false, not, ◌&&◌, ◌||◌, List, [], ◌∷◌, ◌++◌, length, map, Option, Some, None, refl, sym, ap, ◌∙◌, subst, inl, inr, ◌⊎◌, nat_eq, IfSome, eqb-true, option_map, unwrap_or}
use Rattle.std.proofs.lemmas.List.{length-map}
use Rattle.std.proofs.lemmas.List.Elements.{filter-append}
use Rattle.mls_lattice.specs.Labels.{below, AreDistinct}
use Rattle.mls_lattice.specs.Policy.{Name}
use Rattle.mls_scheme.specs.declared.value.Value.{Value}
use Rattle.mls_filterview.proofs.LevelLemmas.{low_from_views, views_from_low}
use Rattle.mls_audit.specs.Entry.{label_of, visible}
use Rattle.mls_translang.specs.Tx.{Tx}
use Rattle.mls_certcheck.specs.Meaning.{Item, run_tx}
use Rattle.mls_certcheck.specs.Secure.{seen_items, Split}
use Rattle.mls_certcheck.proofs.MeaningLemmas.{keep_form}
use Rattle.mls_translang.specs.declared.event.Event.{Event}
use Rattle.mls_translang.specs.declared.event.Command.{Command}
use Rattle.mls_translang.specs.declared.event.Command.TheVariants as commands
use Rattle.mls_machine.specs.declared.reply.Denial.{Denial}
use Rattle.mls_machine.specs.declared.reply.Denial.TheVariants.{Ds, Ss, Star, Trust, Arguments}
use Rattle.mls_machine.specs.declared.reply.Reply.TheVariants.{Ran}
use Rattle.mls_certcheck.specs.declared.stored.Stored.{Stored}
use Rattle.mls_certcheck.specs.declared.stored.Stored.TheVariants as stored
use Rattle.mls_certcheck.specs.declared.certified.Certified.{Certified}
use Rattle.mls_certcheck.specs.Site.{Site, site_labels}
use Rattle.mls_machine.specs.Denying.{first_denial, clearance_of, trusted_of, exceed, execute_mode, lacks_rights_on, lie_outside, stored_named, are_wrong_at, fitted, call_denials}
use Rattle.mls_machine.specs.Machine.{World, Step, unless, denial_entry, denied, call_entries, called, call_step, step_at, step}
use Rattle.mls_machine.specs.Output.{line, call_texts, item_lines, reply_lines}
use Rattle.mls_machine.specs.Observation.{AreStored, params_of, blanked, shown, glimpse, is_called, IsNoCall, out, released_in, reply_shown}
use Rattle.mls_machine.proofs.LowLemmas.{LowAgree}
use Rattle.mls_machine.proofs.DenyingLemmas.{may_run}
use Rattle.mls_machine.specs.Telling.{Test}
use Rattle.mls_machine.proofs.CalledLemmas.{certified_of, WhereCalled, IsSafe, IsJudged, WhereJudged}
use Rattle.mls_machine.proofs.ArgumentLemmas.{fitted_count, same_count, same_wrong, same_fitted}
use Rattle.mls_machine.proofs.ItemLemmas.{lines_of, lines_seen, entries_of, entries_seen}
use Rattle.mls_machine.proofs.AlikeLemmas.{alike_entries, alike_step}

-- two steps, at two events, show c the same and leave worlds that look alike to it
pub record StepsAlike (site : Site) (c : ℕ) (e x : Event) (s t : Step) : Type 0 where
  pub world : LowAgree (site_labels site) c s.world t.world
  pub lines : out (site_labels site) c (reply_lines site e s.reply) ≡ out (site_labels site) c
      (reply_lines site x t.reply)
  pub released : seen_items (site_labels site) c (released_in s.reply) ≡ seen_items (site_labels site) c
      (released_in t.reply)
  pub reply : reply_shown (site_labels site) c s.reply ≡ reply_shown (site_labels site) c t.reply

-- or what they release to c tells them apart, which is where by a test the call can tell c something
abbrev pub SplitOrAlike : Test → Site → ℕ → Event → Event → Step → Step → Type 0
SplitOrAlike tells site c e x s t =
    (Split (seen_items (site_labels site) c (released_in s.reply)) (seen_items (site_labels site) c
    (released_in t.reply)) × (is_called site (tells site c) e.command ≡ true))
    ⊎ StepsAlike site c e x s t

-- an event with another command
abbrev pub twin : Event → Command → Event
twin e command = record { level = e.level; session = e.session; time = e.time; command = command }

module _ (tells : Test) (site : Site) (distinct : AreDistinct (site_labels site)) (c : ℕ) (v w : World)
    (sv : AreStored site v.db) (sw : AreStored site w.db) (h : LowAgree (site_labels site) c v w) (e : Event)
    (sees : below (site_labels site) e.level c ≡ true) where
  -- ---- two calls

  module _ (name : Name) (vs ws : List (Option Value)) where
    abbrev first : Event
    first = twin e (commands.Call name vs)

    abbrev second : Event
    second = twin e (commands.Call name ws)

    abbrev Alike : Step → Step → Type 0
    Alike s t = SplitOrAlike tells site c first second s t

    abbrev Same : Option Stored → Type 0
    Same o = blanked (site_labels site) c (params_of o) vs ≡ blanked (site_labels site) c (params_of o) ws

    -- arguments that c does not see decide no denial
    same_denial : (user : ℕ) (tx : Tx) → blanked (site_labels site) c tx.params vs
        ≡ blanked (site_labels site) c tx.params ws
        → first_denial (call_denials site e.level user tx vs) ≡ first_denial (call_denials site e.level user tx ws)
    unfolding first_denial
    same_denial user tx same =
        elim (nat_eq tx.lo e.level) as (λ b. nat_eq tx.lo e.level ≡ b → of_both (nat_eq tx.lo e.level) (wrong vs)
        ≡ of_both (nat_eq tx.lo e.level) (wrong ws)) [
          | true ↦ λ q.
              let count = same_count (site_labels site) c tx.params vs ws same in
              let kinds = same_wrong (site_labels site) c tx.lo (ap (λ l. below (site_labels site) l c)
              (eqb-true tx.lo e.level q) ∙ sees) tx.params vs ws same in
              λ i. of_both (nat_eq tx.lo e.level) (not (nat_eq (count i) (length tx.params)) || kinds i)
          | false ↦ λ q. ap (λ b. of_both b (wrong vs)) q ∙ no_matter (lacks_rights_on site user tx.name (execute_mode
              ∷ [])) (exceed site (clearance_of site.policy user) (tx.hi ∷ [])) ∙ ap (λ b. of_both b (wrong ws)) (sym q)
        ] refl
      where
        wrong : List (Option Value) → Bool
        wrong xs = not (nat_eq (length xs) (length tx.params)) || are_wrong_at tx.lo tx.params xs

        trust : Bool
        trust = not (nat_eq tx.hi tx.lo) && lie_outside (site_labels site) (trusted_of site.policy user) (tx.lo ∷ tx.hi
            ∷ [])

        of_all : Bool → Bool → Bool → Bool → Option Denial
        of_all ds ss b r = first_denial ((ds, Ds) ∷ (ss, Ss) ∷ (not b, Star) ∷ (trust, Trust) ∷ (r, Arguments) ∷ [])

        of_both : Bool → Bool → Option Denial
        of_both b r = of_all (lacks_rights_on site user tx.name (execute_mode ∷ []))
            (exceed site (clearance_of site.policy user) (tx.hi ∷ [])) b r

        no_matter : (ds ss : Bool) → of_all ds ss false (wrong vs) ≡ of_all ds ss false (wrong ws)
        no_matter ds ss = refl

    both_denied : (user : ℕ) (denial : Denial) → Alike (denied site v first user denial)
        (denied site w second user denial)
    both_denied user denial = inr (record {
      world = record {
        tables = h.tables;
        sessions = h.sessions;
        entries = alike_entries site c v w e sees h
            (denial_entry site e user denial ∷ []);
      };
      lines = refl;
      released = refl;
      reply = refl;
    })

    same_entries : (user : ℕ) (items others : List Item) → seen_items (site_labels site) c items
        ≡ seen_items (site_labels site) c others
        → visible (site_labels site) c (call_entries site first user name items) ≡ visible (site_labels site) c
        (call_entries site second user name others)
    same_entries user items others x =
        entries_seen (site_labels site) c site first user name items
        ∙ ap (entries_of site e user name (below (site_labels site) e.level c)) x
        ∙ sym (entries_seen (site_labels site) c site second user name others)

    both_called : (user : ℕ) (k : Certified) → stored_named site.stored name ≡ Some (stored.Certified k)
        → IsSafe site k.tx → IsJudged tells site (stored.Certified k) → length vs ≡ length k.tx.params
        → blanked (site_labels site) c k.tx.params vs ≡ blanked (site_labels site) c k.tx.params ws
        → Alike (called site v first user name k.tx vs) (called site w second user name k.tx ws)
    both_called user k found safe judged count same =
        let ls = site_labels site in
        let tx = k.tx in
        let count' = sym (same_count ls c tx.params vs ws same) ∙ count in
        let args = fitted tx.params vs in
        let brgs = fitted tx.params ws in
        let s = run_tx ls site.schemes tx args v.db in
        let t = run_tx ls site.schemes tx brgs w.db in
        let labels = length-map tx.params (λ p. p.1.label) in
        elim (judged c site.schemes v.db w.db args brgs safe.read sv sw (λ r. views_from_low ls _ _
        (v.db r) (w.db r) (sv r) (sw r) c (h.tables r))
        (record {
          count = fitted_count tx.params vs count ∙ sym labels;
          count' = fitted_count tx.params ws count'
              ∙ sym labels;
          each = same_fitted ls c tx.params vs ws same;
        })) [
          | inl x ↦ inl (x.1, ap (λ o. unwrap_or (option_map (tells site c) o) false) found ∙ x.0)
          | inr x ↦ inr (record {
            world = record {
              tables = λ r. low_from_views ls distinct _ _ (s.db r) (t.db r)
                  (keep_form site.policy distinct site.schemes tx safe.read args v.db sv r)
                  (keep_form site.policy distinct site.schemes tx safe.read brgs w.db sw r) c (x.views r);
              sessions = h.sessions;
              entries = filter-append (λ y. below ls (label_of y) c) v.audit
                  (call_entries site first user name s.released)
                  ∙ (λ i. h.entries i ++ same_entries user s.released t.released x.released i)
                  ∙ sym (filter-append (λ y. below ls (label_of y) c) w.audit
                  (call_entries site second user name t.released));
            };
            lines = filter-append (λ l. below ls l.label c) (map (line site.policy e e.level)
                (call_texts (commands.Call name vs))) (item_lines site.policy first
                (called site v first user name tx vs).reply)
                ∙ ap (λ xs. out ls c (map (line site.policy e e.level) (call_texts (commands.Call name vs))) ++ xs)
                (lines_seen ls c site.policy first s.emitted s.released ∙ (λ i. lines_of site.policy e (x.emitted i)
                (x.released i)) ∙ sym (lines_seen ls c site.policy second t.emitted t.released))
                ∙ sym (filter-append (λ l. below ls l.label c) (map (line site.policy e e.level)
                (call_texts (commands.Call name vs))) (item_lines site.policy second
                (called site w second user name tx ws).reply));
            released = x.released;
            reply = λ i. Ran (record { emitted = x.emitted i; released = x.released i });
          })
        ]

    both_unless : (user : ℕ) (a b : Option Denial) → a ≡ b → (s t : Step) → (a ≡ None → Alike s t)
        → Alike (unless site a v first user s) (unless site b w second user t)
    both_unless user a b q s t k = subst (λ d. Alike (unless site a v first user s) (unless site d w second user t)) q
        (by_denial a k)
      where
        by_denial : (d : Option Denial) → (d ≡ None → Alike s t) → Alike (unless site d v first user s)
            (unless site d w second user t)
        by_denial None k = k refl
        by_denial (Some denial) k = both_denied user denial

    both_calls : (user : ℕ) (o : Option Stored) → stored_named site.stored name ≡ o
        → IfSome (certified_of o) (IsSafe site) → IfSome o (IsJudged tells site) → Same o
        → Alike (call_step site v first user name vs o)
        (call_step site w second user name ws o)
    both_calls user None found safe judged same = both_denied user _
    both_calls user (Some (stored.Plain tx)) found safe judged same = both_denied user _
    both_calls user (Some (stored.Certified k)) found safe judged same =
        both_unless user (first_denial (call_denials site e.level user k.tx vs))
        (first_denial (call_denials site e.level user k.tx ws)) (same_denial user k.tx same)
        (called site v first user name k.tx vs) (called site w second user name k.tx ws)
        (λ none. both_called user k found safe judged (may_run site e.level user k.tx vs none).count same)

    calls_at : IfSome (certified_of (stored_named site.stored name)) (IsSafe site)
        → IfSome (stored_named site.stored name) (IsJudged tells site) → Same (stored_named site.stored name)
        → (session : Option ℕ) → Alike (step_at site v first (commands.Call name vs) session)
        (step_at site w second (commands.Call name ws) session)
    calls_at safe judged same None = inr (record { world = h; lines = refl; released = refl; reply = refl })
    calls_at safe judged same (Some user) = both_calls user (stored_named site.stored name) refl safe judged same

    call_steps : WhereCalled site (IsSafe site) (commands.Call name vs)
        → WhereJudged tells site (commands.Call name vs) → Same (stored_named site.stored name)
        → Alike (step site v first) (step site w second)
    unfolding step
    call_steps safe judged same = subst (λ o. Alike (step site v first)
        (step_at site w second (commands.Call name ws) o))
        (h.sessions e.level e.session sees) (calls_at safe judged same (v.sessions e.level e.session))

  -- ---- two commands that look alike to c

  abbrev sh : Command → Command
  sh = shown site c

  shown_plain : (a : Command) → IsNoCall a → sh a ≡ a
  shown_plain (commands.Call name args) h = absurd h
  shown_plain _ h = refl

  -- what is shown without a call is the command itself
  plain_back : (a b : Command) → IsNoCall a → a ≡ sh b → a ≡ b
  plain_back a (commands.Call name args) p q = absurd (subst IsNoCall q p)
  plain_back a _ p q = q

  abbrev Pair : Command → Command → Type 0
  Pair a b = SplitOrAlike tells site c (twin e a) (twin e b) (step site v (twin e a)) (step site w (twin e b))

  plain_pair : (a : Command) → IsNoCall a → Pair a a
  plain_pair a p =
      let s = alike_step site c v w (twin e a) sees h p in
      inr (record {
        world = s.world;
        lines = ap (λ r. out (site_labels site) c (reply_lines site (twin e a) r)) s.reply;
        released = ap (λ r. seen_items (site_labels site) c (released_in r)) s.reply;
        reply = ap (reply_shown (site_labels site) c) s.reply;
      })

  from_plain : (a b : Command) → IsNoCall a → sh a ≡ sh b → Pair a b
  from_plain a b p q = subst (Pair a) (plain_back a b p (sym (shown_plain a p) ∙ q)) (plain_pair a p)

  -- a call looks like calls of its name alone
  abbrev name_of : Command → Name
  name_of (commands.Call name args) = name
  name_of command = []

  abbrev args_of : Command → List (Option Value)
  args_of (commands.Call name args) = args
  args_of command = []

  plain_no_call : (name : Name) (args : List (Option Value)) (b : Command) → IsNoCall b → commands.Call name args ≡ b
      → ⊥
  plain_no_call name args b p q = subst IsNoCall (sym q) p

  from_call : (name : Name) (vs : List (Option Value)) (b : Command) → WhereCalled site (IsSafe site)
      (commands.Call name vs) → WhereJudged tells site (commands.Call name vs) → sh (commands.Call name vs) ≡ sh b
      → Pair (commands.Call name vs) b
  from_call name vs (commands.Call n ws) safe judged q =
      let same : name ≡ n = ap name_of q in
      let args = ap args_of q ∙ ap (λ m. blanked (site_labels site) c (params_of (stored_named site.stored m)) ws)
      (sym same) in
      subst (λ m. Pair (commands.Call name vs) (commands.Call m ws)) same (call_steps name vs ws safe judged args)
  from_call name vs _ safe judged q = absurd (plain_no_call name _ _ tt q)

  pair : (a b : Command) → WhereCalled site (IsSafe site) a → WhereJudged tells site a → sh a ≡ sh b → Pair a b
  pair (commands.Open name) b safe judged q = from_plain (commands.Open name) b tt q
  pair commands.Close b safe judged q = from_plain commands.Close b tt q
  pair commands.Audit b safe judged q = from_plain commands.Audit b tt q
  pair (commands.View relation label query counts) b safe judged q =
      from_plain (commands.View relation label query counts) b tt q
  pair (commands.Dump relation) b safe judged q = from_plain (commands.Dump relation) b tt q
  pair (commands.Write relation wr) b safe judged q = from_plain (commands.Write relation wr) b tt q
  pair (commands.Call name vs) b safe judged q = from_call name vs b safe judged q
  pair (commands.All batch) b safe judged q = from_plain (commands.All batch) b tt q

  -- two events that look alike to c
  pub seen_steps : (x : Event) → WhereCalled site (IsSafe site) e.command → WhereJudged tells site e.command
      → glimpse site c e ≡ glimpse site c x → SplitOrAlike tells site c e x (step site v e) (step site w x)
  seen_steps x safe judged g =
      let is_x : twin e x.command ≡ x = λ i. record {
        level = (g i).level;
        session = (g i).session;
        time = (g i).time;
        command = x.command;
      } in
      subst (λ y. SplitOrAlike tells site c e y (step site v e) (step site w y)) is_x
      (pair e.command x.command safe judged
      (ap (λ y. y.command) g))
