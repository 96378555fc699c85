-- A step without a call at a level that c dominates, from two worlds that look alike to c.
use Rattle.std.proofs.Common.{◌≡◌, ℕ, Bool, true, false, cond, ◌&&◌, List, [], ◌∷◌, ◌++◌, Option, Some, None, Result, Ok, Err, refl, sym, ap, ◌∙◌, subst, true≢false, nat_eq, filter, bytes_eq}
use Rattle.std.specs.List.{AllByRecursion}
use Rattle.std.proofs.lemmas.Bool.{false_from_ne_true}
use Rattle.std.proofs.lemmas.List.Elements.{filter-append}
use Rattle.mls_lattice.specs.Labels.{Labels, below}
use Rattle.mls_lattice.proofs.LatticeLemmas.{below-trans}
use Rattle.mls_filterview.proofs.LowLemmas.{rows_under, low_tuples_under}
use Rattle.mls_updates.specs.declared.outcome.Outcome.{Outcome}
use Rattle.mls_updates.specs.Writes.{Write}
use Rattle.mls_audit.specs.declared.entry.Entry.{Entry}
use Rattle.mls_audit.specs.Entry.{label_of, visible}
use Rattle.mls_translang.specs.declared.query.Query.{Query}
use Rattle.mls_queries.specs.Query.{found}
use Rattle.mls_translang.specs.declared.event.Event.{Event}
use Rattle.mls_translang.specs.declared.event.Command.{Command}
use Rattle.mls_translang.specs.declared.event.Command.TheVariants as commands
use Rattle.mls_translang.specs.declared.event.One.{One}
use Rattle.mls_machine.specs.declared.reply.Denial.{Denial}
use Rattle.mls_machine.specs.declared.reply.Reply.TheVariants.{Rows, Dumped, Wrote, Entries, Did, Undone}
use Rattle.mls_certcheck.specs.Site.{Site, site_labels}
use Rattle.mls_machine.specs.Denying.{first_denial, cleared, user_named, view_denials, LooksBelow}
use Rattle.mls_machine.specs.Machine.{World, Step, BatchEnd, in_session, unless, denial_entry, denied, viewed, dumped, wrote, listed, did_all, ended, did, step_inside, open_step, step_outside, step_at, step}
use Rattle.mls_machine.proofs.BatchLemmas.{same_outcome, same_tables, SameEnd, all_alike}
use Rattle.mls_machine.proofs.DenyingLemmas.{view_below, batch_below}
use Rattle.mls_machine.specs.Observation.{IsNoCall}
use Rattle.mls_machine.proofs.LowLemmas.{LowAgree}

-- a filter within a filter that lets more through
pub filter_within : {A : Type 0} (p q : A → Bool) → ((x : A) → p x ≡ true → q x ≡ true) → (xs : List A)
    → filter p (filter q xs) ≡ filter p xs
filter_within p q h [] = refl
filter_within p q h (x ∷ xs) =
    elim (q x) as (λ b. q x ≡ b → filter p (cond b (x ∷ filter q xs) (filter q xs)) ≡ filter p (x ∷ xs)) [
      | true ↦ λ e. ap (λ ys. cond (p x) (x ∷ ys) ys) (filter_within p q h xs)
      | false ↦ λ e. filter_within p q h xs ∙ ap (λ b. cond b (x ∷ filter p xs) (filter p xs))
          (sym (false_from_ne_true (p x) (λ t. true≢false (sym (h x t) ∙ e))))
    ] refl

visible_within : (ls : Labels) (l c : ℕ) → below ls l c ≡ true → (es : List Entry) → visible ls l (visible ls c es)
    ≡ visible ls l es
visible_within ls l c h es = filter_within (λ x. below ls (label_of x) l) (λ x. below ls (label_of x) c)
    (λ x k. below-trans ls (label_of x) l c k h) es

-- two steps are answered the same, and leave worlds that look alike to c
pub record StepAlike (ls : Labels) (c : ℕ) (s t : Step) : Type 0 where
  pub world : LowAgree ls c s.world t.world
  pub reply : s.reply ≡ t.reply

module _ (site : Site) (c : ℕ) (v w : World) (e : Event) (seen : below (site_labels site) e.level c ≡ true)
    (h : LowAgree (site_labels site) c v w) where
  abbrev Alike : Step → Step → Type 0
  Alike s t = StepAlike (site_labels site) c s t

  alike_session : (user : Option ℕ) → LowAgree (site_labels site) c (in_session v e user) (in_session w e user)
  alike_session user = record {
    tables = h.tables;
    sessions = λ l n k. ap (λ x. cond (nat_eq l e.level && bytes_eq n e.session) user x) (h.sessions l n k);
    entries = h.entries;
  }

  -- the same entries more
  pub alike_entries : (added : List Entry) → visible (site_labels site) c (v.audit ++ added)
      ≡ visible (site_labels site) c (w.audit ++ added)
  alike_entries added =
      let ls = site_labels site in
      filter-append (λ x. below ls (label_of x) c) v.audit added ∙ ap (λ xs. xs ++ visible ls c added) h.entries
      ∙ sym (filter-append (λ x. below ls (label_of x) c) w.audit added)

  alike_denied : (user : ℕ) (denial : Denial) → Alike (denied site v e user denial) (denied site w e user denial)
  alike_denied user denial = record {
    world = record {
      tables = h.tables;
      sessions = h.sessions;
      entries =
          alike_entries (denial_entry site e user denial ∷ []);
    };
    reply = refl;
  }

  alike_unless : (denial : Option Denial) (user : ℕ) (s t : Step) → (denial ≡ None → Alike s t)
      → Alike (unless site denial v e user s) (unless site denial w e user t)
  alike_unless None user s t k = k refl
  alike_unless (Some denial) user s t k = alike_denied user denial

  -- ---- effects

  alike_view : (user relation label : ℕ) (query : Query) → first_denial (view_denials site e.level user relation label)
      ≡ None → Alike (viewed site v relation label query) (viewed site w relation label query)
  alike_view user relation label query none =
      let ls = site_labels site in
      let lower = below-trans ls label e.level c (view_below site e.level user relation label none) seen in
      record {
        world = h;
        reply = ap (λ ts. Rows (found ls query ts)) (rows_under ls c label (v.db relation)
            (w.db relation) (h.tables relation) lower);
      }

  alike_dump : (relation : ℕ) → Alike (dumped site v relation e.level) (dumped site w relation e.level)
  alike_dump relation = record {
    world = h;
    reply = ap Dumped (low_tuples_under (site_labels site) c e.level
        (v.db relation) (w.db relation) (h.tables relation) seen);
  }

  alike_wrote : (relation : ℕ) (wr : Write) → Alike (wrote site v e.level relation wr)
      (wrote site w e.level relation wr)
  alike_wrote relation wr = record {
    world = record {
      tables = same_tables site c e.level seen relation wr v.db w.db h.tables;
      sessions = h.sessions;
      entries = h.entries;
    };
    reply = ap Wrote (same_outcome site c e.level seen relation wr (v.db relation) (w.db relation) (h.tables relation));
  }

  alike_ended : (r q : Result BatchEnd (ℕ × Outcome)) → SameEnd site c e.level seen r q
      → Alike (ended site v r) (ended site w q)
  alike_ended (Ok s) (Ok t) k = record {
    world = record { tables = k.0; sessions = h.sessions; entries = h.entries };
    reply = ap Did k.1;
  }
  alike_ended (Ok s) (Err f) k = absurd k
  alike_ended (Err d) (Ok t) k = absurd k
  alike_ended (Err d) (Err f) k = record { world = h; reply = ap (λ (x : ℕ × Outcome). Undone x.0 x.1) k }

  -- the commands of a batch, one after another
  alike_did : (batch : List One) → AllByRecursion (LooksBelow (site_labels site) e.level) batch
      → Alike (did site v e.level batch) (did site w e.level batch)
  alike_did batch lower = alike_ended (did_all site e.level [] batch v.db) (did_all site e.level [] batch w.db)
      (all_alike site c e.level seen [] batch v.db w.db lower h.tables)

  alike_listed : Alike (listed site v e.level) (listed site w e.level)
  alike_listed =
      let ls = site_labels site in
      record {
        world = h;
        reply = ap Entries (sym (visible_within ls e.level c seen v.audit) ∙ ap (visible ls e.level) h.entries
            ∙ visible_within ls e.level c seen w.audit);
      }

  -- ---- commands

  alike_write : (denial : Option Denial) (user relation : ℕ) (wr : Write)
      → Alike (unless site denial v e user (wrote site v e.level relation wr)) (unless site denial w e user
      (wrote site w e.level relation wr))
  alike_write denial user relation wr = alike_unless denial user (wrote site v e.level relation wr)
      (wrote site w e.level relation wr) (λ none. alike_wrote relation wr)

  alike_inside : (command : Command) (user : ℕ) → IsNoCall command → Alike (step_inside site v e command user)
      (step_inside site w e command user)
  alike_inside (commands.Open name) user plain = alike_denied user _
  alike_inside commands.Close user plain = record { world = alike_session None; reply = refl }
  alike_inside commands.Audit user plain = alike_listed
  alike_inside (commands.View relation label query counts) user plain = alike_unless _ user _ _
      (alike_view user relation label query)
  alike_inside (commands.Dump relation) user plain = alike_unless _ user _ _ (λ none. alike_dump relation)
  alike_inside (commands.Write relation wr) user plain = alike_write _ user relation wr
  alike_inside (commands.Call name args) user plain = absurd plain
  alike_inside (commands.All batch) user plain = alike_unless _ user _ _
      (λ none. alike_did batch (batch_below site e.level user batch none))

  alike_open : (r : Result ℕ Denial) → Alike (open_step site v e r) (open_step site w e r)
  alike_open (Ok user) = record { world = alike_session (Some user); reply = refl }
  alike_open (Err denial) = record { world = h; reply = refl }

  alike_outside : (command : Command) → Alike (step_outside site v e command) (step_outside site w e command)
  alike_outside (commands.Open name) = alike_open (cleared site e.level (user_named site.policy name))
  alike_outside _ = record { world = h; reply = refl }

  alike_at : (session : Option ℕ) → IsNoCall e.command → Alike (step_at site v e e.command session)
      (step_at site w e e.command session)
  alike_at (Some user) plain = alike_inside e.command user plain
  alike_at None plain = alike_outside e.command

  -- the session is open for one user in both worlds, or in none
  pub alike_step : IsNoCall e.command → StepAlike (site_labels site) c (step site v e) (step site w e)
  unfolding step
  alike_step plain =
      subst (λ o. Alike (step_at site v e e.command (v.sessions e.level e.session)) (step_at site w e e.command o))
      (h.sessions e.level e.session seen)
      (alike_at (v.sessions e.level e.session) plain)
