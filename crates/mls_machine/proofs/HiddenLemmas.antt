-- A step at a level that c does not dominate shows c nothing.
use Rattle.std.proofs.Common.{◌≡◌, ℕ, true, false, cond, List, [], ◌∷◌, ◌++◌, map, Option, Some, None, Result, Ok, Err, refl, sym, ap, ◌∙◌, true≢false, append-nil, nat_eq, bytes_eq, ne_eqb, IfSome}
use Rattle.std.specs.List.{AllByRecursion}
use Rattle.std.proofs.lemmas.Bool.{and_left}
use Rattle.std.proofs.lemmas.List.Elements.{filter-append}
use Rattle.mls_lattice.specs.Labels.{Labels, below, AreDistinct}
use Rattle.mls_lattice.specs.Policy.{Name, Policy}
use Rattle.mls_scheme.specs.declared.value.Value.{Value}
use Rattle.mls_filterview.proofs.LevelLemmas.{low_from_views}
use Rattle.mls_translang.specs.Tx.{Tx}
use Rattle.mls_certcheck.specs.Meaning.{run_tx}
use Rattle.mls_certcheck.specs.Secure.{seen_items}
use Rattle.mls_certcheck.proofs.MeaningLemmas.{keep_form}
use Rattle.mls_updates.specs.declared.outcome.Outcome.{Outcome}
use Rattle.mls_updates.specs.Writes.{Write}
use Rattle.mls_audit.specs.Entry.{label_of, visible}
use Rattle.mls_translang.specs.declared.event.Event.{Event}
use Rattle.mls_translang.specs.declared.event.Command.{Command}
use Rattle.mls_translang.specs.declared.event.Command.TheVariants as commands
use Rattle.mls_translang.specs.declared.event.One.{One}
use Rattle.mls_translang.specs.Event.{OneFits, CommandFits, EventFits}
use Rattle.mls_machine.specs.declared.reply.Denial.{Denial}
use Rattle.mls_machine.specs.declared.reply.Denial.TheVariants.{AlreadyOpen}
use Rattle.mls_machine.specs.declared.reply.Reply.{Reply}
use Rattle.mls_certcheck.specs.declared.stored.Stored.{Stored}
use Rattle.mls_certcheck.specs.declared.stored.Stored.TheVariants.{Certified, Plain}
use Rattle.mls_certcheck.specs.Site.{Site, site_labels}
use Rattle.mls_machine.specs.Denying.{first_denial, cleared, user_named, stored_named, fitted, call_denials}
use Rattle.mls_machine.specs.Machine.{World, Step, BatchEnd, in_session, unless, denial_entry, denied, viewed, dumped, wrote, did_all, ended, did, call_entries, called, call_step, step_inside, open_step, step_outside, step_at, step}
use Rattle.mls_machine.specs.Output.{line, reply_texts, item_lines, reply_lines}
use Rattle.mls_machine.specs.Observation.{AreStored, out, released_in}
use Rattle.mls_machine.proofs.LowLemmas.{LowAgree, lows_same}
use Rattle.mls_machine.proofs.BatchLemmas.{written_low, LeavesLow, all_low}
use Rattle.mls_machine.proofs.DenyingLemmas.{may_run}
use Rattle.mls_machine.proofs.CalledLemmas.{certified_of, WhereCalled, IsSafe}
use Rattle.mls_machine.proofs.ItemLemmas.{lines_of, lines_seen, entries_of, entries_seen}

-- ---- lines

pub hidden_lines : (ls : Labels) (c : ℕ) (p : Policy) (e : Event) (label : ℕ) → below ls label c ≡ false
    → (texts : List (List ℕ)) → out ls c (map (line p e label) texts) ≡ []
hidden_lines ls c p e label h [] = refl
hidden_lines ls c p e label h (text ∷ texts) =
    ap (λ b. cond b (line p e label text ∷ out ls c (map (line p e label) texts))
    (out ls c (map (line p e label) texts))) h ∙ hidden_lines ls c p e label h texts

hidden_reply : (site : Site) (c : ℕ) (e : Event) (r : Reply) → below (site_labels site) e.level c ≡ false
    → out (site_labels site) c (item_lines site.policy e r) ≡ [] → out (site_labels site) c (reply_lines site e r) ≡ []
hidden_reply site c e r h items =
    filter-append (λ l. below (site_labels site) l.label c) (map (line site.policy e e.level)
    (reply_texts site e.session e.command r)) (item_lines site.policy e r)
    ∙ (λ i. hidden_lines (site_labels site) c site.policy e e.level h (reply_texts site e.session e.command r) i
    ++ items i)

-- ---- steps

-- c sees nothing of a step from w
pub record Silent (site : Site) (c : ℕ) (w : World) (e : Event) (s : Step) : Type 0 where
  pub world : LowAgree (site_labels site) c w s.world
  pub lines : out (site_labels site) c (reply_lines site e s.reply) ≡ []
  pub released : seen_items (site_labels site) c (released_in s.reply) ≡ []

module _ (site : Site) (distinct : AreDistinct (site_labels site)) (c : ℕ) (w : World) (stored : AreStored site w.db)
    (e : Event) (h : below (site_labels site) e.level c ≡ false) (fits : EventFits site.policy site.schemes e) where
  abbrev Unseen : Step → Type 0
  Unseen s = Silent site c w e s

  -- a reply without items
  without_items : (s : Step) → LowAgree (site_labels site) c w s.world → item_lines site.policy e s.reply ≡ []
      → released_in s.reply ≡ [] → Unseen s
  without_items s world items released = record {
    world = world;
    lines = hidden_reply site c e s.reply h (ap (out (site_labels site) c) items);
    released = ap (seen_items (site_labels site) c) released;
  }

  same : (r : Reply) → item_lines site.policy e r ≡ [] → released_in r ≡ [] → Unseen (record { world = w; reply = r })
  same r = without_items (record { world = w; reply = r }) (lows_same (site_labels site) c w)

  other_session : (user : Option ℕ) (l : ℕ) (n : Name) → below (site_labels site) l c ≡ true → w.sessions l n
      ≡ (in_session w e user).sessions l n
  other_session user l n k =
      sym (ap (λ b. cond b user (w.sessions l n)) (and_left (nat_eq l e.level) (bytes_eq n e.session)
      (ne_eqb l e.level (λ q. true≢false (sym k ∙ ap (λ m. below (site_labels site) m c) q ∙ h)))))

  hidden_session : (user : Option ℕ) → LowAgree (site_labels site) c w (in_session w e user)
  hidden_session user = record { tables = λ r. refl; sessions = other_session user; entries = refl }

  hidden_denied : (user : ℕ) (denial : Denial) → Unseen (denied site w e user denial)
  hidden_denied user denial =
      let ls = site_labels site in
      let entry = denial_entry site e user denial in
      without_items (denied site w e user denial) (record {
        tables = λ r. refl;
        sessions = λ l n k. refl;
        entries = sym (filter-append (λ x. below ls (label_of x) c) w.audit (entry ∷ []) ∙ ap (λ b. visible ls c w.audit
            ++ cond b (entry ∷ []) []) h ∙ append-nil (visible ls c w.audit));
      }) refl refl

  hidden_unless : (denial : Option Denial) (user : ℕ) (effect : Step) → (denial ≡ None → Unseen effect)
      → Unseen (unless site denial w e user effect)
  hidden_unless None user effect k = k refl
  hidden_unless (Some denial) user effect k = hidden_denied user denial

  hidden_write : (denial : Option Denial) (user relation : ℕ) (wr : Write)
      → Unseen (unless site denial w e user (wrote site w e.level relation wr))
  hidden_write denial user relation wr =
      hidden_unless denial user (wrote site w e.level relation wr)
      (λ none. without_items (wrote site w e.level relation wr)
      (record {
        tables = written_low site c e.level distinct h fits.level relation wr w.db stored;
        sessions =
            λ l n k. refl;
        entries = refl;
      }) refl refl)

  hidden_ended : (r : Result BatchEnd (ℕ × Outcome)) → LeavesLow site c e.level distinct h fits.level w.db r
      → Unseen (ended site w r)
  hidden_ended (Ok end) k = without_items (ended site w (Ok end)) (record {
    tables = k;
    sessions = λ l n b. refl;
    entries = refl;
  }) refl refl
  hidden_ended (Err refused) k = same _ refl refl

  -- the commands of a batch, one after another
  hidden_did : (batch : List One) → AllByRecursion (OneFits site.policy site.schemes) batch
      → Unseen (did site w e.level batch)
  hidden_did batch each = hidden_ended (did_all site e.level [] batch w.db)
      (all_low site c e.level distinct h fits.level [] batch w.db each stored)

  -- ---- calls

  -- a transaction is called at its lowest label, and shows nothing to what does not dominate that
  hidden_called : (user : ℕ) (name : Name) (tx : Tx) (args : List (Option Value)) → IsSafe site tx → tx.lo ≡ e.level
      → Unseen (called site w e user name tx args)
  hidden_called user name tx args safe lo =
      let ls = site_labels site in
      let end = run_tx ls site.schemes tx (fitted tx.params args) w.db in
      let quiet = safe.secure.one_run c site.schemes w.db (fitted tx.params args) safe.read stored
      (ap (λ l. below ls l c) lo ∙ h) in
      let kept = keep_form site.policy distinct site.schemes tx safe.read (fitted tx.params args) w.db stored in
      record {
        world = record {
          tables = λ r. sym (low_from_views ls distinct _ _ (end.db r) (w.db r) (kept r) (stored r) c (quiet.views r));
          sessions = λ l n k. refl;
          entries = sym (filter-append (λ x. below ls (label_of x) c) w.audit
              (call_entries site e user name end.released)
              ∙ ap (λ xs. visible ls c w.audit ++ xs) (entries_seen ls c site e user name end.released
              ∙ (λ i. entries_of site e user name (h i) (quiet.released i)))
              ∙ append-nil (visible ls c w.audit));
        };
        lines = hidden_reply site c e (called site w e user name tx args).reply h
            (lines_seen ls c site.policy e end.emitted end.released ∙ (λ i. lines_of site.policy e (quiet.emitted i)
            (quiet.released i)));
        released = quiet.released;
      }

  hidden_call : (user : ℕ) (name : Name) (args : List (Option Value)) (o : Option Stored)
      → IfSome (certified_of o) (IsSafe site) → Unseen (call_step site w e user name args o)
  hidden_call user name args None safe = hidden_denied user _
  hidden_call user name args (Some (Plain tx)) safe = hidden_denied user _
  hidden_call user name args (Some (Certified k)) safe =
      hidden_unless (first_denial (call_denials site e.level user k.tx args)) user (called site w e user name k.tx args)
      (λ none. hidden_called user name k.tx args safe (may_run site e.level user k.tx args none).lo)

  -- ---- commands

  hidden_inside : (command : Command) (user : ℕ) → CommandFits site.policy site.schemes command
      → WhereCalled site (IsSafe site) command → Unseen (step_inside site w e command user)
  hidden_inside (commands.Open name) user fit safe = hidden_denied user AlreadyOpen
  hidden_inside commands.Close user fit safe = without_items _ (hidden_session None) refl refl
  hidden_inside commands.Audit user fit safe = same _ refl refl
  hidden_inside (commands.View relation label query counts) user fit safe = hidden_unless _ user
      (viewed site w relation label query) (λ none. same _ refl refl)
  hidden_inside (commands.Dump relation) user fit safe = hidden_unless _ user (dumped site w relation e.level)
      (λ none. same _ refl refl)
  hidden_inside (commands.Write relation wr) user fit safe = hidden_write _ user relation wr
  hidden_inside (commands.Call name args) user fit safe = hidden_call user name args
      (stored_named site.stored name) safe
  hidden_inside (commands.All batch) user fit safe = hidden_unless _ user (did site w e.level batch)
      (λ none. hidden_did batch fit.each)

  hidden_open : (r : Result ℕ Denial) → Unseen (open_step site w e r)
  hidden_open (Ok user) = without_items _ (hidden_session (Some user)) refl refl
  hidden_open (Err denial) = same _ refl refl

  hidden_outside : (command : Command) → Unseen (step_outside site w e command)
  hidden_outside (commands.Open name) = hidden_open (cleared site e.level (user_named site.policy name))
  hidden_outside _ = same _ refl refl

  hidden_at : (session : Option ℕ) → WhereCalled site (IsSafe site) e.command
      → Unseen (step_at site w e e.command session)
  hidden_at (Some user) safe = hidden_inside e.command user fits.command safe
  hidden_at None safe = hidden_outside e.command

  pub hidden_step : WhereCalled site (IsSafe site) e.command → Unseen (step site w e)
  unfolding step
  hidden_step = hidden_at (w.sessions e.level e.session)
