-- Steps and runs keep what writes keep: the stored form, and with it integrity.
use Rattle.std.proofs.Common.{◌≡◌, ℕ, zero, suc, ◌+◌, ◌<◌, Bool, true, false, cond, List, [], ◌∷◌, ◌++◌, length, take, Option, Some, None, Ok, Err, Result, refl, sym, subst, eqb-true, nat_eq, IfSome}
use Rattle.std.specs.Prelude.{⊤}
use Rattle.std.specs.List.{AllByRecursion}
use Rattle.std.proofs.lemmas.List.{length-map}
use Rattle.std.proofs.lemmas.Slice.Zip.{AllZip-long}
use Rattle.mls_lattice.specs.Labels.{AreDistinct}
use Rattle.mls_lattice.specs.Policy.{Name}
use Rattle.mls_scheme.specs.declared.value.Value.{Value}
use Rattle.mls_scheme.specs.Table.{Table, Database}
use Rattle.mls_filterview.specs.Content.{with_table}
use Rattle.mls_filterview.specs.Stored.{IsStored, IsContent, AreContent}
use Rattle.mls_filterview.proofs.IntegrityLemmas.{has_integrity}
use Rattle.mls_updates.specs.Writes.{Write, Insert, Update, Delete, WriteFits, WriteKinds, write}
use Rattle.mls_updates.proofs.LawLemmas.{keep_form, keep_content}
use Rattle.mls_translang.specs.Tx.{Tx}
use Rattle.mls_translang.specs.Fits.{IsReadUnder}
use Rattle.mls_certcheck.specs.Meaning.{run_tx}
use Rattle.mls_certcheck.proofs.MeaningLemmas.{keep_form as call_form, keep_content as call_content}
use Rattle.mls_certcheck.proofs.ThroughoutLemmas.{form_throughout}
use Rattle.mls_translang.specs.declared.event.Event.{Event}
use Rattle.mls_translang.specs.declared.event.Command.{Command}
use Rattle.mls_translang.specs.declared.event.Command.TheVariants as commands
use Rattle.mls_translang.specs.declared.event.One.{One}
use Rattle.mls_translang.specs.declared.event.One.TheVariants as ones
use Rattle.mls_translang.specs.Event.{IsWriteOf, OneFits, CommandFits, EventFits}
use Rattle.mls_machine.specs.declared.reply.Denial.{Denial}
use Rattle.mls_machine.specs.declared.reply.Answer.{Answer}
use Rattle.mls_updates.specs.declared.outcome.Outcome.{Outcome}
use Rattle.mls_certcheck.specs.declared.stored.Stored.{Stored}
use Rattle.mls_certcheck.specs.declared.stored.Stored.TheVariants.{Certified, Plain}
use Rattle.mls_certcheck.specs.Stored.{tx_of}
use Rattle.mls_certcheck.specs.Site.{Site, site_labels, site_scheme, AreRead}
use Rattle.mls_machine.specs.Denying.{first_denial, cleared, user_named, stored_named, fitted, call_denials}
use Rattle.mls_machine.specs.Machine.{World, Step, BatchEnd, refusal_of, unless_refused, unless, wrote, did_one, did_all, ended, did, called, call_step, step_inside, open_step, step_outside, step_at, step, end_of}
use Rattle.mls_machine.specs.Observation.{AreStored, EventsFit}
use Rattle.mls_machine.specs.Laws.{AreWhole, KeepsIntegrity, RunsKeepIntegrity}
use Rattle.mls_machine.proofs.DenyingLemmas.{may_run}
use Rattle.mls_machine.proofs.CalledLemmas.{certified_of, CallsRead, found_holds, all_read}
use Rattle.mls_machine.proofs.ArgumentLemmas.{fitted_fit}

-- what a write of a script fits
pub record Fitting (site : Site) (level relation : ℕ) (wr : Write) : Type 0 where
  pub numbers : WriteFits (site_labels site) (length (site_scheme site relation).others) level wr
  pub kinds : WriteKinds (site_scheme site relation) wr

module _ (site : Site) (level : ℕ) (declared : level < length site.policy.labels) where
  level_fits : level < length (site_labels site)
  level_fits = subst (λ n. level < n) (sym (length-map site.policy.labels (λ l. l.value))) declared

  pub fitting : (relation : ℕ) (wr : Write) → IsWriteOf site.policy (site_scheme site relation) wr
      → Fitting site level relation wr
  fitting relation (Insert key values) fits =
      record { numbers = (level_fits, AllZip-long _ (site_scheme site relation).others values fits.1); kinds = fits }
  fitting relation (Update key key_class from sets) fits = record {
    numbers = (level_fits, fits.3.some, fits.3.known);
    kinds = fits.3.kinds;
  }
  fitting relation (Delete key key_class) fits = record { numbers = tt; kinds = tt }

-- ---- what each write and each call keeps of each relation

pub record Kept (site : Site) (P : ℕ → Table → Type 0) : Type 0 where
  pub by_write : (relation level : ℕ) (wr : Write) (T : Table) → Fitting site level relation wr → P relation T
      → P relation (write (site_labels site) (site_scheme site relation) level wr T).table
  pub by_call : (tx : Tx) (args : List (Option Value)) (db : Database) → IsReadUnder site.policy site.schemes tx
      → length args ≡ length tx.params → ((relation : ℕ) → P relation (db relation))
      → (relation : ℕ) → P relation ((run_tx (site_labels site) site.schemes tx (fitted tx.params args) db).db relation)

module _ (site : Site) (P : ℕ → Table → Type 0) (keeps : Kept site P) where
  abbrev Holds : World → Type 0
  Holds w = (relation : ℕ) → P relation (w.db relation)

  abbrev pub HoldsIn : Database → Type 0
  HoldsIn db = (relation : ℕ) → P relation (db relation)

  written_holds : (db : Database) (level relation : ℕ) (wr : Write) → Fitting site level relation wr → HoldsIn db
      → HoldsIn (with_table db relation (write (site_labels site) (site_scheme site relation) level wr
      (db relation)).table)
  written_holds db level relation wr fits all r = by_test (nat_eq r relation) refl
    where
      by_test : (b : Bool) → nat_eq r relation ≡ b
          → P r (cond b (write (site_labels site) (site_scheme site relation) level wr (db relation)).table (db r))
      by_test true e = subst (λ q. P q (write (site_labels site) (site_scheme site relation) level wr
          (db relation)).table) (sym (eqb-true r relation e)) (keeps.by_write relation level wr (db relation) fits
          (all relation))
      by_test false e = all r

  wrote_holds : (w : World) (level relation : ℕ) (wr : Write) → Fitting site level relation wr → Holds w
      → Holds (wrote site w level relation wr).world
  wrote_holds w level relation wr fits all = written_holds w.db level relation wr fits all

  -- ---- the commands of a batch

  module _ (level : ℕ) (declared : level < length site.policy.labels) where
    pub one_holds : (one : One) (db : Database) → OneFits site.policy site.schemes one → HoldsIn db
        → HoldsIn (did_one site level one db).db
    one_holds (ones.View relation label query counts) db fits all = all
    one_holds (ones.Expect rows relation label query) db fits all = all
    one_holds (ones.Write relation wr) db fits all = written_holds db level relation wr
        (fitting site level declared relation wr fits.1) all

    abbrev EndHolds : Result BatchEnd (ℕ × Outcome) → Type 0
    EndHolds (Ok end) = HoldsIn end.db
    EndHolds (Err refused) = ⊤

    refused_holds : (o : Option Outcome) (number : ℕ) (r : Result BatchEnd (ℕ × Outcome)) → EndHolds r
        → EndHolds (unless_refused o number r)
    refused_holds None number r h = h
    refused_holds (Some o) number r h = tt

    all_hold : (front : List Answer) (batch : List One) (db : Database)
        → AllByRecursion (OneFits site.policy site.schemes) batch → HoldsIn db
        → EndHolds (did_all site level front batch db)
    unfolding did_all
    all_hold front [] db fits all = all
    all_hold front (one ∷ batch) db fits all =
        let step = did_one site level one db in
        refused_holds (refusal_of step.answer) (length front + 1) (did_all site level (front ++ step.answer
        ∷ []) batch step.db) (all_hold (front ++ step.answer ∷ []) batch step.db fits.1
        (one_holds one db fits.0 all))

  ended_holds : (w : World) (level : ℕ) (declared : level < length site.policy.labels)
      (r : Result BatchEnd (ℕ × Outcome)) → Holds w → EndHolds level declared r → Holds (ended site w r).world
  ended_holds w level declared (Ok end) all h = h
  ended_holds w level declared (Err refused) all h = all

  unless_holds : (denial : Option Denial) (w : World) (e : Event) (user : ℕ) (effect : Step) → Holds w
      → (denial ≡ None → Holds effect.world) → Holds (unless site denial w e user effect).world
  unless_holds None w e user effect all new = new refl
  unless_holds (Some denial) w e user effect all new = all

  module _ (w : World) (e : Event) (all : Holds w) (declared : e.level < length site.policy.labels) where
    write_holds : (user relation : ℕ) (wr : Write) (denial : Option Denial) → Fitting site e.level relation wr
        → Holds (unless site denial w e user (wrote site w e.level relation wr)).world
    write_holds user relation wr denial fits = unless_holds denial w e user (wrote site w e.level relation wr) all
        (λ none. wrote_holds w e.level relation wr fits all)

    call_holds : (user : ℕ) (name : Name) (args : List (Option Value)) (o : Option Stored)
        → IfSome (certified_of o) (IsReadUnder site.policy site.schemes)
        → Holds (call_step site w e user name args o).world
    call_holds user name args None read = all
    call_holds user name args (Some (Plain tx)) read = all
    call_holds user name args (Some (Certified k)) read =
        unless_holds (first_denial (call_denials site e.level user k.tx args)) w e user
        (called site w e user name k.tx args) all
        (λ none. keeps.by_call k.tx args w.db read (may_run site e.level user k.tx args none).count all)

    inside_holds : (command : Command) (user : ℕ) → CommandFits site.policy site.schemes command
        → CallsRead site command → Holds (step_inside site w e command user).world
    inside_holds (commands.View relation label query counts) user fits read = unless_holds _ w e user _ all
        (λ none. all)
    inside_holds (commands.Dump relation) user fits read = unless_holds _ w e user _ all (λ none. all)
    inside_holds (commands.Write relation wr) user fits read = write_holds user relation wr _
        (fitting site e.level declared relation wr fits.1)
    inside_holds (commands.Call name args) user fits read = call_holds user name args
        (stored_named site.stored name) read
    inside_holds (commands.All batch) user fits read =
        unless_holds _ w e user (did site w e.level batch) all (λ none. ended_holds w e.level declared
        (did_all site e.level [] batch w.db) all (all_hold e.level declared [] batch w.db fits.each all))
    inside_holds _ user fits read = all

    opened_holds : (r : Result ℕ Denial) → Holds (open_step site w e r).world
    opened_holds (Ok user) = all
    opened_holds (Err denial) = all

    outside_holds : (command : Command) → Holds (step_outside site w e command).world
    outside_holds (commands.Open name) = opened_holds (cleared site e.level (user_named site.policy name))
    outside_holds _ = all

    at_holds : (session : Option ℕ) → CommandFits site.policy site.schemes e.command → CallsRead site e.command
        → Holds (step_at site w e e.command session).world
    at_holds (Some user) fits read = inside_holds e.command user fits read
    at_holds None fits read = outside_holds e.command

  pub step_holds : (w : World) (e : Event) → Holds w → EventFits site.policy site.schemes e → CallsRead site e.command
      → Holds (step site w e).world
  unfolding step
  step_holds w e all fits read = at_holds w e all fits.level (w.sessions e.level e.session) fits.command read

  pub run_holds : (w : World) (es : List Event) → Holds w → EventsFit site es
      → AllByRecursion (λ e. CallsRead site e.command) es → Holds (end_of site w es)
  unfolding end_of
  run_holds w [] all fits read = all
  run_holds w (e ∷ es) all fits read = run_holds (step site w e).world es
      (step_holds w e all fits.0 read.0) fits.1 read.1

-- ---- the stored form

module _ (site : Site) (distinct : AreDistinct (site_labels site)) where
  abbrev InForm : ℕ → Table → Type 0
  InForm relation T = IsStored (site_labels site) (length (site_scheme site relation).others) T

  form_kept : Kept site InForm
  form_kept = record {
    by_write = λ relation level wr T fits stored.
        keep_form (site_labels site) distinct (site_scheme site relation)
        (length (site_scheme site relation).others) level T stored wr fits.numbers;
    by_call = λ tx args db read count stored. call_form site.policy distinct site.schemes tx read
        (fitted tx.params args) db stored;
  }

  pub step_stored : (w : World) (e : Event) → AreStored site w.db → EventFits site.policy site.schemes e
      → CallsRead site e.command → AreStored site (step site w e).world.db
  step_stored = step_holds site InForm form_kept

  -- the commands of a batch keep it, one after another
  pub one_stored : (level : ℕ) → level < length site.policy.labels → (one : One) (db : Database)
      → OneFits site.policy site.schemes one → AreStored site db → AreStored site (did_one site level one db).db
  one_stored = one_holds site InForm form_kept

  pub run_stored : (w : World) (es : List Event) → AreStored site w.db → EventsFit site es
      → AllByRecursion (λ e. CallsRead site e.command) es → AreStored site (end_of site w es).db
  run_stored = run_holds site InForm form_kept

  -- with kinds and intervals too
  abbrev Contained : ℕ → Table → Type 0
  Contained relation T = IsContent (site_labels site) (site_scheme site relation) T

  content_kept : Kept site Contained
  content_kept = record {
    by_write = λ relation level wr T fits content. keep_content (site_labels site) distinct
        (site_scheme site relation) level T content wr fits.numbers fits.kinds;
    by_call = λ tx args db read count content. call_content site.policy distinct site.schemes tx read
        (fitted tx.params args) (fitted_fit tx args count) db content;
  }

  pub one_content : (level : ℕ) → level < length site.policy.labels → (one : One) (db : Database)
      → OneFits site.policy site.schemes one → AreContent (site_labels site) site.schemes db
      → AreContent (site_labels site) site.schemes (did_one site level one db).db
  one_content = one_holds site Contained content_kept

  module _ (read : AreRead site) where
    pub step_content : (w : World) (e : Event) → AreContent (site_labels site) site.schemes w.db
        → EventFits site.policy site.schemes e → AreContent (site_labels site) site.schemes (step site w e).world.db
    step_content w e content fits = step_holds site Contained content_kept w e content fits
        (all_read site read e.command)

    pub all_calls_read : (es : List Event) → AllByRecursion (λ e. CallsRead site e.command) es
    all_calls_read [] = tt
    all_calls_read (e ∷ es) = (all_read site read e.command, all_calls_read es)

-- ---- first parts of a run

pub first_fit : (site : Site) (n : ℕ) (es : List Event) → EventsFit site es → EventsFit site (take n es)
first_fit site zero es fits = tt
first_fit site (suc n) [] fits = tt
first_fit site (suc n) (e ∷ es) fits = (fits.0, first_fit site n es fits.1)

module _ (site : Site) (distinct : AreDistinct (site_labels site)) (read : AreRead site) (w : World) (es : List Event)
    (stored : AreStored site w.db) (fits : EventsFit site es) where
  stored_after : (n : ℕ) → AreStored site (end_of site w (take n es)).db
  stored_after n = run_stored site distinct w (take n es) stored (first_fit site n es fits)
      (all_calls_read site distinct read (take n es))

  whole : (db : Database) → AreStored site db → AreWhole site db
  whole db h relation = has_integrity (site_labels site) _ _ (h relation)

  read_named : (name : Name) (s : Stored) → stored_named site.stored name ≡ Some s
      → IsReadUnder site.policy site.schemes (tx_of s)
  read_named name s e = subst (λ o. IfSome o (λ x. IsReadUnder site.policy site.schemes (tx_of x))) e
      (found_holds _ _ site.stored read)

  integrity_kept : KeepsIntegrity site w es
  integrity_kept = record {
    after = λ n. whole _ (stored_after n);
    within = λ n name args s e.
        form_throughout site.policy distinct site.schemes (tx_of s) (read_named name s e) (fitted (tx_of s).params args)
        (end_of site w (take n es)).db (stored_after n) (AreWhole site) whole;
  }

pub keep_integrity : RunsKeepIntegrity
keep_integrity site distinct read w es stored fits = integrity_kept site distinct read w es stored fits
