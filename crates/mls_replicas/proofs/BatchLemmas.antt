-- A batch event that is done again after a stop: in each relation it is undone, or all of its writes are done again.
use Rattle.std.proofs.Common.{◌≡◌, ℕ, ◌+◌, ◌<◌, Bool, true, false, cond, List, [], ◌∷◌, ◌++◌, length, Option, Some, None, Result, Ok, Err, refl, sym, ap, ◌∙◌, subst, inl, inr, ◌⊎◌, eqb-true, nat_eq}
use Rattle.std.specs.List.{AllByRecursion}
use Rattle.std.proofs.lemmas.Bool.{cond-true}
use Rattle.std.proofs.lemmas.List.{length-map}
use Rattle.mls_lattice.specs.Labels.{Labels, AreDistinct}
use Rattle.mls_scheme.specs.Table.{Table, Database}
use Rattle.mls_updates.specs.declared.outcome.Outcome.{Outcome}
use Rattle.mls_updates.specs.Outcome.{is_done}
use Rattle.mls_updates.specs.Writes.{Write, Written, WriteFits, write}
use Rattle.mls_translang.specs.declared.event.Event.{Event}
use Rattle.mls_translang.specs.declared.event.Command.{Command}
use Rattle.mls_translang.specs.declared.event.Command.TheVariants as commands
use Rattle.mls_translang.specs.declared.event.One.{One}
use Rattle.mls_translang.specs.declared.event.One.TheVariants as ones
use Rattle.mls_translang.specs.Event.{OneFits, CommandFits}
use Rattle.mls_certcheck.specs.Site.{Site, site_labels, site_scheme}
use Rattle.mls_machine.specs.declared.reply.Answer.{Answer}
use Rattle.mls_machine.specs.declared.reply.Answer.TheVariants as answers
use Rattle.mls_machine.specs.declared.reply.Denial.{Denial}
use Rattle.mls_machine.specs.Denying.{first_denial, batch_denials}
use Rattle.mls_machine.specs.Machine.{World, BatchEnd, refusal_of, unless_refused, did_one, did_all, ended, did, unless, step_at, step}
use Rattle.mls_machine.specs.Observation.{AreStored}
use Rattle.mls_machine.proofs.KeepingLemmas.{fitting}
use Rattle.mls_replicas.specs.Again.{all_done, IsBatch, BatchesAgainRecover}
use Rattle.mls_replicas.proofs.DoneLemmas.{done_again}

abbrev Ended : Type 0
Ended = Result BatchEnd (ℕ × Outcome)

abbrev all_of : BatchEnd → Ended
all_of end = Ok end

abbrev none_of : ℕ × Outcome → Ended
none_of refused = Err refused

same_end : (a b : BatchEnd) → all_of a ≡ all_of b → a ≡ b
same_end a b h = cc

none_is_not_all : (f : ℕ × Outcome) (b : BatchEnd) → none_of f ≡ all_of b → ⊥
none_is_not_all f b h = absurd (cc)

module _ (site : Site) (level : ℕ) where
  abbrev ls : Labels
  ls = site_labels site

  -- the writes of a relation among the commands of a batch
  abbrev write_of : ℕ → One → List Write → List Write
  write_of r (ones.View relation label query counts) wrs = wrs
  write_of r (ones.Expect rows relation label query) wrs = wrs
  write_of r (ones.Write relation wr) wrs = cond (nat_eq r relation) (wr ∷ wrs) wrs

  abbrev writes_of : ℕ → List One → List Write
  writes_of r [] = []
  writes_of r (one ∷ batch) = write_of r one (writes_of r batch)

  -- ---- they fit

  module _ (declared : level < length site.policy.labels) (r : ℕ) where
    abbrev Fit : List Write → Type 0
    Fit = AllByRecursion (WriteFits ls (length (site_scheme site r).others) level)

    write_fits : (one : One) → OneFits site.policy site.schemes one → (wrs : List Write) → Fit wrs
        → Fit (write_of r one wrs)
    write_fits (ones.View relation label query counts) fits wrs h = h
    write_fits (ones.Expect rows relation label query) fits wrs h = h
    write_fits (ones.Write relation wr) fits wrs h = by_test (nat_eq r relation) refl
      where
        by_test : (b : Bool) → nat_eq r relation ≡ b → Fit (cond b (wr ∷ wrs) wrs)
        by_test true e = (
          subst (λ q. WriteFits ls (length (site_scheme site q).others) level wr) (sym (eqb-true r relation e))
              (fitting site level declared relation wr fits.1).numbers,
          h,
        )
        by_test false e = h

    writes_fit : (batch : List One) → AllByRecursion (OneFits site.policy site.schemes) batch
        → Fit (writes_of r batch)
    writes_fit [] fits = tt
    writes_fit (one ∷ batch) fits = write_fits one fits.0 (writes_of r batch) (writes_fit batch fits.1)

  -- ---- where a batch is done, all of them are done

  was_done : (o : Outcome) → refusal_of (answers.Became o) ≡ None → is_done o ≡ true
  was_done o none = by_test (is_done o) none
    where
      by_test : (b : Bool) → cond b None (Some o) ≡ None → b ≡ true
      by_test true h = refl
      by_test false h = absurd (cc)

  none_refused : (o : Option Outcome) (number : ℕ) (more : Ended) (end : BatchEnd)
      → unless_refused o number more ≡ Ok end → (o ≡ None) × (more ≡ Ok end)
  none_refused None number more end h = (refl, h)
  none_refused (Some o) number more end h = absurd (none_is_not_all (number, o) end h)

  module _ (r : ℕ) where
    -- what all of some writes leave of the relation
    abbrev Leave : List Write → Table → Table → Type 0
    Leave wrs T U = all_done ls (site_scheme site r) level wrs T ≡ Some U

    one_leaves : (one : One) (db : Database) (wrs : List Write) (U : Table)
        → refusal_of (did_one site level one db).answer ≡ None
        → Leave wrs ((did_one site level one db).db r) U → Leave (write_of r one wrs) (db r) U
    one_leaves (ones.View relation label query counts) db wrs U none h = h
    one_leaves (ones.Expect rows relation label query) db wrs U none h = h
    one_leaves (ones.Write relation wr) db wrs U none h = by_test (nat_eq r relation) refl h
      where
        new : Written
        new = write ls (site_scheme site relation) level wr (db relation)

        by_test : (b : Bool) → nat_eq r relation ≡ b → Leave wrs (cond b new.table (db r)) U
            → Leave (cond b (wr ∷ wrs) wrs) (db r) U
        by_test true e k =
            subst (λ q. all_done ls (site_scheme site q) level wrs new.table ≡ Some U
            → all_done ls (site_scheme site q) level (wr ∷ wrs) (db q) ≡ Some U) (sym (eqb-true r relation e))
            (λ at. cond-true (is_done new.outcome) (all_done ls (site_scheme site relation) level wrs new.table) None
            (was_done new.outcome none) ∙ at) k
        by_test false e k = k

    all_leave : (front : List Answer) (batch : List One) (db : Database) (end : BatchEnd)
        → did_all site level front batch db ≡ Ok end → Leave (writes_of r batch) (db r) (end.db r)
    unfolding did_all
    all_leave front [] db end h = ap (λ (x : BatchEnd). Some (x.db r)) (same_end _ end h)
    all_leave front (one ∷ batch) db end h =
        let s = did_one site level one db in
        let q = none_refused (refusal_of s.answer) (length front + 1)
        (did_all site level (front ++ s.answer ∷ []) batch s.db) end h in
        one_leaves one db (writes_of r batch) (end.db r) q.0
        (all_leave (front ++ s.answer ∷ []) batch s.db end q.1)

  -- ---- what a batch leaves, once and twice

  abbrev end_db : Database → Ended → Database
  end_db db (Ok end) = end.db
  end_db db (Err refused) = db

  abbrev run : List One → Database → Ended
  run batch db = did_all site level [] batch db

  ended_db : (w : World) (r : Ended) → (ended site w r).world.db ≡ end_db w.db r
  ended_db w (Ok end) = refl
  ended_db w (Err refused) = refl

  module _ (distinct : AreDistinct ls) (declared : level < length site.policy.labels) (batch : List One)
      (fits : AllByRecursion (OneFits site.policy site.schemes) batch) where
    within : level < length ls
    within = subst (λ n. level < n) (sym (length-map site.policy.labels (λ l. l.value))) declared

    twice_done : (db : Database) → AreStored site db → (end : BatchEnd) → run batch db ≡ Ok end → (s : Ended)
        → run batch end.db ≡ s → end_db end.db s ≡ end.db
    twice_done db stored end h (Ok again) k = λ i r.
        done_again ls distinct (site_scheme site r) (length (site_scheme site r).others) level within
        (writes_of r batch) (writes_fit declared r batch fits) (db r) (end.db r) (again.db r) (stored r)
        (all_leave r [] batch db end h) (all_leave r [] batch end.db again k) i
    twice_done db stored end h (Err refused) k = refl

    twice : (db : Database) → AreStored site db → (r : Ended) → run batch db ≡ r
        → end_db (end_db db r) (run batch (end_db db r)) ≡ end_db db r
    twice db stored (Ok end) h = twice_done db stored end h (run batch end.db) refl
    twice db stored (Err refused) h = ap (end_db db) h

-- ---- events

module _ (site : Site) (distinct : AreDistinct (site_labels site)) (v w : World) (e : Event)
    (stored : AreStored site w.db) (declared : e.level < length site.policy.labels) where
  -- a step leaves in v what it leaves in w
  abbrev IsDone : Command → Option ℕ → Type 0
  IsDone command user = (step_at site v e command user).world.db ≡ (step_at site w e command user).world.db

  module _ (batch : List One) (fits : AllByRecursion (OneFits site.policy site.schemes) batch) where
    abbrev at : Database → Ended
    at db = did_all site e.level [] batch db

    abbrev end_at : Database → Database
    end_at db = end_db site e.level db (at db)

    did_db : (u : World) → (did site u e.level batch).world.db ≡ end_at u.db
    did_db u = ended_db site e.level u (at u.db)

    done_inside : (user : ℕ) (denial : Option Denial)
        → (v.db ≡ w.db) ⊎ (v.db ≡ (unless site denial w e user (did site w e.level batch)).world.db)
        → (unless site denial v e user (did site v e.level batch)).world.db
        ≡ (unless site denial w e user (did site w e.level batch)).world.db
    done_inside user (Some denial) (inl same) = same
    done_inside user (Some denial) (inr same) = same
    done_inside user None (inl before) = did_db v ∙ ap end_at before ∙ sym (did_db w)
    done_inside user None (inr after) =
        did_db v ∙ ap end_at (after ∙ did_db w)
        ∙ twice site e.level distinct declared batch fits w.db stored (at w.db) refl
        ∙ sym (did_db w)

    done_by : (user : Option ℕ) → (v.db ≡ w.db) ⊎ (v.db ≡ (step_at site w e (commands.All batch) user).world.db)
        → IsDone (commands.All batch) user
    done_by (Some user) h = done_inside user (first_denial (batch_denials site e.level user batch)) h
    done_by None (inl same) = same
    done_by None (inr same) = same

  done_at : (command : Command) → IsBatch command → CommandFits site.policy site.schemes command
      → (user : Option ℕ) → (v.db ≡ w.db) ⊎ (v.db ≡ (step_at site w e command user).world.db) → IsDone command user
  done_at (commands.All batch) is fits user h = done_by batch fits.each user h
  done_at (commands.Open name) is fits user h = absurd is
  done_at commands.Close is fits user h = absurd is
  done_at commands.Audit is fits user h = absurd is
  done_at (commands.View relation label query counts) is fits user h = absurd is
  done_at (commands.Dump relation) is fits user h = absurd is
  done_at (commands.Write relation wr) is fits user h = absurd is
  done_at (commands.Call name args) is fits user h = absurd is

pub batches_recovered : BatchesAgainRecover
unfolding step
batches_recovered site distinct w e stored fits is v same stands =
    subst (λ user. (step_at site v e e.command user).world.db
    ≡ (step_at site w e e.command (w.sessions e.level e.session)).world.db) (sym same)
    (done_at site distinct v w e stored fits.level e.command is fits.command (w.sessions e.level e.session) stands)
