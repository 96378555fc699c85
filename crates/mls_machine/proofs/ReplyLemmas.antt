-- Over content of the stored form the numbers in a reply are those of the policy.
use Rattle.std.proofs.Common.{nat_eq, ◌≡◌, ℕ, suc, ◌+◌, ◌<◌, Bool, true, false, cond, not, List, [], ◌∷◌, ◌++◌, length, map, Option, Some, None, Result, Ok, Err, inl, inr, refl, sym, subst, arith, filter, IfSome}
use Rattle.std.specs.Prelude.{⊤}
use Rattle.std.specs.List.{AllByRecursion, list_any}
use Rattle.std.specs.FinMap.{get, entries}
use Rattle.std.proofs.lemmas.List.{length-map}
use Rattle.mls_lattice.specs.Labels.{Labels, below, AreDistinct}
use Rattle.mls_lattice.specs.Policy.{Name, Policy}
use Rattle.mls_scheme.specs.declared.tuple.Element.{Element}
use Rattle.mls_scheme.specs.declared.tuple.Tuple.{Tuple}
use Rattle.mls_scheme.specs.declared.place.Place.{Place}
use Rattle.mls_scheme.specs.declared.value.Value.{Value}
use Rattle.mls_scheme.specs.Tuple.{at, HasClassesBelow}
use Rattle.mls_scheme.specs.Table.{Table, Database, tuple_at}
use Rattle.mls_filterview.specs.Stored.{IsStored}
use Rattle.mls_filterview.specs.View.{low, rows}
use Rattle.mls_filterview.specs.Reach.{upward, of_class, low_tuples}
use Rattle.mls_filterview.proofs.AmongLemmas.{each_among}
use Rattle.mls_filterview.proofs.EntryLemmas.{among_entries}
use Rattle.mls_filterview.proofs.LowLemmas.{from_low}
use Rattle.mls_filterview.proofs.RowLemmas.{rows_are_the_view}
use Rattle.mls_translang.specs.Tx.{Tx}
use Rattle.mls_translang.specs.Fits.{IsReadUnder}
use Rattle.mls_certcheck.specs.Meaning.{Item, run_tx}
use Rattle.mls_certcheck.proofs.MeaningLemmas.{call_labelled}
use Rattle.mls_updates.specs.declared.outcome.Outcome.{Outcome}
use Rattle.mls_updates.specs.Writes.{Write}
use Rattle.mls_translang.specs.declared.query.Query.{Query}
use Rattle.mls_queries.specs.Query.{has_class, meets, is_above, highest_of, first_of, found}
use Rattle.mls_queries.proofs.PlaceLemmas.{all_filter}
use Rattle.mls_lattice.proofs.EachLemmas.{all, all_take, all_append, each_flat}
use Rattle.mls_audit.specs.declared.entry.Entry.{Entry}
use Rattle.mls_audit.specs.Entry.{label_of}
use Rattle.mls_translang.specs.declared.event.Event.{Event}
use Rattle.mls_translang.specs.declared.event.Command.{Command}
use Rattle.mls_translang.specs.declared.event.Command.TheVariants as commands
use Rattle.mls_translang.specs.declared.event.One.{One}
use Rattle.mls_translang.specs.declared.event.One.TheVariants as ones
use Rattle.mls_translang.specs.Event.{OneFits, CommandFits, EventFits}
use Rattle.mls_machine.specs.declared.reply.Answer.{Answer}
use Rattle.mls_machine.specs.declared.reply.Denial.{Denial}
use Rattle.mls_machine.specs.declared.reply.Denial.TheVariants.{AlreadyOpen, UnknownTransaction, NotCertified}
use Rattle.mls_certcheck.specs.declared.stored.Stored.{Stored}
use Rattle.mls_certcheck.specs.declared.stored.Stored.TheVariants.{Certified, Plain}
use Rattle.mls_certcheck.specs.Site.{Site, site_labels, site_scheme, AreRead}
use Rattle.mls_machine.specs.Denying.{first_denial, exceed, clearance_of, cleared, user_named, stored_named, fitted, call_denials}
use Rattle.mls_machine.specs.Machine.{World, Step, BatchEnd, refusal_of, unless_refused, unless, denial_entry, release_entry, call_entries, viewed, dumped, wrote, did_one, did_all, ended, did, called, call_step, step_inside, open_step, step_outside, step_at, step}
use Rattle.mls_machine.specs.Printable.{EntriesAreKnown, ItemsAreKnown, AnswerIsKnown, ReplyIsKnown}
use Rattle.mls_machine.specs.Observation.{AreStored}
use Rattle.mls_machine.proofs.DenyingLemmas.{user_below}
use Rattle.mls_machine.proofs.CalledLemmas.{certified_of, all_read}
use Rattle.mls_machine.proofs.KeepingLemmas.{one_stored}

-- ---- rows

all_below : (n : ℕ) (es : List Element) → ((i : ℕ) → i < length es → (at es i).class < n)
    → AllByRecursion (λ e. e.class < n) es
all_below n [] h = tt
all_below n (e ∷ es) h = (h 0 (omega arith), all_below n es (λ i l. h (suc i) (omega arith)))

module _ (ls : Labels) (n : ℕ) (T : Table) (stored : IsStored ls n T) where
  tuple_below : (p : Place) (es : List Element) → get T p ≡ Some es → HasClassesBelow (length ls) (tuple_at p es)
  tuple_below p es g =
      let s = stored p es g in
      record {
        key_class = s.declared p.key_class (inl refl);
        elements = all_below (length ls) es (λ i l. s.declared (at es i).class (inr (i, l, refl)));
      }

  tuples_below : (es : List (Place × List Element)) → AllByRecursion (λ e. get T e.0 ≡ Some e.1) es
      → AllByRecursion (HasClassesBelow (length ls)) (map (λ e. tuple_at e.0 e.1) es)
  tuples_below [] h = tt
  tuples_below (e ∷ es) h = (tuple_below e.0 e.1 h.0, tuples_below es h.1)

  low_below : (c : ℕ) → AllByRecursion (HasClassesBelow (length ls)) (low_tuples ls c T)
  unfolding low_tuples
  low_below c =
      let es = entries (low ls c T) in
      let has = each_among (λ e. get T e.0 ≡ Some e.1) es (λ e i. (from_low ls c T (tuple_at e.0 e.1) e.0.class
      (among_entries (low ls c T) e i)).0) in
      each_flat (HasClassesBelow (length ls)) (of_class es) (upward ls)
      (all _ (λ m. (let p = (λ (e : Place × List Element). nat_eq e.0.class m)
      in tuples_below (filter p es) (all_filter (λ e. get T e.0 ≡ Some e.1) p es has))) (upward ls))

  rows_below : AreDistinct ls → (c : ℕ) → AllByRecursion (HasClassesBelow (length ls)) (rows ls c T)
  rows_below distinct c =
      let r = (rows_are_the_view ls distinct n T stored c).1 in
      subst (AllByRecursion (HasClassesBelow (length ls))) (sym r.1) (tuples_below r.0 r.3)

-- ---- what is found of rows

module _ (P : Tuple → Type 0) (ls : Labels) (ts : List Tuple) (h : AllByRecursion P ts) where
  first_all : (o : Option ℕ) (us : List Tuple) → AllByRecursion P us → AllByRecursion P (first_of o us)
  first_all None us k = k
  first_all (Some n) us k = all_take P us n k

  highest_all : (b : Bool) → AllByRecursion P (highest_of ls b ts)
  highest_all true = all_filter P (λ t. not (list_any (λ s. is_above ls s t) ts)) ts h
  highest_all false = h

  found_all : (q : Query) → AllByRecursion P (found ls q ts)
  found_all q =
      let highest = highest_of ls q.highest ts in
      let classed = filter (has_class ls q.class) highest in
      first_all q.first (filter (meets q.test) classed) (all_filter P (meets q.test) classed
      (all_filter P (has_class ls q.class) highest (highest_all q.highest)))

-- ---- entries

filter_known : (p : Entry → Bool) (policy : Policy) (es : List Entry) → EntriesAreKnown policy es
    → EntriesAreKnown policy (filter p es)
filter_known p policy [] h = tt
filter_known p policy (e ∷ es) h =
    elim (p e) as (λ b. EntriesAreKnown policy (cond b (e ∷ filter p es) (filter p es))) [
      | true ↦ (
        h.0,
        filter_known p policy es h.1,
      )
      | false ↦ filter_known p policy es h.1
    ]

append_known : (policy : Policy) (es fs : List Entry) → EntriesAreKnown policy es → EntriesAreKnown policy fs
    → EntriesAreKnown policy (es ++ fs)
append_known policy [] fs h k = k
append_known policy (e ∷ es) fs h k = (h.0, append_known policy es fs h.1 k)

-- ---- views

module _ (site : Site) (distinct : AreDistinct (site_labels site)) where
  found_known : (db : Database) → AreStored site db → (relation label : ℕ) (query : Query)
      → AllByRecursion (HasClassesBelow (length site.policy.labels)) (found (site_labels site) query
      (rows (site_labels site) label (db relation)))
  found_known db stored relation label query =
      found_all (HasClassesBelow (length site.policy.labels)) (site_labels site) (rows (site_labels site) label
      (db relation))
      (subst (λ n. AllByRecursion (HasClassesBelow n) (rows (site_labels site) label (db relation)))
      (length-map site.policy.labels (λ l. l.value))
      (rows_below (site_labels site) (length (site_scheme site relation).others) (db relation)
      (stored relation) distinct label))
      query

  answer_known : (level : ℕ) (one : One) (db : Database) → AreStored site db
      → AnswerIsKnown site.policy (did_one site level one db).answer
  answer_known level (ones.View relation label query counts) db stored = found_known db stored relation label query
  answer_known level (ones.Expect expected relation label query) db stored = tt
  answer_known level (ones.Write relation wr) db stored = tt

-- ---- steps

-- the numbers in a reply and in the audit list are those of the policy
pub record IsKnown (site : Site) (s : Step) : Type 0 where
  pub reply : ReplyIsKnown site.policy s.reply
  pub audit : EntriesAreKnown site.policy s.world.audit

module _ (site : Site) (distinct : AreDistinct (site_labels site)) (read : AreRead site) (w : World)
    (stored : AreStored site w.db) (known : EntriesAreKnown site.policy w.audit) (e : Event)
    (fits : EventFits site.policy site.schemes e) where
  denied_known : (user : ℕ) (denial : Denial) → EntriesAreKnown site.policy (w.audit ++ denial_entry site e user denial
      ∷ [])
  denied_known user denial = append_known site.policy w.audit (denial_entry site e user denial ∷ []) known (
    fits.level,
    tt,
  )

  unless_known : (denial : Option Denial) (user : ℕ) (effect : Step) → IsKnown site effect
      → IsKnown site (unless site denial w e user effect)
  unless_known None user effect h = h
  unless_known (Some denial) user effect h = record { reply = tt; audit = denied_known user denial }

  viewed_known : (relation label : ℕ) (query : Query) → AllByRecursion (HasClassesBelow (length site.policy.labels))
      (found (site_labels site) query (rows (site_labels site) label (w.db relation)))
  viewed_known relation label query = found_known site distinct w.db stored relation label query

  -- ---- batches

  abbrev EndIsKnown : Result BatchEnd (ℕ × Outcome) → Type 0
  EndIsKnown (Ok end) = AllByRecursion (AnswerIsKnown site.policy) end.answers
  EndIsKnown (Err refused) = ⊤

  refused_known : (o : Option Outcome) (number : ℕ) (r : Result BatchEnd (ℕ × Outcome)) → EndIsKnown r
      → EndIsKnown (unless_refused o number r)
  refused_known None number r h = h
  refused_known (Some o) number r h = tt

  all_known : (front : List Answer) (batch : List One) (db : Database)
      → AllByRecursion (AnswerIsKnown site.policy) front → AllByRecursion (OneFits site.policy site.schemes) batch
      → AreStored site db → EndIsKnown (did_all site e.level front batch db)
  unfolding did_all
  all_known front [] db before each held = before
  all_known front (one ∷ batch) db before each held =
      let s = did_one site e.level one db in
      refused_known (refusal_of s.answer) (length front + 1) (did_all site e.level (front ++ s.answer ∷ []) batch s.db)
      (all_known (front ++ s.answer ∷ []) batch s.db (all_append (AnswerIsKnown site.policy) front
      (s.answer ∷ []) before (answer_known site distinct e.level one db held, tt)) each.1
      (one_stored site distinct e.level fits.level one db each.0 held))

  ended_known : (r : Result BatchEnd (ℕ × Outcome)) → EndIsKnown r → IsKnown site (ended site w r)
  ended_known (Ok end) h = record { reply = h; audit = known }
  ended_known (Err refused) h = record { reply = tt; audit = known }

  dumped_known : (relation level : ℕ) → AllByRecursion (HasClassesBelow (length site.policy.labels))
      (low_tuples (site_labels site) level (w.db relation))
  dumped_known relation level =
      subst (λ n. AllByRecursion (HasClassesBelow n) (low_tuples (site_labels site) level (w.db relation)))
      (length-map site.policy.labels (λ l. l.value))
      (low_below (site_labels site) (length (site_scheme site relation).others) (w.db relation) (stored relation) level)

  wrote_known : (denial : Option Denial) (user relation : ℕ) (wr : Write)
      → IsKnown site (unless site denial w e user (wrote site w e.level relation wr))
  wrote_known denial user relation wr = unless_known denial user (wrote site w e.level relation wr)
      (record { reply = tt; audit = known })

  releases_known : (user : ℕ) (items : List Item) → ItemsAreKnown site.policy items
      → EntriesAreKnown site.policy (map (release_entry site e user) items)
  releases_known user [] h = tt
  releases_known user (item ∷ items) h = (h.0, releases_known user items h.1)

  called_known : (user : ℕ) (name : Name) (tx : Tx) (args : List (Option Value))
      → IsReadUnder site.policy site.schemes tx → IsKnown site (called site w e user name tx args)
  called_known user name tx args r =
      let labelled = call_labelled site.policy site.schemes tx r (fitted tx.params args) w.db in
      let released = (run_tx (site_labels site) site.schemes tx (fitted tx.params args) w.db).released in
      record {
        reply = (labelled.emitted, labelled.released);
        audit = append_known site.policy w.audit (call_entries site e user name released) known (
          fits.level,
          releases_known user released labelled.released,
        );
      }

  call_known : (user : ℕ) (name : Name) (args : List (Option Value)) (o : Option Stored)
      → IfSome (certified_of o) (IsReadUnder site.policy site.schemes)
      → IsKnown site (call_step site w e user name args o)
  call_known user name args None r = record { reply = tt; audit = denied_known user UnknownTransaction }
  call_known user name args (Some (Plain tx)) r = record { reply = tt; audit = denied_known user NotCertified }
  call_known user name args (Some (Certified k)) r =
      unless_known (first_denial (call_denials site e.level user k.tx args)) user (called site w e user name k.tx args)
      (called_known user name k.tx args r)

  inside_known : (command : Command) (user : ℕ) → CommandFits site.policy site.schemes command
      → IsKnown site (step_inside site w e command user)
  inside_known (commands.Open name) user fit = record { reply = tt; audit = denied_known user AlreadyOpen }
  inside_known commands.Close user fit = record { reply = tt; audit = known }
  inside_known commands.Audit user fit = record {
    reply = filter_known (λ x. below (site_labels site)
        (label_of x) e.level) site.policy w.audit known;
    audit = known;
  }
  inside_known (commands.View relation label query counts) user fit = unless_known _ user
      (viewed site w relation label query) (record { reply = viewed_known relation label query; audit = known })
  inside_known (commands.Dump relation) user fit = unless_known _ user (dumped site w relation e.level)
      (record { reply = dumped_known relation e.level; audit = known })
  inside_known (commands.Write relation wr) user fit = wrote_known _ user relation wr
  inside_known (commands.Call name args) user fit = call_known user name args (stored_named site.stored name)
      (all_read site read (commands.Call name args))
  inside_known (commands.All batch) user fit =
      unless_known _ user (did site w e.level batch) (ended_known (did_all site e.level [] batch w.db)
      (all_known [] batch w.db tt fit.each stored))

  cleared_known : (user : ℕ) (b : Bool) (denial : Denial) → user < length site.policy.users
      → IsKnown site (open_step site w e (cond b (Err denial) (Ok user)))
  cleared_known user true denial h = record { reply = tt; audit = known }
  cleared_known user false denial h = record { reply = h; audit = known }

  opened_known : (o : Option ℕ) → ((user : ℕ) → o ≡ Some user → user < length site.policy.users)
      → IsKnown site (open_step site w e (cleared site e.level o))
  opened_known None h = record { reply = tt; audit = known }
  opened_known (Some user) h = cleared_known user (exceed site (clearance_of site.policy user) (e.level ∷ [])) _
      (h user refl)

  outside_known : (command : Command) → IsKnown site (step_outside site w e command)
  outside_known (commands.Open name) = opened_known (user_named site.policy name) (user_below site.policy name)
  outside_known _ = record { reply = tt; audit = known }

  at_known : (session : Option ℕ) → IsKnown site (step_at site w e e.command session)
  at_known (Some user) = inside_known e.command user fits.command
  at_known None = outside_known e.command

  pub step_known : IsKnown site (step site w e)
  unfolding step
  step_known = at_known (w.sessions e.level e.session)
