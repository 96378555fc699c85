-- Calls: what they find stored, and what they leave.
use Rattle.std.proofs.Common.{◌≡◌, ℕ, ◌<◌, true, List, [], ◌∷◌, ◌++◌, length, map, Option, Some, None, refl, sym, ap, ◌∙◌, subst, IfSome}
use Rattle.std.specs.List.{AllByRecursion, cons_option}
use Rattle.std.proofs.lemmas.List.Elements.{filter_map-append}
use Rattle.std.proofs.lemmas.Option.{none-some}
use Rattle.mls_lattice.specs.Policy.{Name, Policy}
use Rattle.mls_lattice.proofs.EachLemmas.{all_append}
use Rattle.mls_scheme.specs.declared.value.Kind.{Kind}
use Rattle.mls_scheme.specs.declared.value.Value.{Value}
use Rattle.mls_scheme.specs.Value.{fits_kind}
use Rattle.mls_scheme.specs.Spelling.{IsShort as IsShortValue, HasSpelling as IsSpelledValue}
use Rattle.mls_scheme.proofs.KindLemmas.{fits-spelled}
use Rattle.mls_filterview.specs.Content.{State}
use Rattle.mls_audit.specs.declared.entry.Entry.{Entry}
use Rattle.mls_audit.specs.Entry.{label_of}
use Rattle.mls_audit.specs.Spelling.{IsEntryOf, HasSpelling, entry_spelling}
use Rattle.mls_certcheck.specs.declared.certified.Certified.{Certified as Checked}
use Rattle.mls_certcheck.specs.declared.run.Run.{Run}
use Rattle.mls_certcheck.specs.Meaning.{Item, run_tx}
use Rattle.mls_certcheck.specs.MeaningLaws.{IsItem}
use Rattle.mls_translang.specs.declared.event.Event.{Event}
use Rattle.mls_translang.specs.declared.event.Command.TheVariants as commands
use Rattle.mls_machine.specs.declared.reply.Denial.TheVariants.{UnknownTransaction, NotCertified}
use Rattle.mls_machine.specs.declared.reply.Reply.TheVariants.{Ran}
use Rattle.mls_certcheck.specs.declared.stored.Stored.{Stored}
use Rattle.mls_certcheck.specs.declared.stored.Stored.TheVariants.{Certified, Plain}
use Rattle.mls_certcheck.specs.Site.{Site, site_labels}
use Rattle.mls_machine.specs.Denying.{first_denial, stored_named, fitted, call_denials, call_denial}
use Rattle.mls_machine.specs.Machine.{unless, release_entry, call_entries, called, call_step, step_inside}
use Rattle.mls_machine.specs.Printable.{ItemsAreKnown}
use Rattle.mls_machine.proofs.DenyingLemmas.{may_run}
use Rattle.mls_trusted.specs.Runs.{with_database, IsEvaluated}
use Rattle.mls_sessions.specs.Denying.{denial_in}
use Rattle.mls_sessions.specs.World.{entries_in, world_at}
use Rattle.mls_sessions.specs.Calling.{with_entries}
use Rattle.mls_sessions.specs.Turns.{IsStepOver}
use Rattle.mls_sessions.proofs.StepLemmas.{read, spelled_read}

-- ---- values

-- a copy of a value of some kind
pub value_is_short : (copy value : Option Value) → copy ≡ value → (k : Kind) × (fits_kind value k ≡ true)
    → IfSome copy IsShortValue
value_is_short copy value same h = subst (λ v. IfSome v IsShortValue) (sym same)
    (some_short value (fits-spelled value h.0 h.1))
  where
    some_short : (v : Option Value) → IfSome v IsSpelledValue → IfSome v IsShortValue
    some_short None k = tt
    some_short (Some v) k = k.1

-- ---- what is stored

module _ (site : Site) (level user : ℕ) (name : Name) (args : List (Option Value)) where
  -- where a call is not denied, there is one
  pub certified_found : call_denial site level user args (stored_named site.stored name) ≡ None → (k : Checked)
      × (stored_named site.stored name ≡ Some (Certified k))
  certified_found h = by_stored (stored_named site.stored name) refl h
    where
      by_stored : (o : Option Stored) → stored_named site.stored name ≡ o → call_denial site level user args o ≡ None
          → (k : Checked) × (stored_named site.stored name ≡ Some (Certified k))
      by_stored None is h = absurd (none-some UnknownTransaction (sym h))
      by_stored (Some (Plain tx)) is h = absurd (none-some NotCertified (sym h))
      by_stored (Some (Certified k)) is h = (k, is)

  module _ (k : Checked) (is : stored_named site.stored name ≡ Some (Certified k)) (h : call_denial site level user args
      (stored_named site.stored name) ≡ None) where
    none : first_denial (call_denials site level user k.tx args) ≡ None
    none = sym (ap (call_denial site level user args) is) ∙ h

    -- it is called with an argument for each parameter
    pub counted : length args ≡ length k.tx.params
    counted = (may_run site level user k.tx args none).count

-- ---- entries

module _ (count : ℕ) where
  abbrev Below : List Entry → Type 0
  Below = AllByRecursion (λ e. label_of e < count)

  all_read : (es : List Entry) → AllByRecursion HasSpelling es → Below es → entries_in count (map entry_spelling es)
      ≡ es
  all_read [] h k = refl
  all_read (e ∷ es) h k =
      ap (λ o. cons_option o (entries_in count (map entry_spelling es)))
      (spelled_read count (entry_spelling e) e h.0 k.0 refl) ∙ ap (λ xs. e ∷ xs) (all_read es h.1 k.1)

  pub entries_all : (strings : List (List ℕ)) (es : List Entry) → AllByRecursion HasSpelling es → Below es
      → entries_in count (strings ++ map entry_spelling es) ≡ entries_in count strings ++ es
  entries_all strings es h k = filter_map-append (read count) strings (map entry_spelling es)
      ∙ ap (λ xs. entries_in count strings ++ xs) (all_read es h k)

  pub spelled_all : (es : List Entry) → AllByRecursion HasSpelling es → Below es → AllByRecursion (IsEntryOf count)
      (map entry_spelling es)
  spelled_all [] h k = tt
  spelled_all (e ∷ es) h k = (record { entry = e; spelled = h.0; declared = k.0; is = refl }, spelled_all es h.1 k.1)

pub items_known : (policy : Policy) (items : List Item) → AllByRecursion (IsItem policy) items
    → ItemsAreKnown policy items
items_known policy [] h = tt
items_known policy (i ∷ items) h = (h.0.label, items_known policy items h.1)

releases_below : (site : Site) (event : Event) (user : ℕ) (items : List Item)
    → AllByRecursion (IsItem site.policy) items → Below (length site.policy.labels)
    (map (release_entry site event user) items)
releases_below site event user [] h = tt
releases_below site event user (i ∷ items) h = (h.0.label, releases_below site event user items h.1)

-- ---- the step of a call

module _ (site : Site) (event : Event) (user : ℕ) (name : Name) (args : List (Option Value)) (is : event.command
    ≡ commands.Call name args)
    (allowed : denial_in site event.level user event.command ≡ None) where
  pub call_allowed : call_denial site event.level user args (stored_named site.stored name) ≡ None
  call_allowed = sym (ap (denial_in site event.level user) is) ∙ allowed

  module _ (k : Checked) (stored : stored_named site.stored name ≡ Some (Certified k)) (s m t : State) (run : Run) where
    abbrev call_args : List (Option Value)
    call_args = fitted k.tx.params args

    abbrev entered : List Entry
    entered = call_entries site event user name run.released

    called_over : IsEvaluated (run_tx (site_labels site) site.schemes k.tx call_args s.now.db)
        (with_database s (run_tx (site_labels site) site.schemes k.tx call_args s.now.db).db) m run
        → t ≡ with_entries m entered → AllByRecursion HasSpelling entered → Below (length site.policy.labels) entered
        → IsStepOver site (λ w. called site w event user name k.tx args) s.now t.now (Ran run)
    called_over ev left spelled below =
        let p = run_tx (site_labels site) site.schemes k.tx call_args s.now.db in
        let whole : t ≡ with_entries (with_database s p.db) entered =
        left ∙ ap (λ (x : State). with_entries x entered) ev.state in
        record {
          reply = λ sessions. (λ i. Ran (record { emitted = ev.emitted i; released = ev.released i }));
          world = λ sessions. ap (λ (x : State). world_at site sessions x.now) whole
              ∙ ap (λ es. record { db = p.db; sessions = sessions; audit = es })
              (entries_all (length site.policy.labels) s.now.audit entered spelled below
              ∙ ap (λ rs. entries_in (length site.policy.labels) s.now.audit
              ++ call_entries site event user name rs) ev.released);
          entries = λ all. subst (λ (x : State). AllByRecursion (IsEntryOf (length site.policy.labels)) x.now.audit)
              (sym whole)
              (all_append _ s.now.audit (map entry_spelling entered) all
              (spelled_all (length site.policy.labels) entered spelled below));
        }

    pub call_over : IsEvaluated (run_tx (site_labels site) site.schemes k.tx call_args s.now.db)
        (with_database s (run_tx (site_labels site) site.schemes k.tx call_args s.now.db).db) m run
        → t ≡ with_entries m entered → AllByRecursion HasSpelling entered → event.level < length site.policy.labels
        → AllByRecursion (IsItem site.policy) run.released
        → IsStepOver site (λ w. step_inside site w event event.command user) s.now t.now (Ran run)
    call_over ev left spelled level items =
        subst (λ X. IsStepOver site X s.now t.now (Ran run)) (λ i w. sym (step_is w) i) (called_over ev left spelled
        (level, releases_below site event user run.released items))
      where
        none : first_denial (call_denials site event.level user k.tx args) ≡ None
        none = sym (ap (call_denial site event.level user args) stored) ∙ call_allowed

        step_is : (w : _) → step_inside site w event event.command user ≡ called site w event user name k.tx args
        step_is w =
            ap (λ x. step_inside site w event x user) is ∙ ap (call_step site w event user name args) stored
            ∙ ap (λ o. unless site o w event user (called site w event user name k.tx args)) none
