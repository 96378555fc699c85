-- Content that a call left, as a step of the machine.
use Rattle.std.proofs.Common.{◌≡◌, ℕ, ◌<◌, true, false, cond, List, [], ◌∷◌, ◌++◌, length, take, get_or, Option, Some, None, Result, Ok, Err, refl, sym, ap, ◌∙◌, subst, ltb-true, lt-ltb, ◌+◌, append-nil, nat_lt}
use Rattle.std.proofs.SliceLists.{all_by_recursion_push}
use Rattle.std.specs.List.{AllByRecursion, cons_option}
use Rattle.std.proofs.lemmas.List.{take_more}
use Rattle.std.proofs.lemmas.List.Elements.{filter_map-append}
use Rattle.mls_lattice.specs.Labels.{Labels, below}
use Rattle.mls_filterview.specs.Content.{State, with_entry}
use Rattle.mls_audit.specs.declared.entry.Entry.{Entry}
use Rattle.mls_scheme.specs.declared.key_fault.KeyFault.{KeyFault}
use Rattle.mls_audit.specs.Entry.{label_of, visible}
use Rattle.mls_audit.specs.Spelling.{IsEntryOf, HasSpelling, entry_spelling}
use Rattle.mls_audit.specs.Reading.{entry_at}
use Rattle.mls_audit.proofs.EntryLemmas.{entry_again}
use Rattle.mls_translang.specs.declared.event.Event.{Event}
use Rattle.mls_machine.specs.declared.reply.Denial.{Denial}
use Rattle.mls_machine.specs.declared.reply.Reply.TheVariants.{Denied}
use Rattle.mls_certcheck.specs.Site.{Site}
use Rattle.mls_machine.specs.Machine.{denial_entry, denied}
use Rattle.mls_sessions.specs.World.{declared, entries_in, world_at}
use Rattle.mls_sessions.specs.Turns.{IsStepOver}

-- ---- entries

module _ (count : ℕ) where
  abbrev pub read : List ℕ → Option Entry
  read bytes = declared count (entry_at bytes)

  pub spelled_read : (bytes : List ℕ) (e : Entry) → HasSpelling e → label_of e < count → bytes ≡ entry_spelling e
      → read bytes ≡ Some e
  spelled_read bytes e spelled within is = ap read is ∙ ap (declared count) (entry_again e spelled)
      ∙ ap (λ b. cond b (Some e) None) (lt-ltb (label_of e) count within)

  -- one string more
  pub entries_more : (strings : List (List ℕ)) (bytes : List ℕ) (e : Entry) → HasSpelling e → label_of e < count
      → bytes ≡ entry_spelling e
      → entries_in count (strings ++ bytes ∷ []) ≡ entries_in count strings ++ e ∷ []
  entries_more strings bytes e spelled within is =
      filter_map-append read strings (bytes ∷ []) ∙ ap (λ o. entries_in count strings ++ cons_option o [])
      (spelled_read bytes e spelled within is)

  module _ (strings : List (List ℕ)) (i : ℕ) (bytes : List ℕ) (within : i < length strings) (is : get_or strings i bytes
      ≡ bytes) where
    next : entries_in count (take (i + 1) strings) ≡ entries_in count (take i strings) ++ cons_option (read bytes) []
    next = ap (entries_in count) (take_more strings i bytes within ∙ ap (λ x. take i strings ++ x ∷ []) is)
        ∙ filter_map-append read (take i strings) (bytes ∷ [])

    pub entries_next : (e : Entry) → Some e ≡ read bytes → entries_in count (take i strings) ++ e ∷ []
        ≡ entries_in count (take (i + 1) strings)
    entries_next e h = sym (next ∙ ap (λ o. entries_in count (take i strings) ++ cons_option o []) (sym h))

    pub entries_stay : None ≡ read bytes → entries_in count (take i strings) ≡ entries_in count (take (i + 1) strings)
    entries_stay h = sym (next ∙ ap (λ o. entries_in count (take i strings) ++ cons_option o []) (sym h) ∙ append-nil _)

  abbrev pub AreBelow : List Entry → Type 0
  AreBelow = AllByRecursion (λ e. label_of e < count)

  one_known : (r : Result Entry KeyFault) (es : List Entry) → AreBelow es → AreBelow (cons_option (declared count r) es)
  one_known (Err fault) es h = h
  one_known (Ok e) es h =
      elim (nat_lt (label_of e) count) as (λ b. nat_lt (label_of e) count ≡ b
      → AreBelow (cons_option (cond b (Some e) None) es)) [
        | true ↦ λ k. (ltb-true (label_of e) count k, h)
        | false ↦ λ k. h
      ] refl

  pub entries_known : (strings : List (List ℕ)) → AreBelow (entries_in count strings)
  entries_known [] = tt
  entries_known (s ∷ strings) = one_known (entry_at s) (entries_in count strings) (entries_known strings)

pub visible_known : (count : ℕ) (ls : Labels) (label : ℕ) (es : List Entry) → AreBelow count es
    → AreBelow count (visible ls label es)
visible_known count ls label [] h = tt
visible_known count ls label (e ∷ es) h =
    elim (below ls (label_of e) label) as (λ b. AreBelow count (cond b (e ∷ visible ls label es)
    (visible ls label es))) [
      | true ↦ (h.0, visible_known count ls label es h.1)
      | false ↦ visible_known count ls label es h.1
    ]

-- ---- steps

module _ (site : Site) (s t : State) where
  pub denied_over : (event : Event) (user : ℕ) (denial : Denial) (bytes : List ℕ) → event.level
      < length site.policy.labels → HasSpelling (denial_entry site event user denial)
      → bytes ≡ entry_spelling (denial_entry site event user denial) → t ≡ with_entry s bytes
      → IsStepOver site (λ w. denied site w event user denial) s.now t.now (Denied denial)
  denied_over event user denial bytes within spelled is h = record {
    reply = λ sessions. refl;
    world = λ sessions. ap (λ (x : State). world_at site sessions x.now) h
        ∙ ap (λ es. record { db = s.now.db; sessions = sessions; audit = es })
        (entries_more (length site.policy.labels) s.now.audit bytes
        (denial_entry site event user denial) spelled within is);
    entries = λ all. subst (λ (x : State). AllByRecursion (IsEntryOf (length site.policy.labels)) x.now.audit) (sym h)
        (all_by_recursion_push _ s.now.audit bytes all (record {
          entry = denial_entry site event user denial;
          spelled =
              spelled;
          declared = within;
          is = is;
        }));
  }
