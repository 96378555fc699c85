-- Labels that are added to a policy: what was seen at an older label is seen there still.
use Rattle.std.proofs.Common.{◌≡◌, ℕ, suc, ◌<◌, ◌≤◌, cond, List, [], ◌∷◌, length, map, None, refl, sym, ap, subst, ◌∙◌, ◌↔◌, inl, inr, arith}
use Rattle.std.specs.List.{AllByRecursion, cons_option}
use Rattle.std.proofs.lemmas.List.{length-map}
use Rattle.mls_lattice.specs.Labels.{Labels, below}
use Rattle.mls_lattice.specs.Policy.{Policy, labels_of}
use Rattle.mls_scheme.specs.declared.tuple.Element.{Element}
use Rattle.mls_scheme.specs.declared.tuple.Tuple.{Tuple}
use Rattle.mls_scheme.specs.Table.{Table, IsIn}
use Rattle.mls_scheme.specs.Tuple.{at}
use Rattle.mls_scheme.specs.Scheme.{scheme_of}
use Rattle.mls_filterview.specs.Content.{Content}
use Rattle.mls_filterview.specs.Stored.{IsStored}
use Rattle.mls_filterview.specs.View.{hide, filtered, Filter, View}
use Rattle.mls_filterview.proofs.LevelLemmas.{SameTuples, max_of_same}
use Rattle.mls_audit.specs.declared.entry.Entry.{Entry}
use Rattle.mls_audit.specs.Entry.{label_of, visible}
use Rattle.mls_audit.specs.Reading.{entry_at}
use Rattle.mls_audit.specs.Spelling.{IsEntryOf}
use Rattle.mls_machine.specs.Observation.{AgreeAt}
use Rattle.mls_sessions.specs.World.{declared, entries_in}
use Rattle.mls_sessions.proofs.StepLemmas.{spelled_read, entries_known}
use Rattle.mls_runs.specs.History.{world_of}
use Rattle.mls_stops.specs.Lifetimes.{AreFirst, AddsLabels}

module _ (old new : Labels) (first : AreFirst old new) (c : ℕ) (here : c < length old) where
  -- an old label is below this one as it was
  same_below : (m : ℕ) → m < length old → below new m c ≡ below old m c
  same_below m within = first.same m c within here

  -- ---- tuples

  same_hidden : (key_class : ℕ) (es : List Element) → ((i : ℕ) → i < length es → (at es i).class < length old)
      → map (hide new c key_class) es ≡ map (hide old c key_class) es
  same_hidden key_class [] h = refl
  same_hidden key_class (e ∷ es) h = λ j.
      cond (same_below e.class (h 0 (omega arith)) j) e (record { value = None; class = key_class })
      ∷ same_hidden key_class es (λ i within. h (suc i) (omega (arith, within))) j

  module _ (n : ℕ) (T : Table) (stored : IsStored old n T) where
    module _ (s : Tuple) (is : IsIn T s) where
      key_within : s.key_class < length old
      key_within = (stored _ s.elements is.1).declared s.key_class (inl refl)

      same_filtered : filtered new c s ≡ filtered old c s
      same_filtered = λ j. record {
        key = s.key;
        key_class = s.key_class;
        elements = same_hidden s.key_class s.elements
            (λ i within. (stored _ s.elements is.1).declared (at s.elements i).class (inr (i, within, refl))) j;
      }

    same_filter : SameTuples (Filter old (IsIn T) c) (Filter new (IsIn T) c)
    same_filter t = (
      λ f. (f.0, f.1, same_below f.0.key_class (key_within f.0 f.1) ∙ f.2, f.3 ∙ sym (same_filtered f.0 f.1)),
      λ f. (f.0, f.1, sym (same_below f.0.key_class (key_within f.0 f.1)) ∙ f.2, f.3 ∙ same_filtered f.0 f.1),
    )

    same_view : (t : Tuple) → View old (IsIn T) c t ↔ View new (IsIn T) c t
    same_view t = (
      max_of_same (Filter old (IsIn T) c) (Filter new (IsIn T) c) same_filter t,
      max_of_same (Filter new (IsIn T) c) (Filter old (IsIn T) c)
          (λ u. ((same_filter u).1, (same_filter u).0)) t,
    )

  -- ---- entries

  same_visible : (es : List Entry) → AllByRecursion (λ e. label_of e < length old) es
      → visible new c es ≡ visible old c es
  same_visible [] h = refl
  same_visible (e ∷ es) h = λ j.
      cond (same_below (label_of e) h.0 j) (e ∷ same_visible es h.1 j) (same_visible es h.1 j)

-- an entry of one of few labels is read as one, also where there are more
same_entries : (few many : ℕ) (strings : List (List ℕ)) → few ≤ many → AllByRecursion (IsEntryOf few) strings
    → entries_in many strings ≡ entries_in few strings
same_entries few many [] h all = refl
same_entries few many (s ∷ strings) h all =
    let it = all.0 in
    ap (λ o. cons_option o (entries_in many strings))
    (spelled_read many s it.entry it.spelled (omega (arith, it.declared, h)) it.is
    ∙ sym (spelled_read few s it.entry it.spelled it.declared it.is))
    ∙ ap (λ rest. cons_option (declared few (entry_at s)) rest) (same_entries few many strings h all.1)

-- ---- contents

module _ (old new : Policy) (c : ℕ) (first other : Content) (h : AddsLabels c old new first)
    (k : AddsLabels c old new other) where
  abbrev before : Labels
  before = labels_of old

  abbrev after : Labels
  after = labels_of new

  here : c < length before
  here = subst (λ n. c < n) (sym (length-map old.labels (λ l. l.value))) h.declared

  few : length old.labels ≤ length new.labels
  few = omega (arith, h.first.few, length-map old.labels (λ l. l.value), length-map new.labels (λ l. l.value))

  -- the view of a relation
  view_is : (d : Content) → AddsLabels c old new d → (relation : ℕ)
      → SameTuples (View before (IsIn (d.db relation)) c) (View after (IsIn (d.db relation)) c)
  view_is d adds relation = same_view before after h.first c here (length (scheme_of adds.schemes relation).others)
      (d.db relation) (adds.sound.content relation).stored

  -- and the entries
  seen_is : (d : Content) → AddsLabels c old new d
      → visible after c (entries_in (length new.labels) d.audit) ≡ visible before c (entries_in (length old.labels) d.audit)
  seen_is d adds =
      ap (visible after c) (same_entries (length old.labels) (length new.labels) d.audit few adds.sound.entries)
      ∙ same_visible before after h.first c here (entries_in (length old.labels) d.audit)
      (subst (λ n. AllByRecursion (λ e. label_of e < n) (entries_in (length old.labels) d.audit))
      (sym (length-map old.labels (λ l. l.value))) (entries_known (length old.labels) d.audit))

  -- what looked alike to an old label does so still
  pub still_alike : AgreeAt before c (world_of old first) (world_of old other)
      → AgreeAt after c (world_of new first) (world_of new other)
  still_alike agree = record {
    views = λ relation t. let a = view_is first h relation t in
        let b = view_is other k relation t in
        let it = agree.views relation t in
        ((λ v. b.0 (it.0 (a.1 v))), (λ v. a.0 (it.1 (b.1 v))));
    sessions = λ level name low. refl;
    entries = seen_is first h ∙ agree.entries ∙ sym (seen_is other k);
  }
