-- A write that is done again: it is refused, or changes what is changed already.
use Rattle.std.proofs.Common.{◌≡◌, ◌+◌, ℕ, Bool, true, false, cond, not, List, [], ◌∷◌, map, Option, Some, None, refl, sym, ap, ◌∙◌, nat_eq, is_some, option_map, unwrap_or}
use Rattle.std.specs.List.{enumerate_from}
use Rattle.std.specs.FinMap.{get, insert, retain_keys}
use Rattle.std.proofs.lemmas.Bool.{cond-false}
use Rattle.mls_lattice.specs.Labels.{Labels}
use Rattle.mls_scheme.specs.declared.tuple.Element.{Element}
use Rattle.mls_scheme.specs.declared.place.Place.{Place}
use Rattle.mls_scheme.specs.Table.{Table, change}
use Rattle.mls_scheme.specs.Scheme.{Scheme}
use Rattle.mls_scheme.specs.Writes.{key_of}
use Rattle.mls_scheme.proofs.TableLemmas.{same_table, get_kept, get_change}
use Rattle.mls_filterview.specs.Stored.{is_entity}
use Rattle.mls_updates.specs.declared.outcome.Outcome.{Outcome}
use Rattle.mls_updates.specs.declared.outcome.Outcome.TheVariants.{KeyNull, Duplicate, NoTuple, AlreadyDerived}
use Rattle.mls_updates.specs.Outcome.{is_done}
use Rattle.mls_updates.specs.Writes.{Key, Sets, Write, Insert, Update, Delete, first_refusal, written, has_null, is_missing, place, is_above, root, set_element, derived, updated, update_in, own_refusals, below_refusals, refusals, changed, outcome_of}
use Rattle.mls_updates.proofs.ChangeLemmas.{get_new}
use Rattle.mls_replicas.specs.Again.{left, WritesAgainChangeNothing}

-- ---- refusals

-- where a condition holds, and no outcome up to it is Done
refused : (r : Bool × Outcome) (rs : List (Bool × Outcome)) → r.0 ≡ true → is_done r.1 ≡ false
    → is_done (first_refusal (r ∷ rs)) ≡ false
unfolding first_refusal
refused r rs holds undone = ap (λ b. is_done (cond b r.1 (first_refusal rs))) holds ∙ undone

refused_later : (r : Bool × Outcome) (rs : List (Bool × Outcome)) → is_done r.1 ≡ false → is_done (first_refusal rs)
    ≡ false → is_done (first_refusal (r ∷ rs)) ≡ false
unfolding first_refusal
refused_later r rs undone later = elim r.0 as (λ b. is_done (cond b r.1 (first_refusal rs))
    ≡ false) [ true ↦ undone | false ↦ later ]

-- whether it is refused, or makes of the table what it is
kept_either : (o : Outcome) (new T : Table) → new ≡ T → (written o new T).table ≡ T
kept_either o new T same = elim (is_done o) as (λ b. cond b new T ≡ T) [ true ↦ same | false ↦ refl ]

kept_refused : (o : Outcome) (new T : Table) → is_done o ≡ false → (written o new T).table ≡ T
kept_refused o new T undone = cond-false (is_done o) new T undone

-- ---- changes

kept_again : (T : Table) (test : Place → Bool) → retain_keys (retain_keys T test) test ≡ retain_keys T test
kept_again T test = same_table _ _ (λ q.
    get_kept (retain_keys T test) test q
    ∙ ap (λ o. cond (test q) o None) (get_kept T test q)
    ∙ elim (test q) as (λ b. cond b (cond b (get T q) None) None ≡ cond b (get T q) None) [ true ↦ refl | false ↦ refl ]
    ∙ sym (get_kept T test q))

changed_again : (f : Place → List Element → List Element) → ((p : Place) (es : List Element) → f p (f p es) ≡ f p es)
    → (T : Table) → change f (change f T) ≡ change f T
changed_again f again T = same_table _ _ (λ q.
    get_change f (change f T) q
    ∙ ap (option_map (f q)) (get_change f T q)
    ∙ twice q (get T q)
    ∙ sym (get_change f T q))
  where
    twice : (q : Place) (o : Option (List Element)) → option_map (f q) (option_map (f q) o) ≡ option_map (f q) o
    twice q None = refl
    twice q (Some es) = ap Some (again q es)

-- ---- elements

module _ (w : ℕ) where
  set_again : (sets : Sets) (i : ℕ) (e : Element) → set_element w sets i (set_element w sets i e)
      ≡ set_element w sets i e
  set_again [] i e = refl
  set_again (s ∷ ss) i e =
      let new : Element = record { value = s.1; class = w } in
      elim (nat_eq s.0 i) as (λ b. cond b new (set_element w ss i (cond b new (set_element w ss i e)))
      ≡ cond b new (set_element w ss i e)) [
        | true ↦ refl
        | false ↦ set_again ss i e
      ]

  -- one of class w is set, another stays
  abbrev one : Sets → ℕ × Element → Element
  one sets d = cond (nat_eq d.1.class w) (set_element w sets d.0 d.1) d.1

  one_again : (sets : Sets) (i : ℕ) (e : Element) → one sets (i, one sets (i, e)) ≡ one sets (i, e)
  one_again sets i e =
      elim (nat_eq e.class w) as (λ b. nat_eq e.class w ≡ b → one sets (i, cond b (set_element w sets i e) e)
      ≡ cond b (set_element w sets i e) e) [
        | true ↦ λ h. (let new = set_element w sets i e in
            elim (nat_eq new.class w) as (λ b. cond b (set_element w sets i new) new
            ≡ new) [ true ↦ set_again sets i e | false ↦ refl ])
        | false ↦ λ h. cond-false (nat_eq e.class w) (set_element w sets i e) e h
      ] refl

  each_again : (sets : Sets) (i : ℕ) (es : List Element)
      → map (one sets) (enumerate_from i (map (one sets) (enumerate_from i es))) ≡ map (one sets) (enumerate_from i es)
  each_again sets i [] = refl
  each_again sets i (e ∷ es) = λ k. one_again sets i e k ∷ each_again sets (i + 1) es k

  updated_again : (sets : Sets) (es : List Element) → updated w sets (updated w sets es) ≡ updated w sets es
  unfolding updated
  updated_again sets es = each_again sets 0 es

update_again : (p : Place) (sets : Sets) (q : Place) (es : List Element) → update_in p sets q (update_in p sets q es)
    ≡ update_in p sets q es
update_again p sets q es =
    elim (is_entity p q) as (λ b. cond b (updated p.class sets (cond b (updated p.class sets es) es))
    (cond b (updated p.class sets es) es) ≡ cond b (updated p.class sets es) es) [
      | true ↦ updated_again p.class sets es
      | false ↦ refl
    ]

-- ---- writes

module _ (ls : Labels) (scheme : Scheme) (w : ℕ) where
  module _ (key : Key) (key_class from : ℕ) (sets : Sets) where
    abbrev p : Place
    p = place key key_class w

    abbrev lower : Table → Option (List Element)
    lower T = get T (place key key_class from)

    -- what an update makes of a table, and what it leaves: of the tuple of class w, or of a lower one
    abbrev made_by : Bool → Table → Table
    made_by b T = cond b (change (update_in p sets) T) (insert T p (derived w sets (unwrap_or (lower T) [])))

    abbrev left_by : Bool → Table → Table
    left_by b T = (written (outcome_of key (cond b (own_refusals ls scheme w key_class sets (get T p))
        (below_refusals ls scheme w key_class from sets (lower T) (get T p)))) (made_by b T) T).table

    made_again : (b : Bool) (T : Table) → left_by b (made_by b T) ≡ made_by b T
    made_again true T = kept_either _ _ _ (changed_again (update_in p sets) (update_again p sets) T)
    made_again false T =
        let found : is_some (get (made_by false T) p) ≡ true = ap is_some (get_new T p _ p refl) in
        kept_refused _ _ _ (refused_later (has_null key, KeyNull) _ refl
        (refused_later (is_missing ls scheme w key_class from (lower (made_by false T)), NoTuple) _ refl
        (refused (is_some (get (made_by false T) p), AlreadyDerived) _ found refl)))

  -- what a write makes of a table it leaves as it is
  changed_left : (wr : Write) (T : Table) → left ls scheme w wr (changed ls scheme w wr T) ≡ changed ls scheme w wr T
  changed_left (Insert key values) T =
      let found : is_some (get (insert T (place key w w) (root w values)) (place key w w)) ≡ true =
      ap is_some (get_new T (place key w w) _ (place key w w) refl) in
      kept_refused _ _ _ (refused_later (has_null key, KeyNull) _ refl (refused (_, Duplicate) _ found refl))
  changed_left (Update key key_class from sets) T = made_again key key_class from sets (nat_eq from w) T
  changed_left (Delete key key_class) T = kept_either _ _ _
      (kept_again T (λ q. not (is_above ls (place key key_class w) q)))

pub writes_again : WritesAgainChangeNothing
writes_again ls scheme w wr T =
    let o = outcome_of (key_of wr) (refusals ls scheme w wr T) in
    elim (is_done o) as (λ b. is_done o ≡ b → left ls scheme w wr (cond b (changed ls scheme w wr T) T)
    ≡ cond b (changed ls scheme w wr T) T) [
      | true ↦ λ h. changed_left ls scheme w wr T
      | false ↦ λ h. kept_refused o (changed ls scheme w wr T) T h
    ] refl
