-- The writes keep the stored form.
use Rattle.std.proofs.Common.{◌≡◌, ℕ, ◌<◌, Bool, true, false, cond, not, ◌&&◌, List, [], ◌∷◌, length, Option, Some, None, refl, sym, ap, ◌∙◌, subst, inl, inr, is_some, is_none, nat_eq, ◌⊎◌, option_map, unwrap_or, true≢false, eqb-true, eq-eqb}
use Rattle.std.specs.List.{list_any, list_all, AllByRecursion}
use Rattle.std.specs.FinMap.{get, insert, retain_keys}
use Rattle.std.proofs.lemmas.Bool.{false≢true, cases_Bool, cond_both, cond-true, cond-false, and_parts, and_from, and_cases, not-false, not-true, false_from_ne_true}
use Rattle.std.proofs.lemmas.List.{get_or-map, length-map}
use Rattle.mls_lattice.specs.Labels.{Labels, below, AreDistinct}
use Rattle.mls_lattice.proofs.LatticeLemmas.{below-refl, below-trans, below-antisym}
use Rattle.mls_scheme.specs.declared.value.Value.{Value}
use Rattle.mls_scheme.specs.declared.tuple.Element.{Element}
use Rattle.mls_scheme.specs.Tuple.{at, null_element}
use Rattle.mls_scheme.specs.Table.{Table, change}
use Rattle.mls_scheme.specs.declared.place.Place.{Place}
use Rattle.mls_scheme.specs.Scheme.{Scheme}
use Rattle.mls_scheme.proofs.TableLemmas.{get_kept, get_change}
use Rattle.mls_filterview.specs.Stored.{IsStored, IsStoredTuple, Occurs, AgreesBelow, with_class, is_entity}
use Rattle.mls_filterview.proofs.EntityTests.{entity_decides}
use Rattle.mls_filterview.proofs.AmongLemmas.{none_of}
use Rattle.mls_filterview.proofs.MovedLemmas.{moved}
use Rattle.mls_updates.specs.declared.outcome.Outcome.{Outcome}
use Rattle.mls_updates.specs.declared.outcome.Outcome.TheVariants.{KeyNull}
use Rattle.mls_updates.specs.Outcome.{is_done}
use Rattle.mls_updates.specs.Writes.{Key, Sets, Write, Insert, Update, Delete, WriteFits, first_refusal, has_null, place, is_above, root, set_element, derived, updated, update_in, root_refusals, own_refusals, below_refusals, drop_refusals, refusals, changed, outcome_of, write}
use Rattle.mls_updates.proofs.SetLemmas.{IsSet, some_set, length-derived, length-updated, at-derived, at-updated, derived_cases, updated_cases, updated_class}
use Rattle.mls_updates.proofs.ChangeLemmas.{get_new, get_again, inserted_cases, kept_cases, changed_cases}

-- ---- outcomes

-- where the outcome is Done no condition holds
abbrev pub AllPassed : List (Bool × Outcome) → Type 0
AllPassed rs = AllByRecursion (λ r. r.0 ≡ false) rs

pub all_passed : (rs : List (Bool × Outcome)) → list_all (λ r. not (is_done r.1)) rs ≡ true → is_done (first_refusal rs)
    ≡ true → AllPassed rs
unfolding first_refusal
all_passed [] n h = tt
all_passed (r ∷ rs) n h =
    let p = and_parts _ _ n in
    elim (cases_Bool r.0) [
      | inl b ↦ absurd (true≢false (sym h ∙ ap is_done (cond-true r.0 r.1 (first_refusal rs) b) ∙ not-true _ p.0))
      | inr b ↦ (b, all_passed rs p.1 (ap is_done (sym (cond-false r.0 r.1 (first_refusal rs) b)) ∙ h))
    ]

pub none_if : (o : Option (List Element)) → is_some o ≡ false → o ≡ None
none_if None h = refl
none_if (Some es) h = absurd (true≢false h)

pub some_if : (o : Option (List Element)) → is_some o ≡ true → o ≡ Some (unwrap_or o [])
some_if None h = absurd (false≢true h)
some_if (Some es) h = refl

-- a tuple was found, in the order of the key class, its class and the writer's
pub found_if : (ls : Labels) (w kc from : ℕ) (o : Option (List Element))
    → not (is_some o && (below ls kc from && below ls from w)) ≡ false → (o ≡ Some (unwrap_or o []))
    × (below ls kc from ≡ true) × (below ls from w ≡ true)
found_if ls w kc from o h =
    let p = and_parts _ _ (not-false _ h) in
    let q = and_parts _ _ p.1 in
    (some_if o p.0, q.0, q.1)

module _ (ls : Labels) (n : ℕ) where
  -- ---- a tuple more
  kept_insert : (T : Table) (p : Place) (es : List Element) → IsStored ls n T → get T p ≡ None
      → IsStoredTuple ls n (insert T p es) p es → IsStored ls n (insert T p es)
  kept_insert T p es stored free new q fs h =
      elim (inserted_cases T p es q fs h) [
        | inl e ↦ subst (λ r. IsStoredTuple ls n (insert T p es) r fs) (sym e.0)
            (subst (λ xs. IsStoredTuple ls n (insert T p es) p xs) (sym e.1) new)
        | inr old ↦ moved ls n T (insert T p es) q fs (stored q fs old) (λ m gs o g. get_again T p es free
            (with_class q m) gs g)
      ]

  root_stored : (T : Table) (key : List Value) (w : ℕ) (values : List (Option Value)) → w < length ls → length values
      ≡ n
      → (let p : Place = record { key = key; key_class = w; class = w }
      in IsStoredTuple ls n (insert T p (root w values)) p (root w values))
  root_stored T key w values d count = record {
    count = length-map values new ∙ count;
    declared = λ m o. subst (λ k. k < length ls) (sym (is_w m o)) d;
    above_key = λ m o. all_below w m refl (is_w m o);
    null_at_key = λ i l _. class_at i l;
    comparable = λ a b o o'. inl (all_below a b (is_w a o) (is_w b o'));
    greatest = λ m o. all_below m w (is_w m o) refl;
    own = inl refl;
    closed = λ m o. (
      root w values,
      get_new T p (root w values) (with_class p m) (ap (with_class p) (is_w m o)),
      λ i l b. refl,
    );
  }
    where
      p : Place
      p = record { key = key; key_class = w; class = w }

      new : Option Value → Element
      new v = record { value = v; class = w }

      class_at : (i : ℕ) → i < length (root w values) → (at (root w values) i).class ≡ w
      class_at i l = ap (λ e. e.class) (get_or-map new values i None null_element
          (subst (λ k. i < k) (length-map values new) l))

      is_w : (m : ℕ) → Occurs p (root w values) m → m ≡ w
      is_w m (inl e) = e
      is_w m (inr e) = e.2 ∙ class_at e.0 e.1

      all_below : (a b : ℕ) → a ≡ w → b ≡ w → below ls a b ≡ true
      all_below a b x y = subst (λ k. below ls a k ≡ true) (x ∙ sym y) (below-refl ls a)

  -- a tuple of class w made from one of a class below
  derived_stored : AreDistinct ls → (T : Table) → IsStored ls n T → (q : Place) (fs : List Element) → get T q ≡ Some fs
      → (w : ℕ) → w < length ls → get T (with_class q w) ≡ None → below ls q.class w ≡ true → (q.class ≡ w → ⊥)
      → (sets : Sets) → 0 < length sets → AllByRecursion (λ s. s.0 < n) sets → list_any (λ s. is_none s.1) sets ≡ false
      → IsStoredTuple ls n (insert T (with_class q w) (derived w sets fs)) (with_class q w) (derived w sets fs)
  derived_stored distinct T stored q fs found w d free up ne sets some named known = record {
    count = length-derived w sets fs ∙ st.count;
    declared = λ m o. elim (which m o) [ inl e ↦ subst (λ k. k < length ls) (sym e) d | inr o' ↦ st.declared m o' ];
    above_key = λ m o. elim (which m o) [
      | inl e ↦ subst (λ k. below ls q.key_class k ≡ true) (sym e)
          (below-trans ls q.key_class q.class w (st.above_key q.class st.own) up)
      | inr o' ↦ st.above_key m o'
    ];
    null_at_key = λ i l z. null_at i (short i l) z;
    comparable = λ a b o o'. compare a b (which a o) (which b o');
    greatest = λ m o. at_most m (which m o);
    own = own_class;
    closed = λ m o. closed_at m (which m o);
  }
    where
      p : Place
      p = with_class q w

      es : List Element
      es = derived w sets fs

      st : IsStoredTuple ls n T q fs
      st = stored q fs found

      short : (i : ℕ) → i < length es → i < length fs
      short i l = subst (λ k. i < k) (length-derived w sets fs) l

      which : (m : ℕ) → Occurs p es m → (m ≡ w) ⊎ Occurs q fs m
      which m (inl e) = inr (inl e)
      which m (inr o) = elim (derived_cases w sets fs o.0 (short o.0 o.1)) [
        | inl e ↦ inr (inr (o.0, short o.0 o.1, o.2 ∙ ap (λ x. x.class) e))
        | inr s ↦ inl (o.2 ∙ ap (λ x. x.class) s.2)
      ]

      at_most : (m : ℕ) → (m ≡ w) ⊎ Occurs q fs m → below ls m w ≡ true
      at_most m (inl e) = subst (λ k. below ls k w ≡ true) (sym e) (below-refl ls w)
      at_most m (inr o) = below-trans ls m q.class w (st.greatest m o) up

      compare : (a b : ℕ) → (a ≡ w) ⊎ Occurs q fs a → (b ≡ w) ⊎ Occurs q fs b → (below ls a b ≡ true)
          ⊎ (below ls b a ≡ true)
      compare a b (inl e) o = inr (subst (λ k. below ls b k ≡ true) (sym e) (at_most b o))
      compare a b (inr o) (inl e) = inl (subst (λ k. below ls a k ≡ true) (sym e) (at_most a (inr o)))
      compare a b (inr o) (inr o') = st.comparable a b o o'

      null_at : (i : ℕ) → i < length fs → (at es i).value ≡ None → (at es i).class ≡ q.key_class
      null_at i l z = elim (derived_cases w sets fs i l) [
        | inl e ↦ ap (λ x. x.class) e ∙ st.null_at_key i l (ap (λ x. x.value) (sym e) ∙ z)
        | inr s ↦ absurd (true≢false (ap is_none (sym z ∙ ap (λ x. x.value) s.2) ∙ none_of (λ r. is_none r.1) sets known
            (i, s.0) s.1))
      ]

      own_class : Occurs p es w
      own_class =
          let s = some_set w n sets some named in
          let l : s.0 < length fs = subst (λ k. s.0 < k) (sym st.count) s.1 in
          inr (
            s.0,
            subst (λ k. s.0 < k) (sym (length-derived w sets fs)) l,
            sym (ap (λ x. x.class) (at-derived w sets fs s.0 l) ∙ s.2 (at fs s.0)),
          )

      not_above : (m : ℕ) → Occurs q fs m → below ls w m ≡ true → ⊥
      not_above m o b = ne (below-antisym ls distinct q.class w (st.declared q.class st.own) d up
          (below-trans ls w m q.class b (st.greatest m o)))

      closed_at : (m : ℕ) → (m ≡ w) ⊎ Occurs q fs m → (gs : List Element) × (get (insert T p es) (with_class p m)
          ≡ Some gs) × AgreesBelow ls m es gs
      closed_at m (inl e) = (es, get_new T p es (with_class p m) (ap (with_class p) e), λ i l b. refl)
      closed_at m (inr o) =
          let c = st.closed m o in (
            c.0,
            get_again T p es free (with_class p m) c.0 c.1,
            λ i l b. elim (derived_cases w sets fs i (short i l)) [
              | inl e ↦ c.2 i (short i l) (ap (λ x. below ls x.class m) (sym e) ∙ b) ∙ sym e
              | inr s ↦ absurd (not_above m o (ap (λ x. below ls x.class m) (sym s.2) ∙ b))
            ],
          )

  -- ---- fewer tuples
  kept_delete : (T : Table) (p : Place) → IsStored ls n T → IsStored ls n (retain_keys T (λ q. not (is_above ls p q)))
  kept_delete T p stored q fs h =
      let k = kept_cases T (λ r. not (is_above ls p r)) q fs h in
      let st = stored q fs k.1 in
      moved ls n T (retain_keys T (λ r. not (is_above ls p r))) q fs st (λ m gs o g.
      get_kept T (λ r. not (is_above ls p r)) (with_class q m)
      ∙ ap (λ b. cond (not b) (get T (with_class q m)) None) (stays q m (not-true _ k.0) (st.greatest m o))
      ∙ g)
    where
      -- with a tuple the entity's tuples of its classes stay
      stays : (q : Place) (m : ℕ) → is_above ls p q ≡ false → below ls m q.class ≡ true → is_above ls p (with_class q m)
          ≡ false
      stays q m out b = false_from_ne_true _ (λ t.
          let a = and_parts (is_entity p q) (below ls p.class m) t in
          true≢false (sym (and_from _ _ a.0 (below-trans ls p.class m q.class a.1 b)) ∙ out))

  -- ---- the tuples of an entity changed
  updated_stored : (T : Table) → IsStored ls n T → (p : Place) (sets : Sets)
      → ((p.class ≡ p.key_class) ⊎ (list_any (λ s. is_none s.1) sets ≡ false))
      → IsStored ls n (change (update_in p sets) T)
  updated_stored T stored p sets nulls q gs h =
      let old = changed_cases f T q gs h in
      subst (λ xs. IsStoredTuple ls n S q xs) (sym old.2) (by_entity old.0 old.1 (cases_Bool (is_entity p q)))
    where
      f : Place → List Element → List Element
      f = update_in p sets

      S : Table
      S = change f T

      w : ℕ
      w = p.class

      by_entity : (es : List Element) → get T q ≡ Some es → (is_entity p q ≡ true) ⊎ (is_entity p q ≡ false)
          → IsStoredTuple ls n S q (f q es)
      by_entity es g (inr out) =
          subst (λ xs. IsStoredTuple ls n S q xs) (sym (cond-false _ (updated w sets es) es out))
          (moved ls n T S q es (stored q es g) (λ m fs o k. get_change f T (with_class q m)
          ∙ ap (option_map (f (with_class q m))) k
          ∙ ap Some (cond-false _ (updated w sets fs) fs out)))
      by_entity es g (inl in') =
          subst (λ xs. IsStoredTuple ls n S q xs) (sym (cond-true _ (updated w sets es) es in')) new
        where
          st : IsStoredTuple ls n T q es
          st = stored q es g

          us : List Element
          us = updated w sets es

          short : (i : ℕ) → i < length us → i < length es
          short i l = subst (λ k. i < k) (length-updated w sets es) l

          which : (m : ℕ) → Occurs q us m → Occurs q es m
          which m (inl e) = inl e
          which m (inr o) = inr (o.0, short o.0 o.1, o.2 ∙ updated_class w sets es o.0 (short o.0 o.1))

          back : (m : ℕ) → Occurs q es m → Occurs q us m
          back m (inl e) = inl e
          back m (inr o) = inr (
            o.0,
            subst (λ k. o.0 < k) (sym (length-updated w sets es)) o.1,
            o.2 ∙ sym (updated_class w sets es o.0 o.1),
          )

          set_null : (i : ℕ) → IsSet w sets i (at us i) → (at us i).value ≡ None → (p.class ≡ p.key_class)
              ⊎ (list_any (λ s. is_none s.1) sets ≡ false) → (at us i).class ≡ q.key_class
          set_null i s z (inl e) = ap (λ x. x.class) s.2 ∙ e ∙ ((entity_decides p q).0 in').1
          set_null i s z (inr known) = absurd (true≢false (ap is_none (sym z ∙ ap (λ x. x.value) s.2)
              ∙ none_of (λ r. is_none r.1) sets known (i, s.0) s.1))

          null_at : (i : ℕ) → i < length es → (at us i).value ≡ None → (at us i).class ≡ q.key_class
          null_at i l z = elim (updated_cases w sets es i l) [
            | inl e ↦ ap (λ x. x.class) e ∙ st.null_at_key i l (ap (λ x. x.value) (sym e) ∙ z)
            | inr s ↦ set_null i s.1 z nulls
          ]

          -- what agreed below m agrees after the change
          agrees : (m : ℕ) (fs : List Element) → length fs ≡ length es → AgreesBelow ls m es fs
              → AgreesBelow ls m us (updated w sets fs)
          agrees m fs n' a i l b =
              let l' = short i l in
              let same : at fs i ≡ at es i = a i l' (ap (λ k. below ls k m) (sym (updated_class w sets es i l')) ∙ b) in
              at-updated w sets fs i (subst (λ k. i < k) (sym n') l')
              ∙ ap (λ x. cond (nat_eq x.class w) (set_element w sets i x) x) same ∙ sym (at-updated w sets es i l')

          new : IsStoredTuple ls n S q us
          new = record {
            count = length-updated w sets es ∙ st.count;
            declared = λ m o. st.declared m (which m o);
            above_key = λ m o. st.above_key m (which m o);
            null_at_key = λ i l z. null_at i (short i l) z;
            comparable = λ a b o o'. st.comparable a b (which a o) (which b o');
            greatest = λ m o. st.greatest m (which m o);
            own = back q.class st.own;
            closed = λ m o. (let c = st.closed m (which m o) in (
              updated w sets c.0,
              get_change f T (with_class q m) ∙ ap (option_map (f (with_class q m))) c.1
                  ∙ ap Some (cond-true _ (updated w sets c.0) c.0 in'),
              agrees m c.0 ((stored (with_class q m) c.0 c.1).count ∙ sym st.count) c.2,
            ));
          }

-- ---- all writes

-- an insert keeps the stored form, whether or not labels are distinct
pub insert-stored : (ls : Labels) (scheme : Scheme) (n w : ℕ) (T : Table) → IsStored ls n T
    → (key : Key) (values : List (Option Value)) → WriteFits ls n w (Insert key values)
    → IsStored ls n (write ls scheme w (Insert key values) T).table
insert-stored ls scheme n w T stored key values fits =
    let p = place key w w in
    let rs = (has_null key, KeyNull) ∷ root_refusals ls scheme w (get T p) in
    cond_both (is_done (first_refusal rs)) (insert T p (root w values)) T (IsStored ls n)
    (λ done. let a = all_passed rs refl done in kept_insert ls n T p (root w values) stored (none_if _ a.1.0)
    (root_stored ls n T p.key w values fits.0 fits.1))
    (λ _. stored)

module _ (ls : Labels) (distinct : AreDistinct ls) (scheme : Scheme) (n w : ℕ) (T : Table)
    (stored : IsStored ls n T) where
  update_stored : (key : Key) (kc from : ℕ) (sets : Sets) → WriteFits ls n w (Update key kc from sets)
      → is_done (outcome_of key (refusals ls scheme w (Update key kc from sets) T)) ≡ true
      → IsStored ls n (changed ls scheme w (Update key kc from sets) T)
  update_stored key kc from sets fits =
      let p = place key kc w in
      let q = place key kc from in
      let es = unwrap_or (get T q) [] in
      let own = own_refusals ls scheme w kc sets (get T p) in
      let lower = below_refusals ls scheme w kc from sets (get T q) (get T p) in
      elim (nat_eq from w) as (λ b. nat_eq from w ≡ b → is_done (outcome_of key (cond b own lower)) ≡ true
      → IsStored ls n (cond b (change (update_in p sets) T) (insert T p (derived w sets es)))) [
        | true ↦ λ e done.
            let a = all_passed ((has_null key, KeyNull) ∷ own) refl done in
            updated_stored ls n T stored p sets (elim (and_cases _ _ a.1.1.1.0) [
              | inl x ↦ inl
                  (eqb-true w kc (not-false _ x))
              | inr x ↦ inr x
            ])
        | false ↦ λ e done.
            let a = all_passed ((has_null key, KeyNull) ∷ lower) refl done in
            let f = found_if ls w kc from (get T q) a.1.0 in
            let free = none_if (get T p) a.1.1.0 in
            kept_insert ls n T p (derived w sets es) stored free
            (derived_stored ls n distinct T stored q es f.0 w fits.0 free f.2 (λ x. true≢false (sym (eq-eqb from w x)
            ∙ e)) sets fits.1 fits.2 a.1.1.1.0)
      ] refl

-- each write keeps the stored form
pub write-stored : (ls : Labels) → AreDistinct ls → (scheme : Scheme) (n w : ℕ) (T : Table) → IsStored ls n T
    → (wr : Write) → WriteFits ls n w wr → IsStored ls n (write ls scheme w wr T).table
write-stored ls distinct scheme n w T stored (Insert key values) fits =
    insert-stored ls scheme n w T stored key values fits
write-stored ls distinct scheme n w T stored (Update key kc from sets) fits =
    let wr = Update key kc from sets in
    cond_both (is_done (outcome_of key (refusals ls scheme w wr T))) (changed ls scheme w wr T) T (IsStored ls n)
    (update_stored ls distinct scheme n w T stored key kc from sets fits) (λ _. stored)
write-stored ls distinct scheme n w T stored (Delete key kc) fits =
    let p = place key kc w in
    cond_both (is_done (outcome_of key (drop_refusals ls scheme w kc (get T p))))
    (retain_keys T (λ q. not (is_above ls p q))) T (IsStored ls n)
    (λ _. kept_delete ls n T p stored)
    (λ _. stored)
