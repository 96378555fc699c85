-- Writes at one label that are all done, and all done again.
use Rattle.std.proofs.Common.{◌≡◌, ℕ, ◌<◌, Bool, true, false, cond, not, List, [], ◌∷◌, ◌++◌, length, Option, Some, None, option_map, refl, sym, ap, ◌∙◌, subst, inl, inr, ◌⊎◌, nat_eq, eq-eqb, true≢false, unwrap_or, ext_get_or}
use Rattle.std.specs.List.{AllByRecursion}
use Rattle.std.specs.FinMap.{get, insert, retain_keys}
use Rattle.std.proofs.lemmas.Bool.{cases_Bool, cond-true, cond-false, false_from_ne_true}
use Rattle.std.proofs.lemmas.Option.{same_Some}
use Rattle.mls_lattice.specs.Labels.{Labels, below, AreDistinct}
use Rattle.mls_lattice.proofs.LatticeLemmas.{below-refl, below-antisym}
use Rattle.mls_scheme.specs.declared.tuple.Element.{Element}
use Rattle.mls_scheme.specs.declared.place.Place.{Place}
use Rattle.mls_scheme.specs.Scheme.{Scheme}
use Rattle.mls_scheme.specs.Table.{Table, change}
use Rattle.mls_scheme.specs.Tuple.{at, null_element}
use Rattle.mls_scheme.specs.Writes.{key_of}
use Rattle.mls_scheme.proofs.OrderLemmas.{is_place, is_place-true}
use Rattle.mls_scheme.proofs.TableLemmas.{same_table, get_put, get_kept, get_change}
use Rattle.mls_filterview.specs.Stored.{is_entity, IsStored}
use Rattle.mls_filterview.proofs.LowLemmas.{get_low_in}
use Rattle.mls_updates.specs.declared.outcome.Outcome.TheVariants.{KeyNull}
use Rattle.mls_updates.specs.Outcome.{is_done}
use Rattle.mls_updates.specs.Writes.{Key, Sets, Write, Insert, Update, Delete, WriteFits, has_null, place, is_above, root, set_element, derived, updated, update_in, own_refusals, below_refusals, refusals, changed, outcome_of, write}
use Rattle.mls_updates.proofs.ChangeLemmas.{get_new}
use Rattle.mls_updates.proofs.KeptLemmas.{all_passed, found_if, write-stored}
use Rattle.mls_updates.proofs.LowWriteLemmas.{write-high}
use Rattle.mls_updates.proofs.SetLemmas.{length-updated, at-updated}
use Rattle.mls_replicas.specs.Again.{all_done, AllAgainChangeNothing}

-- updates of tuples of the writer's class, the first one first
abbrev Ups : Type 0
Ups = List (Place × Sets)

module _ (w : ℕ) where
  -- ---- elements

  -- new values leave every element, or make one of all
  set_plain : (sets : Sets) (i : ℕ) → ((e : Element) → set_element w sets i e ≡ e)
      ⊎ ((c : Element) × (c.class ≡ w) × ((e : Element) → set_element w sets i e ≡ c))
  set_plain [] i = inl (λ e. refl)
  set_plain (s ∷ ss) i =
      let new : Element = record { value = s.1; class = w } in
      elim (nat_eq s.0 i) as (λ b. ((e : Element) → cond b new (set_element w ss i e) ≡ e)
      ⊎ ((c : Element) × (c.class ≡ w) × ((e : Element) → cond b new (set_element w ss i e) ≡ c))) [
        | true ↦ inr (new, refl, λ e. refl)
        | false ↦ set_plain ss i
      ]

  -- an element behind one update, and behind some
  abbrev set_one : Place × Sets → Place → ℕ → Element → Element
  set_one u q i e = cond (is_entity u.0 q) (cond (nat_eq e.class w) (set_element w u.1 i e) e) e

  abbrev set_all : Ups → Place → ℕ → Element → Element
  set_all [] q i e = e
  set_all (u ∷ us) q i e = set_all us q i (set_one u q i e)

  other_one : (u : Place × Sets) (q : Place) (i : ℕ) (e : Element) → nat_eq e.class w ≡ false → set_one u q i e ≡ e
  other_one u q i e off = elim (is_entity u.0 q) as (λ b. cond b (cond (nat_eq e.class w) (set_element w u.1 i e) e) e
      ≡ e) [ true ↦ cond-false (nat_eq e.class w) (set_element w u.1 i e) e off | false ↦ refl ]

  other_all : (us : Ups) (q : Place) (i : ℕ) (e : Element) → nat_eq e.class w ≡ false → set_all us q i e ≡ e
  other_all [] q i e off = refl
  other_all (u ∷ us) q i e off = ap (set_all us q i) (other_one u q i e off) ∙ other_all us q i e off

  -- of class w, one update leaves every element, or makes one of all
  one_plain : (u : Place × Sets) (q : Place) (i : ℕ) → ((e : Element) → nat_eq e.class w ≡ true → set_one u q i e ≡ e)
      ⊎ ((c : Element) × (c.class ≡ w) × ((e : Element) → nat_eq e.class w ≡ true → set_one u q i e ≡ c))
  one_plain u q i =
      elim (is_entity u.0 q) as (λ b. ((e : Element) → nat_eq e.class w ≡ true
      → cond b (cond (nat_eq e.class w) (set_element w u.1 i e) e) e ≡ e)
      ⊎ ((c : Element) × (c.class ≡ w) × ((e : Element) → nat_eq e.class w ≡ true
      → cond b (cond (nat_eq e.class w) (set_element w u.1 i e) e) e ≡ c))) [
        | true ↦ elim (set_plain u.1 i) [
          | inl same ↦ inl (λ e on. cond-true (nat_eq e.class w) (set_element w u.1 i e) e on ∙ same e)
          | inr one ↦ inr (one.0, one.1, λ e on. cond-true (nat_eq e.class w) (set_element w u.1 i e) e on ∙ one.2 e)
        ]
        | false ↦ inl (λ e on. refl)
      ]

  own_one : (u : Place × Sets) (q : Place) (i : ℕ) (e : Element) → nat_eq e.class w ≡ true
      → nat_eq (set_one u q i e).class w ≡ true
  own_one u q i e on =
      elim (one_plain u q i) [
        | inl same ↦ ap (λ (x : Element). nat_eq x.class w) (same e on) ∙ on
        | inr one ↦ ap (λ (x : Element). nat_eq x.class w) (one.2 e on) ∙ eq-eqb one.0.class w one.1
      ]

  own_all : (us : Ups) (q : Place) (i : ℕ) (e : Element) → nat_eq e.class w ≡ true
      → nat_eq (set_all us q i e).class w ≡ true
  own_all [] q i e on = on
  own_all (u ∷ us) q i e on = own_all us q i (set_one u q i e) (own_one u q i e on)

  all_again : (us : Ups) (q : Place) (i : ℕ) (e : Element) → set_all us q i (set_all us q i e) ≡ set_all us q i e
  all_again [] q i e = refl
  all_again (u ∷ us) q i e =
      elim (cases_Bool (nat_eq e.class w)) [
        | inr off ↦ ap (set_all (u ∷ us) q i) (other_all (u ∷ us) q i e off)
        | inl on ↦
            let x : Element = set_all us q i (set_one u q i e) in
            let own = own_all us q i (set_one u q i e) (own_one u q i e on) in
            elim (one_plain u q i) [
              | inl same ↦ ap (set_all us q i) (same x own) ∙ all_again us q i (set_one u q i e)
              | inr one ↦ ap (set_all us q i) (one.2 x own ∙ sym (one.2 e on))
            ]
      ]

  -- ---- the elements of a tuple

  abbrev step_in : Place × Sets → Place → List Element → List Element
  step_in u q es = cond (is_entity u.0 q) (updated w u.1 es) es

  abbrev run : Ups → Place → List Element → List Element
  run [] q es = es
  run (u ∷ us) q es = run us q (step_in u q es)

  len_step : (u : Place × Sets) (q : Place) (es : List Element) → length (step_in u q es) ≡ length es
  len_step u q es = elim (is_entity u.0 q) as (λ b. length (cond b (updated w u.1 es) es)
      ≡ length es) [ true ↦ length-updated w u.1 es | false ↦ refl ]

  len_run : (us : Ups) (q : Place) (es : List Element) → length (run us q es) ≡ length es
  len_run [] q es = refl
  len_run (u ∷ us) q es = len_run us q (step_in u q es) ∙ len_step u q es

  at_step : (u : Place × Sets) (q : Place) (es : List Element) (i : ℕ) → i < length es → at (step_in u q es) i
      ≡ set_one u q i (at es i)
  at_step u q es i l = elim (is_entity u.0 q) as (λ b. at (cond b (updated w u.1 es) es) i
      ≡ cond b (cond (nat_eq (at es i).class w) (set_element w u.1 i (at es i)) (at es i))
      (at es i)) [ true ↦ at-updated w u.1 es i l | false ↦ refl ]

  at_run : (us : Ups) (q : Place) (es : List Element) (i : ℕ) → i < length es → at (run us q es) i
      ≡ set_all us q i (at es i)
  at_run [] q es i l = refl
  at_run (u ∷ us) q es i l = at_run us q (step_in u q es) i (subst (λ k. i < k) (sym (len_step u q es)) l)
      ∙ ap (set_all us q i) (at_step u q es i l)

  run_again : (us : Ups) (q : Place) (es : List Element) → run us q (run us q es) ≡ run us q es
  run_again us q es = ext_get_or null_element (run us q (run us q es)) (run us q es) (len_run us q (run us q es))
      (λ i l.
      let inside : i < length (run us q es) = subst (λ k. i < k) (len_run us q (run us q es)) l in
      let first : i < length es = subst (λ k. i < k) (len_run us q es) inside in
      at_run us q (run us q es) i inside ∙ ap (set_all us q i) (at_run us q es i first) ∙ all_again us q i (at es i)
      ∙ sym (at_run us q es i first))

  run_more : (us : Ups) (u : Place × Sets) (q : Place) (es : List Element) → run (us ++ u ∷ []) q es
      ≡ step_in u q (run us q es)
  run_more [] u q es = refl
  run_more (v ∷ us) u q es = run_more us u q (step_in v q es)

  -- ---- a tuple, if it is there

  again_there : (us : Ups) (q : Place) (o : Option (List Element)) → option_map (run us q) (option_map (run us q) o)
      ≡ option_map (run us q) o
  again_there us q None = refl
  again_there us q (Some es) = ap Some (run_again us q es)

  more_there : (us : Ups) (u : Place × Sets) (q : Place) (o : Option (List Element))
      → option_map (run (us ++ u ∷ []) q) o ≡ option_map (step_in u q) (option_map (run us q) o)
  more_there us u q None = refl
  more_there us u q (Some es) = ap Some (run_more us u q es)

  none_there : (q : Place) (o : Option (List Element)) → o ≡ option_map (run [] q) o
  none_there q None = refl
  none_there q (Some es) = refl

  -- ---- tables

  -- at a place two tables have the same, or what some updates have made of what two tables had
  abbrev Alike : Ups → Table → Table → Table → Table → Place → Type 0
  Alike us S0 S R0 R q = (get R q ≡ get S q)
      ⊎ ((get S q ≡ option_map (run us q) (get S0 q)) × (get R q ≡ option_map (run us q) (get R0 q)))

  module _ (us : Ups) (S0 S R0 R : Table) (q : Place) (h : Alike us S0 S R0 R q) where
    -- nothing is changed there
    kept_there : (S' R' : Table) → get S' q ≡ get S q → get R' q ≡ get R q → Alike us S0 S' R0 R' q
    kept_there S' R' s r = elim h [ inl same ↦ inl (r ∙ same ∙ sym s) | inr both ↦ inr (s ∙ both.0, r ∙ both.1) ]

    alike_insert : (p : Place) (es : List Element) → Alike us S0 (insert S p es) R0 (insert R p es) q
    alike_insert p es =
        elim (cases_Bool (is_place q p)) [
          | inl on ↦ inl (get_new R p es q (is_place-true q p on) ∙ sym (get_new S p es q (is_place-true q p on)))
          | inr off ↦
              kept_there (insert S p es) (insert R p es)
              (get_put S p es q ∙ cond-false (is_place q p) (Some es) (get S q) off)
              (get_put R p es q ∙ cond-false (is_place q p) (Some es) (get R q) off)
        ]

    alike_kept : (test : Place → Bool) → Alike us S0 (retain_keys S test) R0 (retain_keys R test) q
    alike_kept test =
        elim (cases_Bool (test q)) [
          | inl on ↦
              kept_there (retain_keys S test) (retain_keys R test)
              (get_kept S test q ∙ cond-true (test q) (get S q) None on)
              (get_kept R test q ∙ cond-true (test q) (get R q) None on)
          | inr off ↦ inl (get_kept R test q ∙ cond-false (test q) (get R q) None off
              ∙ sym (get_kept S test q ∙ cond-false (test q) (get S q) None off))
        ]

    alike_change : (key : Key) (kc : ℕ) (sets : Sets)
        → Alike (us ++ (place key kc w, sets) ∷ []) S0 (change (update_in (place key kc w) sets) S) R0
        (change (update_in (place key kc w) sets) R) q
    alike_change key kc sets =
        let f : Place → List Element → List Element = update_in (place key kc w) sets in
        let u : Place × Sets = (place key kc w, sets) in
        elim h [
          | inl same ↦ inl (get_change f R q ∙ ap (option_map (f q)) same ∙ sym (get_change f S q))
          | inr both ↦ inr (
            get_change f S q ∙ ap (option_map (f q)) both.0 ∙ sym (more_there us u q (get S0 q)),
            get_change f R q ∙ ap (option_map (f q)) both.1 ∙ sym (more_there us u q (get R0 q)),
          )
        ]

module _ (ls : Labels) (distinct : AreDistinct ls) (scheme : Scheme) (n w : ℕ) (within : w < length ls) where
  -- the updates with one of a write, if it is an update of class w
  abbrev more : Ups → Write → Ups
  more us (Insert key values) = us
  more us (Update key kc from sets) = cond (nat_eq from w) (us ++ (place key kc w, sets) ∷ []) us
  more us (Delete key kc) = us

  -- two tables have the same at the classes below w
  abbrev LowSame : Table → Table → Type 0
  LowSame S R = (q : Place) → q.class < length ls → below ls q.class w ≡ true → nat_eq q.class w ≡ false
      → get S q ≡ get R q

  low_left : (T : Table) → IsStored ls n T → (wr : Write) → LowSame (write ls scheme w wr T).table T
  low_left T stored wr q lt under off =
      let new : Table = (write ls scheme w wr T).table in
      let out : below ls w q.class ≡ false = false_from_ne_true (below ls w q.class) (λ over. true≢false
      (sym (eq-eqb q.class w (below-antisym ls distinct q.class w lt within under over)) ∙ off)) in
      sym (get_low_in ls q.class new q (below-refl ls q.class))
      ∙ ap (λ (X : Table). get X q) (write-high ls q.class w out scheme n T stored wr)
      ∙ get_low_in ls q.class T q (below-refl ls q.class)

  -- what an update starts from is the same
  start_same : (S R : Table) → IsStored ls n S → LowSame S R → (key : Key) (kc from : ℕ) (sets : Sets)
      → nat_eq from w ≡ false
      → is_done (outcome_of key (below_refusals ls scheme w kc from sets (get S (place key kc from))
      (get S (place key kc w)))) ≡ true
      → get S (place key kc from) ≡ get R (place key kc from)
  start_same S R stored same key kc from sets off done =
      let q = place key kc from in
      let lower = below_refusals ls scheme w kc from sets (get S q) (get S (place key kc w)) in
      let a = all_passed ((has_null key, KeyNull) ∷ lower) refl done in
      let f = found_if ls w kc from (get S q) a.1.0 in
      let st = stored q (unwrap_or (get S q) []) f.0 in
      same q (st.declared from st.own) f.2 off

  alike_write : (us : Ups) (S0 S R0 R : Table) → IsStored ls n S → LowSame S R → (wr : Write)
      → is_done (outcome_of (key_of wr) (refusals ls scheme w wr S)) ≡ true
      → (q : Place) → Alike w us S0 S R0 R q
      → Alike w (more us wr) S0 (changed ls scheme w wr S) R0 (changed ls scheme w wr R) q
  alike_write us S0 S R0 R stored same (Insert key values) done q h =
      alike_insert w us S0 S R0 R q h (place key w w) (root w values)
  alike_write us S0 S R0 R stored same (Update key kc from sets) done q h =
      let p = place key kc w in
      let made : Table → List Element = λ T. derived w sets (unwrap_or (get T (place key kc from)) []) in
      let own = own_refusals ls scheme w kc sets (get S p) in
      let lower = below_refusals ls scheme w kc from sets (get S (place key kc from)) (get S p) in
      elim (nat_eq from w) as (λ b. nat_eq from w ≡ b → is_done (outcome_of key (cond b own lower)) ≡ true
      → Alike w (cond b (us ++ (p, sets) ∷ []) us) S0 (cond b (change (update_in p sets) S) (insert S p (made S))) R0
      (cond b (change (update_in p sets) R) (insert R p (made R))) q) [
        | true ↦ λ e d. alike_change w us S0 S R0 R q h key kc sets
        | false ↦ λ e d.
            subst (λ (es : List Element). Alike w us S0 (insert S p (made S)) R0 (insert R p es) q)
            (ap (λ (o : Option (List Element)). derived w sets (unwrap_or o []))
            (start_same S R stored same key kc from sets e d))
            (alike_insert w us S0 S R0 R q h p (made S))
      ] refl done
  alike_write us S0 S R0 R stored same (Delete key kc) done q h =
      alike_kept w us S0 S R0 R q h (λ r. not (is_above ls (place key kc w) r))

  done_first : (b : Bool) (o : Option Table) (U : Table) → cond b o None ≡ Some U → (b ≡ true) × (o ≡ Some U)
  done_first true o U e = (refl, e)
  done_first false o U e = absurd cc

  -- ---- all writes

  all_low : (wrs : List Write) (T U : Table) → IsStored ls n T → AllByRecursion (WriteFits ls n w) wrs
      → all_done ls scheme w wrs T ≡ Some U → LowSame U T
  all_low [] T U stored fits e q lt under off = ap (λ (X : Table). get X q) (sym (same_Some T U e))
  all_low (wr ∷ wrs) T U stored fits e q lt under off =
      let new = write ls scheme w wr T in
      let d = done_first (is_done new.outcome) (all_done ls scheme w wrs new.table) U e in
      all_low wrs new.table U (write-stored ls distinct scheme n w T stored wr fits.0) fits.1 d.1 q lt under off
      ∙ low_left T stored wr q lt under off

  all_stored : (wrs : List Write) (T U : Table) → IsStored ls n T → AllByRecursion (WriteFits ls n w) wrs
      → all_done ls scheme w wrs T ≡ Some U → IsStored ls n U
  all_stored [] T U stored fits e = subst (IsStored ls n) (same_Some T U e) stored
  all_stored (wr ∷ wrs) T U stored fits e =
      let new = write ls scheme w wr T in
      let d = done_first (is_done new.outcome) (all_done ls scheme w wrs new.table) U e in
      all_stored wrs new.table U (write-stored ls distinct scheme n w T stored wr fits.0) fits.1 d.1

  all_alike : (wrs : List Write) (us : Ups) (S0 S R0 R U V : Table) → IsStored ls n S → IsStored ls n R
      → AllByRecursion (WriteFits ls n w) wrs → LowSame S R → ((q : Place) → Alike w us S0 S R0 R q)
      → all_done ls scheme w wrs S ≡ Some U → all_done ls scheme w wrs R ≡ Some V
      → (vs : Ups) × ((q : Place) → Alike w vs S0 U R0 V q)
  all_alike [] us S0 S R0 R U V ss sr fits same h e f = (
    us,
    λ q. subst (λ (X : Table). Alike w us S0 X R0 V q) (same_Some S U e)
        (subst (λ (Y : Table). Alike w us S0 S R0 Y q) (same_Some R V f) (h q)),
  )
  all_alike (wr ∷ wrs) us S0 S R0 R U V ss sr fits same h e f =
      let s = write ls scheme w wr S in
      let r = write ls scheme w wr R in
      let ds = done_first (is_done s.outcome) (all_done ls scheme w wrs s.table) U e in
      let dr = done_first (is_done r.outcome) (all_done ls scheme w wrs r.table) V f in
      let to_s : s.table ≡ changed ls scheme w wr S = cond-true (is_done s.outcome) (changed ls scheme w wr S) S ds.0 in
      let to_r : r.table ≡ changed ls scheme w wr R = cond-true (is_done r.outcome) (changed ls scheme w wr R) R dr.0 in
      all_alike wrs (more us wr) S0 s.table R0 r.table U V
      (write-stored ls distinct scheme n w S ss wr fits.0) (write-stored ls distinct scheme n w R sr wr fits.0) fits.1
      (λ q lt under off. low_left S ss wr q lt under off ∙ same q lt under off ∙ sym (low_left R sr wr q lt under off))
      (λ q. subst (λ (X : Table). Alike w (more us wr) S0 X R0 r.table q) (sym to_s)
      (subst (λ (Y : Table). Alike w (more us wr) S0 (changed ls scheme w wr S) R0 Y q) (sym to_r)
      (alike_write us S0 S R0 R ss same wr ds.0 q (h q))))
      ds.1 dr.1

pub done_again : AllAgainChangeNothing
done_again ls distinct scheme n w within wrs fits T U V stored e f =
    let a = all_alike ls distinct scheme n w within wrs [] T T U U U V stored
    (all_stored ls distinct scheme n w within wrs T U stored fits e) fits
    (λ q lt under off. sym (all_low ls distinct scheme n w within wrs T U stored fits e q lt under off))
    (λ q. inr (none_there w q (get T q), none_there w q (get U q))) e f in
    same_table V U (λ q. elim (a.1 q) [
      | inl same ↦ same
      | inr both ↦ both.1 ∙ ap (option_map (run w a.0 q)) both.0 ∙ again_there w a.0 q (get T q) ∙ sym both.0
    ])
