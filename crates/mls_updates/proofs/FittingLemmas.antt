-- The writes keep numbers, kinds and intervals.
use Rattle.std.proofs.Common.{◌≡◌, ℕ, zero, suc, ◌<◌, Bool, true, false, cond, not, List, [], ◌∷◌, length, Option, Some, None, refl, sym, ◌∙◌, subst, arith, inl, inr, nat_eq, slice_index_or, unwrap_or, true≢false}
use Rattle.std.specs.List.{list_any, list_all, AllByRecursion, AllZip}
use Rattle.std.specs.FinMap.{get, insert, retain_keys}
use Rattle.std.proofs.lemmas.Bool.{cond_both, and_parts, not-false}
use Rattle.std.proofs.lemmas.Slice.Zip.{AllZip-long}
use Rattle.mls_lattice.specs.Labels.{Labels, AreDistinct}
use Rattle.mls_scheme.specs.declared.value.Value.{Value}
use Rattle.mls_scheme.specs.declared.tuple.Element.{Element}
use Rattle.mls_scheme.specs.Value.{is_kind, fits_kind}
use Rattle.mls_scheme.specs.Tuple.{at, null_element}
use Rattle.mls_scheme.specs.Table.{Table, change}
use Rattle.mls_scheme.specs.declared.place.Place.{Place}
use Rattle.mls_scheme.specs.Scheme.{Attribute, no_attribute, Scheme, other_of}
use Rattle.mls_scheme.specs.Fits.{in_interval, HaveKinds, Fits}
use Rattle.mls_scheme.specs.Writes.{key_of}
use Rattle.mls_filterview.specs.Stored.{IsContent, is_entity}
use Rattle.mls_filterview.proofs.AmongLemmas.{all_at, none_of}
use Rattle.mls_updates.specs.declared.outcome.Outcome.TheVariants.{KeyNull}
use Rattle.mls_updates.specs.Outcome.{is_done}
use Rattle.mls_updates.specs.Writes.{Key, Sets, Write, Insert, Update, Delete, WriteFits, WriteKinds, has_null, place, is_above, root, derived, updated, update_in, root_refusals, own_refusals, below_refusals, refusals, changed, outcome_of, write}
use Rattle.mls_updates.proofs.SetLemmas.{length-derived, length-updated, derived_cases, updated_cases}
use Rattle.mls_updates.proofs.ChangeLemmas.{inserted_cases, kept_cases, changed_cases}
use Rattle.mls_updates.proofs.KeptLemmas.{all_passed, found_if, write-stored}

-- ---- two lists, place by place

zip_from : {A B : Type 0} (R : A → B → Type 0) (d : A) (e : B) (xs : List A) (ys : List B) → length xs ≡ length ys
    → ((i : ℕ) → i < length xs → R (slice_index_or xs i d) (slice_index_or ys i e)) → AllZip R xs ys
zip_from R d e [] [] n h = tt
zip_from R d e [] (y ∷ ys) n h = absurd (omega arith)
zip_from R d e (x ∷ xs) [] n h = absurd (omega arith)
zip_from R d e (x ∷ xs) (y ∷ ys) n h = (
  h 0 (omega arith),
  zip_from R d e xs ys (omega arith)
      (λ i l. h (suc i) (omega arith)),
)

pub zip_at : {A B : Type 0} (R : A → B → Type 0) (d : A) (e : B) (xs : List A) (ys : List B) → AllZip R xs ys → (i : ℕ)
    → i < length xs → R (slice_index_or xs i d) (slice_index_or ys i e)
zip_at R d e [] [] h i l = absurd (omega arith)
zip_at R d e [] (y ∷ ys) h i l = absurd h
zip_at R d e (x ∷ xs) [] h i l = absurd h
zip_at R d e (x ∷ xs) (y ∷ ys) h zero l = h.0
zip_at R d e (x ∷ xs) (y ∷ ys) h (suc i) l = zip_at R d e xs ys h.1 i (omega arith)

module _ (ls : Labels) (scheme : Scheme) where
  -- what `Fits` asks of each element
  abbrev FitsAt : Attribute → Element → Type 0
  FitsAt a e = (fits_kind e.value a.1.kind ≡ true) × (in_interval ls e.class a ≡ true)

  key_fits : (w : ℕ) (keys : List Attribute) (key : Key) → has_null key ≡ false → list_all (in_interval ls w) keys
      ≡ true → HaveKinds keys key
      → AllZip (λ a v. (is_kind v a.1.kind ≡ true) × (in_interval ls w a ≡ true)) keys (place key w w).key
  key_fits w [] [] n i h = tt
  key_fits w [] (v ∷ vs) n i h = absurd h
  key_fits w (a ∷ keys) [] n i h = absurd h
  key_fits w (a ∷ keys) (None ∷ vs) n i h = absurd (true≢false n)
  key_fits w (a ∷ keys) (Some v ∷ vs) n i h = let p = and_parts _ _ i in ((h.0, p.0), key_fits w keys vs n p.1 h.1)

  root_fits : (w : ℕ) (others : List Attribute) (values : List (Option Value)) → list_all (in_interval ls w) others
      ≡ true → HaveKinds others values → AllZip FitsAt others (root w values)
  root_fits w [] [] i h = tt
  root_fits w [] (v ∷ vs) i h = absurd h
  root_fits w (a ∷ others) [] i h = absurd h
  root_fits w (a ∷ others) (v ∷ vs) i h = let p = and_parts _ _ i in ((h.0, p.0), root_fits w others vs p.1 h.1)

  -- elements that fit, each or as it was
  each_fits : (es us : List Element) → length us ≡ length es → AllZip FitsAt scheme.others es
      → ((i : ℕ) → i < length es → FitsAt (other_of scheme i) (at es i) → FitsAt (other_of scheme i) (at us i))
      → AllZip FitsAt scheme.others us
  each_fits es us n h f =
      let m : length scheme.others ≡ length es = sym (AllZip-long FitsAt scheme.others es h) in
      zip_from FitsAt no_attribute null_element scheme.others us (m ∙ sym n) (λ i l. f i (subst (λ k. i < k) m l)
      (zip_at FitsAt no_attribute null_element scheme.others es h i l))

  module _ (w : ℕ) (sets : Sets) (kinds : AllByRecursion (λ s. fits_kind s.1 (other_of scheme s.0).1.kind
      ≡ true) sets) where
    derived_fits : (es : List Element) → list_any (λ s. not (in_interval ls w (other_of scheme s.0))) sets ≡ false
        → AllZip FitsAt scheme.others es → AllZip FitsAt scheme.others (derived w sets es)
    derived_fits es within h = each_fits es (derived w sets es) (length-derived w sets es) h
        (λ i l f. elim (derived_cases w sets es i l) [
          | inl e ↦ subst (FitsAt (other_of scheme i)) (sym e) f
          | inr s ↦ subst (FitsAt (other_of scheme i)) (sym s.2) (
            all_at (λ r. fits_kind r.1 (other_of scheme r.0).1.kind ≡ true) sets kinds (i, s.0) s.1,
            not-false _ (none_of (λ r. not (in_interval ls w (other_of scheme r.0))) sets within (i, s.0) s.1),
          )
        ])

    updated_fits : (es : List Element) → AllZip FitsAt scheme.others es
        → AllZip FitsAt scheme.others (updated w sets es)
    updated_fits es h = each_fits es (updated w sets es) (length-updated w sets es) h
        (λ i l f. elim (updated_cases w sets es i l) [
          | inl e ↦ subst (FitsAt (other_of scheme i)) (sym e) f
          | inr s ↦ subst (FitsAt (other_of scheme i)) (sym s.1.2) (
            all_at (λ r. fits_kind r.1 (other_of scheme r.0).1.kind ≡ true) sets kinds (i, s.1.0) s.1.1,
            subst (λ k. in_interval ls k (other_of scheme i) ≡ true) s.0 f.1,
          )
        ])

  -- ---- tables
  AllFit : Table → Type 0
  AllFit T = (p : Place) (es : List Element) → get T p ≡ Some es → Fits ls scheme p es

  fit_insert : (T : Table) (p : Place) (es : List Element) → AllFit T → Fits ls scheme p es → AllFit (insert T p es)
  unfolding AllFit
  fit_insert T p es h new q fs g =
      elim (inserted_cases T p es q fs g) [
        | inl e ↦ subst (λ r. Fits ls scheme r fs) (sym e.0) (subst (Fits ls scheme p) (sym e.1) new)
        | inr old ↦ h q fs old
      ]

  fit_kept : (T : Table) (test : Place → Bool) → AllFit T → AllFit (retain_keys T test)
  unfolding AllFit
  fit_kept T test h q fs g = h q fs (kept_cases T test q fs g).1

  fit_change : (T : Table) (f : Place → List Element → List Element) → AllFit T → ((p : Place) (es : List Element)
      → Fits ls scheme p es → Fits ls scheme p (f p es)) → AllFit (change f T)
  unfolding AllFit
  fit_change T f h k q fs g = let old = changed_cases f T q fs g in subst (Fits ls scheme q) (sym old.2)
      (k q old.0 (h q old.0 old.1))

  changed-fits : (w : ℕ) (T : Table) → AllFit T → (wr : Write) → WriteKinds scheme wr
      → is_done (outcome_of (key_of wr) (refusals ls scheme w wr T)) ≡ true → AllFit (changed ls scheme w wr T)
  unfolding AllFit
  changed-fits w T h (Insert key values) kinds =
      let p = place key w w in
      λ done.
      let a = all_passed ((has_null key, KeyNull) ∷ root_refusals ls scheme w (get T p)) refl done in
      let i = and_parts _ _ (not-false _ a.1.1.0) in
      fit_insert T p (root w values) h (record {
        key = key_fits w scheme.keys key a.0 i.0 kinds.0;
        others =
            root_fits w scheme.others values i.1 kinds.1;
      })
  changed-fits w T h (Update key kc from sets) kinds =
      let p = place key kc w in
      let q = place key kc from in
      let es = unwrap_or (get T q) [] in
      let own = own_refusals ls scheme w kc sets (get T p) in
      let lower = below_refusals ls scheme w kc from sets (get T q) (get T p) in
      elim (nat_eq from w) as (λ b. is_done (outcome_of key (cond b own lower)) ≡ true
      → AllFit (cond b (change (update_in p sets) T) (insert T p (derived w sets es)))) [
        | true ↦ λ _. fit_change T (update_in p sets) h (λ r fs f.
            elim (is_entity p r) as (λ b. Fits ls scheme r (cond b (updated w sets fs) fs)) [
              | true ↦ record {
                key =
                    f.key;
                others = updated_fits w sets kinds fs f.others;
              }
              | false ↦ f
            ])
        | false ↦ λ done.
            let a = all_passed ((has_null key, KeyNull) ∷ lower) refl done in
            let f = h q es (found_if ls w kc from (get T q) a.1.0).0 in
            fit_insert T p (derived w sets es) h (record {
              key = f.key;
              others =
                  derived_fits w sets kinds es a.1.1.1.1.0 f.others;
            })
      ]
  changed-fits w T h (Delete key kc) kinds = λ _. fit_kept T (λ q. not (is_above ls (place key kc w) q)) h

  write-fits : (w : ℕ) (T : Table) → AllFit T → (wr : Write) → WriteKinds scheme wr
      → AllFit (write ls scheme w wr T).table
  write-fits w T h wr kinds = cond_both (is_done (outcome_of (key_of wr) (refusals ls scheme w wr T)))
      (changed ls scheme w wr T) T AllFit (changed-fits w T h wr kinds) (λ _. h)

-- each write keeps the stored form with its kinds and intervals
pub write-content : (ls : Labels) → AreDistinct ls → (scheme : Scheme) (w : ℕ) (T : Table) → IsContent ls scheme T
    → (wr : Write) → WriteFits ls (length scheme.others) w wr → WriteKinds scheme wr
    → IsContent ls scheme (write ls scheme w wr T).table
unfolding AllFit
write-content ls distinct scheme w T h wr fits kinds = record {
  stored = write-stored ls distinct scheme (length scheme.others) w T h.stored wr fits;
  fits = write-fits ls scheme w T h.fits wr kinds;
}
