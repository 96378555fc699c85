-- Tests of two lists, place by place.
use Rattle.std.proofs.Common.{◌≡◌, ℕ, zero, suc, ◌<◌, ◌+◌, Bool, true, false, ◌&&◌, List, [], ◌∷◌, length, get_or, drop, Some, refl, sym, ap, ◌∙◌, arith, slice_get, option_map}
use Rattle.std.proofs.lemmas.Bool.{and_right}
use Rattle.std.proofs.lemmas.Option.{same_Some, none-some}
use Rattle.mls_lattice.specs.Labels.{Labels}
use Rattle.mls_scheme.specs.declared.value.Value.{Value}
use Rattle.mls_scheme.specs.declared.tuple.Element.{Element}
use Rattle.mls_scheme.specs.declared.attributes.Column.{Column}
use Rattle.mls_scheme.specs.Value.{is_kind, fits_kind}
use Rattle.mls_scheme.specs.Scheme.{Attribute, column_of}
use Rattle.mls_scheme.specs.Fits.{in_column}
use Rattle.mls_filterview.specs.Checking.{fits_value, fits_element, all_zip}

zip-uneven : {A B : Type 0} (p : A → B → Bool) (xs : List A) (ys : List B) → (length ys ≡ length xs → ⊥)
    → all_zip p xs ys ≡ false
zip-uneven p [] [] h = absurd (h refl)
zip-uneven p [] (y ∷ ys) h = refl
zip-uneven p (x ∷ xs) [] h = refl
zip-uneven p (x ∷ xs) (y ∷ ys) h = and_right (p x y) (all_zip p xs ys) (zip-uneven p xs ys (λ e. h (omega arith)))

zip-ended : {A B : Type 0} (p : A → B → Bool) (xs : List A) (ys : List B) (i : ℕ) → length ys ≡ length xs
    → length ys ≡ i → all_zip p (drop i xs) (drop i ys) ≡ true
zip-ended p [] [] zero h e = refl
zip-ended p [] [] (suc i) h e = refl
zip-ended p (x ∷ xs) (y ∷ ys) (suc i) h e = zip-ended p xs ys i (omega arith) (omega arith)
zip-ended p _ _ _ h e = absurd (omega arith)

-- a test that speaks of what is kept of an attribute beside its name
module _ {B : Type 0} (q : Column → B → Bool) where
  abbrev p : Attribute → B → Bool
  p a v = q (column_of a) v

  step : (as' : List Attribute) (vs : List B) (i : ℕ) (c : Column) (v : B) → option_map column_of (slice_get as' i)
      ≡ Some c → i < length vs → v ≡ get_or vs i v
      → all_zip p (drop i as') (drop i vs) ≡ (q c v && all_zip p (drop (suc i) as') (drop (suc i) vs))
  step [] vs zero c v h l e = absurd (none-some c h)
  step [] vs (suc i) c v h l e = absurd (none-some c h)
  step (a ∷ as') [] i c v h l e = absurd (omega arith)
  step (a ∷ as') (w ∷ vs) zero c v h l e = λ k. q (same_Some (column_of a) c h k) (sym e k) && all_zip p as' vs
  step (a ∷ as') (w ∷ vs) (suc i) c v h l e = step as' vs i c v h (omega arith) e

  misfit : (as' : List Attribute) (vs : List B) (i : ℕ) (c : Column) (v : B) → option_map column_of (slice_get as' i)
      ≡ Some c → i < length vs → v ≡ get_or vs i v → q c v ≡ false
      → all_zip p (drop i as') (drop i vs) ≡ all_zip p as' vs → false ≡ all_zip p as' vs
  misfit as' vs i c v h l e out all = sym (ap (λ b. b && all_zip p (drop (suc i) as') (drop (suc i) vs)) out)
      ∙ sym (step as' vs i c v h l e) ∙ all

  next : (as' : List Attribute) (vs : List B) (i : ℕ) (c : Column) (v : B) → option_map column_of (slice_get as' i)
      ≡ Some c → i < length vs → v ≡ get_or vs i v → q c v ≡ true
      → all_zip p (drop i as') (drop i vs) ≡ all_zip p as' vs → all_zip p (drop (i + 1) as') (drop (i + 1) vs)
      ≡ all_zip p as' vs
  next as' vs i c v h l e fits all =
      let n : i + 1 ≡ suc i = omega arith in
      ap (λ k. all_zip p (drop k as') (drop k vs)) n
      ∙ sym (ap (λ b. b && all_zip p (drop (suc i) as') (drop (suc i) vs)) fits) ∙ sym (step as' vs i c v h l e) ∙ all

-- ---- keys

module _ (ls : Labels) (class : ℕ) where
  abbrev key_test : Column → Value → Bool
  key_test c v = is_kind v c.kind && in_column ls class c

  pub key_uneven : (as' : List Attribute) (vs : List Value) → (length vs ≡ length as' → ⊥)
      → all_zip (fits_value ls class) as' vs ≡ false
  key_uneven as' vs h = zip-uneven (fits_value ls class) as' vs h

  pub key_ended : (as' : List Attribute) (vs : List Value) (i : ℕ) → length vs ≡ length as' → length vs ≡ i
      → all_zip (fits_value ls class) (drop i as') (drop i vs) ≡ true
  key_ended as' vs i h e = zip-ended (fits_value ls class) as' vs i h e

  pub key_misfit : (as' : List Attribute) (vs : List Value) (i : ℕ) (c : Column) (v : Value)
      → option_map column_of (slice_get as' i) ≡ Some c → i < length vs → v ≡ get_or vs i v → key_test c v ≡ false
      → all_zip (fits_value ls class) (drop i as') (drop i vs) ≡ all_zip (fits_value ls class) as' vs
      → false ≡ all_zip (fits_value ls class) as' vs
  key_misfit as' vs i c v h l e out all = misfit key_test as' vs i c v h l e out all

  pub key_next : (as' : List Attribute) (vs : List Value) (i : ℕ) (c : Column) (v : Value)
      → option_map column_of (slice_get as' i) ≡ Some c → i < length vs → v ≡ get_or vs i v → key_test c v ≡ true
      → all_zip (fits_value ls class) (drop i as') (drop i vs) ≡ all_zip (fits_value ls class) as' vs
      → all_zip (fits_value ls class) (drop (i + 1) as') (drop (i + 1) vs) ≡ all_zip (fits_value ls class) as' vs
  key_next as' vs i c v h l e fits all = next key_test as' vs i c v h l e fits all

-- ---- elements

module _ (ls : Labels) where
  abbrev element_test : Column → Element → Bool
  element_test c v = fits_kind v.value c.kind && in_column ls v.class c

  pub other_uneven : (as' : List Attribute) (vs : List Element) → (length vs ≡ length as' → ⊥)
      → all_zip (fits_element ls) as' vs ≡ false
  other_uneven as' vs h = zip-uneven (fits_element ls) as' vs h

  pub other_ended : (as' : List Attribute) (vs : List Element) (i : ℕ) → length vs ≡ length as' → length vs ≡ i
      → all_zip (fits_element ls) (drop i as') (drop i vs) ≡ true
  other_ended as' vs i h e = zip-ended (fits_element ls) as' vs i h e

  pub other_misfit : (as' : List Attribute) (vs : List Element) (i : ℕ) (c : Column) (v : Element)
      → option_map column_of (slice_get as' i) ≡ Some c → i < length vs → v ≡ get_or vs i v → element_test c v ≡ false
      → all_zip (fits_element ls) (drop i as') (drop i vs) ≡ all_zip (fits_element ls) as' vs
      → false ≡ all_zip (fits_element ls) as' vs
  other_misfit as' vs i c v h l e out all = misfit element_test as' vs i c v h l e out all

  pub other_next : (as' : List Attribute) (vs : List Element) (i : ℕ) (c : Column) (v : Element)
      → option_map column_of (slice_get as' i) ≡ Some c → i < length vs → v ≡ get_or vs i v → element_test c v ≡ true
      → all_zip (fits_element ls) (drop i as') (drop i vs) ≡ all_zip (fits_element ls) as' vs
      → all_zip (fits_element ls) (drop (i + 1) as') (drop (i + 1) vs) ≡ all_zip (fits_element ls) as' vs
  other_next as' vs i c v h l e fits all = next element_test as' vs i c v h l e fits all

pub ruleset key_steps = (key_uneven, key_ended, key_misfit, key_next)

pub ruleset other_steps = (other_uneven, other_ended, other_misfit, other_next)
