-- The tests of one row of a map tell the rules that it keeps.
use Rattle.std.proofs.Common.{◌≡◌, ℕ, ◌<◌, true, ◌&&◌, ◌||◌, List, length, Option, Some, None, refl, sym, ap, ◌∙◌, inl, inr, ◌⊎◌, is_some, nat_eq}
use Rattle.std.proofs.lemmas.Bool.{false≢true, and_parts, and_from, or_cases, or_right}
use Rattle.mls_lattice.specs.Labels.{Labels, below}
use Rattle.mls_scheme.specs.declared.tuple.Element.{Element}
use Rattle.mls_scheme.specs.declared.tuple.Tuple.{Tuple}
use Rattle.mls_scheme.specs.Tuple.{at, null_element}
use Rattle.mls_scheme.specs.Table.{place_of, tuple_at}
use Rattle.mls_scheme.specs.declared.place.Place.{Place}
use Rattle.mls_scheme.specs.Scheme.{Scheme}
use Rattle.mls_scheme.specs.Fits.{Fits}
use Rattle.mls_filterview.specs.Rules.{OccursIn, HasBelow}
use Rattle.mls_filterview.specs.Checking.{all_classes, is_comparable, is_placed, is_right_alone, agrees_with_found, is_closed, is_stored_row}
use Rattle.mls_filterview.proofs.RuleLemmas.{all-each, each-all, classes-each, each-classes, null-true, null-from, fits-true, fits-from, below-true, below-from}

-- a tuple keeps the rules that speak of no other tuple
pub record IsRightAlone (ls : Labels) (scheme : Scheme) (t : Tuple) : Type 0 where
  pub above : (k : ℕ) → k < length t.elements → below ls t.key_class (at t.elements k).class ≡ true
  pub nulls : (k : ℕ) → k < length t.elements → (at t.elements k).value ≡ None → (at t.elements k).class ≡ t.key_class
  pub fits : Fits ls scheme (place_of 0 t) t.elements
  pub comparable : (a b : ℕ) → OccursIn t a → OccursIn t b → (below ls a b ≡ true) ⊎ (below ls b a ≡ true)

module _ (ls : Labels) (scheme : Scheme) (t : Tuple) where
  pub alone-true : is_right_alone ls scheme t ≡ true → IsRightAlone ls scheme t
  alone-true h =
      let p = and_parts _ _ h in
      let q = and_parts _ _ p.0 in
      let r = and_parts _ _ q.0 in record {
        above = all-each (λ e. below ls t.key_class e.class) null_element t.elements r.0;
        nulls = λ k l. null-true (at t.elements k).value (at t.elements k).class t.key_class
            (all-each (λ e. is_some e.value || nat_eq e.class t.key_class) null_element t.elements r.1 k l);
        fits = fits-true ls scheme t q.1;
        comparable = λ a b o n. or_cases _ _ (classes-each (is_comparable ls a) t
            (classes-each (λ m. all_classes (is_comparable ls m) t) t p.1 a o) b n);
      }

  compared : (a b : ℕ) → (below ls a b ≡ true) ⊎ (below ls b a ≡ true) → is_comparable ls a b ≡ true
  compared a b (inl h) = ap (λ x. x || below ls b a) h
  compared a b (inr h) = or_right (below ls a b) _ h

  pub alone-from : IsRightAlone ls scheme t → is_right_alone ls scheme t ≡ true
  alone-from a =
      and_from _ _
      (and_from _ _
      (and_from _ _ (each-all (λ e. below ls t.key_class e.class) null_element t.elements a.above)
      (each-all (λ e. is_some e.value || nat_eq e.class t.key_class) null_element t.elements
      (λ k l. null-from (at t.elements k).value (at t.elements k).class t.key_class (a.nulls k l))))
      (fits-from ls scheme t a.fits))
      (each-classes (λ m. all_classes (is_comparable ls m) t) t (λ m o. each-classes (is_comparable ls m) t
      (λ b n. compared m b (a.comparable m b o n))))

pub found-true : (ls : Labels) (m : ℕ) (es : List Element) (o : Option (List Element)) → agrees_with_found ls m es o
    ≡ true → (fs : List Element) × (o ≡ Some fs) × HasBelow ls m es fs
found-true ls m es None h = absurd (false≢true h)
found-true ls m es (Some fs) h = (fs, refl, below-true ls m es fs h)

pub found-from : (ls : Labels) (m : ℕ) (es fs : List Element) (o : Option (List Element)) → o ≡ Some fs
    → HasBelow ls m es fs → agrees_with_found ls m es o ≡ true
found-from ls m es fs o e h = ap (agrees_with_found ls m es) e ∙ below-from ls m es fs h

-- a row that is placed and right alone is stored where it is closed
pub row_told : (count : ℕ) (ls : Labels) (scheme : Scheme) (found : Place → Option (List Element)) (e : Place
    × List Element) → is_placed count ls e ≡ true → is_right_alone ls scheme (tuple_at e.0 e.1) ≡ true
    → is_closed ls found e ≡ is_stored_row count ls scheme found e
row_told count ls scheme found e placed alone = sym (ap (λ b. b && is_closed ls found e) (and_from _ _ placed alone))
