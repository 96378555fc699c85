-- How the loops over the rows of a document go on.
use Rattle.std.proofs.Common.{◌≡◌, ◌≢◌, ℕ, ◌+◌, ◌<◌, Bool, true, false, bit_and, ◌==◌, List, [], ◌∷◌, ◌++◌, length, get_or, drop, map, Result, Ok, Err, refl, sym, ◌∙◌, ◌↔◌, bit_or, nat_cmp, bytes_eq}
use Rattle.std.specs.List.{list_any}
use Rattle.std.specs.FinSet as set
use Rattle.toml.specs.declared.value.Value.{Value}
use Rattle.toml.specs.Data.{Data}
use Rattle.toml.specs.View.{view, items_view}
use Rattle.mls_lattice.specs.declared.fault.FieldFault.{FieldFault}
use Rattle.mls_lattice.specs.declared.fault.FieldFault.TheVariants.{Repeated, WrongKind}
use Rattle.mls_lattice.specs.declared.tables.NamedLabel.{NamedLabel}
use Rattle.mls_lattice.specs.Lattice.{Pair, Dominates, pair_of, same_pair}
use Rattle.mls_lattice.specs.Labels.{below}
use Rattle.mls_lattice.specs.Policy.{Name, Named, named}
use Rattle.mls_lattice.specs.Reading.{name_at, text_at}
use Rattle.mls_lattice.specs.PolicyReading.{rows_at, place_in, more_categories, more_modes, mode_of, interval_at}
use Rattle.mls_lattice.proofs.CategoryLemmas.{cats_of-none}
use Rattle.mls_lattice.proofs.ReadingLemmas.{here}
use Rattle.mls_lattice.proofs.PolicyLemmas.{position-named, length-named, label_of-named}
use Rattle.mls_lattice.proofs.LatticeLemmas.{test-below}

module _ (items : List Value) (i : ℕ) (v : Value) (within : i < length items) (is : v ≡ get_or items i v) where
  -- a row
  pub rows-more : {B : Type 0} (read : List B → Data → Result B FieldFault) (front : List B) (row : B)
      → read front (view v) ≡ Ok row → rows_at read (front ++ row ∷ []) (items_view (drop (i + 1) items))
      ≡ rows_at read front (items_view (drop i items))
  rows-more read front row ok = sym (here items i v within is (rows_at read front) ∙ rw ok refl)

  -- a category
  pub categories-bad_name : (cs : List Name) (s : set.FinSet nat_cmp) (e : FieldFault) → name_at (view v) ≡ Err e
      → more_categories cs s (items_view (drop i items)) ≡ Err e
  categories-bad_name cs s e name = here items i v within is (more_categories cs s) ∙ rw name refl

  pub categories-bad_place : (cs : List Name) (s : set.FinSet nat_cmp) (n : Name) (e : FieldFault) → name_at (view v)
      ≡ Ok n → place_in cs n ≡ Err e → more_categories cs s (items_view (drop i items)) ≡ Err e
  categories-bad_place cs s n e name place = here items i v within is (more_categories cs s) ∙ rw (name, place) refl

  pub categories-repeated : (cs : List Name) (s : set.FinSet nat_cmp) (n : Name) (k : ℕ) → name_at (view v) ≡ Ok n
      → place_in cs n ≡ Ok k → set.contains s k ≡ true → more_categories cs s (items_view (drop i items)) ≡ Err Repeated
  categories-repeated cs s n k name place has = here items i v within is (more_categories cs s) ∙ rw (
    name,
    place,
    has,
  ) refl

  pub categories-more : (cs : List Name) (s : set.FinSet nat_cmp) (n : Name) (k : ℕ) → name_at (view v) ≡ Ok n
      → place_in cs n ≡ Ok k → set.contains s k ≡ false
      → more_categories cs (set.insert s k) (items_view (drop (i + 1) items)) ≡ more_categories cs s
      (items_view (drop i items))
  categories-more cs s n k name place has = sym (here items i v within is (more_categories cs s) ∙ rw (
    name,
    place,
    has,
  ) refl)

  -- a mode
  pub modes-bad_word : (m : ℕ) (w : List ℕ) (e : FieldFault) → text_at (view v) ≡ Ok w → mode_of w ≡ Err e
      → more_modes m (items_view (drop i items)) ≡ Err e
  modes-bad_word m w e text word = here items i v within is (more_modes m) ∙ rw (text, word) refl

  pub modes-bad_kind : (m : ℕ) (e : FieldFault) → text_at (view v) ≡ Err e → more_modes m (items_view (drop i items))
      ≡ Err e
  modes-bad_kind m e text = here items i v within is (more_modes m) ∙ rw text refl

  pub modes-repeated : (m : ℕ) (w : List ℕ) (k : ℕ) → text_at (view v) ≡ Ok w → mode_of w ≡ Ok k → (bit_and m k == k)
      ≡ true → more_modes m (items_view (drop i items)) ≡ Err Repeated
  modes-repeated m w k text word has = here items i v within is (more_modes m) ∙ rw (text, word, has) refl

  pub modes-more : (m : ℕ) (w : List ℕ) (k : ℕ) → text_at (view v) ≡ Ok w → mode_of w ≡ Ok k → (bit_and m k == k)
      ≡ false → more_modes (bit_or m k) (items_view (drop (i + 1) items)) ≡ more_modes m (items_view (drop i items))
  modes-more m w k text word has = sym (here items i v within is (more_modes m) ∙ rw (text, word, has) refl)

pub ruleset mode_steps = (modes-bad_word, modes-bad_kind, modes-repeated, modes-more)

pub ruleset category_steps = (
  categories-bad_name,
  categories-bad_place,
  categories-repeated,
  categories-more,
  cats_of-none,
)

-- ---- tables seen through the view of their labels

pub has_name-named : (ls : List NamedLabel) (name : Name) → list_any (λ (l : Named). bytes_eq l.name name)
    (map named ls) ≡ list_any (λ (l : NamedLabel). bytes_eq l.name name) ls
has_name-named [] name = refl
has_name-named (l ∷ ls) name = rw (has_name-named ls name) refl

pub has_value-named : (ls : List NamedLabel) (p : Pair) → list_any (λ (l : Named). same_pair l.value p) (map named ls)
    ≡ list_any (λ (l : NamedLabel). same_pair (pair_of l.label) p) ls
has_value-named [] p = refl
has_value-named (l ∷ ls) p = rw (has_value-named ls p) refl

pub ruleset label_views = (has_name-named, has_value-named, position-named, length-named)

-- ---- the interval of a user

pub interval-other : (labels : List Named) (items : List Value) → length items ≢ 2
    → interval_at labels (items_view items) ≡ Err WrongKind
interval-other labels [] h = refl
interval-other labels (a ∷ []) h = refl
interval-other labels (a ∷ b ∷ []) h = absurd (h refl)
interval-other labels (a ∷ b ∷ c ∷ items) h = refl

pub interval_test : (ls : List NamedLabel) (low high i j : ℕ) (l h : NamedLabel) (b : Bool) → low < length ls
    → high < length ls → i ≡ low → j ≡ high
    → (b ≡ true ↔ Dominates (pair_of (get_or ls j h).label) (pair_of (get_or ls i l).label))
    → b ≡ below (map (λ (x : Named). x.value) (map named ls)) low high
interval_test ls low high i j l h b within_low within_high is_low is_high test =
    test-below b (map (λ (x : Named). x.value) (map named ls)) low high (pair_of (get_or ls i l).label)
    (pair_of (get_or ls j h).label) test
    (rw is_low (sym (label_of-named ls low l within_low)))
    (rw is_high (sym (label_of-named ls high h within_high)))
