-- The rules of the stored form, as tests of a row.
use Rattle.std.specs.Prelude.{ℕ, Bool, true, false, not, ◌&&◌, ◌||◌, if◌then◌else◌, nat_eq, nat_lt, is_some, List, []}
use Rattle.std.specs.Prelude.{◌∷◌, take, drop, Option, Some, None}
use Rattle.std.specs.List.{list_all, list_any}
use Rattle.mls_lattice.specs.Lattice.{same_pair}
use Rattle.mls_lattice.specs.Labels.{Labels, label_of, below}
use Rattle.mls_scheme.specs.declared.value.Value.{Value}
use Rattle.mls_scheme.specs.declared.tuple.Element.{Element}
use Rattle.mls_scheme.specs.declared.tuple.Tuple.{Tuple}
use Rattle.mls_scheme.specs.Value.{is_kind, fits_kind}
use Rattle.mls_scheme.specs.Tuple.{tuple_class}
use Rattle.mls_scheme.specs.declared.place.Place.{Place}
use Rattle.mls_scheme.specs.Table.{place_of, tuple_at}
use Rattle.mls_scheme.specs.Scheme.{Attribute, Scheme}
use Rattle.mls_scheme.specs.Fits.{in_interval}
use Rattle.mls_filterview.specs.declared.rule.Rule.{Rule}
use Rattle.mls_filterview.specs.declared.rule.Rule.TheVariants.{Entity, Null, Interval, Poly, Closure}
use Rattle.mls_filterview.specs.Stored.{is_entity, with_class}
use Rattle.mls_filterview.specs.Subsumption.{same_element}
use Rattle.mls_filterview.specs.Filtering.{class_number}
use Rattle.mls_filterview.specs.Rules.{row_at}

-- a test of each class of a tuple
abbrev pub all_classes : (ℕ → Bool) → Tuple → Bool
all_classes p t = p t.key_class && list_all (λ e. p e.class) t.elements

abbrev pub is_above_key : Labels → Tuple → Bool
is_above_key ls t = list_all (λ e. below ls t.key_class e.class) t.elements

abbrev pub has_nulls_at_key : Tuple → Bool
has_nulls_at_key t = list_all (λ e. is_some e.value || nat_eq e.class t.key_class) t.elements

-- ---- intervals

abbrev pub fits_value : Labels → ℕ → Attribute → Value → Bool
fits_value ls class a v = is_kind v a.1.kind && in_interval ls class a

abbrev pub fits_element : Labels → Attribute → Element → Bool
fits_element ls a e = fits_kind e.value a.1.kind && in_interval ls e.class a

-- a test of the items of two lists, place by place
abbrev pub all_zip : {A B : Type 0} → (A → B → Bool) → List A → List B → Bool
all_zip p [] [] = true
all_zip p [] (y ∷ ys) = false
all_zip p (x ∷ xs) [] = false
all_zip p (x ∷ xs) (y ∷ ys) = p x y && all_zip p xs ys

abbrev pub fits_scheme : Labels → Scheme → Tuple → Bool
fits_scheme ls scheme t = all_zip (fits_value ls t.key_class) scheme.keys t.key
    && all_zip (fits_element ls) scheme.others t.elements

-- ---- tuples of one entity

abbrev pub is_one_entity : Tuple → Tuple → Bool
is_one_entity s t = is_entity (place_of 0 s) (place_of 0 t)

abbrev pub has_same_class : Labels → Tuple → Tuple → Bool
has_same_class ls t s = is_one_entity s t && same_pair (tuple_class ls s) (tuple_class ls t)

abbrev pub is_of_class : Labels → Tuple → ℕ → Tuple → Bool
is_of_class ls t m s = is_one_entity s t && same_pair (tuple_class ls s) (label_of ls m)

-- a list begins with the element
abbrev pub has_element_at : Element → List Element → Bool
has_element_at e [] = false
has_element_at e (f ∷ fs) = same_element e f

abbrev pub has_below : Labels → ℕ → List Element → List Element → Bool
has_below ls m [] fs = true
has_below ls m (e ∷ es) fs = (not (below ls e.class m) || has_element_at e fs) && has_below ls m es (drop 1 fs)

-- the first of the tuples that is of class m and of the entity of t, if there is one, agrees with t
abbrev pub agrees_with_first : Labels → Tuple → ℕ → List Tuple → Bool
agrees_with_first ls t m [] = true
agrees_with_first ls t m (s ∷ ss) =
    if is_of_class ls t m s then has_below ls m t.elements s.elements else agrees_with_first ls t m ss

abbrev pub is_determined : Labels → List Tuple → ℕ → Bool
is_determined ls ts i = not (list_any (has_same_class ls (row_at ts i)) (take i ts)) && all_classes
    (λ m. agrees_with_first ls (row_at ts i) m ts) (row_at ts i)

-- ---- closure

abbrev pub is_comparable : Labels → ℕ → ℕ → Bool
is_comparable ls a b = below ls a b || below ls b a

abbrev pub is_chain : Labels → Tuple → Bool
is_chain ls t = all_classes (λ a. all_classes (is_comparable ls a) t) t

abbrev pub has_each_class : Labels → List Tuple → Tuple → Bool
has_each_class ls ts t = all_classes (λ m. list_any (is_of_class ls t m) ts) t

-- ---- the first rule that row i breaks

abbrev pub broken_rule : Labels → Scheme → List Tuple → ℕ → Option Rule
broken_rule ls scheme ts i =
    if not (is_above_key ls (row_at ts i)) then Some Entity
    else if not (has_nulls_at_key (row_at ts i)) then Some Null
    else if not (fits_scheme ls scheme (row_at ts i)) then Some Interval
    else if not (is_determined ls ts i) then Some Poly
    else if not (is_chain ls (row_at ts i) && has_each_class ls ts (row_at ts i)) then Some Closure
    else None

-- ---- rows by their places

abbrev pub are_declared : ℕ → List Element → Bool
are_declared count = list_all (λ e. nat_lt e.class count)

-- the classes of a tuple are numbers of labels, of which there are count, and it stands at the number of its class
abbrev pub is_placed : ℕ → Labels → Place × List Element → Bool
is_placed count ls e = nat_lt e.0.key_class count && are_declared count e.1 && nat_eq e.0.class
    (class_number ls (tuple_at e.0 e.1))

-- a tuple keeps the rules that speak of no other tuple
abbrev pub is_right_alone : Labels → Scheme → Tuple → Bool
is_right_alone ls scheme t = is_above_key ls t && has_nulls_at_key t && fits_scheme ls scheme t && is_chain ls t

-- there is a tuple, and it has the elements es wherever m dominates the class in es
abbrev pub agrees_with_found : Labels → ℕ → List Element → Option (List Element) → Bool
agrees_with_found ls m es None = false
agrees_with_found ls m es (Some fs) = has_below ls m es fs

-- for each class of a tuple its entity has a tuple of that class that agrees with it
abbrev pub is_closed : Labels → (Place → Option (List Element)) → Place × List Element → Bool
is_closed ls found e = all_classes (λ m. agrees_with_found ls m e.1 (found (with_class e.0 m))) (tuple_at e.0 e.1)

abbrev pub is_stored_row : ℕ → Labels → Scheme → (Place → Option (List Element)) → Place × List Element → Bool
is_stored_row count ls scheme found e = is_placed count ls e && is_right_alone ls scheme (tuple_at e.0 e.1)
    && is_closed ls found e
