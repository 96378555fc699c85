-- Schemes with the first of their attributes outside the key are schemes.
use Rattle.std.proofs.Common.{◌≡◌, ℕ, zero, suc, arith, ◌+◌, ◌<◌, ◌≤◌, false, List, [], ◌∷◌, ◌++◌, append_assoc, length, get_or, take, drop, map, slice_get, option_map, Some, refl, sym, ap, subst, ◌∙◌, bytes_eq, take-append-drop}
use Rattle.std.specs.List.{AllByRecursion, IsDistinct}
use Rattle.std.proofs.lemmas.List.{drop_more}
use Rattle.mls_lattice.specs.Policy.{Name, Policy, AreNames}
use Rattle.mls_lattice.proofs.EachLemmas.{all_take}
use Rattle.mls_scheme.specs.declared.attributes.Column.{Column}
use Rattle.mls_scheme.specs.Named.{has_name}
use Rattle.mls_scheme.specs.Scheme.{Attribute, Scheme, Schemes, IsScheme, AreSchemes, IsAmongLabels, AreUnder, scheme_of, no_scheme, column_of}
use Rattle.mls_scheme.specs.Extending.{scheme_before, schemes_before, AllFirst, AtMost, HadOthers, Extends}
use Rattle.mls_scheme.proofs.CanonLemmas.{attribute_there}
use Rattle.mls_scheme.proofs.GatherLemmas.{fresh}

-- ---- the first of a list

-- what holds of a key and others holds of the key and the first of the others
split_first : {X : Type 0} (keys others : List X) (n : ℕ) → keys ++ others ≡ (keys ++ take n others) ++ drop n others
split_first keys others n = ap (λ xs. keys ++ xs) (sym (take-append-drop n others))
    ∙ sym (append_assoc keys (take n others) (drop n others))

abbrev name_of : Attribute → Name
name_of a = a.0

names_first : (xs ys : List Attribute) → AreNames (map name_of (xs ++ ys)) → AreNames (map name_of xs)
names_first [] ys h = tt
names_first (x ∷ xs) ys h = (h.0, names_first xs ys h.1)

apart_first : (name : Name) (xs ys : List Attribute) → AllByRecursion (λ y. bytes_eq name y ≡ false)
    (map name_of (xs ++ ys)) → AllByRecursion (λ y. bytes_eq name y ≡ false) (map name_of xs)
apart_first name [] ys h = tt
apart_first name (x ∷ xs) ys h = (h.0, apart_first name xs ys h.1)

pub distinct_first : (xs ys : List Attribute) → IsDistinct bytes_eq (map name_of (xs ++ ys))
    → IsDistinct bytes_eq (map name_of xs)
unfolding IsDistinct
distinct_first [] ys h = tt
distinct_first (x ∷ xs) ys h = (apart_first (name_of x) xs ys h.0, distinct_first xs ys h.1)

take_few : {X : Type 0} (n : ℕ) (xs : List X) → length (take n xs) ≤ length xs
take_few zero xs = omega arith
take_few (suc n) [] = omega arith
take_few (suc n) (x ∷ xs) = let few = take_few n xs in omega (arith, few)

-- ---- one relation

pub before_is : (n : ℕ) (s : Scheme) → IsScheme s → IsScheme (scheme_before n s)
before_is n s valid =
    let few = take_few n s.others in
    let few_others = valid.few_others in
    record {
      named = valid.named;
      some_key = valid.some_key;
      few_keys = valid.few_keys;
      few_others = omega (arith, few, few_others);
      names = names_first (s.keys ++ take n s.others) (drop n s.others) (subst (λ xs. AreNames (map name_of xs))
          (split_first s.keys s.others n) valid.names);
      distinct = distinct_first (s.keys ++ take n s.others) (drop n s.others)
          (subst (λ xs. IsDistinct bytes_eq (map name_of xs)) (split_first s.keys s.others n) valid.distinct);
      one_interval = valid.one_interval;
    }

-- the name of an attribute is none of those before it
pub first_new : (attributes : List Attribute) (k : ℕ) (name : Name) (c : Column)
    → IsDistinct bytes_eq (map (λ a. a.0) attributes)
    → option_map (λ a. a.0) (slice_get attributes k) ≡ Some name → option_map column_of (slice_get attributes k)
    ≡ Some c → has_name (take k attributes) name ≡ false
first_new attributes k name c apart e g =
    let a : Attribute = (name, c) in
    let there = attribute_there attributes k name c e g in
    let here : attributes ≡ take k attributes ++ a ∷ drop (k + 1) attributes =
    sym (take-append-drop k attributes) ∙ ap (λ xs. take k attributes ++ xs) (drop_more attributes k a there.1
    ∙ ap (λ x. x ∷ drop (k + 1) attributes) (sym there.0)) in
    fresh name_of (take k attributes) a (drop (k + 1) attributes)
    (subst (λ xs. IsDistinct bytes_eq (map name_of xs)) here apart)

-- ---- all relations

module _ (R : ℕ → Scheme → Type 0) where
  pub counts_few : (counts : List ℕ) (schemes : Schemes) → AllFirst R counts schemes → length counts ≤ length schemes
  counts_few [] schemes h = omega arith
  counts_few (n ∷ counts) [] h = absurd h
  counts_few (n ∷ counts) (s ∷ schemes) h = let few = counts_few counts schemes h.1 in omega (arith, few)

  pub count_there : (counts : List ℕ) (schemes : Schemes) (k : ℕ) (m : ℕ) (d : Scheme) → AllFirst R counts schemes
      → k < length counts → R (get_or counts k m) (get_or schemes k d)
  count_there [] schemes k m d h within = absurd (omega (arith, within))
  count_there (n ∷ counts) [] k m d h within = absurd h
  count_there (n ∷ counts) (s ∷ schemes) zero m d h within = h.0
  count_there (n ∷ counts) (s ∷ schemes) (suc k) m d h within = count_there counts schemes k m d h.1
      (omega (arith, within))

pub before_long : (counts : List ℕ) (schemes : Schemes) → length counts ≤ length schemes
    → length (schemes_before counts schemes) ≡ length counts
before_long [] schemes e = refl
before_long (n ∷ counts) [] e = absurd (omega (arith, e))
before_long (n ∷ counts) (s ∷ schemes) e = ap suc (before_long counts schemes (omega (arith, e)))

-- the names of the first relations are apart
before_apart : (name : Name) (counts : List ℕ) (schemes : Schemes) → AllByRecursion (λ y. bytes_eq name y ≡ false)
    (map (λ (s : Scheme). s.name) schemes)
    → AllByRecursion (λ y. bytes_eq name y ≡ false) (map (λ (s : Scheme). s.name) (schemes_before counts schemes))
before_apart name [] schemes h = tt
before_apart name (n ∷ counts) [] h = tt
before_apart name (n ∷ counts) (s ∷ schemes) h = (h.0, before_apart name counts schemes h.1)

before_distinct : (counts : List ℕ) (schemes : Schemes) → IsDistinct bytes_eq (map (λ (s : Scheme). s.name) schemes)
    → IsDistinct bytes_eq (map (λ (s : Scheme). s.name) (schemes_before counts schemes))
unfolding IsDistinct
before_distinct [] schemes h = tt
before_distinct (n ∷ counts) [] h = tt
before_distinct (n ∷ counts) (s ∷ schemes) h = (
  before_apart s.name counts schemes h.0,
  before_distinct counts schemes h.1,
)

before_each : (counts : List ℕ) (schemes : Schemes) → AllByRecursion IsScheme schemes
    → AllByRecursion IsScheme (schemes_before counts schemes)
before_each [] schemes h = tt
before_each (n ∷ counts) [] h = tt
before_each (n ∷ counts) (s ∷ schemes) h = (before_is n s h.0, before_each counts schemes h.1)

pub before_are : (counts : List ℕ) (schemes : Schemes) → 0 < length counts → length counts ≤ length schemes
    → AreSchemes schemes → AreSchemes (schemes_before counts schemes)
before_are counts schemes some fewer valid =
    let long = before_long counts schemes fewer in
    let few = valid.few in
    record {
      some = omega (arith, long, some);
      few = omega (arith, long, fewer, few);
      each = before_each counts schemes valid.each;
      distinct = before_distinct counts schemes valid.distinct;
    }

-- labels stay in bounds
pub before_under : (count : ℕ) (counts : List ℕ) (schemes : Schemes) → AreUnder count schemes
    → AreUnder count (schemes_before counts schemes)
before_under count [] schemes h = tt
before_under count (n ∷ counts) [] h = tt
before_under count (n ∷ counts) (s ∷ schemes) h = (
  record { keys = h.0.keys; others = all_take (IsAmongLabels count) s.others n h.0.others },
  before_under count counts schemes h.1,
)

-- a relation by its number
pub before_at : (counts : List ℕ) (schemes : Schemes) (relation : ℕ) → length counts ≤ length schemes
    → relation < length counts
    → scheme_of (schemes_before counts schemes) relation ≡ scheme_before (get_or counts relation 0)
    (scheme_of schemes relation)
before_at [] schemes relation e within = absurd (omega (arith, within))
before_at (n ∷ counts) [] relation e within = absurd (omega (arith, e))
before_at (n ∷ counts) (s ∷ schemes) zero e within = refl
before_at (n ∷ counts) (s ∷ schemes) (suc relation) e within = before_at counts schemes relation (omega (arith, e))
    (omega (arith, within))

-- one relation more
before_next : (counts : List ℕ) (schemes : Schemes) (k : ℕ) (m : ℕ) (d : Scheme) → k < length counts
    → k < length schemes
    → schemes_before (take (suc k) counts) schemes ≡ schemes_before (take k counts) schemes ++ scheme_before
    (get_or counts k m) (get_or schemes k d) ∷ []
before_next [] schemes k m d c s = absurd (omega (arith, c))
before_next (n ∷ counts) [] k m d c s = absurd (omega (arith, s))
before_next (n ∷ counts) (x ∷ schemes) zero m d c s = refl
before_next (n ∷ counts) (x ∷ schemes) (suc k) m d c s = ap (λ xs. scheme_before n x ∷ xs)
    (before_next counts schemes k m d (omega (arith, c)) (omega (arith, s)))

pub before_more : (counts : List ℕ) (schemes : Schemes) (k : ℕ) (m : ℕ) (d : Scheme) → k < length counts
    → k < length schemes
    → schemes_before (take (k + 1) counts) schemes ≡ schemes_before (take k counts) schemes ++ scheme_before
    (get_or counts k m) (get_or schemes k d) ∷ []
before_more counts schemes k m d c s =
    let next : k + 1 ≡ suc k = omega arith in
    ap (λ n. schemes_before (take n counts) schemes) next ∙ before_next counts schemes k m d c s

-- ---- what schemes that extend others have

module _ (p : Policy) (schemes : Schemes) (old counts : List ℕ) (extends : Extends p schemes old counts) where
  pub extends_few : length counts ≤ length schemes
  extends_few = counts_few (HadOthers p) counts schemes extends.counts_are

  pub extends_most : AllFirst AtMost counts schemes
  extends_most = by counts schemes extends.counts_are
    where
      by : (ns : List ℕ) (ss : Schemes) → AllFirst (HadOthers p) ns ss → AllFirst AtMost ns ss
      by [] ss h = tt
      by (n ∷ ns) [] h = absurd h
      by (n ∷ ns) (s ∷ ss) h = (h.0.0, by ns ss h.1)

  pub extends_at : (relation : ℕ) → relation < length counts → HadOthers p (get_or counts relation 0)
      (scheme_of schemes relation)
  extends_at relation within = count_there (HadOthers p) counts schemes relation 0 no_scheme extends.counts_are within
