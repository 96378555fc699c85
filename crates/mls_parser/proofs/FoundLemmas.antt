-- The name of a number stands for it.
use Rattle.std.proofs.Common.{◌≡◌, ℕ, zero, suc, ◌+◌, ◌-◌, ◌<◌, ◌≤◌, Bool, true, false, ◌||◌, List, [], ◌∷◌, ◌++◌, length, map, get_or, Option, Some, None, inl, inr, refl, sym, ap, subst, ◌∙◌, arith, is_some, position, bytes_eq}
use Rattle.std.proofs.Recursive.{every_front, every_back}
use Rattle.std.specs.List.{AllByRecursion, IsDistinct, list_any}
use Rattle.std.specs.Cmp.{IsEquivalence}
use Rattle.std.specs.Cmp.Lexicographic.{nat_list_eq_equiv}
use Rattle.std.proofs.lemmas.Bool.{cases_lt}
use Rattle.std.proofs.lemmas.List.{get_or-map, length-map}
use Rattle.std.proofs.lemmas.List.Elements.{All-from_recursion}
use Rattle.std.proofs.lemmas.Map.Keys.{IsDistinct-head, IsDistinct-tail}
use Rattle.mls_lattice.specs.Canon.{label_name}
use Rattle.mls_lattice.specs.Name.{is_name}
use Rattle.mls_lattice.specs.Policy.{Name, Policy, IsPolicy, AreNames}
use Rattle.mls_scheme.specs.Scheme.{Attribute, Scheme, Schemes, IsScheme, AreSchemes, scheme_of, other_of, no_attribute}
use Rattle.mls_lattice.proofs.NamedLemmas.{distinct_behind, name_there, found_again, is_name_at, is_name_there}
use Rattle.mls_lattice.proofs.NamedLemmas as named
use Rattle.mls_scheme.proofs.NamedLemmas.{is_some-position}
use Rattle.mls_scheme.proofs.SchemeNameLemmas.{scheme_is, split_apart}
use Rattle.mls_scheme.proofs.SchemeNameLemmas as schemed
use Rattle.mls_translang.specs.Fits.{width}
use Rattle.mls_translang.specs.Kinds.{field_of}
use Rattle.mls_translang.specs.Scope.{names_in, row_at, no_row}
use Rattle.mls_translang.specs.Tokens.{Context, name_at}
use Rattle.mls_translang.proofs.FieldLemmas.{as_key, as_other}
use Rattle.mls_parser.specs.Names.{label_named, relation_named, variable_named, parameter_named, row_named, or_behind, attribute_named, other_named, row_scheme}

-- ---- lists

module _ {X : Type 0} (name_of : X → Name) where
  -- a name is in a list where a thing in it has the name
  pub named_any : (xs : List X) (name : Name) → list_any (bytes_eq name) (map name_of xs)
      ≡ list_any (λ x. bytes_eq (name_of x) name) xs
  named_any [] name = refl
  named_any (x ∷ xs) name = λ i. nat_list_eq_equiv.symm name (name_of x) i || named_any xs name i

module _ {K : Type 0} (eq : K → K → Bool) where
  pub distinct_front : (xs ys : List K) → IsDistinct eq (xs ++ ys) → IsDistinct eq xs
  unfolding IsDistinct
  distinct_front [] ys h = tt
  distinct_front (x ∷ xs) ys h = (every_front (λ y. eq x y ≡ false) _ xs ys h.0 refl, distinct_front xs ys h.1)

  none_any : (x : K) (ys : List K) → AllByRecursion (λ y. eq x y ≡ false) ys → list_any (eq x) ys ≡ false
  none_any x [] h = refl
  none_any x (y ∷ ys) h = λ i. h.0 i || none_any x ys h.1 i

  -- none in the front is one of those behind
  pub apart_behind : (xs ys : List K) (n : ℕ) (d : K) → IsDistinct eq (xs ++ ys) → n < length xs
      → list_any (eq (get_or xs n d)) ys ≡ false
  apart_behind [] ys n d h within = absurd (omega arith)
  apart_behind (x ∷ xs) ys zero d h within = none_any x ys (every_back (λ y. eq x y ≡ false) _ xs ys
      (IsDistinct-head eq x (xs ++ ys) h) refl)
  apart_behind (x ∷ xs) ys (suc n) d h within = apart_behind xs ys n d (IsDistinct-tail eq x (xs ++ ys) h) (omega arith)

  -- none behind is one of those in the front
  pub apart_front : IsEquivalence eq → (xs ys : List K) (n : ℕ) (d : K) → IsDistinct eq (xs ++ ys) → n < length ys
      → list_any (eq (get_or ys n d)) xs ≡ false
  apart_front q [] ys n d h within = refl
  apart_front q (x ∷ xs) ys n d h within =
      let first = All-from_recursion (λ z. eq x z ≡ false) ys (every_back (λ z. eq x z ≡ false) _ xs ys
      (IsDistinct-head eq x (xs ++ ys) h) refl) n d within in
      λ i. (q.symm (get_or ys n d) x ∙ first) i || apart_front q xs ys n d (IsDistinct-tail eq x (xs ++ ys) h) within i

  pub new_behind : IsEquivalence eq → (xs : List K) (y : K) (ys : List K) → IsDistinct eq (xs ++ y ∷ ys)
      → list_any (eq y) xs ≡ false
  new_behind q xs y ys h = apart_front q xs (y ∷ ys) 0 y h (omega arith)

pub none_of : {X : Type 0} (o : Option X) → is_some o ≡ false → o ≡ None
none_of None e = refl
none_of (Some x) e = absurd cc

-- ---- labels and relations

pub label_again : (policy : Policy) → IsPolicy policy → (n : ℕ) → n < length policy.labels
    → label_named policy (label_name policy.labels n) ≡ Some n
unfolding label_named
label_again = named.label_again

pub relation_again : (schemes : Schemes) → AreSchemes schemes → (n : ℕ) → n < length schemes
    → relation_named schemes (scheme_of schemes n).name ≡ Some n
unfolding relation_named
relation_again = schemed.relation_again

-- ---- attributes

module _ (scheme : Scheme) (valid : IsScheme scheme) where
  abbrev name_of : Attribute → Name
  name_of a = a.0

  apart : IsDistinct bytes_eq (map name_of scheme.keys ++ map name_of scheme.others)
  apart = split_apart scheme valid

  pub other_again : (n : ℕ) → n < length scheme.others → other_named scheme (other_of scheme n).0 ≡ Some n
  unfolding other_named
  other_again = schemed.other_again scheme valid

  key_again : (n : ℕ) → n < length scheme.keys
      → position (λ a. bytes_eq a.0 (get_or scheme.keys n no_attribute).0) scheme.keys ≡ Some n
  key_again n within = found_again name_of scheme.keys no_attribute (distinct_front bytes_eq (map name_of scheme.keys)
      (map name_of scheme.others) apart) n within

  -- no key attribute has the name of another attribute
  no_key : (n : ℕ) → n < length scheme.others → position (λ a. bytes_eq a.0 (other_of scheme n).0) scheme.keys ≡ None
  no_key n within =
      let name = (other_of scheme n).0 in
      let far = apart_front bytes_eq nat_list_eq_equiv (map name_of scheme.keys) (map name_of scheme.others) n [] apart
      (omega (arith, within, length-map scheme.others name_of)) in
      let same : get_or (map name_of scheme.others) n [] ≡ name =
      get_or-map name_of scheme.others n no_attribute [] within in
      none_of (position (λ a. bytes_eq a.0 name) scheme.keys)
      (is_some-position (λ a. bytes_eq a.0 name) scheme.keys ∙ sym (named_any name_of scheme.keys name)
      ∙ subst (λ x. list_any (bytes_eq x) (map name_of scheme.keys) ≡ false) same far)

  abbrev found : Name → Option ℕ
  found name = or_behind (position (λ a. bytes_eq a.0 name) scheme.keys) (length scheme.keys)
      (position (λ a. bytes_eq a.0 name) scheme.others)

  found_other : (n : ℕ) → length scheme.keys ≤ n → n < width scheme → found (other_of scheme (n - length scheme.keys)).0
      ≡ Some n
  found_other n le lt =
      let m = n - length scheme.keys in
      let within : m < length scheme.others = omega (arith, le, lt) in
      let total : length scheme.keys + m ≡ n = omega (arith, le) in
      let there = schemed.other_again scheme valid m within in
      (λ i. or_behind (no_key m within i) (length scheme.keys) (there i)) ∙ ap (λ k. Some k) total

  pub attribute_again : (n : ℕ) → n < width scheme → attribute_named scheme (field_of scheme n).0 ≡ Some n
  unfolding attribute_named
  attribute_again n lt =
      elim (cases_lt n (length scheme.keys)) [
        | inl key ↦ ap (λ a. found a.0) (as_key scheme n key) ∙ ap (λ o. or_behind o (length scheme.keys)
            (position (λ a. bytes_eq a.0 (get_or scheme.keys n no_attribute).0) scheme.others)) (key_again n key)
        | inr other ↦ let le : length scheme.keys ≤ n = omega (arith, other)
            in ap (λ a. found a.0) (as_other scheme n le) ∙ found_other n le lt
      ]

-- ---- variables, parameters and rows

-- what is declared, and which names are taken, are in order; a row may be named as a parameter or a variable
pub record HasNames (p : Context) : Type 0 where
  pub policy : IsPolicy p.policy
  pub schemes : AreSchemes p.schemes
  pub names : AreNames (names_in p.scope)
  pub row_apart : IsDistinct bytes_eq (map (λ r. r.name) p.scope.rows)
  pub apart : IsDistinct bytes_eq (map (λ x. x.0) p.scope.params ++ map (λ v. v.0) p.scope.vars)
  pub rows : AllByRecursion (λ r. r.relation < length p.schemes) p.scope.rows

module _ {T : Type 0} (xs : List (Name × T)) where
  pub name_is : (n : ℕ) (d : Name × T) → n < length xs → name_at xs n ≡ (get_or xs n d).0
  name_is n d within = name_there (λ x. x.0) xs d n within

pub pair_again : {T : Type 0} (xs : List (Name × T)) (n : ℕ) → IsDistinct bytes_eq (map (λ x. x.0) xs) → n < length xs
    → position (λ x. bytes_eq x.0 (name_at xs n)) xs ≡ Some n
pair_again [] n apart within = absurd (omega arith)
pair_again (x ∷ xs) n apart within =
    subst (λ name. position (λ y. bytes_eq y.0 name) (x ∷ xs) ≡ Some n) (sym (name_is (x ∷ xs) n x within))
    (found_again (λ y. y.0) (x ∷ xs) x apart n within)

pair_apart : {T : Type 0} (xs : List (Name × T)) (ys : List Name) (n : ℕ)
    → IsDistinct bytes_eq (map (λ x. x.0) xs ++ ys) → n < length xs → list_any (bytes_eq (name_at xs n)) ys ≡ false
pair_apart [] ys n apart within = absurd (omega arith)
pair_apart (x ∷ xs) ys n apart within =
    subst (λ name. list_any (bytes_eq name) ys ≡ false) (get_or-map (λ y. y.0) (x ∷ xs) n x [] within
    ∙ sym (name_is (x ∷ xs) n x within))
    (apart_behind bytes_eq (map (λ y. y.0) (x ∷ xs)) ys n [] apart
    (omega (arith, within, length-map (x ∷ xs) (λ y. y.0))))

module _ (p : Context) (h : HasNames p) where
  abbrev row_names : List Name
  row_names = map (λ r. r.name) p.scope.rows

  abbrev param_names : List Name
  param_names = map (λ x. x.0) p.scope.params

  abbrev var_names : List Name
  var_names = map (λ x. x.0) p.scope.vars

  inner_names : AreNames (param_names ++ var_names)
  inner_names = every_back (λ n. is_name n ≡ true) _ row_names (param_names ++ var_names) h.names refl

  pub variable_again : (n : ℕ) → n < length p.scope.vars → variable_named p (name_at p.scope.vars n) ≡ Some n
  unfolding variable_named
  variable_again n within = pair_again p.scope.vars n (distinct_behind bytes_eq param_names var_names h.apart) within

  pub variable_is_name : (n : ℕ) → n < length p.scope.vars → is_name (name_at p.scope.vars n) ≡ true
  variable_is_name n within = is_name_there (λ x. x.0) p.scope.vars
      (every_back (λ x. is_name x ≡ true) _ param_names var_names inner_names refl) n within

  pub parameter_again : (n : ℕ) → n < length p.scope.params → parameter_named p (name_at p.scope.params n) ≡ Some n
  unfolding parameter_named
  parameter_again n within = pair_again p.scope.params n (distinct_front bytes_eq param_names var_names h.apart) within

  pub parameter_is_name : (n : ℕ) → n < length p.scope.params → is_name (name_at p.scope.params n) ≡ true
  parameter_is_name n within = is_name_there (λ x. x.0) p.scope.params
      (every_front (λ x. is_name x ≡ true) _ param_names var_names inner_names refl) n within

  pub no_variable : (n : ℕ) → n < length p.scope.params → variable_named p (name_at p.scope.params n) ≡ None
  unfolding variable_named
  no_variable n within =
      let name = name_at p.scope.params n in
      none_of (position (λ v. bytes_eq v.0 name) p.scope.vars)
      (is_some-position (λ v. bytes_eq v.0 name) p.scope.vars ∙ sym (named_any (λ v. v.0) p.scope.vars name)
      ∙ pair_apart p.scope.params var_names n h.apart within)

  pub row_again : (n : ℕ) → n < length p.scope.rows → row_named p (row_at p.scope n).name ≡ Some n
  unfolding row_named
  row_again n within = found_again (λ r. r.name) p.scope.rows no_row h.row_apart n within

  pub row_is_name : (n : ℕ) → n < length p.scope.rows → is_name (row_at p.scope n).name ≡ true
  row_is_name n within = is_name_at (λ r. r.name) p.scope.rows no_row (every_front (λ x. is_name x ≡ true) _ row_names
      (param_names ++ var_names) h.names refl) n within

  pub row_valid : (n : ℕ) → n < length p.scope.rows → IsScheme (row_scheme p n)
  row_valid n within = scheme_is p.schemes h.schemes (row_at p.scope n).relation (All-from_recursion (λ r. r.relation
      < length p.schemes) p.scope.rows h.rows n no_row within)
