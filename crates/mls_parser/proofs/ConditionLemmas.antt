-- Attributes of a row by their names alone.
use Rattle.std.proofs.Common.{◌≡◌, ℕ, zero, suc, ◌+◌, ◌-◌, ◌<◌, ◌≤◌, false, List, [], ◌∷◌, ◌++◌, length, map, get_or, take, slice_get, Some, option_map, refl, sym, ap, ◌∙◌, subst, arith, inl, inr, length-append, append_assoc, drop, bytes_eq, take-append-drop}
use Rattle.std.specs.List.{IsDistinct}
use Rattle.std.proofs.lemmas.Bool.{cases_lt}
use Rattle.std.proofs.lemmas.List.{length-map, map-append, drop_more, take_more}
use Rattle.std.specs.Cmp.Lexicographic.{nat_list_eq_equiv}
use Rattle.mls_lattice.specs.Policy.{Name, Policy, IsPolicy, AreNames}
use Rattle.mls_scheme.specs.declared.value.Kind.{Kind}
use Rattle.mls_scheme.specs.declared.attributes.Column.{Column}
use Rattle.mls_scheme.specs.Scheme.{column_of, Attribute, Scheme, Schemes, IsScheme, AreSchemes, scheme_of, no_attribute}
use Rattle.mls_scheme.proofs.CanonLemmas.{attribute_there}
use Rattle.mls_scheme.proofs.SchemeNameLemmas.{scheme_is}
use Rattle.mls_translang.specs.declared.operator.Operator.{Operator}
use Rattle.mls_translang.specs.declared.operator.Operator.TheVariants as operators
use Rattle.mls_translang.specs.Fits.{width, ExprFits, IsConditionOf, row_scope}
use Rattle.mls_translang.specs.Kinds.{Sort, Of, Truth, OperatorGives, HasSort, field_of}
use Rattle.mls_scheme.specs.Named.{has_name}
use Rattle.mls_translang.specs.Tree.{Expr, Known, Var, Field, No, Op}
use Rattle.mls_translang.specs.Tx.{HasOwn}
use Rattle.mls_translang.proofs.FieldLemmas.{as_key, as_other}
use Rattle.mls_parser.specs.Condition.{TellsCondition}
use Rattle.mls_parser.specs.ReadCondition.{attribute_var, row_vars, written_scope, written_place, as_fields}
use Rattle.mls_parser.proofs.FoundLemmas.{HasNames, named_any, new_behind, distinct_front}

-- ---- variables

pub row_width : (scheme : Scheme) → length (row_vars scheme) ≡ width scheme
row_width scheme = length-map (scheme.keys ++ scheme.others) attribute_var ∙ length-append scheme.keys scheme.others

-- the attribute of a number, of one list and of two
one_kind : (xs : List Attribute) (i : ℕ) (k : Kind) → option_map (λ v. v.1) (slice_get (map attribute_var xs) i)
    ≡ Some k → (get_or xs i no_attribute).1.kind ≡ k
one_kind [] i k e = absurd cc
one_kind (a ∷ rest) zero k e = let same : Some a.1.kind ≡ Some k = e in cc
one_kind (a ∷ rest) (suc i) k e = one_kind rest i k e

kind_at : (keys others : List Attribute) (i : ℕ) (k : Kind)
    → option_map (λ v. v.1) (slice_get (map attribute_var (keys ++ others)) i) ≡ Some k
    → ((i < length keys) → (get_or keys i no_attribute).1.kind ≡ k) × ((length keys ≤ i)
    → (get_or others (i - length keys) no_attribute).1.kind ≡ k)
kind_at [] others i k e =
    let none : i - length {A = Attribute} [] ≡ i = omega arith in (
      λ lt. absurd (omega (arith, lt)),
      λ le. ap (λ (n : ℕ). (get_or others n no_attribute).1.kind) none
          ∙ one_kind others i k e,
    )
kind_at (a ∷ rest) others zero k e = (
  λ lt. let same : Some a.1.kind ≡ Some k = e in cc,
  λ le. absurd (omega (arith, le)),
)
kind_at (a ∷ rest) others (suc i) k e =
    let h = kind_at rest others i k e in (
      λ lt. h.0 (omega (arith, lt)),
      λ le.
          let less : suc i - length (a ∷ rest) ≡ i - length rest = omega arith in
          ap (λ (n : ℕ). (get_or others n no_attribute).1.kind) less ∙ h.1 (omega (arith, le)),
    )

var_kind : (scheme : Scheme) (i : ℕ) (k : Kind) → option_map (λ v. v.1) (slice_get (row_vars scheme) i) ≡ Some k
    → k ≡ (field_of scheme i).1.kind
var_kind scheme i k e =
    let h = kind_at scheme.keys scheme.others i k e in
    elim (cases_lt i (length scheme.keys)) [
      | inl key ↦ sym (ap (λ (a : Attribute). a.1.kind) (as_key scheme i key) ∙ h.0 key)
      | inr other ↦ let le : length scheme.keys ≤ i = omega (arith, other)
          in sym (ap (λ (a : Attribute). a.1.kind) (as_other scheme i le) ∙ h.1 le)
    ]

-- ---- they are fields of the row

operands_made : (op : Operator) (t : Sort) (P Q : Sort → Type 0) → ((u : Sort) → P u → Q u) → OperatorGives op t P
    → OperatorGives op t Q
operands_made operators.Plus t P Q made h = (h.0, made (Of _) h.1)
operands_made operators.Minus t P Q made h = (h.0, made (Of _) h.1)
operands_made operators.Times t P Q made h = (h.0, made (Of _) h.1)
operands_made operators.And t P Q made h = (h.0, made Truth h.1)
operands_made operators.Or t P Q made h = (h.0, made Truth h.1)
operands_made _ t P Q made h = (h.0, (h.1.0, made (Of h.1.0) h.1.1))

module _ (schemes : Schemes) (relation : ℕ) where
  abbrev scheme : Scheme
  scheme = scheme_of schemes relation

  fields_own : (e : Expr) → HasOwn (written_scope schemes relation) e → HasOwn (row_scope schemes relation)
      (as_fields e)
  fields_own (Var i) h = omega arith
  fields_own (No e) h = fields_own e h
  fields_own (Op op left right) h = (fields_own left h.0, fields_own right h.1)
  fields_own _ h = h

  fields_fit : (e : Expr) → HasOwn (written_scope schemes relation) e
      → ExprFits schemes (written_scope schemes relation) e → ExprFits schemes (row_scope schemes relation)
      (as_fields e)
  fields_fit (Var i) h f = subst (λ n. i < n) (row_width scheme) h
  fields_fit (Field d i) h f = f
  fields_fit (No e) h f = fields_fit e h f
  fields_fit (Op op left right) h f = (fields_fit left h.0 f.0, fields_fit right h.1 f.1)
  fields_fit _ h f = tt

  fields_sort : (e : Expr) (t : Sort) → HasSort schemes (written_scope schemes relation) t e
      → HasSort schemes (row_scope schemes relation) t (as_fields e)
  fields_sort (Known v) (Of k) h = h
  fields_sort (Var i) t h = h.1 ∙ ap (λ k. Of k) (var_kind scheme i h.0 h.2)
  fields_sort (No e) t h = (h.0, fields_sort e Truth h.1)
  fields_sort (Op op left right) t h =
      operands_made op t (λ u. HasSort schemes (written_scope schemes relation) u left
      × HasSort schemes (written_scope schemes relation) u right)
      (λ u. HasSort schemes (row_scope schemes relation) u (as_fields left)
      × HasSort schemes (row_scope schemes relation) u (as_fields right))
      (λ u both. (fields_sort left u both.0, fields_sort right u both.1)) h
  fields_sort _ _ h = h

  -- what is told is a condition of the row
  pub told_of_row : (policy : Policy) (test : Expr) (ts : List _) → TellsCondition policy schemes relation test ts
      → IsConditionOf schemes relation test
  told_of_row policy test ts h =
      subst (IsConditionOf schemes relation) (sym h.is)
      (record {
        own = fields_own h.written h.own;
        fits = fields_fit h.written h.own h.fits;
        truth =
            fields_sort h.written Truth h.truth;
      })

-- ---- their names

vars_named : (xs : List Attribute) → map (λ v. v.0) (map attribute_var xs) ≡ map (λ a. a.0) xs
vars_named [] = refl
vars_named (a ∷ rest) = ap (λ ns. a.0 ∷ ns) (vars_named rest)

-- the names of a relation, of its attributes, and of policy and schemes are in order
pub written_names : (policy : Policy) (schemes : Schemes) → IsPolicy policy → AreSchemes schemes → (relation : ℕ)
    → relation < length schemes → HasNames (written_place policy schemes relation)
unfolding IsDistinct
written_names policy schemes is_policy valid relation within =
    let scheme = scheme_of schemes relation in
    let h = scheme_is schemes valid relation within in
    let same = sym (vars_named (scheme.keys ++ scheme.others)) in
    record {
      policy = is_policy;
      schemes = valid;
      names = (h.named, subst AreNames same h.names);
      row_apart = (tt, tt);
      apart = subst (IsDistinct bytes_eq) same h.distinct;
      rows = (within, tt);
    }

-- ---- one attribute more

module _ (front : List (Name × Kind)) (attributes : List Attribute) (i : ℕ) (name : Name) (c : Column)
    (named : option_map (λ a. a.0) (slice_get attributes i) ≡ Some name) (said : option_map column_of
    (slice_get attributes i) ≡ Some c) where
  abbrev next : Attribute
  next = (name, c)

  abbrev pushed : List (Name × Kind)
  pushed = front ++ map attribute_var (take i attributes)

  there : (next ≡ get_or attributes i next) × (i < length attributes)
  there = attribute_there attributes i name c named said

  -- it has no name of one before
  pub var_new : IsDistinct bytes_eq (map (λ v. v.0) (front ++ map attribute_var attributes)) → has_name pushed name
      ≡ false
  var_new apart =
      let rest = map attribute_var (drop (i + 1) attributes) in
      let here : attributes ≡ take i attributes ++ next ∷ drop (i + 1) attributes =
      sym (take-append-drop i attributes) ∙ ap (λ xs. take i attributes ++ xs) (drop_more attributes i next there.1
      ∙ ap (λ x. x ∷ drop (i + 1) attributes) (sym there.0)) in
      let all : front ++ map attribute_var attributes ≡ pushed ++ (name, c.kind) ∷ rest =
      ap (λ xs. front ++ map attribute_var xs) here ∙ ap (λ vs. front ++ vs) (map-append attribute_var
      (take i attributes) (next ∷ drop (i + 1) attributes))
      ∙ sym (append_assoc front (map attribute_var (take i attributes)) ((name, c.kind) ∷ rest)) in
      let parts : map (λ v. v.0) (front ++ map attribute_var attributes) ≡ map (λ v. v.0) pushed ++ name
      ∷ map (λ v. v.0) rest =
      ap (map (λ (v : Name × Kind). v.0)) all ∙ map-append (λ (v : Name × Kind). v.0) pushed ((name, c.kind) ∷ rest) in
      sym (named_any (λ (v : Name × Kind). v.0) pushed name) ∙ new_behind bytes_eq nat_list_eq_equiv
      (map (λ v. v.0) pushed) name (map (λ v. v.0) rest) (subst (IsDistinct bytes_eq) parts apart)

  pub var_more : pushed ++ (name, c.kind) ∷ [] ≡ front ++ map attribute_var (take (i + 1) attributes)
  var_more =
      append_assoc front (map attribute_var (take i attributes)) ((name, c.kind) ∷ [])
      ∙ ap (λ vs. front ++ vs) (sym (map-append attribute_var (take i attributes) (next ∷ [])))
      ∙ ap (λ (x : Attribute). front ++ map attribute_var (take i attributes ++ x ∷ [])) there.0
      ∙ ap (λ xs. front ++ map attribute_var xs) (sym (take_more attributes i next there.1))

-- ---- those of the key and the others

vars_apart : (scheme : Scheme) → IsScheme scheme → IsDistinct bytes_eq (map (λ v. v.0) (map attribute_var scheme.keys
    ++ map attribute_var scheme.others))
vars_apart scheme h =
    subst (λ vs. IsDistinct bytes_eq (map (λ v. v.0) vs)) (map-append attribute_var scheme.keys scheme.others)
    (subst (IsDistinct bytes_eq) (sym (vars_named (scheme.keys ++ scheme.others))) h.distinct)

pub keys_apart : (scheme : Scheme) (vars : List (Name × Kind)) (ks : List Attribute) → IsScheme scheme → vars ≡ []
    → ks ≡ scheme.keys → IsDistinct bytes_eq (map (λ v. v.0) (vars ++ map attribute_var ks))
keys_apart scheme vars ks h e f =
    subst (λ vs. IsDistinct bytes_eq (map (λ v. v.0) vs)) (sym (λ i. e i ++ map attribute_var (f i)))
    (distinct_front bytes_eq (map (λ v. v.0) (map attribute_var scheme.keys))
    (map (λ v. v.0) (map attribute_var scheme.others))
    (subst (IsDistinct bytes_eq) (map-append (λ (v : Name × Kind). v.0) (map attribute_var scheme.keys)
    (map attribute_var scheme.others)) (vars_apart scheme h)))

pub others_apart : (scheme : Scheme) (first vars : List (Name × Kind)) (ks os : List Attribute) → IsScheme scheme
    → first ≡ [] → vars ≡ first ++ map attribute_var ks → ks ≡ scheme.keys → os ≡ scheme.others
    → IsDistinct bytes_eq (map (λ v. v.0) (vars ++ map attribute_var os))
others_apart scheme first vars ks os h e f g k =
    subst (λ vs. IsDistinct bytes_eq (map (λ v. v.0) vs)) (sym (λ i. (f ∙ (λ j. e j ++ map attribute_var (g j))) i
    ++ map attribute_var (k i))) (vars_apart scheme h)

pub ruleset vars_steps = (keys_apart, others_apart)
