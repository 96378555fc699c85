-- What an expression without faults is and gives.
use Rattle.std.proofs.Common.{◌≡◌, ℕ, ◌+◌, ◌^◌, ◌<◌, ◌≤◌, nat_lt, Bool, true, false, ◌&&◌, ◌||◌, List, [], length, get_or, Option, Some, None, option_map, refl, sym, ap, subst, ◌∙◌, arith, is_some, position, bytes_eq}
use Rattle.std.proofs.lemmas.Bool.{and_parts}
use Rattle.std.proofs.lemmas.Bool.Decides.{nat_tests}
use Rattle.std.proofs.lemmas.List.Quantifiers.{position-Some}
use Rattle.std.proofs.lemmas.Option.{slice_get-get_or}
use Rattle.mls_lattice.specs.Policy.{Name}
use Rattle.mls_scheme.specs.declared.value.Kind.{Kind}
use Rattle.mls_scheme.specs.declared.value.Kind.TheVariants as kinds
use Rattle.mls_scheme.specs.declared.value.Value.{Value}
use Rattle.mls_scheme.specs.declared.value.Value.TheVariants as values
use Rattle.mls_scheme.specs.Value.{is_kind, kind_of}
use Rattle.mls_scheme.specs.Scheme.{Attribute, Scheme, no_attribute}
use Rattle.mls_scheme.proofs.KindLemmas.{signed-from, text-from}
use Rattle.mls_tokens.specs.Passing.{PlacedName}
use Rattle.mls_translang.specs.declared.operator.Operator.{Operator}
use Rattle.mls_translang.specs.declared.operator.Operator.TheVariants as operators
use Rattle.mls_translang.specs.declared.tx.Parameter.{Parameter}
use Rattle.mls_translang.specs.Tree as core
use Rattle.mls_translang.specs.Scope.{kind_of_var, kind_of_param}
use Rattle.mls_translang.specs.Tx.{IsLiteral, HasOwn}
use Rattle.mls_translang.specs.Fits.{width, ExprFits}
use Rattle.mls_translang.specs.Kinds.{Of, Truth, HasSort}
use Rattle.mls_translang.specs.Tokens.{Context}
use Rattle.mls_parser.specs.declared.names.Referent.TheVariants.{Variable, Parameter as Param}
use Rattle.mls_parser.specs.declared.inferred.Inferred.{Inferred}
use Rattle.mls_parser.specs.declared.inferred.Inferred.TheVariants as inferred
use Rattle.mls_parser.specs.Names.{variable_named, parameter_named, row_named, or_behind, attribute_named, numbered, referent_or, row_scheme}
use Rattle.mls_parser.specs.Infer.{may_be, may_be_truth, may_be_value, both, operands_fit, given_by_operator, of_kind, of_referent, of_attribute}
use Rattle.mls_parser.specs.ReadExpr.{refer, field_faults, field_given}
use Rattle.mls_parser.proofs.FaultLemmas.{holds}

-- ---- what is known of an expression holds

abbrev pub HasInferred : Context → Inferred → core.Expr → Type 0
HasInferred p (inferred.Value k) e = HasSort p.schemes p.scope (Of k) e
HasInferred p inferred.Truth e = HasSort p.schemes p.scope Truth e
HasInferred p inferred.Null e = (k : Kind) → HasSort p.schemes p.scope (Of k) e
HasInferred p inferred.Unknown e = ⊥

pub record IsSound (p : Context) (given : Inferred) (e : core.Expr) : Type 0 where
  pub own : HasOwn p.scope e
  pub fits : ExprFits p.schemes p.scope e
  pub gives : HasInferred p given e

module _ (p : Context) where
  pub as_kind : (given : Inferred) (k : Kind) (e : core.Expr) → may_be given k ≡ true → HasInferred p given e
      → HasSort p.schemes p.scope (Of k) e
  as_kind (inferred.Value kinds.Int) kinds.Int e h g = g
  as_kind (inferred.Value kinds.Text) kinds.Text e h g = g
  as_kind inferred.Null k e h g = g k
  as_kind inferred.Unknown k e h g = absurd g
  as_kind _ _ e h g = absurd cc

  pub as_truth : (given : Inferred) (e : core.Expr) → may_be_truth given ≡ true → HasInferred p given e
      → HasSort p.schemes p.scope Truth e
  as_truth (inferred.Value j) e h g = absurd cc
  as_truth inferred.Truth e h g = g
  as_truth inferred.Null e h g = absurd cc
  as_truth inferred.Unknown e h g = absurd g

  pub as_value : (given : Inferred) (e : core.Expr) → may_be_value given ≡ true → HasInferred p given e → (k : Kind)
      × HasSort p.schemes p.scope (Of k) e
  as_value (inferred.Value j) e h g = (j, g)
  as_value inferred.Truth e h g = absurd cc
  as_value inferred.Null e h g = (kinds.Int, g kinds.Int)
  as_value inferred.Unknown e h g = absurd g

  -- ---- operators

  as_both : (k : Kind) (a b : Inferred) (x y : core.Expr) → both k a b ≡ true → HasInferred p a x → HasInferred p b y
      → HasSort p.schemes p.scope (Of k) x × HasSort p.schemes p.scope (Of k) y
  as_both k a b x y h g q = let t = and_parts (may_be a k) (may_be b k) h in (as_kind a k x t.0 g, as_kind b k y t.1 q)

  as_truths : (a b : Inferred) (x y : core.Expr) → (may_be_truth a && may_be_truth b) ≡ true → HasInferred p a x
      → HasInferred p b y
      → HasSort p.schemes p.scope Truth x × HasSort p.schemes p.scope Truth y
  as_truths a b x y h g q = let t = and_parts (may_be_truth a) (may_be_truth b) h
      in (as_truth a x t.0 g, as_truth b y t.1 q)

  some_both : (a b : Inferred) (x y : core.Expr) → (both kinds.Int a b || both kinds.Text a b) ≡ true
      → HasInferred p a x → HasInferred p b y
      → (k : Kind) × (HasSort p.schemes p.scope (Of k) x × HasSort p.schemes p.scope (Of k) y)
  some_both a b x y h g q = go (both kinds.Int a b) refl h
    where
      go : (t : Bool) → both kinds.Int a b ≡ t → (t || both kinds.Text a b) ≡ true → (k : Kind)
          × (HasSort p.schemes p.scope (Of k) x × HasSort p.schemes p.scope (Of k) y)
      go true is e = (kinds.Int, as_both kinds.Int a b x y is g q)
      go false is e = (kinds.Text, as_both kinds.Text a b x y e g q)

  pub operator_gives : (op : Operator) (a b : Inferred) (x y : core.Expr) → operands_fit op a b ≡ true
      → HasInferred p a x → HasInferred p b y → HasInferred p (given_by_operator op) (core.Op op x y)
  operator_gives operators.Plus a b x y h g q = (refl, as_both kinds.Int a b x y h g q)
  operator_gives operators.Minus a b x y h g q = (refl, as_both kinds.Int a b x y h g q)
  operator_gives operators.Times a b x y h g q = (refl, as_both kinds.Int a b x y h g q)
  operator_gives operators.And a b x y h g q = (refl, as_truths a b x y h g q)
  operator_gives operators.Or a b x y h g q = (refl, as_truths a b x y h g q)
  operator_gives _ a b x y h g q = (refl, some_both a b x y h g q)

  -- ---- names

  abbrev no_name : {T : Type 0} → T → Name × T
  no_name x = ([], x)

  no_param : Parameter
  no_param = record { kind = kinds.Int; label = 0 }

  pub variable_within : (name : Name) (i : ℕ) → variable_named p name ≡ Some i → i < length p.scope.vars
  unfolding variable_named
  variable_within name i e = (position-Some _ p.scope.vars i (no_name kinds.Int) e).0

  pub parameter_within : (name : Name) (i : ℕ) → parameter_named p name ≡ Some i → i < length p.scope.params
  unfolding parameter_named
  parameter_within name i e = (position-Some _ p.scope.params i (no_name no_param) e).0

  pub row_within : (name : Name) (i : ℕ) → row_named p name ≡ Some i → i < length p.scope.rows
  unfolding row_named
  row_within name i e = (position-Some _ p.scope.rows i (record { name = []; relation = 0 }) e).0

  pub variable_kind : (i : ℕ) → i < length p.scope.vars → (k : Kind) × (kind_of_var p.scope i ≡ Some k)
  variable_kind i lt = (
    (get_or p.scope.vars i (no_name kinds.Int)).1,
    ap (option_map (λ v. v.1))
        (slice_get-get_or p.scope.vars i (no_name kinds.Int) lt),
  )

  pub parameter_kind : (i : ℕ) → i < length p.scope.params → (k : Kind) × (kind_of_param p.scope i ≡ Some k)
  parameter_kind i lt = (
    (get_or p.scope.params i (no_name no_param)).1.kind,
    ap (option_map (λ v. v.1.kind))
        (slice_get-get_or p.scope.params i (no_name no_param) lt),
  )

  variable_sound : (i : ℕ) → i < length p.scope.vars → IsSound p (of_referent p (Some (Variable i)))
      (refer (Some (Variable i)))
  variable_sound i lt =
      let k = variable_kind i lt in
      let F : Option Kind → Type 0 = λ o. HasInferred p (of_kind o) (core.Var i) in
      record { own = lt; fits = tt; gives = subst F (sym k.1) (k.0, refl, k.1) }

  parameter_sound : (i : ℕ) → i < length p.scope.params → IsSound p (of_referent p (Some (Param i)))
      (refer (Some (Param i)))
  parameter_sound i lt =
      let k = parameter_kind i lt in
      let F : Option Kind → Type 0 = λ o. HasInferred p (of_kind o) (core.Param i) in
      record { own = lt; fits = tt; gives = subst F (sym k.1) (k.0, refl, k.1) }

  pub name_sound : (name : Name) (a b : Option ℕ) → variable_named p name ≡ a → parameter_named p name ≡ b
      → is_some (referent_or a b) ≡ true
      → IsSound p (of_referent p (referent_or a b)) (refer (referent_or a b))
  name_sound name (Some i) b is other e = variable_sound i (variable_within name i is)
  name_sound name None (Some i) is other e = parameter_sound i (parameter_within name i other)
  name_sound name None None is other e = absurd cc

  -- ---- fields

  behind_within : (keys others : List Attribute) (name : Name) (a b : Option ℕ) (i : ℕ)
      → position (λ x. bytes_eq x.0 name) keys ≡ a → position (λ x. bytes_eq x.0 name) others ≡ b
      → or_behind a (length keys) b ≡ Some i → i < length keys + length others
  behind_within keys others name (Some j) b i is other e =
      let same : j ≡ i = cc in
      let lt = (position-Some _ keys j no_attribute is).0 in
      omega arith
  behind_within keys others name None (Some j) i is other e =
      let same : length keys + j ≡ i = cc in
      let lt = (position-Some _ others j no_attribute other).0 in
      omega arith
  behind_within keys others name None None i is other e = absurd cc

  pub attribute_within : (scheme : Scheme) (name : Name) (i : ℕ) → attribute_named scheme name ≡ Some i
      → i < width scheme
  unfolding attribute_named
  attribute_within scheme name i e =
      behind_within scheme.keys scheme.others name (position (λ x. bytes_eq x.0 name) scheme.keys)
      (position (λ x. bytes_eq x.0 name) scheme.others) i refl refl e

  attribute_sound : (d : ℕ) (name : Name) → d < length p.scope.rows → (o : Option ℕ)
      → attribute_named (row_scheme p d) name ≡ o → is_some o ≡ true
      → IsSound p (of_attribute (row_scheme p d) o) (core.Field d (numbered o))
  attribute_sound d name lt None is e = absurd cc
  attribute_sound d name lt (Some i) is e = record {
    own = lt;
    fits = attribute_within (row_scheme p d) name i is;
    gives = refl;
  }

  pub field_sound : (row attribute : PlacedName) (o : Option ℕ) → row_named p row.0 ≡ o → field_faults p row attribute o
      ≡ []
      → IsSound p (field_given p row attribute o).gives (field_given p row attribute o).expr
  field_sound row attribute None is e = absurd cc
  field_sound row attribute (Some d) is e =
      attribute_sound d attribute.0 (row_within row.0 d is) (attribute_named (row_scheme p d) attribute.0) refl
      (holds (is_some (attribute_named (row_scheme p d) attribute.0)) attribute.1 _ e)

  pub literal_kind : (v : Value) → IsLiteral v → is_kind v (kind_of v) ≡ true
  literal_kind (values.Int n) h = signed-from n h
  literal_kind (values.Text s) h = sym (text-from s h.utf8) ∙ (let lt : length s ≤ 8192 = h.short
      in short (length s) lt)
    where
      short : (n : ℕ) → n ≤ 8192 → nat_lt n (2 ^ 32) ≡ true
      short n h = grind (arith, nat_tests)
