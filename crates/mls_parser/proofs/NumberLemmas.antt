-- The name of the number that a name stands for.
use Rattle.std.proofs.Common.{◌≡◌, ℕ, ◌+◌, ◌-◌, nat_lt, true, false, List, [], ◌∷◌, length, get_or, Option, Some, None, option_map, slice_get, refl, sym, subst, ◌∙◌, arith, unwrap_or, position, bytes_eq}
use Rattle.std.proofs.lemmas.Bool.Decides.{nat_tests}
use Rattle.mls_lattice.specs.Canon.{label_name}
use Rattle.mls_lattice.specs.Policy.{Name, Policy}
use Rattle.mls_scheme.specs.Scheme.{Scheme, Schemes, scheme_of, other_of, no_attribute}
use Rattle.mls_lattice.proofs.NamedLemmas.{name_there, named_there, label_found}
use Rattle.mls_scheme.proofs.SchemeNameLemmas.{relation_found}
use Rattle.mls_translang.specs.Kinds.{field_of}
use Rattle.mls_translang.specs.Scope.{row_at, no_row}
use Rattle.mls_translang.specs.Tokens.{Context, name_at}
use Rattle.mls_parser.specs.Names.{label_named, relation_named, variable_named, parameter_named, row_named, or_behind, attribute_named, other_named, numbered}
use Rattle.mls_parser.specs.Noted.{known}
use Rattle.mls_parser.proofs.FaultLemmas.{is_known}

-- what is found has the name
got_there : {X : Type 0} (name_of : X → Name) (xs : List X) (n : Name) (i : ℕ) (d : X)
    → position (λ x. bytes_eq (name_of x) n) xs ≡ Some i → unwrap_or (option_map name_of (slice_get xs i)) [] ≡ n
got_there name_of xs n i d e = let there = named_there name_of xs d n i e in name_there name_of xs d i there.0 ∙ there.1

pub label_there : (policy : Policy) (n : Name) (i : ℕ) → label_named policy n ≡ Some i → label_name policy.labels i ≡ n
unfolding label_named
label_there policy n i e = (label_found policy.labels n i e).1

pub relation_there : (schemes : Schemes) (n : Name) (i : ℕ) → relation_named schemes n ≡ Some i
    → (scheme_of schemes i).name ≡ n
unfolding relation_named
relation_there schemes n i e = (relation_found schemes n i e).1

pub other_there : (scheme : Scheme) (n : Name) (i : ℕ) → other_named scheme n ≡ Some i → (other_of scheme i).0 ≡ n
unfolding other_named
other_there scheme n i e = (named_there (λ a. a.0) scheme.others no_attribute n i e).1

module _ (p : Context) (n : Name) where
  pub variable_there : (i : ℕ) → variable_named p n ≡ Some i → name_at p.scope.vars i ≡ n
  unfolding variable_named
  variable_there i e = go p.scope.vars e
    where
      go : {T : Type 0} (xs : List (Name × T)) → position (λ v. bytes_eq v.0 n) xs ≡ Some i → name_at xs i ≡ n
      go [] e = absurd cc
      go (x ∷ xs) e = got_there (λ v. v.0) (x ∷ xs) n i x e

  pub parameter_there : (i : ℕ) → parameter_named p n ≡ Some i → name_at p.scope.params i ≡ n
  unfolding parameter_named
  parameter_there i e = go p.scope.params e
    where
      go : {T : Type 0} (xs : List (Name × T)) → position (λ v. bytes_eq v.0 n) xs ≡ Some i → name_at xs i ≡ n
      go [] e = absurd cc
      go (x ∷ xs) e = got_there (λ v. v.0) (x ∷ xs) n i x e

  pub row_there : (i : ℕ) → row_named p n ≡ Some i → (row_at p.scope i).name ≡ n
  unfolding row_named
  row_there i e = (named_there (λ r. r.name) p.scope.rows no_row n i e).1

-- ---- attributes of rows

behind_there : (scheme : Scheme) (n : Name) (a b : Option ℕ) (i : ℕ) → position (λ x. bytes_eq x.0 n) scheme.keys ≡ a
    → position (λ x. bytes_eq x.0 n) scheme.others ≡ b
    → or_behind a (length scheme.keys) b ≡ Some i → (field_of scheme i).0 ≡ n
behind_there scheme n (Some j) b i is other e =
    let same : j ≡ i = cc in
    let t = named_there (λ x. x.0) scheme.keys no_attribute n j is in
    let here : nat_lt i (length scheme.keys) ≡ true = grind (arith, nat_tests, t.0, same) in
    rw here (subst (λ k. (get_or scheme.keys k no_attribute).0 ≡ n) same t.1)
behind_there scheme n None (Some j) i is other e =
    let same : length scheme.keys + j ≡ i = cc in
    let t = named_there (λ x. x.0) scheme.others no_attribute n j other in
    let there : nat_lt i (length scheme.keys) ≡ false = grind (arith, nat_tests, same) in
    let back : j ≡ i - length scheme.keys = omega (arith, same) in
    rw there (subst (λ k. (get_or scheme.others k no_attribute).0 ≡ n) back t.1)
behind_there scheme n None None i is other e = absurd cc

pub attribute_there : (scheme : Scheme) (n : Name) (i : ℕ) → attribute_named scheme n ≡ Some i → (field_of scheme i).0
    ≡ n
unfolding attribute_named
attribute_there scheme n i e = behind_there scheme n (position (λ x. bytes_eq x.0 n) scheme.keys)
    (position (λ x. bytes_eq x.0 n) scheme.others) i refl refl e

-- ---- known names

-- where a name stands for a number, what holds of the number holds
pub of_known : (o : Option ℕ) (at : ℕ) (F : ℕ → Type 0) → known o at ≡ [] → ((i : ℕ) → o ≡ Some i → F i)
    → F (numbered o)
of_known o at F h f = let i = is_known o at h in subst (λ m. F (numbered m)) (sym i.1) (f i.0 i.1)

pub label_spelled : (policy : Policy) (n : Name) (at : ℕ) → known (label_named policy n) at ≡ []
    → label_name policy.labels (numbered (label_named policy n)) ≡ n
label_spelled policy n at h = of_known (label_named policy n) at (λ i. label_name policy.labels i ≡ n) h
    (label_there policy n)

pub relation_spelled : (schemes : Schemes) (n : Name) (at : ℕ) → known (relation_named schemes n) at ≡ []
    → (scheme_of schemes (numbered (relation_named schemes n))).name ≡ n
relation_spelled schemes n at h = of_known (relation_named schemes n) at (λ i. (scheme_of schemes i).name ≡ n) h
    (relation_there schemes n)
