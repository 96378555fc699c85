-- The printed text of a transaction is its tokens.
use Rattle.std.proofs.Common.{◌≡◌, ℕ, true, List, [], ◌∷◌, ◌++◌, map, codes, refl, arith, flat_map}
use Rattle.std.proofs.Recursive.{every_front, every_back}
use Rattle.std.specs.List.{AllByRecursion}
use Rattle.mls_lattice.specs.Name.{is_name}
use Rattle.mls_lattice.specs.Policy.{Name, AreNames, Policy, IsPolicy}
use Rattle.mls_scheme.specs.declared.value.Kind.{Kind}
use Rattle.mls_scheme.specs.declared.value.Kind.TheVariants as kinds
use Rattle.mls_scheme.specs.Scheme.{Schemes, AreSchemes, scheme_of}
use Rattle.mls_lattice.proofs.NamedLemmas.{label_is_name, is_name_there}
use Rattle.mls_scheme.proofs.SchemeNameLemmas.{scheme_is, other_is_name}
use Rattle.mls_tokens.specs.declared.token.Token.TheVariants.{Sign}
use Rattle.mls_tokens.specs.declared.sign.Sign.TheVariants as sign
use Rattle.mls_translang.specs.declared.tx.Parameter.{Parameter}
use Rattle.mls_translang.specs.Tx.{Tx, IsTx}
use Rattle.mls_translang.specs.Fits.{IsLabel, IsReadUnder}
use Rattle.mls_tokens.specs.Text.{comma_tokens, separated}
use Rattle.mls_translang.specs.Tokens.{Context, kind_token, param_tokens, params_tokens, var_tokens, heading_tokens, braced, block_tokens, outermost, tokens_of}
use Rattle.mls_translang.specs.ReadsBack.{PrintsAreTokens}
use Rattle.mls_translang.proofs.FieldLemmas.{has_attribute, attribute_is_name}
use Rattle.mls_translang.proofs.SpelledLemmas.{HasNames, AreSpelled, both, named, word_spelled, braced_spelled, block_spelled}
use Rattle.mls_translang.proofs.ReadsBackLemmas.{layouts_are_tokens}

-- ---- a transaction

module _ (policy : Policy) (schemes : Schemes) (tx : Tx) (of_policy : IsPolicy policy) (of_schemes : AreSchemes schemes)
    (is : IsTx tx) (read : IsReadUnder policy schemes tx) where
  abbrev p : Context
  p = outermost policy schemes tx

  own_names : AreNames (map (λ x. x.0) tx.params) × AreNames (map (λ x. x.0) tx.vars)
  own_names = (
    every_front (λ name. is_name name ≡ true) _ (map (λ x. x.0) tx.params) (map (λ x. x.0) tx.vars) is.names refl,
    every_back (λ name. is_name name ≡ true) _ (map (λ x. x.0) tx.params) (map (λ x. x.0) tx.vars) is.names refl,
  )

  has_names : HasNames p
  has_names = record {
    label = label_is_name policy of_policy;
    relation = λ r within. (scheme_is schemes of_schemes r within).named;
    field = λ r i within. attribute_is_name (scheme_of schemes r) (scheme_is schemes of_schemes r
        (has_attribute schemes r i within)) i within;
    other = λ r i within. other_is_name (scheme_of schemes r) (scheme_is schemes of_schemes r (has_attribute schemes r i
        (omega arith))) i within;
    var = is_name_there (λ x. x.0) tx.vars own_names.1;
    param = is_name_there (λ x. x.0) tx.params own_names.0;
    row = λ d within. absurd (omega arith);
  }

kind_spelled : (k : Kind) → AreSpelled (kind_token k ∷ [])
kind_spelled kinds.Int = (word_spelled (codes "int") refl refl refl, tt)
kind_spelled kinds.Text = (word_spelled (codes "text") refl refl refl, tt)

var_spelled : (x : Name × Kind) → is_name x.0 ≡ true → AreSpelled (var_tokens x)
var_spelled x h = (word_spelled (codes "var") refl refl refl, (named x.0 h, (refl, ((kind_spelled x.1).0, (refl, tt)))))

vars_spelled : (xs : List (Name × Kind)) → AreNames (map (λ x. x.0) xs) → AreSpelled (flat_map var_tokens xs)
vars_spelled [] h = tt
vars_spelled (x ∷ xs) h = both (var_tokens x) _ (var_spelled x h.0) (vars_spelled xs h.1)

module _ (p : Context) (h : HasNames p) where
  param_spelled : (x : Name × Parameter) → is_name x.0 ≡ true → IsLabel p.policy x.1.label
      → AreSpelled (param_tokens p x)
  param_spelled x name label = (
    named x.0 name,
    (
      refl,
      (
        (kind_spelled x.1.kind).0,
        (
          word_spelled (codes "at") refl refl refl,
          (named _ (h.label x.1.label label), tt),
        ),
      ),
    ),
  )

  params_rest : (xs : List (Name × Parameter)) → AreNames (map (λ x. x.0) xs)
      → AllByRecursion (λ x. IsLabel p.policy x.1.label) xs
      → AreSpelled (flat_map (comma_tokens (param_tokens p)) xs)
  params_rest [] names labels = tt
  params_rest (x ∷ xs) names labels = (
    refl,
    both (param_tokens p x) _ (param_spelled x names.0 labels.0)
        (params_rest xs names.1 labels.1),
  )

  params_spelled : (xs : List (Name × Parameter)) → AreNames (map (λ x. x.0) xs)
      → AllByRecursion (λ x. IsLabel p.policy x.1.label) xs
      → AreSpelled (params_tokens p xs)
  params_spelled [] names labels = (refl, (refl, tt))
  params_spelled (x ∷ xs) names labels = (
    refl,
    both (separated (param_tokens p) (x ∷ xs)) (Sign sign.RightParen ∷ [])
        (both (param_tokens p x) _ (param_spelled x names.0 labels.0) (params_rest xs names.1 labels.1)) (refl, tt),
  )

  heading_spelled : (name : Name) (lo hi : ℕ) → is_name name ≡ true → IsLabel p.policy lo → IsLabel p.policy hi
      → AreSpelled (heading_tokens p name lo hi)
  heading_spelled name lo hi is low high = (
    word_spelled (codes "transaction") refl refl refl,
    (
      named name is,
      (
        word_spelled (codes "levels") refl refl refl,
        (
          named _ (h.label lo low),
          (word_spelled (codes "to") refl refl refl, (named _ (h.label hi high), tt)),
        ),
      ),
    ),
  )

pub prints_are_tokens : PrintsAreTokens
prints_are_tokens policy schemes tx of_policy of_schemes is read =
    let p = outermost policy schemes tx in
    let h = has_names policy schemes tx of_policy of_schemes is read in
    let names = own_names policy schemes tx of_policy of_schemes is read in
    let body = braced (flat_map var_tokens tx.vars ++ block_tokens p tx.body) in
    layouts_are_tokens (tokens_of policy schemes tx)
    (both (heading_tokens p tx.name tx.lo tx.hi) (params_tokens p tx.params ++ body)
    (heading_spelled p h tx.name tx.lo tx.hi is.name read.lo read.hi)
    (both (params_tokens p tx.params) body (params_spelled p h tx.params names.0 read.params)
    (braced_spelled (flat_map var_tokens tx.vars ++ block_tokens p tx.body)
    (both (flat_map var_tokens tx.vars) _ (vars_spelled tx.vars names.1)
    (block_spelled tx.body p h is.own read.fits)))))
