-- Names that are taken at a place.
use Rattle.std.proofs.Common.{◌≡◌, ◌||◌, ◌++◌, map, sym, ◌∙◌, is_some, bytes_eq}
use Rattle.std.specs.List.{list_any}
use Rattle.std.proofs.lemmas.List.Folds.{list_any-append}
use Rattle.mls_lattice.specs.Policy.{Name}
use Rattle.mls_scheme.proofs.NamedLemmas.{is_some-position}
use Rattle.mls_translang.specs.Scope.{names_in}
use Rattle.mls_translang.specs.Tokens.{Context}
use Rattle.mls_parser.specs.Names.{variable_named, parameter_named, row_named, is_taken}
use Rattle.mls_parser.proofs.FoundLemmas.{named_any}

module _ (p : Context) (name : Name) where
  row_taken : list_any (bytes_eq name) (map (λ r. r.name) p.scope.rows) ≡ is_some (row_named p name)
  unfolding row_named
  row_taken = named_any (λ r. r.name) p.scope.rows name
      ∙ sym (is_some-position (λ r. bytes_eq r.name name) p.scope.rows)

  parameter_taken : list_any (bytes_eq name) (map (λ x. x.0) p.scope.params) ≡ is_some (parameter_named p name)
  unfolding parameter_named
  parameter_taken = named_any (λ x. x.0) p.scope.params name
      ∙ sym (is_some-position (λ x. bytes_eq x.0 name) p.scope.params)

  variable_taken : list_any (bytes_eq name) (map (λ v. v.0) p.scope.vars) ≡ is_some (variable_named p name)
  unfolding variable_named
  variable_taken = named_any (λ v. v.0) p.scope.vars name ∙ sym (is_some-position (λ v. bytes_eq v.0 name) p.scope.vars)

  pub all_taken : list_any (bytes_eq name) (names_in p.scope) ≡ is_taken p name
  all_taken =
      list_any-append (bytes_eq name) (map (λ r. r.name) p.scope.rows) (map (λ x. x.0) p.scope.params
      ++ map (λ v. v.0) p.scope.vars)
      ∙ (λ i. row_taken i || (list_any-append (bytes_eq name) (map (λ x. x.0) p.scope.params)
      (map (λ v. v.0) p.scope.vars) ∙ (λ j. parameter_taken j || variable_taken j)) i)
