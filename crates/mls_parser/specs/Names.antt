-- What names stand for at a place of a transaction.
use Rattle.std.specs.Prelude.{ℕ, ◌+◌, ◌<◌, ◌≤◌, Bool, ◌||◌, length, Option, Some, None, option_map, is_some, unwrap_or}
use Rattle.std.specs.Prelude.{position, bytes_eq}
use Rattle.std.specs.List.{AllByRecursion}
use Rattle.mls_lattice.specs.Policy.{Name, Policy}
use Rattle.mls_scheme.specs.Scheme.{Scheme, Schemes, scheme_of}
use Rattle.mls_translang.specs.Scope.{row_at}
use Rattle.mls_translang.specs.Tokens.{Context}
use Rattle.mls_parser.specs.declared.names.Referent.{Referent}
use Rattle.mls_parser.specs.declared.names.Referent.TheVariants.{Variable, Parameter}

-- ---- numbers of names

unfoldable pub label_named : Policy → Name → Option ℕ
label_named policy name = position (λ l. bytes_eq l.name name) policy.labels

unfoldable pub relation_named : Schemes → Name → Option ℕ
relation_named schemes name = position (λ s. bytes_eq s.name name) schemes

unfoldable pub variable_named : Context → Name → Option ℕ
variable_named p name = position (λ v. bytes_eq v.0 name) p.scope.vars

unfoldable pub parameter_named : Context → Name → Option ℕ
parameter_named p name = position (λ x. bytes_eq x.0 name) p.scope.params

-- the innermost loop whose row has the name
unfoldable pub row_named : Context → Name → Option ℕ
row_named p name = position (λ r. bytes_eq r.name name) p.scope.rows

abbrev pub or_behind : Option ℕ → ℕ → Option ℕ → Option ℕ
or_behind (Some i) count other = Some i
or_behind None count other = option_map (λ i. count + i) other

-- an attribute of a row: first those of the key, and behind them the others
unfoldable pub attribute_named : Scheme → Name → Option ℕ
attribute_named scheme name =
    or_behind (position (λ a. bytes_eq a.0 name) scheme.keys) (length scheme.keys)
    (position (λ a. bytes_eq a.0 name) scheme.others)

-- an attribute outside the key
unfoldable pub other_named : Scheme → Name → Option ℕ
other_named scheme name = position (λ a. bytes_eq a.0 name) scheme.others

-- An unknown name counts as the first of what it may name. The fault at the name stands before any that follows from
-- it.
abbrev pub numbered : Option ℕ → ℕ
numbered number = unwrap_or number 0

-- ---- what a name in an expression refers to

abbrev pub referent_or : Option ℕ → Option ℕ → Option Referent
referent_or (Some i) parameter = Some (Variable i)
referent_or None (Some i) = Some (Parameter i)
referent_or None None = None

abbrev pub referent : Context → Name → Option Referent
referent p name = referent_or (variable_named p name) (parameter_named p name)

abbrev pub IsReferent : Context → Referent → Type 0
IsReferent p (Variable i) = i < length p.scope.vars
IsReferent p (Parameter i) = i < length p.scope.params

-- the relation of the row at a depth
abbrev pub row_scheme : Context → ℕ → Scheme
row_scheme p depth = scheme_of p.schemes (row_at p.scope depth).relation

-- rows are of relations, the ceiling is a label, and numbers are few
pub record IsContext (p : Context) : Type 0 where
  pub rows : AllByRecursion (λ r. r.relation < length p.schemes) p.scope.rows
  pub hi : p.hi < length p.policy.labels
  pub few_params : length p.scope.params ≤ 64
  pub few_vars : length p.scope.vars ≤ 64
  pub few_rows : length p.scope.rows ≤ 16

-- whether a name of a row, a parameter or a variable is in scope
abbrev pub is_taken : Context → Name → Bool
is_taken p name = is_some (row_named p name) || (is_some (parameter_named p name) || is_some (variable_named p name))
