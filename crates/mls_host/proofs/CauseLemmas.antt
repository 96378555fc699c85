-- Why inputs are refused, from what is said of each step.
use Rattle.std.proofs.Common.{◌≡◌, ◌≢◌, ◌↔◌, ℕ, List, Option, Result, Ok, Err, IfErr, refl, sym, subst, IsErrAnd}
use Rattle.toml.specs.Data.{Members}
use Rattle.mls_lattice.specs.Policy.{Policy}
use Rattle.mls_lattice.specs.ReadsPolicy.{IsDocument, HasFault}
use Rattle.mls_lattice.specs.declared.fault.PolicyFault.{PolicyFault}
use Rattle.mls_lattice.specs.declared.fault.PolicyFault.TheVariants as policies
use Rattle.mls_scheme.specs.Reading.{schemes_at}
use Rattle.mls_scheme.specs.declared.fault.SchemeFault.{SchemeFault}
use Rattle.mls_scheme.specs.declared.fault.SchemeFault.TheVariants as schemes
use Rattle.mls_host.specs.declared.reason.Role.{Role}
use Rattle.mls_host.specs.declared.reason.Reason.{Reason}
use Rattle.mls_host.specs.Hosting.{Hosting}
use Rattle.mls_host.specs.Causes.{IsNoDocument, IsPolicyFault, IsSchemeFault, IsInputRefused, not_read}

-- what holds of the reason at the exit of a `?` holds of the one that is returned
pub same_reason : {A : Type 0} (P : Reason → Type 0) (r : Result A Reason) (reason : Reason)
    → IsErrAnd r (λ e. e ≡ reason) → P reason → IfErr r P
same_reason P (Ok a) reason is p = tt
same_reason P (Err e) reason is p = subst P (sym is) p

-- what is given is not read
pub not_read_of : {A : Type 0} (h : Hosting) (role : Role) (source : Option (List ℕ)) (Refuses : List ℕ → Reason
    → Type 0) (r : Result A Reason) (bytes given : List ℕ) → bytes ≡ given
    → h.gives source given → IfErr r (Refuses bytes) → IfErr r (IsInputRefused h role source Refuses)
not_read_of h role source Refuses (Ok a) bytes given is gives refused = tt
not_read_of h role source Refuses (Err e) bytes given is gives refused =
    not_read bytes (subst (h.gives source) (sym is) gives) refused

-- ---- documents

module _ (bytes : List ℕ) where
  pub policy_fault : (e : PolicyFault) → (e ≢ policies.Memory → e ≢ policies.NotToml → HasFault bytes e)
      → (e ≢ policies.Memory → (e ≡ policies.NotToml) ↔ IsNoDocument bytes) → IsPolicyFault bytes e
  policy_fault policies.NotToml first not_toml = (not_toml (λ x. cc)).0 refl
  policy_fault policies.Memory first not_toml = tt
  policy_fault _ first not_toml = first (λ x. cc) (λ x. cc)

  is_document : (e : SchemeFault) → e ≢ schemes.NotToml → (e ≡ schemes.NotToml) ↔ IsNoDocument bytes
      → ¬ IsNoDocument bytes
  is_document e other not_toml none = other (not_toml.1 none)

  pub scheme_fault : (policy : Policy) (e : SchemeFault) → (e ≢ schemes.Memory → (document : Members)
      → IsDocument bytes document → schemes_at policy document ≡ Err e)
      → (e ≢ schemes.Memory → (e ≡ schemes.NotToml) ↔ IsNoDocument bytes) → IsSchemeFault policy bytes e
  scheme_fault policy schemes.NotToml first not_toml = (not_toml (λ x. cc)).0 refl
  scheme_fault policy schemes.MissingField first not_toml = (
    is_document schemes.MissingField (λ x. cc)
        (not_toml (λ x. cc)),
    first (λ x. cc),
  )
  scheme_fault policy schemes.WrongKind first not_toml = (
    is_document schemes.WrongKind (λ x. cc) (not_toml (λ x. cc)),
    first (λ x. cc),
  )
  scheme_fault policy schemes.Repeated first not_toml = (
    is_document schemes.Repeated (λ x. cc) (not_toml (λ x. cc)),
    first (λ x. cc),
  )
  scheme_fault policy schemes.UnknownName first not_toml =
      (is_document schemes.UnknownName (λ x. cc) (not_toml (λ x. cc)), first (λ x. cc))
  scheme_fault policy schemes.TooMany first not_toml = (
    is_document schemes.TooMany (λ x. cc) (not_toml (λ x. cc)),
    first (λ x. cc),
  )
  scheme_fault policy schemes.BadName first not_toml = (
    is_document schemes.BadName (λ x. cc) (not_toml (λ x. cc)),
    first (λ x. cc),
  )
  scheme_fault policy schemes.EmptyInterval first not_toml = (
    is_document schemes.EmptyInterval (λ x. cc)
        (not_toml (λ x. cc)),
    first (λ x. cc),
  )
  scheme_fault policy schemes.Memory first not_toml = tt
  scheme_fault policy schemes.NoKey first not_toml = (
    is_document schemes.NoKey (λ x. cc) (not_toml (λ x. cc)),
    first (λ x. cc),
  )
  scheme_fault policy schemes.KeyIntervals first not_toml = (
    is_document schemes.KeyIntervals (λ x. cc)
        (not_toml (λ x. cc)),
    first (λ x. cc),
  )
