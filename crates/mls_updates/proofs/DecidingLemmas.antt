-- The first refusal, where the tuple is there.
use Rattle.std.proofs.Common.{◌≡◌, ℕ, Bool, true, cond, not, ◌&&◌, List, [], Option, sym, is_some, is_none, nat_eq, unwrap_or}
use Rattle.std.specs.List.{list_any}
use Rattle.mls_lattice.specs.Labels.{Labels, below}
use Rattle.mls_lattice.proofs.LatticeLemmas.{below-refl}
use Rattle.mls_scheme.specs.declared.tuple.Element.{Element}
use Rattle.mls_scheme.specs.Tuple.{at}
use Rattle.mls_scheme.specs.Scheme.{Scheme}
use Rattle.mls_updates.specs.declared.outcome.Outcome.TheVariants.{Done, NoTuple, Inherited, NullAboveKey}
use Rattle.mls_updates.specs.Writes.{Sets, first_refusal, own_refusals, drop_refusals}

module _ (ls : Labels) (scheme : Scheme) (w kc : ℕ) (es : Option (List Element)) (there : is_some es ≡ true)
    (under : below ls kc w ≡ true) where
  pub drop_passed : Done ≡ first_refusal (drop_refusals ls scheme w kc es)
  unfolding first_refusal
  drop_passed = sym (λ i. cond (not (there i && (under i && below-refl ls w i))) NoTuple Done)

  pub own_passed : (sets : Sets) (c d : Bool) → list_any (λ s. not (nat_eq (at (unwrap_or es []) s.0).class w)) sets ≡ c
      → (not (nat_eq w kc) && list_any (λ s. is_none s.1) sets) ≡ d
      → cond c Inherited (cond d NullAboveKey Done) ≡ first_refusal (own_refusals ls scheme w kc sets es)
  unfolding first_refusal
  own_passed sets c d e f = sym (λ i. cond (not (there i && (under i && below-refl ls w i))) NoTuple
      (cond (e i) Inherited (cond (f i) NullAboveKey Done)))
