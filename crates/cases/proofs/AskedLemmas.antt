-- Labels that a base was asked for.
use Rattle.std.proofs.Common.{◌≡◌, ◌≢◌, ℕ, ◌<◌, true, false, ◌||◌, List, [], ◌∷◌, nat_eq, refl, sym, inl, inr, arith, true≢false, eqb-true, Result, IfErr}
use Rattle.std.proofs.lemmas.Bool.{cases_Bool}
use Rattle.std.proofs.lemmas.Result.{IfErr-weaker}
use Rattle.std.specs.List.{list_any}
use Rattle.mls_lattice.specs.Labels.{Labels, below}
use Rattle.mls_filterview.specs.declared.base.BaseFault.{BaseFault}
use Rattle.mls_filterview.specs.declared.base.BaseFault.TheVariants.{Store}
use Rattle.mls_filterview.specs.Content.{Seen}
use Rattle.mls_filterview.specs.Calls.{IsCall, NoReadUp}
use Rattle.mls_filterview.specs.View.{IsAmong}

-- what is found in a list stands in it
pub found_among : (n : ℕ) (ns : List ℕ) → list_any (λ k. nat_eq k n) ns ≡ true → IsAmong n ns
found_among n [] h = absurd (true≢false (sym h))
found_among n (k ∷ ks) h =
    elim (nat_eq k n) as (λ b. nat_eq k n ≡ b → (b || list_any (λ k. nat_eq k n) ks) ≡ true → IsAmong n (k ∷ ks)) [
      | true ↦ λ e t. inl (sym (eqb-true k n e))
      | false ↦ λ e t. inr (found_among n ks t)
    ] refl h

-- what is not n is not in the list of n alone
pub not_alone : (m n : ℕ) → m ≢ n → IsAmong m (n ∷ []) → ⊥
not_alone m n off (inl e) = off e
not_alone m n off (inr h) = h

-- a base that has read a label where a call of it has failed, and had not before: what reads nothing up fails only
-- below its level
pub fails_below : {B A : Type 0} {seen : B → Seen} {a b : B} (ls : Labels) (level label : ℕ)
    (result : Result A BaseFault)
    → NoReadUp seen ls level a b → IsCall seen a b result → (0 < (seen b).failures → (seen b).asked label)
    → ((seen a).asked label → ⊥)
    → IfErr result (λ fault. fault ≡ Store → below ls label level ≡ true)
fails_below ls level label result access call noted fresh =
    IfErr-weaker result _ _ (λ fault left is. elim (cases_Bool (below ls label level)) [
      | inl low ↦ low
      | inr high ↦ absurd (fresh (access.reads label high (noted (let k = left.store is in omega (arith, k)))))
    ]) call.fault
