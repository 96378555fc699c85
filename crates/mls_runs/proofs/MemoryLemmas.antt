-- The store of a machine in memory is not opened for the causes that its connection is handed back for.
use Rattle.std.proofs.Common.{◌≡◌, ◌↔◌, ◌⊎◌, inl, inr, Bool, Option, Some, refl, sym, ◌∙◌, subst, MatchOption, IsTrue}
use Rattle.sqlite.specs.Effect.{Database}
use Rattle.sqlite.specs.State.{State}
use Rattle.mls_lattice.specs.Policy.{Policy}
use Rattle.mls_scheme.specs.declared.file.SchemesFile.{SchemesFile}
use Rattle.mls_fragments.specs.Holdings.{Holdings, HasHoldings}
use Rattle.mls_fragments.specs.Opening.{IsOfOthers, IsBad, IsHandedBack}
use Rattle.mls_fragments.specs.declared.open_fault.OpenFault.{OpenFault}
use Rattle.mls_fragments.specs.declared.open_fault.OpenFault.TheVariants as stores
use Rattle.mls_runs.specs.Memory.{in_memory_fault, IsUnopenedFor}

-- the store of a connection that comes back as it was is not opened for the cause that it comes back with
pub barred : (policy : Policy) (file : SchemesFile) (begun : Bool) (old new : Database) → new ≡ old
    → (fault : OpenFault) → (fault ≡ stores.OtherPolicy → IsOfOthers policy file old) → (fault ≡ stores.BadRows
    → IsBad policy file old)
    → IsUnopenedFor policy file (Some (begun, new)) (in_memory_fault fault)
barred policy file begun old new same stores.Store other bad = tt
barred policy file begun old new same stores.OtherPolicy other bad = subst (IsOfOthers policy file) (sym same)
    (other refl)
barred policy file begun old new same stores.BadRows other bad = subst (IsBad policy file) (sym same) (bad refl)
barred policy file begun old new same stores.Memory other bad = tt

-- ---- a store that is refused keeps what it kept

same_now : (old new : State) → (new.committed ≡ old.committed) ⊎ (new.committed ≡ old.now) → new.now ≡ new.committed
    → old.now ≡ old.committed → new.now ≡ old.now
same_now old new (inl same) settled was = settled ∙ same ∙ sym was
same_now old new (inr same) settled was = settled ∙ same

-- a connection that comes back outside a change, as it was given
pub handed_back : (old new : State) → IsHandedBack old new → IsTrue new.is_open → new.now ≡ new.committed
    → old.now ≡ old.committed → new.now ≡ old.now
handed_back old new back opened settled was = same_now old new (back.committed opened) settled was

pub same_held : {A : Type 0} (database : A → Database) (store : Option A) (conn left : A) → Some conn ≡ store
    → database left ≡ database conn → (h : Holdings)
    → HasHoldings (database left) h ↔ MatchOption store ⊥ (λ a. HasHoldings (database a) h)
same_held database store conn left is same h =
    subst (λ o. HasHoldings (database left) h ↔ MatchOption o ⊥ (λ a. HasHoldings (database a) h)) is
    (subst (λ d. HasHoldings d h ↔ HasHoldings (database conn) h) (sym same) (λ k. k, λ k. k))
