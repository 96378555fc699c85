-- What it means that there is no fault.
use Rattle.std.proofs.Common.{◌≡◌, ℕ, Bool, true, false, List, [], ◌∷◌, ◌++◌, Option, Some, None, refl, is_some}
use Rattle.mls_parser.specs.declared.fault.TextCause.{TextCause}
use Rattle.mls_parser.specs.Fault.{unless}
use Rattle.mls_parser.specs.Noted.{known}

pub neither : {X : Type 0} (xs ys : List X) → xs ++ ys ≡ [] → (xs ≡ []) × (ys ≡ [])
neither [] ys e = (refl, e)
neither (x ∷ xs) ys e = absurd cc

pub holds : (b : Bool) (at : ℕ) (cause : TextCause) → unless b at cause ≡ [] → b ≡ true
holds true at cause e = refl
holds false at cause e = absurd cc

pub some_of : {X : Type 0} (o : Option X) → is_some o ≡ true → (x : X) × (o ≡ Some x)
some_of None e = absurd cc
some_of (Some x) e = (x, refl)

pub is_known : {X : Type 0} (o : Option X) (at : ℕ) → known o at ≡ [] → (x : X) × (o ≡ Some x)
is_known o at e = some_of o (holds (is_some o) at _ e)
