-- What is told of a file.
use Rattle.std.proofs.Common.{ℕ, List, ◌++◌, append_assoc, Option, Some, None, Result, Ok, Err, IfOk, inl, inr, ap, ◌∙◌}
use Rattle.mls_advice.specs.Excerpt.{Begins}
use Rattle.mls_command.specs.declared.paths.Location.{Location}
use Rattle.mls_command.specs.Telling.{IsLocationTold}

-- a text that begins so still does with more behind it
pub begins_more : (front text more : List ℕ) → Begins front text → Begins front (text ++ more)
begins_more front text more b = (b.0 ++ more, ap (λ t. t ++ more) b.1 ∙ append_assoc front b.0 more)

pub location_told_more : (source : Option (List ℕ)) (location : Option Location) (lines more : List ℕ)
    → IsLocationTold source location lines → IsLocationTold source location (lines ++ more)
location_told_more None location lines more is = tt
location_told_more (Some path) None lines more is = tt
location_told_more (Some path) (Some location) lines more (inl b) = inl (begins_more _ lines more b)
location_told_more (Some path) (Some location) lines more (inr b) = inr (begins_more _ lines more b)

-- ---- answers

pub if_ok : {A E : Type 0} {P Q : A → Type 0} → ((v : A) → P v → Q v) → (r : Result A E) → IfOk r P → IfOk r Q
if_ok f (Ok v) p = f v p
if_ok f (Err e) p = tt

pub if_both : {A E : Type 0} {P Q R : A → Type 0} → ((v : A) → P v → Q v → R v) → (r : Result A E) → IfOk r P → IfOk r Q
    → IfOk r R
if_both f (Ok v) p q = f v p q
if_both f (Err e) p q = tt

pub if_three : {A E : Type 0} {P Q R S : A → Type 0} → ((v : A) → P v → Q v → R v → S v) → (r : Result A E) → IfOk r P
    → IfOk r Q → IfOk r R → IfOk r S
if_three f (Ok v) p q r = f v p q r
if_three f (Err e) p q r = tt
