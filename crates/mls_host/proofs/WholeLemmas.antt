-- Readers that are read whole.
use Rattle.std.proofs.Common.{◌≡◌, ℕ, ◌<◌, List, [], ◌++◌, length, take, Option, Some, None, option_map, IfSome, subst, ◌∙◌, arith, length-take, take_all}
use Rattle.std.specs.Io.Take.{take_limit, take_inner, take_remaining}
use Rattle.std.specs.declared.io.traits.Take.{Take}

-- fewer bytes than the bound are all
pub whole : (remaining : Option (List ℕ)) (bound : ℕ) (bytes : List ℕ) → length bytes < bound
    → IfSome (option_map (take bound) remaining) (λ xs. bytes ≡ [] ++ xs)
    → IfSome remaining (λ xs. bytes ≡ xs)
whole None bound bytes few read = tt
whole (Some xs) bound bytes few read =
    let some : length (take bound xs) < bound = subst (λ ys. length ys < bound) read few in
    read ∙ take_all bound xs (omega (arith, length-take bound xs, some))

-- of a reader that is bounded so
pub taken_whole : {R : Type 0} (remaining : R → Option (List ℕ)) (reader : R) (t : Take R) (bound : ℕ)
    (was bytes : List ℕ) → take_limit t ≡ bound → take_inner t ≡ reader → was ≡ []
    → length bytes < bound → IfSome (take_remaining remaining t) (λ xs. bytes ≡ was ++ xs)
    → IfSome (remaining reader) (λ xs. bytes ≡ xs)
taken_whole remaining reader t bound was bytes limit inner none few read =
    let from_none = subst (λ ys. IfSome (take_remaining remaining t) (λ xs. bytes ≡ ys ++ xs)) none read in
    let bounded = subst (λ n. IfSome (option_map (take n) (remaining (take_inner t))) (λ xs. bytes
    ≡ [] ++ xs)) limit from_none in
    whole (remaining reader) bound bytes few (subst (λ r. IfSome (option_map (take bound) (remaining r)) (λ xs. bytes
    ≡ [] ++ xs)) inner bounded)
