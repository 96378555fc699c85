-- What was told on standard error.
use Rattle.std.proofs.Common.{ℕ, List, [], ◌++◌, Option}
use Rattle.std.proofs.KnownBytes.{Appends-nil, Appends-trans}
use Rattle.mls_host.specs.declared.errors.Errors.{Errors}
use Rattle.mls_host.specs.Hosting.{IsTold}

-- nothing was told
pub told_nothing : {E : Type 0} (contents : E → Option (List ℕ)) (e : Errors E) → IsTold contents e e []
told_nothing contents e = λ well. (well, Appends-nil (contents e.writer))

-- a text, and then another
pub told_more : {E : Type 0} (contents : E → Option (List ℕ)) (a b c : Errors E) (s t : List ℕ) → IsTold contents a b s
    → IsTold contents b c t → IsTold contents a c (s ++ t)
told_more contents a b c s t h k = λ well. let x = k well in let y = h x.0
    in (y.0, Appends-trans (contents a.writer) (contents b.writer) (contents c.writer) s t y.1 x.1)
