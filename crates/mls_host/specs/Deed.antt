-- What a command did: what it wrote and told, and how it ended.
use Rattle.std.specs.Prelude.{ℕ, List, [], Option, Result, Ok, Err}
use Rattle.mls_host.specs.declared.ending.Ending.{Ending}
use Rattle.mls_host.specs.declared.errors.Errors.{Errors}
use Rattle.mls_host.specs.declared.stop.Stop.{Stop}
use Rattle.mls_host.specs.Ending.{ending_status}
use Rattle.mls_host.specs.Hosting.{IsAppended, IsTold}
use Rattle.mls_host.specs.Stop.{stop_text, stop_status}

-- which bytes it wrote on standard output and told on standard error, as these show it, and how it ended
-- (predicates and no lists of bytes: what is written over a store is known where that store is clean, which the type of
-- a base leaves undecided)
pub record Deed : Type 1 where
  pub wrote : List ℕ → Type 0
  pub told : List ℕ → Type 0
  pub end : Result Ending Stop

-- as the two writers show it
module _ {W E : Type 0} (written : W → Option (List ℕ)) (was is : W) (tells : E → Option (List ℕ))
    (old new : Errors E) where
  abbrev pub deed : Result Ending Stop → Deed
  deed end = record { wrote = IsAppended written was is; told = IsTold tells old new; end = end }

-- nothing is written or told
abbrev pub IsQuiet : Deed → Type 0
IsQuiet d = d.wrote [] × d.told []

-- the line that tells of a stop, and the status
abbrev pub end_text : Result Ending Stop → List ℕ
end_text (Ok ending) = []
end_text (Err stop) = stop_text stop

abbrev pub end_status : Result Ending Stop → ℕ
end_status (Ok ending) = ending_status ending
end_status (Err stop) = stop_status stop
