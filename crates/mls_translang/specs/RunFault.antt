-- The names of the causes for which runs stop.
use Rattle.std.specs.Prelude.{ℕ, List, [], get_or, map}
use Rattle.mls_translang.specs.declared.run_fault.RunCause.{RunCause}
use Rattle.mls_translang.specs.declared.run_fault.RunCause.TheVariants.{Store, Memory, Write}
use Rattle.mls_translang.specs.declared.run_fault.TheConstants.{WORDS}

abbrev number_of : RunCause → ℕ
number_of Store = 0
number_of Memory = 1
number_of Write = 2

abbrev pub cause_word : RunCause → List ℕ
cause_word cause = get_or (map (λ w. w.now) WORDS) (number_of cause) []
