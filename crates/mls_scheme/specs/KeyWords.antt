-- The names of the faults of keys.
use Rattle.std.specs.Prelude.{ℕ, List, [], get_or, map}
use Rattle.mls_scheme.specs.declared.key_fault.KeyFault.{KeyFault}
use Rattle.mls_scheme.specs.declared.key_fault.KeyFault.TheVariants.{Short, BadTag, BadText, Trailing, Memory}
use Rattle.mls_scheme.specs.declared.key_fault.TheConstants.{WORDS}

abbrev number_of : KeyFault → ℕ
number_of Short = 0
number_of BadTag = 1
number_of BadText = 2
number_of Trailing = 3
number_of Memory = 4

abbrev pub key_word_of : KeyFault → List ℕ
key_word_of f = get_or (map (λ w. w.now) WORDS) (number_of f) []
