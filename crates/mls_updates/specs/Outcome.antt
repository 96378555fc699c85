-- The numbers and names of outcomes.
use Rattle.std.specs.Prelude.{ℕ, Bool, true, false, List, ◌-◌, [], map, get_or}
use Rattle.mls_updates.specs.declared.outcome.Outcome.{Outcome}
use Rattle.mls_updates.specs.declared.outcome.Outcome.TheVariants.{Done, KeyNull, Duplicate, NoTuple, NullAboveKey}
use Rattle.mls_updates.specs.declared.outcome.Outcome.TheVariants.{Inherited, OutOfInterval, AlreadyDerived, Unexpected}
use Rattle.mls_updates.specs.declared.outcome.TheConstants.{WORDS}

abbrev pub is_done : Outcome → Bool
is_done Done = true
is_done o = false

abbrev pub code_of : Outcome → ℕ
code_of Done = 0
code_of KeyNull = 11
code_of Duplicate = 12
code_of NoTuple = 13
code_of NullAboveKey = 14
code_of Inherited = 15
code_of OutOfInterval = 16
code_of AlreadyDerived = 17
code_of Unexpected = 18

abbrev pub word_of : Outcome → List ℕ
word_of o = get_or (map (λ w. w.now) WORDS) (code_of o - 10) []
