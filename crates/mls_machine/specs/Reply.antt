-- The numbers and names of denials.
use Rattle.std.specs.Prelude.{ℕ, List, ◌-◌, [], map, get_or}
use Rattle.mls_machine.specs.declared.reply.Denial.{Denial}
use Rattle.mls_machine.specs.declared.reply.Denial.TheVariants.{NoSession, AlreadyOpen, UnknownUser, UnknownTransaction}
use Rattle.mls_machine.specs.declared.reply.Denial.TheVariants.{NotCertified, Ds, Ss, Star, Trust, Arguments}
use Rattle.mls_machine.specs.declared.reply.TheConstants.{WORDS}

abbrev pub code_of : Denial → ℕ
code_of NoSession = 31
code_of AlreadyOpen = 32
code_of UnknownUser = 33
code_of UnknownTransaction = 34
code_of NotCertified = 35
code_of Ds = 36
code_of Ss = 37
code_of Star = 38
code_of Trust = 39
code_of Arguments = 40

abbrev pub word_of : Denial → List ℕ
word_of d = get_or (map (λ w. w.now) WORDS) (code_of d - 31) []
