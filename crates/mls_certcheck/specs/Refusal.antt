-- The short names of the rules.
use Rattle.std.specs.Prelude.{ℕ, List, [], get_or, map}
use Rattle.mls_certcheck.specs.declared.refusal.Rule.{Rule}
use Rattle.mls_certcheck.specs.declared.refusal.Rule.TheVariants.{Assignment, Branch, RowLoop, Write, Order, Release}
use Rattle.mls_certcheck.specs.declared.refusal.Rule.TheVariants.{Emit, Context, Rest, VarCount, StmtCount}
use Rattle.mls_certcheck.specs.declared.refusal.Rule.TheVariants.{AboveCeiling}
use Rattle.mls_certcheck.specs.declared.refusal.TheConstants.{TEXTS}

abbrev number_of : Rule → ℕ
number_of Assignment = 0
number_of Branch = 1
number_of RowLoop = 2
number_of Write = 3
number_of Order = 4
number_of Release = 5
number_of Emit = 6
number_of Context = 7
number_of Rest = 8
number_of VarCount = 9
number_of StmtCount = 10
number_of AboveCeiling = 11

abbrev pub text_of : Rule → List ℕ
text_of r = get_or (map (λ w. w.now) TEXTS) (number_of r) []
