-- What sets lower bounds on the labels of a certificate: of the lines of the statements, those by which something flows
-- into variables and statements.
use Rattle.std.specs.Prelude.{ℕ, List, map}
use Rattle.mls_translang.specs.Tree.{Block}
use Rattle.mls_certcheck.specs.Points.{directs}
pub use Rattle.mls_certcheck.specs.Lines.{body_lines}
use Rattle.mls_certcheck.specs.Rules.{Claim, IsObeyed}
use Rattle.mls_certcheck.specs.declared.flow.Slot.{Slot}
use Rattle.mls_certcheck.specs.declared.flow.Slot.TheVariants.{Statement}
use Rattle.mls_certcheck.specs.declared.flow.Flow.{Flow}
use Rattle.mls_certcheck.specs.declared.flow.Flow.TheVariants.{Into, Kept, Within, Under}

-- a block's own statements, the first of which is n
unfoldable pub own_slots : ℕ → Block → List Slot
own_slots n block = map (λ m. Statement m) (directs n block)

-- it holds, if it sets a bound: what flows out raises no label
abbrev pub IsBounded : Claim → Flow → Type 0
IsBounded c (Into targets sources) = IsObeyed c (Into targets sources)
IsBounded c (Kept m n but) = IsObeyed c (Kept m n but)
IsBounded c (Within limit sources) = Unit {0}
IsBounded c (Under sources) = Unit {0}
