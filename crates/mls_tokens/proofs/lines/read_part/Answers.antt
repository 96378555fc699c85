use Rattle.mls_tokens.proofs.TypingLemmas.{one_more}
use Rattle.mls_tokens.proofs.lines.read_part.Goals as goal

pub returns-then-is_err-clause-lost : goal.returns-then-is_err-clause-lost
returns-then-is_err-clause-lost g c = (
  _,
  one_more _ _ _ c.loop.line.items c.in-Some.byte c.loop.invariant.2
      (rw c.in-Some.is at c.in_ok-byte.ensures.byte),
)
