use Rattle.mls_tokens.proofs.TypingLemmas.{at_end, typed_on, lost_none, lost_taken, on_err}
use Rattle.mls_tokens.proofs.lines.LinesOfTypedLines.next_line.Goals as goal

pub returns-then-is_err-clause-lost : goal.returns-then-is_err-clause-lost
returns-then-is_err-clause-lost g c = lost_none _ _ _ c.flush.ensures.bytes

pub returns-in_err-typed-clause-lost : goal.returns-in_err-typed-clause-lost
returns-in_err-typed-clause-lost g c = on_err c.from_residual.result
    (lost_taken c.args.self.now.is_over _ _ _ _ c.if-self.false c.in_err-typed.ensures.lost c.flush.ensures.bytes)

pub returns-then-self-clause-typed : goal.returns-then-self-clause-typed
returns-then-self-clause-typed g c = at_end c.args.self.now.is_over _ _ _ c.new.result.items c.if-self.true c.new.ensures.items c.flush.ensures.bytes

pub returns-clause-typed : goal.returns-clause-typed
returns-clause-typed g c = typed_on c.args.self.now.is_over _ _ _ _ c.in_ok-typed.typed c.if-self.false c.flush.ensures.bytes c.in_ok-typed.ensures.typed
