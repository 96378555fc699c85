use Rattle.mls_tokens.specs.Writing.{quoted_byte}
use Rattle.mls_tokens.proofs.WritingSteps.{written_more, written_all}
use Rattle.mls_tokens.proofs.writing.push_inside.Goals as goal

pub loop-byte-preserved : goal.loop-byte-preserved
loop-byte-preserved c = written_more quoted_byte _ _ _ _ c.loop-byte.invariant _ c.loop-byte-test.true c.in_ok-push_quoted_byte.ensures

pub returns : goal.returns
returns c = rw (← c.as_bytes-byte-items.ensures.value)
    (written_all quoted_byte _ _ _ _ c.loop-byte.invariant c.loop-byte-test.false)
