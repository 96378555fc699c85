use Rattle.std.proofs.Common.{◌∷◌, ◌++◌, [], rules}
use Rattle.mls_tokens.proofs.TypingLemmas.{one_more, feedless_more}
use Rattle.mls_tokens.proofs.lines.skip_line.Goals as goal

pub loop-preserved : goal.loop-preserved
loop-preserved g c =
    let (text, one, read) = c.loop.invariant in (
      text ++ c.in-Some.byte ∷ [],
      feedless_more text c.in-Some.byte one (search rules),
      one_more _ _ _ text c.in-Some.byte read (rw c.in-Some.is at c.in_ok-byte.ensures.byte),
    )
