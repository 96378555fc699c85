use Rattle.std.proofs.Common.{length}
use Rattle.mls_tokens.proofs.TokensLemmas.{ScannedSoFar}
use Rattle.mls_tokens.proofs.tokens.Tokens.new.Given as goal

abbrev pub decreases-loop-token : goal.decreases-loop-token
decreases-loop-token l = length l.rest

abbrev pub invariant-loop-token : goal.invariant-loop-token
invariant-loop-token l = ScannedSoFar l.text l.placed.items l.rest
