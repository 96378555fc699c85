use Rattle.std.proofs.Common.{take}
use Rattle.std.specs.Io.KnownBytes.{Appends}
use Rattle.mls_tokens.specs.Whole.{pieces_text}
use Rattle.mls_tokens.proofs.whole.write_pieces.Given as goal

abbrev pub invariant-loop-piece : goal.invariant-loop-piece
invariant-loop-piece g l = Appends (g.W.Write.contents l.fn.writer) (g.W.Write.contents l.writer)
    (pieces_text (take l.piece-index l.pieces))
