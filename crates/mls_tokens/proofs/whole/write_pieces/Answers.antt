use Rattle.std.proofs.Common.{rules}
use Rattle.mls_tokens.proofs.PieceLemmas.{one_more}
use Rattle.mls_tokens.proofs.whole.write_pieces.Goals as goal

pub loop-piece-preserved : goal.loop-piece-preserved
loop-piece-preserved g c =
    one_more (g.W.Write.contents c.args.writer.now) (g.W.Write.contents c.loop-piece.writer)
    (g.W.Write.contents c.write_piece.new.writer) c.args.pieces.now c.loop-piece.piece-index _ (search rules)
    c.loop-piece.invariant c.in_ok-write_piece.ensures
