-- Texts of parts.
use Rattle.std.specs.Prelude.{ℕ, List, [], ◌∷◌, ◌++◌, decimal}
use Rattle.mls_tokens.specs.declared.piece.Piece.{Piece}
use Rattle.mls_tokens.specs.declared.piece.Piece.TheVariants.{Text, Number}

abbrev pub piece_text : Piece → List ℕ
piece_text (Text text) = text.now
piece_text (Number number) = decimal number

abbrev pub pieces_text : List Piece → List ℕ
pieces_text [] = []
pieces_text (p ∷ ps) = piece_text p ++ pieces_text ps
