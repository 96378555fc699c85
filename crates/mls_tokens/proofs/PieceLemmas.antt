-- Texts of parts, part by part.
use Rattle.std.proofs.Common.{◌≡◌, ℕ, ◌+◌, ◌<◌, List, [], ◌∷◌, ◌++◌, length, take, get_or, Option, refl, sym, ap, subst, ◌∙◌, append-nil, append_assoc}
use Rattle.std.proofs.KnownBytes.{Appends-trans}
use Rattle.std.proofs.lemmas.List.{take_more}
use Rattle.std.specs.Io.KnownBytes.{Appends}
use Rattle.mls_tokens.specs.declared.piece.Piece.{Piece}
use Rattle.mls_tokens.specs.Whole.{piece_text, pieces_text}

text_append : (ps qs : List Piece) → pieces_text (ps ++ qs) ≡ pieces_text ps ++ pieces_text qs
text_append [] qs = refl
text_append (p ∷ ps) qs = ap (λ rest. piece_text p ++ rest) (text_append ps qs)
    ∙ sym (append_assoc (piece_text p) (pieces_text ps) (pieces_text qs))

text_more : (ps : List Piece) (i : ℕ) (p : Piece) → i < length ps → pieces_text (take (i + 1) ps)
    ≡ pieces_text (take i ps) ++ piece_text (get_or ps i p)
text_more ps i p within =
    ap pieces_text (take_more ps i p within) ∙ text_append (take i ps) (get_or ps i p ∷ [])
    ∙ ap (λ text. pieces_text (take i ps) ++ text) (append-nil (piece_text (get_or ps i p)))

-- one more part is written
pub one_more : (a b c : Option (List ℕ)) (ps : List Piece) (i : ℕ) (d : Piece) → i < length ps
    → Appends a b (pieces_text (take i ps)) → Appends b c (piece_text (get_or ps i d))
    → Appends a c (pieces_text (take (i + 1) ps))
one_more a b c ps i d within front next =
    subst (Appends a c) (sym (text_more ps i d within)) (Appends-trans a b c (pieces_text (take i ps))
    (piece_text (get_or ps i d)) front next)
