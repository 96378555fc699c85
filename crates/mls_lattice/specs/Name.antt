-- What a name is, and which words are none.
use Rattle.std.specs.Prelude.{ℕ, Bool, not, ◌&&◌, ◌||◌, ◌==◌, nat_le, List, [], ◌∷◌, length, slice_index, codes}
use Rattle.std.specs.Prelude.{bytes_eq}
use Rattle.std.specs.List.{list_any, list_all}
use Rattle.std.specs.Char.{is_ascii_alphabetic, is_ascii_alphanumeric}

-- the words of transactions and scripts
abbrev pub reserved : List (List ℕ)
reserved =
    codes "transaction" ∷ codes "levels" ∷ codes "to" ∷ codes "var" ∷ codes "int" ∷ codes "text" ∷ codes "if"
    ∷ codes "else" ∷
    codes "for" ∷ codes "in" ∷ codes "at" ∷ codes "insert" ∷ codes "key" ∷ codes "values" ∷ codes "update"
    ∷ codes "class" ∷
    codes "from" ∷ codes "set" ∷ codes "delete" ∷ codes "release" ∷ codes "into" ∷ codes "emit" ∷ codes "as"
    ∷ codes "and" ∷
    codes "or" ∷ codes "not" ∷ codes "null" ∷ codes "open" ∷ codes "close" ∷ codes "view" ∷ codes "call" ∷ codes "audit"
    ∷ []

unfoldable pub is_reserved : List ℕ → Bool
is_reserved text = list_any (λ word. bytes_eq word text) reserved

abbrev pub is_name_byte : ℕ → Bool
is_name_byte b = is_ascii_alphanumeric b || b == 95

-- letters, digits and `_`, from 1 to 32 of them, the first a letter, and no reserved word
unfoldable pub is_name : List ℕ → Bool
is_name bs = not (length bs == 0) && nat_le (length bs) 32 && is_ascii_alphabetic (slice_index bs 0)
    && list_all is_name_byte bs && not (is_reserved bs)
