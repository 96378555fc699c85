-- Tables of cases: their lines, and texts that are made of lines.
use Rattle.std.specs.Prelude.{◌≡◌, ℕ, IsTrue, ◌==◌, Bool, true, not, ◌&&◌, List, [], ◌∷◌, ◌++◌, drop, length, eqb}
use Rattle.std.specs.Prelude.{codes, if◌then◌else◌, take_while}
use Rattle.std.specs.Borrow.{Bor}
use Rattle.std.specs.List.{starts_with}

-- a line that two blanks begin belongs to the case above it
abbrev pub is_inner : List ℕ → Bool
is_inner line = starts_with eqb line (codes "  ")

abbrev pub inner_of : List ℕ → List ℕ
inner_of line = if is_inner line then drop 2 line else line

-- empty lines, and those that `#` begins, are for the reader of the table
abbrev pub is_remark : List ℕ → Bool
is_remark line = if length line == 0 then true else starts_with eqb line (codes "#")

abbrev pub begins_case : List ℕ → Bool
begins_case line = not (is_remark line) && not (is_inner line)

abbrev pub ended : List ℕ → List ℕ
ended line = line ++ codes "\n"

-- a line behind two blanks, where it is not empty
abbrev pub indented_line : List ℕ → List ℕ
indented_line line = (if length line == 0 then [] else codes "  ") ++ ended line

-- a bar stands for a line feed
abbrev pub unbarred : ℕ → ℕ
unbarred byte = if byte == 124 then 10 else byte

-- the first of some lines begins a case
abbrev pub BeginsCase : List (Bor (List ℕ)) → Type 0
BeginsCase [] = ⊥
BeginsCase (line ∷ lines) = IsTrue (begins_case line.now)

-- the case that the first of some lines begins
abbrev pub IsCase : List (Bor (List ℕ)) → Bor (List ℕ) → List (Bor (List ℕ)) → Type 0
IsCase lines head body = (below : List (Bor (List ℕ))) × (lines ≡ head ∷ below)
    × (body ≡ take_while (λ line. is_inner line.now) below)
