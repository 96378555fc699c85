-- Statements by number, as they stand in a transaction: 0 is the transaction itself, and a statement comes before those
-- inside it.
use Rattle.std.specs.Prelude.{ℕ, ◌+◌, List, [], ◌∷◌, ◌++◌}
use Rattle.mls_translang.specs.Tree.{Expr, Stmt, Block, End, Do, If, For, statements}

-- a statement, with the numbers of those directly inside, and of those after which it may end
pub data Shape : Type 0 where
  Plain : (stmt : Stmt) → Shape
  Branching : (guard : Expr) (inner ends : List ℕ) → Shape
  Looping : (label : ℕ) (inner ends : List ℕ) → Shape

-- A point of a transaction: a statement, with its number, that of what is around it, that after which it begins, and
-- the labels of
-- the loops around it, the innermost first
pub record Point : Type 0 where
  pub number : ℕ
  pub around : ℕ
  pub before : ℕ
  pub rows : List ℕ
  pub shape : Shape

-- the numbers of a block's own statements, the first of which is n
abbrev pub directs : ℕ → Block → List ℕ
directs n End = []
directs n (Do stmt rest) = n ∷ directs (n + 1) rest
directs n (If guard one other rest) = n ∷ directs (n + (1 + statements one + statements other)) rest
directs n (For row relation label body rest) = n ∷ directs (n + (1 + statements body)) rest

-- the number of the last of them, or that after which the block begins
abbrev pub last : ℕ → ℕ → Block → ℕ
last before n End = before
last before n (Do stmt rest) = last n (n + 1) rest
last before n (If guard one other rest) = last n (n + (1 + statements one + statements other)) rest
last before n (For row relation label body rest) = last n (n + (1 + statements body)) rest

-- a branch begins both blocks after what it begins after itself, and ends after one of them
abbrev pub branching : ℕ → ℕ → Expr → Block → Block → Shape
branching n before guard one other =
    Branching guard (directs (n + 1) one ++ directs (n + 1 + statements one) other) (last before (n + 1) one
    ∷ last before (n + 1 + statements one) other ∷ [])

-- each turn of a loop begins after the loop itself, so it ends after what it begins after, and after a turn
abbrev pub looping : ℕ → ℕ → ℕ → Block → Shape
looping n before label body = Looping label (directs (n + 1) body) (before ∷ last n (n + 1) body ∷ [])

-- all statements of a block, the first of which is n
abbrev pub points : ℕ → ℕ → ℕ → List ℕ → Block → List Point
points n around before rows End = []
points n around before rows (Do stmt rest) =
    record { number = n; around = around; before = before; rows = rows; shape = Plain stmt }
    ∷ points (n + 1) around n rows rest
points n around before rows (If guard one other rest) =
    record { number = n; around = around; before = before; rows = rows; shape = branching n before guard one other }
    ∷ (points (n + 1) n before rows one ++ (points (n + 1 + statements one) n before rows other
    ++ points (n + (1 + statements one + statements other)) around n rows rest))
points n around before rows (For row relation label body rest) =
    record { number = n; around = around; before = before; rows = rows; shape = looping n before label body }
    ∷ (points (n + 1) n n (label ∷ rows) body ++ points (n + (1 + statements body)) around n rows rest)
