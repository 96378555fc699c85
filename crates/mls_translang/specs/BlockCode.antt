-- A block as a list of marks, each behind the blocks in it.
use Rattle.std.specs.Prelude.{◌≡◌, ℕ, List, [], ◌∷◌, ◌++◌, refl}
use Rattle.std.specs.Coded.{Coded, code_by}
use Rattle.std.proofs.Common.{sym, ap, ◌∙◌, append_assoc}
use Rattle.std.proofs.lemmas.List.{append-nil}
use Rattle.mls_lattice.specs.Policy.{Name}
use Rattle.mls_translang.specs.Tree.{Expr, Stmt, Block, End, Do, If, For}

pub data Mark : Type 0 where
  An_end : Mark
  A_stmt : (stmt : Stmt) → Mark
  An_if : (guard : Expr) → Mark
  A_for : (row : Name) (relation label : ℕ) → Mark

abbrev pub marks : Block → List Mark
marks End = An_end ∷ []
marks (Do stmt rest) = marks rest ++ A_stmt stmt ∷ []
marks (If guard one other rest) = marks one ++ (marks other ++ (marks rest ++ An_if guard ∷ []))
marks (For row relation label body rest) = marks body ++ (marks rest ++ A_for row relation label ∷ [])

abbrev pub do_on : Stmt → List Block → List Block
do_on stmt [] = []
do_on stmt (rest ∷ bs) = Do stmt rest ∷ bs

abbrev pub if_on : Expr → List Block → List Block
if_on guard (rest ∷ other ∷ one ∷ bs) = If guard one other rest ∷ bs
if_on guard _ = []

abbrev pub for_on : Name → ℕ → ℕ → List Block → List Block
for_on row relation label (rest ∷ body ∷ bs) = For row relation label body rest ∷ bs
for_on row relation label _ = []

abbrev pub built : List Mark → List Block → List Block
built [] bs = bs
built (An_end ∷ ms) bs = built ms (End ∷ bs)
built (A_stmt stmt ∷ ms) bs = built ms (do_on stmt bs)
built (An_if guard ∷ ms) bs = built ms (if_on guard bs)
built (A_for row relation label ∷ ms) bs = built ms (for_on row relation label bs)

abbrev pub top_of : List Block → Block
top_of [] = End
top_of (b ∷ bs) = b

pub built-marks : (b : Block) (ms : List Mark) (bs : List Block) → built (marks b ++ ms) bs ≡ built ms (b ∷ bs)
built-marks End ms bs = refl
built-marks (Do stmt rest) ms bs = ap (λ l. built l bs) (append_assoc (marks rest) (A_stmt stmt ∷ []) ms)
    ∙ built-marks rest (A_stmt stmt ∷ ms) bs
built-marks (If guard one other rest) ms bs =
    ap (λ l. built l bs)
    (append_assoc (marks one) _ ms ∙ ap (λ l. marks one ++ l) (append_assoc (marks other) _ ms
    ∙ ap (λ l. marks other ++ l) (append_assoc (marks rest) (An_if guard ∷ []) ms)))
    ∙ built-marks one (marks other ++ (marks rest ++ An_if guard ∷ ms)) bs
    ∙ built-marks other (marks rest ++ An_if guard ∷ ms) (one ∷ bs)
    ∙ built-marks rest (An_if guard ∷ ms) (other ∷ one ∷ bs)
built-marks (For row relation label body rest) ms bs =
    ap (λ l. built l bs) (append_assoc (marks body) _ ms ∙ ap (λ l. marks body ++ l) (append_assoc (marks rest)
    (A_for row relation label ∷ []) ms))
    ∙ built-marks body (marks rest ++ A_for row relation label ∷ ms) bs
    ∙ built-marks rest (A_for row relation label ∷ ms) (body ∷ bs)

pub read_back : (b : Block) → top_of (built (marks b) []) ≡ b
read_back b = ap (λ l. top_of (built l [])) (sym (append-nil (marks b))) ∙ ap top_of (built-marks b [] [])

abbrev pub block_code : Coded (List Mark) → Coded Block
block_code marks_code = code_by (List Mark) marks_code marks (λ ms. top_of (built ms [])) read_back
