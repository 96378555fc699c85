-- What the rules ask of a transaction, as lines: each says what flows where, by a rule, at a statement.
use Rattle.std.specs.Prelude.{ℕ, zero, suc, List, [], ◌∷◌, ◌++◌, length, map, slice_index, Option, Some, None, flat_map}
use Rattle.mls_scheme.specs.Writes.{operands}
use Rattle.mls_translang.specs.Tree.{Expr, Known, Null, Var, Param, Field, No, Op, Writing, Insert, Update, Delete}
use Rattle.mls_translang.specs.Tree.{Stmt, Assign, Write_at, Release, Emit}
use Rattle.mls_translang.specs.Tx.{Tx}
use Rattle.mls_certcheck.specs.Points.{Shape, Plain, Branching, Looping, Point, points}
use Rattle.mls_certcheck.specs.declared.flow.Slot.TheVariants.{Variable, Statement}
use Rattle.mls_certcheck.specs.declared.flow.Source.{Source}
use Rattle.mls_certcheck.specs.declared.flow.Source.TheVariants.{Held, Parameter, Declared}
use Rattle.mls_certcheck.specs.declared.flow.Flow.{Flow}
use Rattle.mls_certcheck.specs.declared.flow.Flow.TheVariants.{Into, Kept, Within, Under}
pub use Rattle.mls_certcheck.specs.declared.flow.Line.{Line}
use Rattle.mls_certcheck.specs.declared.refusal.Rule.{Rule}
use Rattle.mls_certcheck.specs.declared.refusal.Rule.TheVariants as rule

-- the lines of a rule at a statement; the name beside them alone ties its number to them: two numbers that are
-- swapped, here and in the code, are proved
abbrev pub by : ℕ → Rule → List Flow → List Line
by n r flows = map (λ f. record { flow = f; refusal = record { stmt = n; rule = r } }) flows

-- ---- what flows out of expressions and variables

-- the names in an expression after the statement b; the rows are those of the loops around, the innermost first
abbrev pub names : ℕ → List ℕ → Expr → List Source
names b rows (Known v) = []
names b rows Null = []
names b rows (Var x) = Held (Variable b x) ∷ []
names b rows (Param i) = Parameter i ∷ []
names b rows (Field depth i) = Declared (slice_index rows depth) ∷ []
names b rows (No e) = names b rows e
names b rows (Op op left right) = names b rows left ++ names b rows right

-- the first so many variables after the statement n
abbrev pub variables : ℕ → ℕ → List Source
variables n zero = []
variables n (suc x) = Held (Variable n x) ∷ variables n x

-- the variable that a statement gives another value
abbrev pub target : Stmt → Option ℕ
target (Assign x e) = Some x
target (Write_at relation w writing outcome) = outcome
target (Release e to into) = Some into
target (Emit e label) = None

-- into statements
abbrev pub into_each : List ℕ → List Source → Flow
into_each inner sources = Into (map (λ m. Statement m) inner) sources

-- what variables hold after each of these, they may hold after the statement n
abbrev pub all_kept : ℕ → List ℕ → List Flow
all_kept n ends = map (λ m. Kept m n None) ends

-- ---- the rules of a statement: its own number is n, it begins after b, and the rows are those of the loops around

-- ceiling (own): nothing lies above the upper end; in version 1 that is true of variables at each statement,
-- once it is true of them in the transaction
abbrev pub ceiling : ℕ → ℕ → List Line
ceiling vars n = by n rule.AboveCeiling (Under (Held (Statement n) ∷ variables n vars) ∷ [])

-- context (Denning and Denning): a statement runs only where what is around it runs
abbrev pub context : ℕ → ℕ → List Line
context n around = by n rule.Context (Into (Statement n ∷ []) (Held (Statement around) ∷ []) ∷ [])

-- assignment (Denning and Denning): into a variable flow the value, and that the statement runs
abbrev pub assignment : ℕ → ℕ → List ℕ → ℕ → Expr → List Line
assignment n b rows x e = by n rule.Assignment (Into (Variable n x ∷ []) (Held (Statement n) ∷ names b rows e) ∷ [])

-- branch (Denning and Denning): into its statements flows the guard; variables keep what they hold at the end of each
-- block
abbrev pub branch : ℕ → ℕ → List ℕ → Expr → List ℕ → List ℕ → List Line
branch n b rows guard inner ends =
    by n rule.Branch (into_each inner (Held (Statement n) ∷ names b rows guard) ∷ all_kept n ends)

-- loop (Denning and Denning): into its statements flows which rows there are; variables keep what they hold before and
-- after each turn
abbrev pub row_loop : ℕ → ℕ → List ℕ → List ℕ → List Line
row_loop n label inner ends =
    by n rule.RowLoop (Under (Declared label ∷ []) ∷ into_each inner (Held (Statement n) ∷ Declared label ∷ [])
    ∷ all_kept n ends)

-- what is seen at the label of a write flows into its outcome
abbrev pub outcome_flows : ℕ → ℕ → Option ℕ → List Flow
outcome_flows n w None = []
outcome_flows n w (Some x) = Into (Variable n x ∷ []) (Declared w ∷ []) ∷ []

-- write (own): into the relation flow the operands, and that the statement runs; out of it flows the outcome
abbrev pub write : ℕ → ℕ → List ℕ → ℕ → Writing → Option ℕ → List Line
write n b rows w writing outcome =
    by n rule.Write (Within w (Held (Statement n) ∷ flat_map (names b rows) (operands writing))
    ∷ Under (Declared w ∷ []) ∷ outcome_flows n w outcome)

-- order (own): a write finds its entity and its tuple among those at its label
abbrev pub order : ℕ → ℕ → Writing → List Line
order n w (Insert key values) = []
order n w (Update key key_class from sets) = by n rule.Order (Within from (Declared key_class ∷ [])
    ∷ Within w (Declared from ∷ []) ∷ [])
order n w (Delete key key_class) = by n rule.Order (Within w (Declared key_class ∷ []) ∷ [])

-- release (own): it takes a value below the ceiling down to a label, but not that the statement runs
abbrev pub release : ℕ → ℕ → List ℕ → Expr → ℕ → ℕ → List Line
release n b rows e to into =
    by n rule.Release (Within to (Held (Statement n) ∷ []) ∷ Under (names b rows e) ∷ Into (Variable n into ∷ [])
    (Declared to ∷ []) ∷ [])

-- emission (own): out flow the value, and that the statement runs
abbrev pub emit : ℕ → ℕ → List ℕ → Expr → ℕ → List Line
emit n b rows e label = by n rule.Emit (Within label (Held (Statement n) ∷ names b rows e) ∷ Under (Declared label ∷ [])
    ∷ [])

-- rest (own): a statement leaves each variable but its target as it was
abbrev pub rest : ℕ → ℕ → Stmt → List Line
rest n b stmt = by n rule.Rest (Kept b n (target stmt) ∷ [])

-- context of the transaction (own): the label of a parameter lies between the ends
abbrev pub within_ends : ℕ → List Flow
within_ends label = Within label (Held (Statement 0) ∷ []) ∷ Under (Declared label ∷ []) ∷ []

-- ---- all of them, in the order in which a checker names the first that is broken

abbrev pub stmt_lines : ℕ → ℕ → List ℕ → Stmt → List Line
stmt_lines n b rows (Assign x e) = assignment n b rows x e
stmt_lines n b rows (Write_at relation w writing outcome) = write n b rows w writing outcome ++ order n w writing
stmt_lines n b rows (Release e to into) = release n b rows e to into
stmt_lines n b rows (Emit e label) = emit n b rows e label

abbrev pub own_lines : ℕ → ℕ → List ℕ → Shape → List Line
own_lines n b rows (Plain stmt) = stmt_lines n b rows stmt ++ rest n b stmt
own_lines n b rows (Branching guard inner ends) = branch n b rows guard inner ends
own_lines n b rows (Looping label inner ends) = row_loop n label inner ends

-- at a statement, of so many variables
abbrev pub lines_at : ℕ → Point → List Line
lines_at vars p = ceiling vars p.number ++ (context p.number p.around ++ own_lines p.number p.before p.rows p.shape)

-- of the transaction itself
abbrev pub tx_lines : Tx → List Line
tx_lines tx =
    by 0 rule.AboveCeiling (Under (variables 0 (length tx.vars)) ∷ [])
    ++ by 0 rule.Context (flat_map (λ p. within_ends p.1.label) tx.params)

abbrev pub all_points : Tx → List Point
all_points tx = points 1 0 0 [] tx.body

-- all but those of the transaction itself
abbrev pub body_lines : Tx → List Line
body_lines tx = flat_map (lines_at (length tx.vars)) (all_points tx)

abbrev pub lines : Tx → List Line
lines tx = tx_lines tx ++ body_lines tx
