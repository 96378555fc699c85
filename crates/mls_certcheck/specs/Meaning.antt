-- What a transaction does to a database, and the values that it emits and releases. Labels of variables play no part.
use Rattle.std.specs.Prelude.{ℕ, if◌then◌else◌, cond, nat_eq, List, [], ◌∷◌, ◌++◌, map, Option, Some, None, pos}
use Rattle.mls_lattice.specs.Labels.{Labels}
use Rattle.mls_scheme.specs.declared.value.Value.{Value}
use Rattle.mls_scheme.specs.declared.value.Value.TheVariants.{Int}
use Rattle.mls_scheme.specs.declared.tuple.Tuple.{Tuple}
use Rattle.mls_scheme.specs.Table.{Database}
use Rattle.mls_scheme.specs.Scheme.{Schemes, scheme_of}
use Rattle.mls_filterview.specs.View.{rows}
use Rattle.mls_filterview.specs.Content.{with_table}
use Rattle.mls_updates.specs.declared.outcome.Outcome.{Outcome}
use Rattle.mls_updates.specs.Outcome.{code_of}
use Rattle.mls_updates.specs.Writes.{Sets, Write, Insert, Update, Delete, write}
use Rattle.mls_translang.specs.Tree.{Expr, Stmt, Assign, Writing, Write_at, Release, Emit, Block, End, Do, If, For}
use Rattle.mls_translang.specs.Tx.{Tx}
use Rattle.mls_translang.specs.Expressions.{Environment, value_in, holds_in}

-- what is emitted or released: the label that may see it, and a value or null
abbrev pub Item : Type 0
Item = ℕ × Option Value

-- variables by number
abbrev pub Variables : Type 0
Variables = ℕ → Option Value

-- how far a run has come
pub record Progress : Type 0 where
  pub db : Database
  pub vars : Variables
  pub emitted : List Item
  pub released : List Item

-- variables begin as null
abbrev pub start : Database → Progress
start db = record { db = db; vars = λ i. None; emitted = []; released = [] }

-- ---- variables

abbrev pub set_var : ℕ → Option Value → Variables → Variables
set_var x v vars i = if nat_eq i x then v else vars i

-- the outcome's number, where a variable is named for it
abbrev pub set_outcome : Option ℕ → Outcome → Variables → Variables
set_outcome None o vars = vars
set_outcome (Some x) o vars = set_var x (Some (Int (pos (code_of o)))) vars

-- what expressions read in the loops over these rows
abbrev pub environment : List (Option Value) → List Tuple → Progress → Environment
environment args around s = record { args = args; rows = around; vars = s.vars }

-- ---- statements

-- the write whose operands have these values
abbrev pub values_set : Environment → List (ℕ × Expr) → Sets
values_set env sets = map (λ x. (x.0, value_in env x.1)) sets

abbrev pub write_in : Environment → Writing → Write
write_in env (Insert key values) = Insert (map (value_in env) key) (map (value_in env) values)
write_in env (Update key key_class from sets) = Update (map (value_in env) key) key_class from (values_set env sets)
write_in env (Delete key key_class) = Delete (map (value_in env) key) key_class

-- the rows one after another
abbrev pub for_each : (Tuple → Progress → Progress) → List Tuple → Progress → Progress
for_each f [] s = s
for_each f (row ∷ rest) s = for_each f rest (f row s)

module _ (ls : Labels) (schemes : Schemes) (args : List (Option Value)) where
  -- a write that is refused changes nothing and goes on
  abbrev pub do_write : ℕ → ℕ → Write → Option ℕ → Progress → Progress
  do_write relation w wr outcome s =
      let new = write ls (scheme_of schemes relation) w wr (s.db relation) in
      record s { db = with_table s.db relation new.table; vars = set_outcome outcome new.outcome s.vars }

  unfoldable pub perform : List Tuple → Stmt → Progress → Progress
  perform around (Assign x e) s = record s { vars = set_var x (value_in (environment args around s) e) s.vars }
  perform around (Write_at relation w writing outcome) s = do_write relation w
      (write_in (environment args around s) writing) outcome s
  perform around (Release e to into) s =
      let v = value_in (environment args around s) e in
      record s { vars = set_var into v s.vars; released = s.released ++ (to, v) ∷ [] }
  perform around (Emit e label) s = record s {
    emitted = s.emitted ++ (label, value_in (environment args around s) e)
        ∷ [];
  }

  -- a loop goes over the rows of the view as it stands where the loop begins
  unfoldable pub run_block : Block → List Tuple → Progress → Progress
  run_block End around s = s
  run_block (Do stmt rest) around s = run_block rest around (perform around stmt s)
  run_block (If guard one other rest) around s =
      run_block rest around (cond (holds_in (environment args around s) guard) (run_block one around s)
      (run_block other around s))
  run_block (For name relation label body rest) around s =
      run_block rest around (for_each (λ row t. run_block body (row ∷ around) t) (rows ls label (s.db relation)) s)

-- a whole call
abbrev pub run_tx : Labels → Schemes → Tx → List (Option Value) → Database → Progress
run_tx ls schemes tx args db = run_block ls schemes args tx.body [] (start db)
