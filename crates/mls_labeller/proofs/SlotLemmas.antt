-- Every lower bound is on a variable or a statement of the transaction.
use Rattle.std.proofs.Common.{◌≡◌, ◌+◌, ℕ, ◌<◌, ◌≤◌, List, [], ◌∷◌, ◌++◌, length, map, Option, Some, None, refl, arith, IfSome}
use Rattle.std.specs.List.{AllByRecursion}
use Rattle.mls_translang.specs.Tree.{Writing, Insert, Update, Delete, Stmt, Assign, Write_at, Release, Emit, Block, End, Do, If, For, statements}
use Rattle.mls_translang.specs.Scope.{Scope, in_loop}
use Rattle.mls_translang.specs.Tx.{Tx, IsTx, BlockIsOwn, StmtIsOwn, scope_of}
use Rattle.mls_certcheck.specs.Points.{Point, Plain, directs, points}
use Rattle.mls_certcheck.specs.declared.flow.Line.{Line}
use Rattle.mls_certcheck.specs.Lines.{stmt_lines, own_lines, rest as rest_lines, lines_at, all_points}
use Rattle.mls_labeller.specs.Flows.{body_lines}
use Rattle.mls_labeller.specs.Rising.{HasStatement, HasSlot, HasTargets}
use Rattle.mls_certcheck.specs.declared.flow.Slot.TheVariants.{Variable, Statement}
use Rattle.mls_lattice.proofs.EachLemmas.{all_append, each_flat}

module _ (tx : Tx) where
  abbrev vars : ℕ
  vars = length tx.vars

  abbrev total : ℕ
  total = statements tx.body

  abbrev Has : Line → Type 0
  Has line = HasTargets tx line.flow

  has_inner : (n : ℕ) (b : Block) → 0 < n → n + statements b ≤ total + 1 → AllByRecursion (HasStatement tx)
      (directs n b)
  has_inner n End low high = tt
  has_inner n (Do stmt rest) low high = (
    (low, omega (arith, high)),
    has_inner (n + 1) rest (omega arith)
        (omega (arith, high)),
  )
  has_inner n (If guard one other rest) low high = (
    (low, omega (arith, high)),
    has_inner (n + (1 + statements one + statements other)) rest (omega arith) (omega (arith, high)),
  )
  has_inner n (For row relation label body rest) low high = (
    (low, omega (arith, high)),
    has_inner (n + (1 + statements body)) rest (omega arith) (omega (arith, high)),
  )

  has_map : (ms : List ℕ) → AllByRecursion (HasStatement tx) ms
      → AllByRecursion (HasSlot tx) (map (λ m. Statement m) ms)
  has_map [] h = tt
  has_map (m ∷ ms) h = (h.0, has_map ms h.1)

  module _ (s : Scope) (count : length s.vars ≡ vars) (n : ℕ) (has : HasStatement tx n) where
    known : (i : ℕ) → i < length s.vars → HasSlot tx (Variable n i)
    known i h = (has, omega (arith, h, count))

    has_write : (b : ℕ) (rows : List ℕ) (relation w : ℕ) (writing : Writing) (o : Option ℕ)
        → IfSome o (λ i. i < length s.vars) → AllByRecursion Has (stmt_lines n b rows (Write_at relation w writing o))
    has_write b rows relation w (Insert key values) None h = (tt, (tt, tt))
    has_write b rows relation w (Insert key values) (Some i) h = (tt, (tt, ((known i h, tt), tt)))
    has_write b rows relation w (Update key key_class from sets) None h = (tt, (tt, (tt, (tt, tt))))
    has_write b rows relation w (Update key key_class from sets) (Some i) h =
        (tt, (tt, ((known i h, tt), (tt, (tt, tt)))))
    has_write b rows relation w (Delete key key_class) None h = (tt, (tt, (tt, tt)))
    has_write b rows relation w (Delete key key_class) (Some i) h = (tt, (tt, ((known i h, tt), (tt, tt))))

    has_stmt : (b : ℕ) (rows : List ℕ) (stmt : Stmt) → StmtIsOwn s stmt → AllByRecursion Has (stmt_lines n b rows stmt)
    has_stmt b rows (Assign i e) h = ((known i h.0, tt), tt)
    has_stmt b rows (Write_at relation w writing outcome) h = has_write b rows relation w writing outcome h.1
    has_stmt b rows (Release e to into) h = (tt, (tt, ((known into h.1, tt), tt)))
    has_stmt b rows (Emit e label) h = (tt, (tt, tt))

    has_own : (b : ℕ) (rows : List ℕ) (stmt : Stmt) → StmtIsOwn s stmt
        → AllByRecursion Has (own_lines n b rows (Plain stmt))
    has_own b rows stmt h = all_append Has (stmt_lines n b rows stmt) (rest_lines n b stmt) (has_stmt b rows stmt h)
        (has, tt)

  abbrev HasAt : Point → Type 0
  HasAt p = AllByRecursion Has (lines_at vars p)

  has_points : (s : Scope) → length s.vars ≡ vars → (n around b : ℕ) (rows : List ℕ) (block : Block) → 0 < n
      → n + statements block ≤ total + 1 → BlockIsOwn s block → AllByRecursion HasAt (points n around b rows block)
  has_points s count n around b rows End low high own = tt
  has_points s count n around b rows (Do stmt rest) low high own =
      let has : HasStatement tx n = (low, omega (arith, high)) in (
        (tt, ((has, tt), has_own s count n has b rows stmt own.0)),
        has_points s count (n + 1) around n rows rest
            (omega arith) (omega (arith, high)) own.1,
      )
  has_points s count n around b rows (If guard one other rest) low high own =
      let has : HasStatement tx n = (low, omega (arith, high)) in
      let inner = all_append (HasStatement tx) (directs (n + 1) one) (directs (n + 1 + statements one) other)
      (has_inner (n + 1) one (omega arith) (omega (arith, high))) (has_inner (n + 1 + statements one) other
      (omega arith) (omega (arith, high))) in (
        (
          tt,
          (
            (has, tt),
            (
              has_map (directs (n + 1) one ++ directs (n + 1 + statements one) other) inner,
              (has, (has, tt)),
            ),
          ),
        ),
        all_append HasAt (points (n + 1) n b rows one) _ (has_points s count (n + 1) n b rows one (omega arith)
            (omega (arith, high)) own.1)
            (all_append HasAt (points (n + 1 + statements one) n b rows other) _
            (has_points s count (n + 1 + statements one) n b rows other (omega arith) (omega (arith, high)) own.2)
            (has_points s count (n + (1 + statements one + statements other)) around n rows rest (omega (arith, low))
            (omega (arith, high)) own.3)),
      )
  has_points s count n around b rows (For row relation label body rest) low high own =
      let has : HasStatement tx n = (low, omega (arith, high)) in (
        (
          tt,
          (
            (has, tt),
            (
              tt,
              (
                has_map (directs (n + 1) body) (has_inner (n + 1) body (omega arith)
                    (omega (arith, high))),
                (has, (has, tt)),
              ),
            ),
          ),
        ),
        all_append HasAt (points (n + 1) n n (label ∷ rows) body) _ (has_points (in_loop s row relation) count
            (n + 1) n n (label ∷ rows) body (omega arith) (omega (arith, high)) own.1)
            (has_points s count (n + (1 + statements body)) around n rows rest (omega (arith, low))
            (omega (arith, high)) own.2),
      )

pub lines_have_targets : (tx : Tx) → IsTx tx → AllByRecursion (λ line. HasTargets tx line.flow) (body_lines tx)
lines_have_targets tx is =
    each_flat (λ line. HasTargets tx line.flow) (lines_at (length tx.vars)) (all_points tx)
    (has_points tx (scope_of tx) refl 1 0 0 [] tx.body (omega arith) (omega arith) is.own)
