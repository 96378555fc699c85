-- What the lines of a statement say of the labels of its parts.
use Rattle.std.proofs.Common.{ℕ, ◌+◌, ◌<◌, List, [], ◌∷◌, ◌++◌, length, map, Option, Some, None, slice_index, flat_map, IfSome}
use Rattle.std.specs.List.{AllByRecursion}
use Rattle.mls_lattice.specs.Lattice.{Pair, Dominates, join, bottom}
use Rattle.mls_lattice.specs.Labels.{label_of}
use Rattle.mls_lattice.proofs.LatticeLemmas.{join-least}
use Rattle.mls_translang.specs.Tree.{Expr, Known, Null, Var, Param, Field, No, Op, Writing, Stmt, Assign, Write_at, Release, Emit, Block, statements}
use Rattle.mls_certcheck.specs.Points.{Shape, Plain, Point, directs, last, branching, looping}
use Rattle.mls_scheme.specs.Writes.{operands}
use Rattle.mls_certcheck.specs.Lines.{names, target, stmt_lines, rest, lines_at, tx_lines, all_points}
use Rattle.mls_certcheck.specs.Rules.{Claim, hi, after, pc, param_label, source_label, IsAbove, IsObeyed, Rules}
use Rattle.mls_certcheck.specs.declared.flow.Slot.TheVariants.{Statement}
use Rattle.mls_certcheck.specs.declared.flow.Source.{Source}
use Rattle.mls_certcheck.specs.declared.flow.Source.TheVariants.{Held, Declared}
use Rattle.mls_certcheck.specs.declared.flow.Flow.TheVariants.{Into, Kept}
use Rattle.mls_lattice.proofs.EachLemmas.{all_front, all_back, all_if, flat_each}
use Rattle.mls_certcheck.proofs.LabelLemmas.{above_bottom}

module _ (c : Claim) where
  -- the join of the labels of the names in an expression, after the statement b
  abbrev pub lab : ℕ → List ℕ → Expr → Pair
  lab b rows (Known v) = bottom
  lab b rows Null = bottom
  lab b rows (Var x) = after c b x
  lab b rows (Param i) = param_label c i
  lab b rows (Field depth i) = label_of c.labels (slice_index rows depth)
  lab b rows (No e) = lab b rows e
  lab b rows (Op op left right) = join (lab b rows left) (lab b rows right)

  pub over_names : (b : ℕ) (rows : List ℕ) (e : Expr) (p : Pair) → IsAbove c p (names b rows e)
      → Dominates p (lab b rows e)
  over_names b rows (Known v) p h = above_bottom p
  over_names b rows Null p h = above_bottom p
  over_names b rows (No e) p h = over_names b rows e p h
  over_names b rows (Op op l r) p h =
      join-least (lab b rows l) (lab b rows r) p
      (over_names b rows l p (all_front (λ s. Dominates p (source_label c s)) (names b rows l) (names b rows r) h))
      (over_names b rows r p (all_back (λ s. Dominates p (source_label c s)) (names b rows l) (names b rows r) h))
  over_names b rows _ p h = h.0

  -- what a variable holds after the one statement, it may hold after the other
  abbrev pub Keeps : ℕ → ℕ → Type 0
  Keeps m n = (x : ℕ) → x < length c.tx.vars → Dominates (after c n x) (after c m x)

  keeps : (m n : ℕ) → IsObeyed c (Kept m n None) → Keeps m n
  keeps m n h x lt = h x lt (λ e. absurd cc)

  -- the lines of a statement hold
  abbrev pub Obeys : Point → Type 0
  Obeys p = AllByRecursion (λ l. IsObeyed c l.flow) (lines_at (length c.tx.vars) p)

  -- a pair that is under the labels of statements inside
  body_over : (sources : List Source) (l : Pair) → ((p : Pair) → IsAbove c p sources → Dominates p l) → (inner : List ℕ)
      → IsObeyed c (Into (map (λ m. Statement m) inner) sources) → AllByRecursion (λ m. Dominates (pc c m) l) inner
  body_over sources l f [] h = tt
  body_over sources l f (m ∷ ms) h = (f (pc c m) h.0, body_over sources l f ms h.1)

  module _ (n a b : ℕ) (rows : List ℕ) where
    abbrev ObeysAt : Shape → Type 0
    ObeysAt shape = Obeys (record { number = n; around = a; before = b; rows = rows; shape = shape })

    -- that the statement runs, and an expression
    both_over : (e : Expr) (p : Pair) → IsAbove c p (Held (Statement n) ∷ names b rows e)
        → Dominates p (join (pc c n) (lab b rows e))
    both_over e p h = join-least (pc c n) (lab b rows e) p h.0 (over_names b rows e p h.1)

    pub runs_in : (shape : Shape) → ObeysAt shape → Dominates (pc c n) (pc c a)
    runs_in shape h = h.1.0.0.0

    pub rests : (stmt : Stmt) → ObeysAt (Plain stmt) → IsObeyed c (Kept b n (target stmt))
    rests stmt h = (all_back (λ l. IsObeyed c l.flow) (stmt_lines n b rows stmt) (rest n b stmt) h.1.1).0

    pub assigned : (x : ℕ) (e : Expr) → ObeysAt (Plain (Assign x e))
        → Dominates (after c n x) (join (pc c n) (lab b rows e))
    assigned x e h = both_over e (after c n x) h.1.1.0.0

    module _ (relation w : ℕ) (writing : Writing) where
      pub write_context : (outcome : Option ℕ) → ObeysAt (Plain (Write_at relation w writing outcome))
          → Dominates (label_of c.labels w) (pc c n)
      write_context outcome h = h.1.1.0.0

      pub write_operands : (outcome : Option ℕ) → ObeysAt (Plain (Write_at relation w writing outcome))
          → AllByRecursion (λ e. Dominates (label_of c.labels w) (lab b rows e)) (operands writing)
      write_operands outcome h =
          let l = label_of c.labels w in
          all_if (λ e. IsAbove c l (names b rows e)) (λ e. Dominates l (lab b rows e)) (λ e. over_names b rows e l)
          (operands writing)
          (flat_each (λ s. Dominates l (source_label c s)) (names b rows) (operands writing) h.1.1.0.1)

      pub write_into : (outcome : Option ℕ) → ObeysAt (Plain (Write_at relation w writing outcome))
          → IfSome outcome (λ x. Dominates (after c n x) (label_of c.labels w))
      write_into None h = tt
      write_into (Some x) h = h.1.1.1.1.0.0.0

    module _ (e : Expr) (to into : ℕ) (h : ObeysAt (Plain (Release e to into))) where
      pub release_context : Dominates (label_of c.labels to) (pc c n)
      release_context = h.1.1.0.0

      pub release_names : IsAbove c (hi c) (names b rows e)
      release_names = h.1.1.1.0

      pub release_value : Dominates (hi c) (lab b rows e)
      release_value = over_names b rows e (hi c) h.1.1.1.0

      pub release_target : Dominates (after c n into) (label_of c.labels to)
      release_target = h.1.1.1.1.0.0.0

    module _ (e : Expr) (label : ℕ) (h : ObeysAt (Plain (Emit e label))) where
      pub emit_context : Dominates (label_of c.labels label) (pc c n)
      emit_context = h.1.1.0.0

      pub emit_value : Dominates (label_of c.labels label) (lab b rows e)
      emit_value = over_names b rows e (label_of c.labels label) h.1.1.0.1

    module _ (guard : Expr) (one other : Block) (h : ObeysAt (branching n b guard one other)) where
      pub branch_body : AllByRecursion (λ m. Dominates (pc c m) (join (pc c n) (lab b rows guard))) (directs (n + 1) one
          ++ directs (n + 1 + statements one) other)
      branch_body = body_over (Held (Statement n) ∷ names b rows guard) (join (pc c n) (lab b rows guard))
          (both_over guard) (directs (n + 1) one ++ directs (n + 1 + statements one) other) h.1.1.0

      pub branch_one : Keeps (last b (n + 1) one) n
      branch_one = keeps (last b (n + 1) one) n h.1.1.1.0

      pub branch_other : Keeps (last b (n + 1 + statements one) other) n
      branch_other = keeps (last b (n + 1 + statements one) other) n h.1.1.1.1.0

    module _ (label : ℕ) (body : Block) (h : ObeysAt (looping n b label body)) where
      pub loop_body : AllByRecursion (λ m. Dominates (pc c m) (join (pc c n) (label_of c.labels label)))
          (directs (n + 1) body)
      loop_body = body_over (Held (Statement n) ∷ Declared label ∷ []) (join (pc c n) (label_of c.labels label))
          (λ p k. join-least (pc c n) (label_of c.labels label) p k.0 k.1.0) (directs (n + 1) body) h.1.1.1.0

      pub loop_begin : Keeps b n
      loop_begin = keeps b n h.1.1.1.1.0

      pub loop_turn : Keeps (last n (n + 1) body) n
      loop_turn = keeps (last n (n + 1) body) n h.1.1.1.1.1.0

  -- the rules hold at each statement
  pub rules_everywhere : Rules c → AllByRecursion Obeys (all_points c.tx)
  rules_everywhere r =
      flat_each (λ l. IsObeyed c l.flow) (lines_at (length c.tx.vars)) (all_points c.tx)
      (all_back (λ l. IsObeyed c l.flow) (tx_lines c.tx) (flat_map (lines_at (length c.tx.vars))
      (all_points c.tx)) r.lines)
