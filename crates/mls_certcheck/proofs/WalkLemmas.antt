-- How the walk goes from statement to statement.
use Rattle.std.proofs.Common.{◌≡◌, ℕ, suc, ◌+◌, ◌<◌, ◌≤◌, List, [], ◌∷◌, ◌++◌, length, drop, get_or, Result, refl, sym, ap, ◌∙◌, subst, append_assoc, arith, add-zero, flat_map, append-nil}
use Rattle.std.proofs.Math.Seq.{drop-cons}
use Rattle.std.proofs.lemmas.Grind.{flat_map-append}
use Rattle.mls_translang.specs.Tree.{Expr, Stmt as Simple, Block, End, Do, If, For, statements}
use Rattle.mls_translang.specs.Tx.{Tx, depth}
use Rattle.mls_translang.specs.Blocks.{block_of}
use Rattle.mls_translang.specs.declared.block.Stmt.{Stmt}
use Rattle.mls_translang.specs.declared.block.Stmt.TheVariants as stmt
use Rattle.mls_translang.proofs.BlockLemmas.{statements_more}
use Rattle.mls_certcheck.specs.Points.{Point, Plain, branching, looping, last, points}
use Rattle.mls_certcheck.specs.Lines.{Line, lines_at, body_lines}
use Rattle.mls_certcheck.specs.Loops.{loops_of}
use Rattle.mls_certcheck.specs.Walk.{walked_lines, here_lines, inner_of, block_lines}
use Rattle.mls_certcheck.specs.declared.lent.Here.{Here}

-- ---- one block after another

abbrev then : Block → Block → Block
then End after = after
then (Do s rest) after = Do s (then rest after)
then (If guard one other rest) after = If guard one other (then rest after)
then (For row relation label body rest) after = For row relation label body (then rest after)

first_then : (s : Stmt) (rest : List Stmt) → block_of (s ∷ rest) ≡ then (block_of (s ∷ [])) (block_of rest)
first_then (stmt.Assign x e) rest = refl
first_then _ rest = refl

-- one statement is the last of its block
last_one : (before n : ℕ) (s : Stmt) → last before n (block_of (s ∷ [])) ≡ n
last_one before n (stmt.Assign x e) = refl
last_one before n _ = refl

depth-then : (b d : Block) → (depth b ≤ depth (then b d)) × (depth d ≤ depth (then b d))
depth-then End d = (omega arith, omega arith)
depth-then (Do s rest) d = let h = depth-then rest d in (omega (arith, h.0, h.1), omega (arith, h.0, h.1))
depth-then (If guard one other rest) d = let h = depth-then rest d in (omega (arith, h.0, h.1), omega (arith, h.0, h.1))
depth-then (For row relation label body rest) d = let h = depth-then rest d
    in (omega (arith, h.0, h.1), omega (arith, h.0, h.1))

-- the number after which each turn of the loop n begins, where the loop itself begins after another
abbrev pub turn : ℕ → ℕ → ℕ
turn n before = n

points-then : (n around before : ℕ) (rows : List ℕ) (b d : Block) → points n around before rows (then b d)
    ≡ points n around before rows b ++ points (n + statements b) around (last before n b) rows d
points-then n around before rows End d = λ i. points (sym (add-zero n) i) around before rows d
points-then n around before rows (Do s rest) d =
    let e : n + 1 + statements rest ≡ n + (1 + statements rest) = omega arith in
    ap (λ (ps : List Point). record { number = n; around = around; before = before; rows = rows; shape = Plain s } ∷ ps)
    (points-then (n + 1) around n rows rest d ∙ (λ i. points (n + 1) around n rows rest ++ points (e i) around
    (last n (n + 1) rest) rows d))
points-then n around before rows (If guard one other rest) d =
    let m = n + (1 + statements one + statements other) in
    let a = points (n + 1) n before rows one in
    let b = points (n + 1 + statements one) n before rows other in
    let r = points m around n rows rest in
    let k = last n m rest in
    let e : m + statements rest ≡ n + (1 + statements one + statements other + statements rest) = omega arith in
    let after : points m around n rows (then rest d)
    ≡ r ++ points (n + (1 + statements one + statements other + statements rest)) around k rows d =
    points-then m around n rows rest d ∙ (λ i. r ++ points (e i) around k rows d) in
    let z = points (n + (1 + statements one + statements other + statements rest)) around k rows d in
    ap (λ (ps : List Point). record {
      number = n;
      around = around;
      before = before;
      rows = rows;
      shape =
          branching n before guard one other;
    } ∷ ps) (
    ap (λ (ps : List Point). a ++ (b ++ ps)) after ∙ ap (λ (ps : List Point). a ++ ps) (sym (append_assoc b r z))
    ∙ sym (append_assoc a (b ++ r) z)
    )
points-then n around before rows (For row relation label body rest) d =
    let m = n + (1 + statements body) in
    let a = points (n + 1) n (turn n before) (label ∷ rows) body in
    let r = points m around n rows rest in
    let k = last n m rest in
    let e : m + statements rest ≡ n + (1 + statements body + statements rest) = omega arith in
    let after : points m around n rows (then rest d)
    ≡ r ++ points (n + (1 + statements body + statements rest)) around k rows d = points-then m around n rows rest d
    ∙ (λ i. r ++ points (e i) around k rows d) in
    let z = points (n + (1 + statements body + statements rest)) around k rows d in
    ap (λ (ps : List Point). record {
      number = n;
      around = around;
      before = before;
      rows = rows;
      shape =
          looping n before label body;
    } ∷ ps) (ap (λ (ps : List Point). a ++ ps) after ∙ sym (append_assoc a r z))

-- the first statement of a block, and the rest
pub points_first : (n around before : ℕ) (rows : List ℕ) (s : Stmt) (rest : List Stmt)
    → points n around before rows (block_of (s ∷ rest)) ≡ points n around before rows (block_of (s ∷ []))
    ++ points (n + statements (block_of (s ∷ []))) around n rows (block_of rest)
points_first n around before rows s rest =
    ap (points n around before rows) (first_then s rest) ∙ points-then n around before rows (block_of (s ∷ []))
    (block_of rest)
    ∙ ap (λ (k : ℕ). points n around before rows (block_of (s ∷ []))
    ++ points (n + statements (block_of (s ∷ []))) around k rows (block_of rest)) (last_one before n s)

pub depth_first : (s : Stmt) (rest : List Stmt) → (depth (block_of (s ∷ [])) ≤ depth (block_of (s ∷ rest)))
    × (depth (block_of rest) ≤ depth (block_of (s ∷ rest)))
depth_first s rest =
    let h = depth-then (block_of (s ∷ [])) (block_of rest) in
    let e = ap depth (first_then s rest) in
    (omega (arith, e, h.0), omega (arith, e, h.1))

-- ---- the loop over the statements of a block

pub drop_here : {A : Type 0} (items : List A) (i : ℕ) (s : A) → i < length items → s ≡ get_or items i s → drop i items
    ≡ s ∷ drop (i + 1) items
drop_here items i s within is =
    let next : suc i ≡ i + 1 = omega arith in
    drop-cons items i s within ∙ (λ k. sym is k ∷ drop (next k) items)

module _ (items : List Stmt) (i : ℕ) (s : Stmt) (within : i < length items) (is : s ≡ get_or items i s) where
  pub split_statements : statements (block_of (drop i items)) ≡ statements (block_of (s ∷ [])) + statements
      (block_of (drop (i + 1) items))
  split_statements = ap (λ (ss : List Stmt). statements (block_of ss)) (drop_here items i s within is)
      ∙ statements_more s (drop (i + 1) items)

  pub split_depth : (depth (block_of (s ∷ [])) ≤ depth (block_of (drop i items)))
      × (depth (block_of (drop (i + 1) items)) ≤ depth (block_of (drop i items)))
  split_depth =
      let e = ap (λ (ss : List Stmt). depth (block_of ss)) (drop_here items i s within is) in
      let h = depth_first s (drop (i + 1) items) in
      (omega (arith, e, h.0), omega (arith, e, h.1))

  -- the lines of what is left are those of its first statement, and of the rest
  pub split_lines : (vars n around before : ℕ) (rows : List ℕ) → walked_lines vars n around before rows
      (block_of (s ∷ [])) ++ walked_lines vars (n + statements (block_of (s ∷ []))) around n rows
      (block_of (drop (i + 1) items)) ≡ walked_lines vars n around before rows (block_of (drop i items))
  unfolding walked_lines
  split_lines vars n around before rows =
      sym (
      ap (λ (ss : List Stmt). flat_map (lines_at vars) (points n around before rows (block_of ss)))
      (drop_here items i s within is)
      ∙ ap (flat_map (lines_at vars)) (points_first n around before rows s (drop (i + 1) items)) ∙ flat_map-append
      (lines_at vars) _ _
      )

-- of the whole transaction
pub whole_lines : (vars : ℕ) (rows : List ℕ) (body : Block) (tx : Tx) → vars ≡ length tx.vars → rows ≡ []
    → body ≡ tx.body → walked_lines vars 1 0 0 rows body ≡ body_lines tx
unfolding walked_lines
whole_lines vars rows body tx v r b = λ i. flat_map (lines_at (v i)) (points 1 0 0 (r i) (b i))

-- a visitor was shown the same lines
pub same_lines : {S E : Type 0} {v w : S} {ls ms : List Line} {r : Result (Unit {0}) E} (visits : S → List Line
    → Result (Unit {0}) E → S → Type 0) → ls ≡ ms → visits v ls r w → visits v ms r w
same_lines {v = v} {w = w} {r = r} visits e h = subst (λ (ls : List Line). visits v ls r w) e h

pub no_lines : (vars n around before : ℕ) (rows : List ℕ) → [] ≡ walked_lines vars n around before rows End
unfolding walked_lines
no_lines vars n around before rows = refl

-- ---- one statement: its own lines, and those of the statements inside

module _ (h : Here) where
  if_whole : (guard : Expr) (one other : Block) → here_lines h (If guard one other End) ++ inner_of h
      (If guard one other End) ≡ block_lines h (If guard one other End)
  unfolding walked_lines
  if_whole guard one other =
      let f = lines_at h.vars in
      let p = points (h.number + 1) h.number h.before (loops_of h.loops) one in
      let q = points (h.number + 1 + statements one) h.number h.before (loops_of h.loops) other in
      ap (λ (l : List Line). here_lines h (If guard one other End) ++ l) (sym (flat_map-append f p q)
      ∙ ap (λ (ps : List Point). flat_map f (p ++ ps)) (sym (append-nil q)))

  for_whole : (row : List ℕ) (relation label : ℕ) (body : Block) → here_lines h (For row relation label body End)
      ++ inner_of h (For row relation label body End) ≡ block_lines h (For row relation label body End)
  unfolding walked_lines
  for_whole row relation label body =
      ap (λ (ps : List Point). here_lines h (For row relation label body End) ++ flat_map (lines_at h.vars) ps)
      (sym (append-nil (points (h.number + 1) h.number (turn h.number h.before) (label ∷ loops_of h.loops) body)))

  do_whole : (s : Simple) → here_lines h (Do s End) ++ [] ≡ block_lines h (Do s End)
  unfolding walked_lines
  do_whole s = refl

  pub stmt_whole : (s : Stmt) → here_lines h (block_of (s ∷ [])) ++ inner_of h (block_of (s ∷ []))
      ≡ block_lines h (block_of (s ∷ []))
  stmt_whole (stmt.If guard one other) = if_whole guard one other
  stmt_whole (stmt.For row relation label body) = for_whole row relation label body
  stmt_whole _ = do_whole _

  pub none_inside : (s : Stmt) (not_if : (guard : Expr) (one other : Block) → s ≡ stmt.If guard one other
      → ⊥) (not_for : (row : List ℕ) (relation label : ℕ) (body : Block) → s ≡ stmt.For row relation label body → ⊥)
      → [] ≡ inner_of h (block_of (s ∷ []))
  none_inside (stmt.If guard one other) not_if not_for = absurd (not_if guard one other refl)
  none_inside (stmt.For row relation label body) not_if not_for = absurd (not_for row relation label body refl)
  none_inside _ not_if not_for = refl
