-- Statements of a block, one by one.
use Rattle.std.proofs.Common.{◌≡◌, ℕ, zero, suc, ◌-◌, ◌<◌, ◌≤◌, ◌==◌, Bool, false, List, [], ◌∷◌, ◌++◌, Option, Some, None, Ok, Err, refl, sym, ap, ◌∙◌, arith, ne_eqb, if◌then◌else◌}
use Rattle.mls_lattice.specs.Reading.{◌>>=◌}
use Rattle.mls_tokens.specs.declared.sign.Sign.TheVariants.{RightBrace}
use Rattle.mls_translang.specs.declared.block.Stmt.{Stmt}
use Rattle.mls_translang.specs.declared.block.Stmt.TheVariants as stmts
use Rattle.mls_translang.specs.Blocks.{block_of}
use Rattle.mls_translang.specs.Tokens.{Context, at_row}
use Rattle.mls_translang.specs.Tree.{Expr, Block}
use Rattle.mls_parser.specs.declared.fault.PlacedFault.{PlacedFault}
use Rattle.mls_parser.specs.declared.fault.TextCause.TheVariants.{Depth}
use Rattle.mls_parser.specs.Fault.{fault}
use Rattle.mls_parser.specs.Noted.{State, Read, token, takes_sign}
use Rattle.mls_parser.specs.Words.{opening_of, pass_known}
use Rattle.mls_parser.specs.ReadBlock.{Counted, braced, other_at, blocks_at, guard_at, loop_head_at, if_at, for_at, opened, end_or, stmts_from, stmts_with, stmts_at, stmt_at}

-- ---- one level of depth

-- a statement that is too deep, or else one with these blocks inside
abbrev stmt_by : Bool → (Context → ℕ → State → Counted Block) → Context → ℕ → State → Counted Stmt
stmt_by deep inner p count s = token (pass_known opening_of) s >>= λ o. if deep then Err
    (fault o.0.1 Depth) else opened inner p o.0.0 o.0.1 count o.1

pub stmts_is : (d : ℕ) (p : Context) (count : ℕ) (s : State) → stmts_at d p count s ≡ stmts_with (stmt_at d p) count s
unfolding stmts_at stmt_at
stmts_is zero p count s = refl
stmts_is (suc d) p count s =
    let some : (suc d == 0) ≡ false = ne_eqb (suc d) 0 (λ e. omega arith) in
    let less : suc d - 1 ≡ d = omega arith in
    sym (λ i. stmts_with (stmt_by (some i) (λ q c r. stmts_at (less i) q c r) p) count s)

-- ---- statements with blocks inside

pub up_to : (a b d : ℕ) → a ≤ b → b ≤ d → a ≤ d
up_to a b d h k = omega arith

module _ (inner : Context → ℕ → State → Counted Block) (p : Context) (count : ℕ) (s m r : State) where
  pub blocks_read : (one other : Block) (n k : ℕ) → braced inner p count s ≡ Ok ((one, n), m) → other_at inner p n m
      ≡ Ok ((other, k), r) → blocks_at inner p count s ≡ Ok (((one, other), k), r)
  unfolding blocks_at
  blocks_read one other n k a b =
      ap (λ (x : Counted Block). x >>= λ y. other_at inner p y.0.1 y.1 >>= λ z. Ok (((y.0.0, z.0.0), z.0.1), z.1)) a
      ∙ ap (λ (x : Counted Block). x >>= λ z. Ok (((one, z.0.0), z.0.1), z.1)) b

  pub if_read : (guard : Expr) (one other : Block) (n : ℕ) → guard_at p s ≡ Ok (guard, m) → blocks_at inner p count m
      ≡ Ok (((one, other), n), r) → if_at inner p count s ≡ Ok ((stmts.If guard one other, n), r)
  if_read guard one other n a b =
      ap (λ (x : Read Expr). x >>= λ g. blocks_at inner p count g.1 >>= λ y. Ok (
        (stmts.If g.0 y.0.0.0 y.0.0.1, y.0.1),
        y.1,
      )) a
      ∙ ap (λ (x : Counted (Block × Block)). x >>= λ y. Ok ((stmts.If guard y.0.0.0 y.0.0.1, y.0.1), y.1)) b

  pub for_read : (row : List ℕ) (relation label : ℕ) (body : Block) (n : ℕ) → loop_head_at p s
      ≡ Ok ((row, relation, label), m) → braced inner (at_row p row relation) count m ≡ Ok ((body, n), r)
      → for_at inner p count s ≡ Ok ((stmts.For row relation label body, n), r)
  for_read row relation label body n a b =
      ap (λ (x : Read (List ℕ × ℕ × ℕ)). x >>= λ h. braced inner (at_row p h.0.0 h.0.1) count h.1 >>=
      λ y. Ok ((stmts.For h.0.0 h.0.1 h.0.2 y.0.0, y.0.1), y.1)) a
      ∙ ap (λ (x : Counted Block). x >>= λ y. Ok ((stmts.For row relation label y.0.0, y.0.1), y.1)) b

-- ---- statement by statement

module _ (d : ℕ) (p : Context) (first : ℕ) (start : State) where
  -- what is left to read, behind the statements that were read, is the whole
  pub record StmtsSoFar (front : List Stmt) (count : ℕ) (s : State) : Type 0 where
    pub most : ℕ
    pub enough : 1000 - count ≤ most
    pub few : count ≤ 1000
    pub behind : first ≤ count
    pub same : stmts_at d p first start ≡ stmts_from (stmt_at d p) (suc most) front count s

  pub stmts_none : first ≤ 1000 → StmtsSoFar [] first start
  unfolding stmts_with
  stmts_none few = record {
    most = 1000 - first;
    enough = omega arith;
    few = few;
    behind = omega arith;
    same =
        stmts_is d p first start;
  }

  module _ (front : List Stmt) (count : ℕ) (s : State) (h : StmtsSoFar front count s) where
    onward : (o : Option (ℕ × State)) → takes_sign RightBrace s ≡ o
        → stmts_at d p first start ≡ end_or (stmt_at d p)
        (λ xs c r. stmts_from (stmt_at d p) h.most xs c r) front count s o
    unfolding stmts_from
    onward o e = h.same ∙ ap (λ z. end_or (stmt_at d p)
        (λ xs c r. stmts_from (stmt_at d p) h.most xs c r) front count s z) e

    pub stmts_end : (at : ℕ) (r : State) → takes_sign RightBrace s ≡ Some (at, r) → stmts_at d p first start
        ≡ Ok ((block_of front, count), r)
    stmts_end at r e = onward (Some (at, r)) e

    module _ (off : takes_sign RightBrace s ≡ None) where
      pub stmts_err : (e : PlacedFault) → stmt_at d p count s ≡ Err e → stmts_at d p first start ≡ Err e
      stmts_err e is = onward None off ∙ ap (λ r. r >>= λ x. stmts_from (stmt_at d p) h.most (front ++ x.0.0
          ∷ []) x.0.1 x.1) is

      pub stmts_more : (x : Stmt) (c : ℕ) (r : State) → stmt_at d p count s ≡ Ok ((x, c), r) → count < c → c ≤ 1000
          → StmtsSoFar (front ++ x ∷ []) c r
      stmts_more x c r is more few = step h.most h.enough (onward None off
          ∙ ap (λ r. r >>= λ x. stmts_from (stmt_at d p) h.most (front ++ x.0.0 ∷ []) x.0.1 x.1) is)
        where
          step : (most : ℕ) → 1000 - count ≤ most → stmts_at d p first start ≡ stmts_from (stmt_at d p) most
              (front ++ x ∷ []) c r → StmtsSoFar (front ++ x ∷ []) c r
          step zero enough same = absurd (omega arith)
          step (suc most) enough same = record {
            most = most;
            enough = omega arith;
            few = few;
            behind =
                (let b = h.behind in omega (arith, b));
            same = same;
          }

pub ruleset stmt_steps = (stmts_none, stmts_end, stmts_err, stmts_more)
