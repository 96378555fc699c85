-- Blocks, a statement at a time.
use Rattle.std.proofs.Common.{◌≡◌, ℕ, ◌+◌, ◌<◌, ◌≤◌, ◌==◌, List, [], ◌∷◌, ◌++◌, codes, length, get_or, drop, refl, sym, ap, ◌∙◌, append_assoc, subst, arith, append-nil, ne_eqb}
use Rattle.std.proofs.lemmas.List.{drop_more}
use Rattle.mls_lattice.specs.Policy.{Policy}
use Rattle.mls_scheme.specs.Scheme.{Schemes}
use Rattle.mls_tokens.specs.declared.token.Token.{Token}
use Rattle.mls_tokens.specs.declared.token.Token.TheVariants.{Word}
use Rattle.mls_translang.specs.declared.block.Stmt.{Stmt}
use Rattle.mls_translang.specs.declared.block.Stmt.TheVariants as stmt
use Rattle.mls_translang.specs.Tree.{Assign, Release, Emit, is_end, Block, statements}
use Rattle.mls_translang.specs.Blocks.{block_of}
use Rattle.mls_translang.specs.Scope.{Scope}
use Rattle.mls_translang.specs.Tx.{BlockIsOwn}
use Rattle.mls_translang.specs.Fits.{BlockFits}
use Rattle.mls_translang.specs.Layout.{Laid, puts}
use Rattle.mls_translang.specs.Tokens.{Context, at_row, expr_tokens, stmt_tokens, write_tokens, for_tokens, braced, else_tokens, block_tokens}
use Rattle.mls_translang.proofs.LayoutLemmas.{puts-append}

-- the first statement and the rest
pub own_more : (s : Scope) (x : Stmt) (rest : List Stmt) → BlockIsOwn s (block_of (x ∷ rest))
    → BlockIsOwn s (block_of (x ∷ [])) × BlockIsOwn s (block_of rest)
own_more s (stmt.If guard one other) rest h = ((h.0, h.1, h.2, tt), h.3)
own_more s (stmt.For row relation label body) rest h = ((h.0, h.1, tt), h.2)
own_more s _ rest h = ((h.0, tt), h.1)

module _ (policy : Policy) (schemes : Schemes) (hi : ℕ) (s : Scope) where
  pub fits_more : (x : Stmt) (rest : List Stmt) → BlockFits policy schemes hi s (block_of (x ∷ rest))
      → BlockFits policy schemes hi s (block_of (x ∷ [])) × BlockFits policy schemes hi s (block_of rest)
  fits_more (stmt.If guard one other) rest h = ((h.0, h.1, h.2, tt), h.3)
  fits_more (stmt.For row relation label body) rest h = ((h.0, h.1, h.2, tt), h.3)
  fits_more _ rest h = ((h.0, tt), h.1)

-- ---- tokens

after : (a r : List Token) → a ++ r ≡ (a ++ []) ++ r
after a r = ap (λ l. l ++ r) (sym (append-nil a))

two : (a b r : List Token) → a ++ (b ++ r) ≡ (a ++ (b ++ [])) ++ r
two a b r = ap (λ l. a ++ l) (after b r) ∙ sym (append_assoc a (b ++ []) r)

three : (a b d r : List Token) → a ++ (b ++ (d ++ r)) ≡ (a ++ (b ++ (d ++ []))) ++ r
three a b d r = ap (λ l. a ++ l) (two b d r) ∙ sym (append_assoc a (b ++ (d ++ [])) r)

module _ (p : Context) where
  tokens_more : (x : Stmt) (rest : List Stmt) → block_tokens p (block_of (x ∷ rest))
      ≡ block_tokens p (block_of (x ∷ [])) ++ block_tokens p (block_of rest)
  tokens_more (stmt.Assign v e) rest = after (stmt_tokens p (Assign v e)) _
  tokens_more (stmt.If guard one other) rest =
      three (Word (codes "if") ∷ expr_tokens p guard) (braced (block_tokens p one))
      (else_tokens other (braced (block_tokens p other))) (block_tokens p (block_of rest))
  tokens_more (stmt.For row relation label body) rest =
      two (for_tokens p row relation label) (braced (block_tokens (at_row p row relation) body))
      (block_tokens p (block_of rest))
  tokens_more (stmt.Write relation w writing outcome) rest = after (write_tokens p relation w outcome writing) _
  tokens_more (stmt.Release e to into) rest = after (stmt_tokens p (Release e to into)) _
  tokens_more (stmt.Emit e label) rest = after (stmt_tokens p (Emit e label)) _

-- ---- a block that is written as far as some statements

-- the statements that are left, put behind what was put, are the whole block put behind what was put at first
pub record IsLeft (p : Context) (left : List Stmt) (out : Laid) (block : Block) (first : Laid) : Type 0 where
  pub put : puts out (block_tokens p (block_of left)) ≡ puts first (block_tokens p block)
  pub own : BlockIsOwn p.scope (block_of left)
  pub fits : BlockFits p.policy p.schemes p.hi p.scope (block_of left)
  pub size : statements (block_of left) ≤ statements block

pub statements_more : (x : Stmt) (rest : List Stmt) → statements (block_of (x ∷ rest))
    ≡ statements (block_of (x ∷ [])) + statements (block_of rest)
statements_more (stmt.If guard one other) rest = omega arith
statements_more (stmt.For row relation label body) rest = omega arith
statements_more _ rest = refl

-- ---- the statement at a place

module _ (xs : List Stmt) (i : ℕ) (x : Stmt) (is : x ≡ get_or xs i x) (within : i < length xs) where
  here : x ∷ drop (i + 1) xs ≡ drop i xs
  here = ap (λ y. y ∷ drop (i + 1) xs) is ∙ sym (drop_more xs i x within)

  pub own_step : (s : Scope) → BlockIsOwn s (block_of (drop i xs)) → BlockIsOwn s (block_of (x ∷ []))
      × BlockIsOwn s (block_of (drop (i + 1) xs))
  own_step s h = own_more s x (drop (i + 1) xs) (subst (λ l. BlockIsOwn s (block_of l)) (sym here) h)

  pub fits_step : (policy : Policy) (schemes : Schemes) (hi : ℕ) (s : Scope) → BlockFits policy schemes hi s
      (block_of (drop i xs))
      → BlockFits policy schemes hi s (block_of (x ∷ [])) × BlockFits policy schemes hi s (block_of (drop (i + 1) xs))
  fits_step policy schemes hi s h = fits_more policy schemes hi s x (drop (i + 1) xs)
      (subst (λ l. BlockFits policy schemes hi s (block_of l)) (sym here) h)

  pub puts_step : (p : Context) (w : Laid)
      → puts (puts w (block_tokens p (block_of (x ∷ [])))) (block_tokens p (block_of (drop (i + 1) xs)))
      ≡ puts w (block_tokens p (block_of (drop i xs)))
  puts_step p w =
      sym (puts-append w (block_tokens p (block_of (x ∷ []))) (block_tokens p (block_of (drop (i + 1) xs))))
      ∙ ap (λ ts. puts w ts) (sym (tokens_more p x (drop (i + 1) xs)) ∙ ap (λ l. block_tokens p (block_of l)) here)

  -- the statement is no larger than the block
  pub size_step : (block : Block) → statements (block_of (drop i xs)) ≤ statements block
      → (statements (block_of (x ∷ [])) ≤ statements block) × (statements (block_of (drop (i + 1) xs))
      ≤ statements block)
  size_step block h =
      let whole : statements (block_of (x ∷ [])) + statements (block_of (drop (i + 1) xs))
      ≡ statements (block_of (drop i xs))
      = sym (statements_more x (drop (i + 1) xs)) ∙ ap (λ l. statements (block_of l)) here in
      (omega (arith, whole, h), omega (arith, whole, h))

  pub left_step : (p : Context) (w v first : Laid) (block : Block) → v ≡ puts w (block_tokens p (block_of (x ∷ [])))
      → IsLeft p (drop i xs) w block first → IsLeft p (drop (i + 1) xs) v block first
  left_step p w v first block e h = record {
    put = ap (λ u. puts u (block_tokens p (block_of (drop (i + 1) xs)))) e ∙ puts_step p w ∙ h.put;
    own = (own_step p.scope h.own).1;
    fits = (fits_step p.policy p.schemes p.hi p.scope h.fits).1;
    size = (size_step block h.size).1;
  }

-- ---- a block with no statement

pub is_end-block_of : (xs : List Stmt) → is_end (block_of xs) ≡ (length xs == 0)
is_end-block_of [] = refl
is_end-block_of (stmt.Assign v e ∷ rest) = sym (ne_eqb _ 0 (λ h. omega arith))
is_end-block_of (stmt.If guard one other ∷ rest) = sym (ne_eqb _ 0 (λ h. omega arith))
is_end-block_of (stmt.For row relation label body ∷ rest) = sym (ne_eqb _ 0 (λ h. omega arith))
is_end-block_of (stmt.Write relation w writing outcome ∷ rest) = sym (ne_eqb _ 0 (λ h. omega arith))
is_end-block_of (stmt.Release e to into ∷ rest) = sym (ne_eqb _ 0 (λ h. omega arith))
is_end-block_of (stmt.Emit e label ∷ rest) = sym (ne_eqb _ 0 (λ h. omega arith))

pub ruleset ends = (is_end-block_of)
