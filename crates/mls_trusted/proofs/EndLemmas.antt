-- A transaction whose certificate holds reads below its upper end, and writes between its ends.
use Rattle.std.proofs.Common.{◌≡◌, ℕ, ◌+◌, ◌<◌, true, List, [], ◌∷◌, length, drop, get_or, refl, sym, ap, ◌∙◌, subst}
use Rattle.std.proofs.Recursive.{every_front, every_back}
use Rattle.std.proofs.lemmas.List.{drop_more}
use Rattle.mls_lattice.specs.Lattice.{Dominates}
use Rattle.mls_lattice.specs.Labels.{Labels, label_of, below}
use Rattle.mls_lattice.proofs.LatticeLemmas.{Dominates-refl, Dominates-trans, Dominates-⊑}
use Rattle.mls_translang.specs.declared.block.Stmt.{Stmt as Written}
use Rattle.mls_translang.specs.declared.block.Stmt.TheVariants as stmt
use Rattle.mls_translang.specs.Tree.{Stmt, Assign, Write_at, Release, Emit, Block, End, Do, If, For, statements}
use Rattle.mls_translang.specs.Blocks.{block_of}
use Rattle.mls_certcheck.specs.Points.{Plain, branching, looping, points}
use Rattle.mls_certcheck.specs.Rules.{Claim, pc, Rules}
use Rattle.mls_certcheck.proofs.LineLemmas.{Obeys, runs_in, write_context, rules_everywhere}
use Rattle.mls_certcheck.proofs.PointLemmas.{BlockObeys, below-⊑}
use Rattle.mls_trusted.specs.Ends.{StmtBetween, BlockBetween}

module _ (k : Claim) where
  abbrev ls : Labels
  ls = k.labels

  abbrev Up : ℕ → Type 0
  Up n = Dominates (pc k n) (label_of ls k.tx.lo)

  under : (a c : ℕ) → Dominates (label_of ls c) (label_of ls a) → below ls a c ≡ true
  under a c d = below-⊑ ls a c true (Dominates-⊑ (label_of ls a) (label_of ls c) d)

  stmt_between : (stmt : Stmt) (n a b : ℕ) (rows : List ℕ) → Up n
      → Obeys k (record { number = n; around = a; before = b; rows = rows; shape = Plain stmt })
      → StmtBetween ls k.tx.lo k.tx.hi stmt
  stmt_between (Assign x e) n a b rows up h = tt
  stmt_between (Write_at relation w writing outcome) n a b rows up h = (
    under k.tx.lo w (Dominates-trans _ _ _ (write_context k n a b rows relation w writing outcome h) up),
    under w k.tx.hi h.1.1.1.0.0,
  )
  stmt_between (Release e to into) n a b rows up h = tt
  stmt_between (Emit e label) n a b rows up h = tt

  -- the rules hold at each statement of a block, which runs only where the lower end lets it
  block_between : (block : Block) (n a b : ℕ) (rows : List ℕ) → Up a → BlockObeys k n a b rows block
      → BlockBetween ls k.tx.lo k.tx.hi block
  block_between End n a b rows up h = tt
  block_between (Do stmt rest) n a b rows up h = (
    stmt_between stmt n a b rows (Dominates-trans _ _ _ (runs_in k n a b rows (Plain stmt) h.0) up) h.0,
    block_between rest (n + 1) a n rows up h.1,
  )
  block_between (If guard one other rest) n a b rows up h =
      let here = Dominates-trans _ _ _ (runs_in k n a b rows (branching n b guard one other) h.0) up in
      let later = every_back (Obeys k) _ (points (n + 1) n b rows one) _ h.1 refl in (
        block_between one (n + 1) n b rows here (every_front (Obeys k) _ (points (n + 1) n b rows one) _ h.1 refl),
        block_between other (n + 1 + statements one) n b rows here
            (every_front (Obeys k) _ (points (n + 1 + statements one) n b rows other) _ later refl),
        block_between rest (n + (1 + statements one + statements other)) a n rows up
            (every_back (Obeys k) _ (points (n + 1 + statements one) n b rows other) _ later refl),
      )
  block_between (For row relation label body rest) n a b rows up h = (
    under label k.tx.hi h.0.1.1.0.0,
    block_between body (n + 1) n n (label ∷ rows)
        (Dominates-trans _ _ _ (runs_in k n a b rows (looping n b label body) h.0) up)
        (every_front (Obeys k) _ (points (n + 1) n n (label ∷ rows) body) _ h.1 refl),
    block_between rest (n + (1 + statements body)) a n rows up
        (every_back (Obeys k) _ (points (n + 1) n n (label ∷ rows) body) _ h.1 refl),
  )

  -- so a whole transaction
  pub body_between : Rules k → BlockBetween ls k.tx.lo k.tx.hi k.tx.body
  body_between r = block_between k.tx.body 1 0 0 [] (Dominates-refl (label_of ls k.tx.lo)) (rules_everywhere k r)

-- ---- the first statement and the rest

module _ (ls : Labels) (lo hi : ℕ) where
  between_more : (x : Written) (rest : List Written) → BlockBetween ls lo hi (block_of (x ∷ rest))
      → BlockBetween ls lo hi (block_of (x ∷ [])) × BlockBetween ls lo hi (block_of rest)
  between_more (stmt.If guard one other) rest h = ((h.0, h.1, tt), h.2)
  between_more (stmt.For row relation label body) rest h = ((h.0, h.1, tt), h.2)
  between_more _ rest h = ((h.0, tt), h.1)

  -- the statement at a place, and those behind it
  pub between_here : (xs : List Written) (i : ℕ) (x : Written) → x ≡ get_or xs i x → i < length xs
      → BlockBetween ls lo hi (block_of (drop i xs)) → BlockBetween ls lo hi (block_of (x ∷ []))
      × BlockBetween ls lo hi (block_of (drop (i + 1) xs))
  between_here xs i x is within h =
      let here : drop i xs ≡ x ∷ drop (i + 1) xs = drop_more xs i x within ∙ ap (λ y. y ∷ drop (i + 1) xs) (sym is) in
      between_more x (drop (i + 1) xs) (subst (λ l. BlockBetween ls lo hi (block_of l)) here h)
