-- Inner: no public contract names these. Blocks that read below the upper end of their transaction, and write between
-- its ends.
use Rattle.std.specs.Prelude.{◌≡◌, ℕ, true, ⊤}
use Rattle.mls_lattice.specs.Labels.{Labels, below}
use Rattle.mls_lattice.specs.Policy.{labels_of}
use Rattle.mls_filterview.specs.Content.{Seen}
use Rattle.mls_filterview.specs.Calls.{NoWriteDown}
use Rattle.mls_translang.specs.Tree.{Stmt, Assign, Write_at, Release, Emit, Block, End, Do, If, For}
use Rattle.mls_trusted.specs.declared.call.Call.{Call}

module _ (ls : Labels) (lo hi : ℕ) where
  abbrev pub StmtBetween : Stmt → Type 0
  StmtBetween (Assign x e) = ⊤
  StmtBetween (Write_at relation w writing outcome) = (below ls lo w ≡ true) × (below ls w hi ≡ true)
  StmtBetween (Release e to into) = ⊤
  StmtBetween (Emit e label) = ⊤

  abbrev pub BlockBetween : Block → Type 0
  BlockBetween End = ⊤
  BlockBetween (Do stmt rest) = StmtBetween stmt × BlockBetween rest
  BlockBetween (If guard one other rest) = BlockBetween one × BlockBetween other × BlockBetween rest
  BlockBetween (For row relation label body rest) = (below ls label hi ≡ true) × BlockBetween body × BlockBetween rest

module _ (call : Call) where
  abbrev pub Between : Block → Type 0
  Between = BlockBetween (labels_of call.policy.now) call.tx.now.lo call.tx.now.hi

  -- between the ends of the transaction, where the block is
  abbrev pub Accesses : {B : Type 0} → (B → Seen) → Block → B → B → Type 0
  Accesses seen block old new = Between block
      → NoWriteDown seen (labels_of call.policy.now) call.tx.now.hi call.tx.now.lo old new
