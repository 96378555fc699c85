-- Statements as a tree.
use Rattle.std.specs.Prelude.{List, [], ◌∷◌}
use Rattle.mls_translang.specs.Tree.{Block as Tree, End, Do, If, For, Assign, Write_at, Release, Emit}
use Rattle.mls_translang.specs.declared.block.Stmt.{Stmt}
use Rattle.mls_translang.specs.declared.block.Stmt.TheVariants as stmt

abbrev pub block_of : List Stmt → Tree
block_of [] = End
block_of (stmt.Assign x e ∷ rest) = Do (Assign x e) (block_of rest)
block_of (stmt.If guard one other ∷ rest) = If guard one other (block_of rest)
block_of (stmt.For row relation label body ∷ rest) = For row relation label body (block_of rest)
block_of (stmt.Write relation w writing outcome ∷ rest) = Do (Write_at relation w writing outcome) (block_of rest)
block_of (stmt.Release e to into ∷ rest) = Do (Release e to into) (block_of rest)
block_of (stmt.Emit e label ∷ rest) = Do (Emit e label) (block_of rest)
