-- A block is larger than the blocks in it.
use Rattle.std.specs.Prelude.{◌≤◌, max, List, [], ◌∷◌}
use Rattle.std.proofs.Common.{arith}
use denote.Param.Weighed.{most}
use Rattle.mls_translang.specs.Tree.{statements}
use Rattle.mls_translang.specs.Blocks.{block_of}
use Rattle.mls_translang.specs.declared.block.Stmt.{Stmt}
use Rattle.mls_translang.specs.declared.block.Stmt.TheVariants as stmt
use Rattle.mls_translang.specs.declared.block.Block.TheDeep.{deep-Stmt}

pub falls : (stmts : List Stmt) → max (most deep-Stmt stmts) 0 ≤ statements (block_of stmts)
falls [] = omega arith
falls (stmt.Assign x e ∷ rest) = omega (arith, falls rest)
falls (stmt.If guard one other ∷ rest) = omega (arith, falls rest)
falls (stmt.For row relation label body ∷ rest) = omega (arith, falls rest)
falls (stmt.Write relation w writing outcome ∷ rest) = omega (arith, falls rest)
falls (stmt.Release e to into ∷ rest) = omega (arith, falls rest)
falls (stmt.Emit e label ∷ rest) = omega (arith, falls rest)
