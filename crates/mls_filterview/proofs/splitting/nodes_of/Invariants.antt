use Rattle.std.proofs.Common.{◌≡◌, ◌++◌, map}
use Rattle.mls_filterview.specs.Fragment.{node_of}
use Rattle.mls_filterview.proofs.splitting.nodes_of.Given as goal

abbrev pub invariant-loop-place : goal.invariant-loop-place
invariant-loop-place l = l.nodes.items ++ map node_of l.place-iterator ≡ map node_of l.rows.entries
