use Rattle.mls_queries.proofs.PlaceLemmas.{AreFirst}
use Rattle.mls_queries.proofs.selecting.all.Given as goal

abbrev pub invariant-loop-place : goal.invariant-loop-place
invariant-loop-place l = AreFirst l.rows l.place l.places.items
