use Rattle.std.proofs.Common.{◌∷◌, map}
use Rattle.mls_rows.specs.Changes.Change.{Joins}
use Rattle.mls_fragments.proofs.ghost_content.GhostContent.join.Given as goal

abbrev pub ghost-note : goal.ghost-note
ghost-note a = Joins (map (λ t. t.entries) a._seen.now.now) ∷ a.self.now.changes
