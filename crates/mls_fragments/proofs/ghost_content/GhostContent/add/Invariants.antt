use Rattle.std.proofs.Common.{◌∷◌}
use Rattle.mls_rows.specs.Changes.Change.{Adds}
use Rattle.mls_fragments.proofs.ghost_content.GhostContent.add.Given as goal

abbrev pub ghost-note : goal.ghost-note
ghost-note a = Adds a._seen.now.0 a._seen.now.1.now a._seen.now.2.now ∷ a.self.now.changes
