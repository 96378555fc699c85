use Rattle.std.proofs.Common.{◌∷◌}
use Rattle.mls_rows.specs.Changes.Change.{Drops}
use Rattle.mls_fragments.proofs.ghost_content.GhostContent.drop_at.Given as goal

abbrev pub ghost-note : goal.ghost-note
ghost-note a = Drops a._seen.now.0 a._seen.now.1.now ∷ a.self.now.changes
