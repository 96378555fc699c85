use Rattle.std.proofs.Common.{◌∷◌}
use Rattle.mls_rows.specs.Changes.Change.{Sets}
use Rattle.mls_fragments.proofs.ghost_content.GhostContent.set.Given as goal

abbrev pub ghost-note : goal.ghost-note
ghost-note a = Sets a._seen.now.0 a._seen.now.1.now a._seen.now.2 a._seen.now.3.now ∷ a.self.now.changes
