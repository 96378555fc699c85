use Rattle.std.proofs.Common.{[], ◌∷◌, map}
use Rattle.mls_rows.specs.Changes.Change.{Finds}
use Rattle.mls_fragments.proofs.ghost_content.GhostContent.find.Given as goal

abbrev pub ghost-note : goal.ghost-note
ghost-note a = Finds (map (λ t. t.entries) a._seen.now.0.now) a._seen.now.1.now ∷ []
