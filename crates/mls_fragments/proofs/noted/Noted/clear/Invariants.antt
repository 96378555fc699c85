use Rattle.std.proofs.Common.{◌∷◌}
use Rattle.mls_rows.specs.Changes.Change.{Clears}
use Rattle.mls_fragments.proofs.noted.Noted.clear.Given as goal

abbrev pub ghost-note : goal.ghost-note
ghost-note a = Clears ∷ a.self.now.changes
