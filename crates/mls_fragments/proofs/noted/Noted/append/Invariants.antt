use Rattle.std.proofs.Common.{◌∷◌}
use Rattle.mls_rows.specs.Changes.Change.{Appends}
use Rattle.mls_fragments.proofs.noted.Noted.append.Given as goal

abbrev pub ghost-note : goal.ghost-note
ghost-note a = Appends a._seen.now.now ∷ a.self.now.changes
