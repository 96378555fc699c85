-- The parts of labels that are drawn one by one.
use Rattle.std.specs.Prelude.{ℕ, List, ◌<◌, length}
use Rattle.mls_advice.specs.declared.labels.Parts.{Parts}

-- each part has fewer labels than the whole
abbrev pub AreSmaller : Parts → List ℕ → Type 0
AreSmaller parts labels = (length parts.first.items < length labels) × (length parts.second.items < length labels)
