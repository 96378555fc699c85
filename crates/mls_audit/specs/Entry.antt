-- Entries of the audit list, and which of them a level sees.
use Rattle.std.specs.Prelude.{ℕ, List, filter}
use Rattle.mls_lattice.specs.Labels.{Labels, below}
use Rattle.mls_audit.specs.declared.entry.Entry.{Entry}

abbrev pub label_of : Entry → ℕ
label_of e = e.label

-- the entries whose labels c dominates, in order
abbrev pub visible : Labels → ℕ → List Entry → List Entry
visible ls c entries = filter (λ e. below ls (label_of e) c) entries
