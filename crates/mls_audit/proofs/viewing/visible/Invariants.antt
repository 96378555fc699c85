use Rattle.std.proofs.Common.{◌≡◌, take}
use Rattle.mls_lattice.specs.Policy.{labels_of}
use Rattle.mls_audit.specs.Entry.{visible}
use Rattle.mls_audit.proofs.viewing.visible.Given as goal

abbrev pub invariant-loop-entry : goal.invariant-loop-entry
invariant-loop-entry l = l.seen.items ≡ visible (labels_of l.policy) l.label (take l.entry-index l.entries)
