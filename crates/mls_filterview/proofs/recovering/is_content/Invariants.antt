-- proofs/recovering/is_content/Invariants.antt
use Rattle.std.proofs.Common.{◌≡◌, length}
use Rattle.std.specs.List.{list_all}
use Rattle.std.specs.BTreeMap.{get}
use Rattle.mls_lattice.specs.Policy.{labels_of}
use Rattle.mls_scheme.specs.Table.{place_cmp}
use Rattle.mls_filterview.specs.Checking.{is_stored_row}
use Rattle.mls_filterview.proofs.recovering.is_content.Given as goal

abbrev pub invariant-loop-place : goal.invariant-loop-place
invariant-loop-place l =
    list_all (is_stored_row (length l.policy.labels) (labels_of l.policy) l.scheme
    (get place_cmp l.rows)) l.place-iterator
    ≡ list_all (is_stored_row (length l.policy.labels) (labels_of l.policy) l.scheme
    (get place_cmp l.rows)) l.rows.entries
