use Rattle.std.proofs.Common.{map}
use Rattle.toml.specs.View.{table_view}
use Rattle.mls_lattice.specs.Policy.{named}
use Rattle.mls_lattice.proofs.KeptLemmas.{policy-read}
use Rattle.mls_lattice.proofs.policy.policy_of.Goals as goal

pub invariant_of-result : goal.invariant_of-result
invariant_of-result c =
    let levels = c.in_ok-levels.levels.items in
    let categories = c.in_ok-categories.categories.items in
    let labels = map named c.in_ok-labels.labels.items in
    let users = c.in_ok-users.users.items in
    let matrix = c.in_ok-matrix.matrix.items in
    let read_labels = rw (c.deref.ensures.value, c.deref-2.ensures.value) at c.in_ok-labels.ensures.reads in
    let read_users = rw c.deref-3.ensures.value at c.in_ok-users.ensures.reads in
    let read_matrix = rw c.deref-4.ensures.value at c.in_ok-matrix.ensures in
    rw (c.from.ensures, c.from-2.ensures, c.from-3.ensures, c.from-4.ensures, c.from-5.ensures)
    (policy-read (table_view c.args.document.now) _ levels categories labels users matrix c.in_ok-version.ensures c.in_ok-levels.ensures.reads c.in_ok-categories.ensures.reads read_labels read_users read_matrix)
