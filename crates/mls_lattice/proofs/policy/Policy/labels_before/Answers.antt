use Rattle.std.proofs.Common.{map, refl, arith}
use Rattle.mls_lattice.specs.Policy.{Policy, named}
use Rattle.mls_lattice.proofs.ExtendingLemmas.{taken-by, extends-taken, none-taken, empty-is, empty-not}
use Rattle.mls_lattice.proofs.policy.Policy.labels_before.Goals as goal
use Rattle.mls_lattice.proofs.policy.Policy.labels_before.Goals.{else-levels-gt0-via-then-levels-gt0+then-labels-gt0+else-is_empty, else-levels-gt0-via-then-levels-gt0+else-labels-gt0, else-levels-gt0-via-else-levels-gt0}

pub returns-then-is_empty-clause-found : goal.returns-then-is_empty-clause-found
returns-then-is_empty-clause-found c =
    let a = c.self.inside in
    let p : Policy = record {
      version = a.version;
      levels = a.levels;
      categories = a.categories;
      labels =
          map named a.labels;
      users = a.users;
      matrix = a.matrix;
    } in
    let levels = rw c.deref.ensures at c.in_ok-levels.ensures in
    let categories = rw c.deref-2.ensures at c.in_ok-rest.ensures in
    let labels = rw (
      c.deref-3.ensures,
      c.deref-4.ensures,
      c.deref-5.ensures,
      empty-is _ _ c.is_empty.ensures c.if-is_empty.true,
    ) at c.in_ok-labels.ensures in
    rw (← c.self.view_is) (extends-taken p c.args.old.now _ _ _ _ _
    (taken-by p a.labels c.args.old.now _ _ _ _ _ _ refl levels categories labels) c.if-levels-gt0.true c.if-labels-gt0.true)

pub returns-else-levels-gt0-clause-none : goal.returns-else-levels-gt0-clause-none
returns-else-levels-gt0-clause-none c =
    let a = c.self.inside in
    let p : Policy = record {
      version = a.version;
      levels = a.levels;
      categories = a.categories;
      labels =
          map named a.labels;
      users = a.users;
      matrix = a.matrix;
    } in
    let levels = rw c.deref.ensures at c.in_ok-levels.ensures in
    let categories = rw c.deref-2.ensures at c.in_ok-rest.ensures in
    let labels = rw (c.deref-3.ensures, c.deref-4.ensures, c.deref-5.ensures) at c.in_ok-labels.ensures in
    let taken = taken-by p a.labels c.args.old.now _ _ _ _ _ _ refl levels categories labels in
    rw (← c.self.view_is) (λ _. none-taken p c.args.old.now _ _ _ _ _ _ taken (λ some_level some_label empty.
    elim c.else-levels-gt0.branch [
      | else-levels-gt0-via-then-levels-gt0+then-labels-gt0+else-is_empty w ↦ empty-not _ _ w.is_empty.ensures w.if-is_empty.false empty
      | else-levels-gt0-via-then-levels-gt0+else-labels-gt0 w ↦ let no = w.if-labels-gt0.false
          in omega (arith, some_label, no)
      | else-levels-gt0-via-else-levels-gt0 w ↦ let no = w.if-levels-gt0.false in omega (arith, some_level, no)
    ]))
