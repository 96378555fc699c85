use Rattle.std.proofs.Common.{◌≡◌, ◌≢◌, ◌++◌, ℕ, List, length, refl, subst}
use Rattle.mls_lattice.specs.Policy.{named}
use Rattle.mls_lattice.specs.Canon.{label_line}
use Rattle.mls_lattice.proofs.CanonLemmas.{ranked-at}
use Rattle.mls_lattice.proofs.ExtendingLemmas.{begin-stopped}
use Rattle.mls_lattice.proofs.extending.labels_before.Goals as goal

pub label_to-requires-clause-ranked : goal.label_to-requires-clause-ranked
label_to-requires-clause-ranked c =
    ranked-at (length c.args.levels.now) c.args.labels.now c.loop-place.place c.index-labels-place.result c.requires.ranked c.loop-place-test.true c.index-labels-place.is

pub returns-in-None : goal.returns-in-None
returns-in-None c =
    let label = c.index-labels-place.result in
    let line : c.deref.result.now ≡ label_line c.args.levels.now c.args.categories.now (named label) =
    rw (c.deref.ensures, c.in_ok-label_to.ensures, c.new-line.ensures.bytes) refl in
    begin-stopped (λ l. label_line c.args.levels.now c.args.categories.now
    (named l)) c.args.labels.now c.loop-place.place label c.args.text.now c.loop-place.rest.now c.loop-place-test.true
    c.index-labels-place.is c.loop-place.invariant
    (subst (λ (s : List ℕ). (more : List ℕ) → c.loop-place.rest.now ≢ s ++ more) line c.in-None.ensures)
