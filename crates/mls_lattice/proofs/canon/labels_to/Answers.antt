use Rattle.std.proofs.Common.{length, ◌++◌, ap, ◌∙◌, List, ℕ, string_bytes}
use Rattle.mls_lattice.proofs.CanonLemmas.{ranked-at, label_lines-taken}
use Rattle.mls_lattice.proofs.canon.labels_to.Goals as goal

pub label_to-requires-clause-ranked : goal.label_to-requires-clause-ranked
label_to-requires-clause-ranked c =
    ranked-at (length c.args.levels.now) c.args.labels.now c.loop-label.label-index c.label-item.result c.requires.ranked c.loop-label-test.true c.label-item.is

pub returns : goal.returns
returns c =
    c.loop-label.invariant
    ∙ ap (λ (x : List ℕ). string_bytes c.args.text.now ++ x)
    (label_lines-taken c.args.levels.now c.args.categories.now c.args.labels.now c.loop-label.label-index c.loop-label-test.false)
