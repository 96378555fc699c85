use Rattle.std.specs.FinSet as set
use Rattle.std.proofs.Common.{◌≡◌, drop}
use Rattle.toml.specs.View.{items_view}
use Rattle.mls_lattice.specs.Lattice.{cats_of}
use Rattle.mls_lattice.specs.PolicyReading.{more_categories}
use Rattle.mls_lattice.proofs.labels.categories_named.Given as goal

abbrev pub invariant-loop-value : goal.invariant-loop-value
invariant-loop-value l = more_categories l.categories (cats_of l.label.cats) (items_view (drop l.value-index l.items))
    ≡ more_categories l.categories set.empty (items_view l.items)
