use Rattle.std.proofs.Common.{◌≡◌, ◌++◌, take, string_bytes, flat_map}
use Rattle.mls_lattice.specs.Canon.{category_line}
use Rattle.mls_lattice.proofs.canon.categories_to.Given as goal

abbrev pub invariant-loop-category : goal.invariant-loop-category
invariant-loop-category l = (string_bytes l.text ≡ string_bytes l.fn.text ++ flat_map category_line
    (take l.category-index l.categories))
