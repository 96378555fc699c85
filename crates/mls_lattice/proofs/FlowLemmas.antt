-- Labels between which information may flow.
use Rattle.std.proofs.Common.{◌≡◌, ℕ, ◌≤◌, Bool, length, refl, arith, ◌↔◌, IsTrue}
use Rattle.std.specs.Cmp.{both_ways}
use Rattle.std.proofs.lemmas.List.{get_or_past, length-map}
use Rattle.mls_lattice.specs.Lattice.{Pair, Dominates, ◌⊑◌, bottom, cats_of, cats_below, pair_of}
use Rattle.mls_lattice.specs.Labels.{label_of}
use Rattle.mls_lattice.specs.Policy.{Policy, labels_of}
use Rattle.mls_lattice.proofs.LatticeLemmas.{⊑-Dominates, Dominates-⊑}

pub bottom_pair : pair_of (record { rank = 0; cats = 0 }) ≡ bottom
unfolding cats_of cats_below
bottom_pair = refl

-- the test is the relation
pub test_dominates : (b : Bool) (p q : Pair) → (IsTrue b ↔ Dominates q p) → b ≡ (p ⊑ q)
test_dominates b p q h = both_ways b (p ⊑ q) (λ e. Dominates-⊑ p q (h.0 e)) (λ e. h.1 (⊑-Dominates p q e))

pub past_labels : (p : Policy) (label : ℕ) → length p.labels ≤ label → label_of (labels_of p) label ≡ bottom
past_labels p label past = get_or_past (labels_of p) label bottom (omega (arith, length-map p.labels (λ l. l.value)))
