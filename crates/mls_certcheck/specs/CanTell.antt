-- When a call can tell a level something, under its certificate.
use Rattle.std.specs.Prelude.{◌≡◌, ℕ, true, List, Contains}
use Rattle.mls_lattice.specs.Labels.{label_of, below}
use Rattle.mls_translang.specs.Tree.{Release}
use Rattle.mls_certcheck.specs.Points.{Shape, Plain, Point}
use Rattle.mls_certcheck.specs.Lines.{names, all_points}
use Rattle.mls_certcheck.specs.Rules.{Claim, IsAbove}

module _ (k : Claim) (c : ℕ) where
  -- a value is released to a label that c dominates, and c does not dominate the label of each name in its expression
  abbrev pub Tells : ℕ → List ℕ → Shape → Type 0
  Tells b rows (Plain (Release e to into)) =
      (below k.labels to c ≡ true) × (IsAbove k (label_of k.labels c) (names b rows e) → ⊥)
  Tells b rows shape = ⊥

  abbrev pub TellsAt : Point → Type 0
  TellsAt p = Tells p.before p.rows p.shape

  -- some statement of the transaction does so
  abbrev pub CanTell : Type 0
  CanTell = (p : Point) × Contains (all_points k.tx) p × TellsAt p
