-- Which stored transactions can tell a level something where they are called: two tests of them, by what they read, and
-- by what they release under their certificates. The second is sharper.
use Rattle.std.specs.Prelude.{ℕ, Bool, false, not, ◌&&◌, List}
use Rattle.std.specs.List.{list_any, list_all}
use Rattle.mls_lattice.specs.Lattice.{◌⊑◌}
use Rattle.mls_lattice.specs.Labels.{label_of, below}
use Rattle.mls_translang.specs.Tree.{Release}
use Rattle.mls_certcheck.specs.Points.{Shape, Plain}
use Rattle.mls_certcheck.specs.Lines.{names, all_points}
use Rattle.mls_certcheck.specs.Rules.{Claim, claim, source_label}
use Rattle.mls_certcheck.specs.declared.stored.Stored.{Stored}
use Rattle.mls_certcheck.specs.declared.stored.Stored.TheVariants as stored
use Rattle.mls_certcheck.specs.Stored.{tx_of}
use Rattle.mls_certcheck.specs.Site.{Site, site_labels}

module _ (k : Claim) (c : ℕ) where
  -- a value is released to a label that c dominates, and c does not dominate the label of each name in its expression
  abbrev pub tells : ℕ → List ℕ → Shape → Bool
  tells b rows (Plain (Release e to into)) =
      below k.labels to c && not (list_all (λ s. source_label k s ⊑ label_of k.labels c) (names b rows e))
  tells b rows shape = false

  -- some statement of the transaction does so
  abbrev pub can_tell : Bool
  can_tell = list_any (λ p. tells p.before p.rows p.shape) (all_points k.tx)

-- a test of stored transactions, at a site and for a level
abbrev pub Test : Type 0
Test = Site → ℕ → Stored → Bool

-- the level does not dominate all that is read
abbrev pub by_ceiling : Test
by_ceiling site c s = not (below (site_labels site) (tx_of s).hi c)

-- under its certificate it can tell the level something; without one it is never run
abbrev pub by_releases : Test
by_releases site c (stored.Certified k) = can_tell (claim site.policy k.tx k.cert) c
by_releases site c (stored.Plain tx) = false
