-- The lattice of labels (Bell and LaPadula 1976): pairs of a rank and a set of categories.
use Rattle.std.specs.Prelude.{◌≡◌, refl, ℕ, zero, suc, ◌≤◌, max, min, Bool, true, ◌&&◌, nat_le, ◌==◌, if◌then◌else◌}
use Rattle.std.specs.Ordering.{nat_cmp}
use Rattle.std.specs.FinSet as set
use Rattle.std.specs.Coded.{Coded, code_by, coded×, coded_ℕ}
use Rattle.std.specs.Int.{bit_at}
use Rattle.mls_lattice.specs.declared.label.Label.{Label}

abbrev pub Categories : Type 0
Categories = set.FinSet nat_cmp

pub record Pair : Type 0 where
  pub rank : ℕ
  pub cats : Categories

-- the first pair dominates the second: it is at least the second, in both parts
pub record Dominates (p q : Pair) : Type 0 where
  pub rank : q.rank ≤ p.rank
  pub cats : (k : ℕ) → set.contains q.cats k ≡ true → set.contains p.cats k ≡ true

-- the greater rank, with the categories of both
abbrev pub join : Pair → Pair → Pair
join p q = record { rank = max p.rank q.rank; cats = set.union p.cats q.cats }

-- the lesser rank, with the categories that both have
abbrev pub meet : Pair → Pair → Pair
meet p q = record { rank = min p.rank q.rank; cats = set.intersection p.cats q.cats }

-- dominated by every pair
abbrev pub bottom : Pair
bottom = record { rank = 0; cats = set.empty }

-- Dominates q p, as a test
infix 40 ◌⊑◌
unfoldable pub ◌⊑◌ : Pair → Pair → Bool
p ⊑ q = nat_le p.rank q.rank && set.is_subset p.cats q.cats

-- they are one pair: each dominates the other
abbrev pub same_pair : Pair → Pair → Bool
same_pair p q = p ⊑ q && q ⊑ p

-- ---- the pair that a label's two words stand for

-- the places below count at which the number has a 1
unfoldable pub cats_below : ℕ → ℕ → Categories
cats_below zero n = set.empty
cats_below (suc k) n = if bit_at n k == 1 then set.insert (cats_below k n) k else cats_below k n

-- all its places: none from n on has a 1, since n is below 2 ^ n
unfoldable pub cats_of : ℕ → Categories
cats_of n = cats_below n n

abbrev pub pair_of : Label → Pair
pair_of l = record { rank = l.rank; cats = cats_of l.cats }

-- ---- the laws

-- dominance is an order
pub record IsOrder : Type 0 where
  pub reflexive : (p : Pair) → Dominates p p
  pub transitive : (p q r : Pair) → Dominates p q → Dominates q r → Dominates p r
  pub antisymmetric : (p q : Pair) → Dominates p q → Dominates q p → p ≡ q

-- the join is the least pair that dominates both
pub record IsLeastUpperBound : Type 0 where
  pub left : (p q : Pair) → Dominates (join p q) p
  pub right : (p q : Pair) → Dominates (join p q) q
  pub least : (p q r : Pair) → Dominates r p → Dominates r q → Dominates r (join p q)

-- the meet is the greatest pair that both dominate
pub record IsGreatestLowerBound : Type 0 where
  pub left : (p q : Pair) → Dominates p (meet p q)
  pub right : (p q : Pair) → Dominates q (meet p q)
  pub greatest : (p q r : Pair) → Dominates p r → Dominates q r → Dominates (meet p q) r

-- how a pair is stored
abbrev pub pair_code : Coded Pair
pair_code =
    code_by (ℕ × Categories) (coded× coded_ℕ (set.code coded_ℕ)) (λ p. (p.rank, p.cats)) (λ d. record {
      rank = d.0;
      cats = d.1;
    }) (λ _. refl)
