-- Laws of pairs.
use Rattle.std.proofs.Common.{◌≡◌, ℕ, ◌<◌, Bool, true, false, ◌&&◌, ◌||◌, length, nat_eq, refl, sym, ap, ◌∙◌, inl, inr, arith, ◌↔◌, nat_le, leb-true, le-leb, eqb-true, eq-eqb}
use Rattle.std.specs.FinSet as set
use Rattle.std.specs.FinSet.{nat_cmp-IsAntisymmetric}
use Rattle.std.proofs.lemmas.Cmp.{nat_cmp_total}
use Rattle.std.proofs.lemmas.Bool.{and_parts, and_from, or_cases}
use Rattle.mls_lattice.specs.Lattice.{Pair, Dominates, join, meet, ◌⊑◌, same_pair, cats_of, pair_of, IsOrder, IsLeastUpperBound, IsGreatestLowerBound}
use Rattle.mls_lattice.specs.declared.label.Label.{Label}
use Rattle.mls_lattice.proofs.CategoryLemmas.{same_from_cats}
use Rattle.mls_lattice.specs.Labels.{Labels, label_of, below, AreDistinct, IsOrderByNumber}

-- the test is the relation
pub ⊑-Dominates : (p q : Pair) → p ⊑ q ≡ true → Dominates q p
unfolding ◌⊑◌
⊑-Dominates p q h =
    let both = and_parts (nat_le p.rank q.rank) (set.is_subset p.cats q.cats) h in
    record { rank = leb-true _ _ both.0; cats = set.is_subset-contains nat_cmp_total p.cats q.cats both.1 }

pub Dominates-⊑ : (p q : Pair) → Dominates q p → p ⊑ q ≡ true
unfolding ◌⊑◌
Dominates-⊑ p q d = and_from _ _ (le-leb _ _ d.rank) (set.contains-is_subset nat_cmp_total p.cats q.cats d.cats)

pub Dominates-refl : (p : Pair) → Dominates p p
Dominates-refl p = record { rank = omega arith; cats = λ k h. h }

pub Dominates-trans : (p q r : Pair) → Dominates p q → Dominates q r → Dominates p r
Dominates-trans p q r d e = record { rank = omega (arith, d.rank, e.rank); cats = λ k h. d.cats k (e.cats k h) }

same_bools : (a b : Bool) → (a ≡ true → b ≡ true) → (b ≡ true → a ≡ true) → a ≡ b
same_bools true b f g = sym (f refl)
same_bools false true f g = g refl
same_bools false false f g = refl

pub Dominates-antisym : (p q : Pair) → Dominates p q → Dominates q p → p ≡ q
Dominates-antisym p q d e =
    let r : p.rank ≡ q.rank = omega (arith, d.rank, e.rank) in
    let s : p.cats ≡ q.cats = set.same_set nat_cmp_total nat_cmp-IsAntisymmetric p.cats q.cats
    (λ k. same_bools _ _ (e.cats k) (d.cats k)) in
    λ i. record { rank = r i; cats = s i }

-- ---- the join

or_left : (a b : Bool) → a ≡ true → (a || b) ≡ true
or_left true b h = refl
or_left false b h = absurd cc

or_right : (a b : Bool) → b ≡ true → (a || b) ≡ true
or_right true b h = refl
or_right false b h = h

pub join-left : (p q : Pair) → Dominates (join p q) p
join-left p q = record {
  rank = omega arith;
  cats = λ k h. set.contains-union nat_cmp_total p.cats q.cats k ∙ or_left _ _ h;
}

pub join-right : (p q : Pair) → Dominates (join p q) q
join-right p q = record {
  rank = omega arith;
  cats = λ k h. set.contains-union nat_cmp_total p.cats q.cats k ∙ or_right _ _ h;
}

pub join-least : (p q r : Pair) → Dominates r p → Dominates r q → Dominates r (join p q)
join-least p q r d e = record {
  rank = omega (arith, d.rank, e.rank);
  cats = λ k h. elim (or_cases _ _ (sym (set.contains-union nat_cmp_total p.cats q.cats k)
      ∙ h)) [ inl a ↦ d.cats k a | inr b ↦ e.cats k b ];
}

-- ---- the meet

pub meet-left : (p q : Pair) → Dominates p (meet p q)
meet-left p q = record {
  rank = omega arith;
  cats = λ k h. (and_parts _ _ (sym (set.contains-intersection nat_cmp_total p.cats q.cats k) ∙ h)).0;
}

pub meet-right : (p q : Pair) → Dominates q (meet p q)
meet-right p q = record {
  rank = omega arith;
  cats = λ k h. (and_parts _ _ (sym (set.contains-intersection nat_cmp_total p.cats q.cats k) ∙ h)).1;
}

pub meet-greatest : (p q r : Pair) → Dominates p r → Dominates q r → Dominates (meet p q) r
meet-greatest p q r d e = record {
  rank = omega (arith, d.rank, e.rank);
  cats = λ k h. set.contains-intersection nat_cmp_total p.cats q.cats k ∙ and_from _ _ (d.cats k h) (e.cats k h);
}

pub order : IsOrder
order = record { reflexive = Dominates-refl; transitive = Dominates-trans; antisymmetric = Dominates-antisym }

pub least_upper_bound : IsLeastUpperBound
least_upper_bound = record { left = join-left; right = join-right; least = join-least }

pub greatest_lower_bound : IsGreatestLowerBound
greatest_lower_bound = record { left = meet-left; right = meet-right; greatest = meet-greatest }

-- ---- by number

pub below-refl : (ls : Labels) (a : ℕ) → below ls a a ≡ true
unfolding below
below-refl ls a = Dominates-⊑ _ _ (Dominates-refl (label_of ls a))

pub below-trans : (ls : Labels) (a b c : ℕ) → below ls a b ≡ true → below ls b c ≡ true → below ls a c ≡ true
unfolding below
below-trans ls a b c h k = Dominates-⊑ _ _ (Dominates-trans _ _ _ (⊑-Dominates (label_of ls b) (label_of ls c) k)
    (⊑-Dominates (label_of ls a) (label_of ls b) h))

pub below-antisym : (ls : Labels) → AreDistinct ls → (a b : ℕ) → a < length ls → b < length ls → below ls a b ≡ true
    → below ls b a ≡ true → a ≡ b
unfolding below
below-antisym ls d a b p q h k = d a b p q (Dominates-antisym _ _ (⊑-Dominates (label_of ls b) (label_of ls a) k)
    (⊑-Dominates (label_of ls a) (label_of ls b) h))

pub by_number : IsOrderByNumber
by_number = record { reflexive = below-refl; transitive = below-trans; antisymmetric = below-antisym }

-- a test of two labels is the test of their numbers
pub test-below : (b : Bool) (ls : Labels) (low high : ℕ) (p q : Pair) → (b ≡ true ↔ Dominates q p) → p ≡ label_of ls low
    → q ≡ label_of ls high → b ≡ below ls low high
unfolding below
test-below b ls low high p q is l h =
    same_bools b (p ⊑ q) (λ t. Dominates-⊑ p q (is.0 t)) (λ t. is.1 (⊑-Dominates p q t)) ∙ (λ i. l i ⊑ h i)

-- ---- labels as words

pub same_pair-refl : (p : Pair) → same_pair p p ≡ true
same_pair-refl p = let h = Dominates-⊑ p p (Dominates-refl p) in and_from _ _ h h

pub same_pair-same : (p q : Pair) → same_pair p q ≡ true → p ≡ q
same_pair-same p q h =
    let both = and_parts (p ⊑ q) (q ⊑ p) h in
    Dominates-antisym p q (⊑-Dominates q p both.1) (⊑-Dominates p q both.0)

-- two labels are one exactly where their pairs are
pub same_label : (l m : Label) (b : Bool) → b ≡ (nat_eq l.rank m.rank && nat_eq l.cats m.cats)
    → b ≡ same_pair (pair_of l) (pair_of m)
same_label l m b e =
    e ∙ same_bools _ _
    (λ h.
    let both = and_parts (nat_eq l.rank m.rank) (nat_eq l.cats m.cats) h in
    let ranks : l.rank ≡ m.rank = eqb-true _ _ both.0 in
    let cats : cats_of l.cats ≡ cats_of m.cats = ap cats_of (eqb-true _ _ both.1) in
    let same : pair_of l ≡ pair_of m = λ i. record { rank = ranks i; cats = cats i } in
    ap (same_pair (pair_of l)) (sym same) ∙ same_pair-refl (pair_of l))
    (λ h.
    let same = same_pair-same (pair_of l) (pair_of m) h in
    and_from _ _ (eq-eqb _ _ (ap (λ (p : Pair). p.rank) same))
    (eq-eqb _ _ (same_from_cats _ _ (ap (λ (p : Pair). p.cats) same))))
