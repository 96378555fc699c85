-- A label that rises has less room left.
use Rattle.std.proofs.Common.{◌≡◌, ℕ, ◌+◌, ◌-◌, ◌<◌, ◌≤◌, ◌^◌, true, List, length, set, get_or, sym, ◌∙◌, subst, inl, inr, arith, sum_by}
use Rattle.std.specs.FinSet as set
use Rattle.std.proofs.lemmas.Bool.{cases_eq}
use Rattle.std.proofs.lemmas.Nat.{and_le_r}
use Rattle.std.proofs.lemmas.List.Sums.{sum_by-set}
use Rattle.mls_lattice.specs.declared.label.Label.{Label}
use Rattle.mls_lattice.specs.Lattice.{Pair, Dominates, join, cats_of, pair_of}
use Rattle.mls_lattice.proofs.LatticeLemmas.{join-left, join-right}
use Rattle.mls_lattice.proofs.CategoryLemmas.{and_by_within}

abbrev room_of : Label → ℕ
room_of l = 255 - l.rank + (2 ^ 32 - 1 - l.cats)

cats_rise : (a b : ℕ) → ((k : ℕ) → set.contains (cats_of a) k ≡ true → set.contains (cats_of b) k ≡ true) → a ≤ b
cats_rise a b h = let e = and_by_within a b h in omega (arith, e, and_le_r a b)

-- a label that is raised to what it doesn't dominate
pub room_less : (old new : Label) (p : Pair) → new.rank < 256 → new.cats < 2 ^ 32 → pair_of new ≡ join (pair_of old) p
    → (Dominates (pair_of old) p → ⊥) → room_of new < room_of old
room_less old new p rank cats is above =
    let over : Dominates (pair_of new) (pair_of old) = subst (λ q. Dominates q (pair_of old)) (sym is)
    (join-left (pair_of old) p) in
    let ranks : old.rank ≤ new.rank = over.rank in
    let bits : old.cats ≤ new.cats = cats_rise old.cats new.cats over.cats in
    elim (cases_eq old.rank new.rank) [
      | inl same ↦
          elim (cases_eq old.cats new.cats) [
            | inl equal ↦
                let whole : pair_of new ≡ pair_of old = λ i. record { rank = sym same i; cats = cats_of (sym equal i) }
                in
                absurd (above (subst (λ q. Dominates q p) (sym is ∙ whole) (join-right (pair_of old) p)))
            | inr differ ↦ let less : old.cats < new.cats = omega (arith, bits, differ)
                in omega (arith, ranks, rank, cats, less)
          ]
      | inr differ ↦ let less : old.rank < new.rank = omega (arith, ranks, differ) in omega (
        arith,
        bits,
        rank,
        cats,
        less,
      )
    ]

pub sum_less : {A : Type 0} (f : A → ℕ) (xs : List A) (i : ℕ) (new d : A) → i < length xs → f new < f (get_or xs i d)
    → sum_by f (set xs i new) < sum_by f xs
sum_less f xs i new d lt less = omega (arith, sum_by-set f xs i new d lt, less)
