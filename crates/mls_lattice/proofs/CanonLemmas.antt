-- How the lines of the canonical text follow one another.
use Rattle.std.proofs.Common.{◌≡◌, ℕ, zero, suc, arith, ◌+◌, ◌<◌, ◌≤◌, true, false, List, [], ◌∷◌, length, get_or, drop, take, map, Option, Some, None, option_map, slice_get, refl, sym, ap, ◌∙◌, unwrap_or, flat_map, take_all}
use Rattle.std.specs.List.{AllByRecursion}
use Rattle.std.specs.FinSet as set
use Rattle.std.proofs.lemmas.Option.{slice_get-map}
use Rattle.std.proofs.lemmas.List.{drop_more}
use Rattle.std.proofs.lemmas.List.Folds.{flat_map-map}
use Rattle.mls_lattice.specs.declared.tables.NamedLabel.{NamedLabel}
use Rattle.mls_lattice.specs.Lattice.{Categories}
use Rattle.mls_lattice.specs.Policy.{Name, Named, named, HasLevel}
use Rattle.mls_lattice.specs.Canon.{label_name, label_line, names_of}

mapped_twice : {A B C : Type 0} (f : B → C) (g : A → B) (o : Option A) → option_map f (option_map g o)
    ≡ option_map (λ x. f (g x)) o
mapped_twice f g None = refl
mapped_twice f g (Some x) = refl

pub label_name-named : (ls : List NamedLabel) (n : ℕ) → label_name (map named ls) n
    ≡ unwrap_or (option_map (λ l. l.name) (slice_get ls n)) []
label_name-named ls n = ap (λ o. unwrap_or o []) (ap (option_map (λ (l : Named). l.name)) (slice_get-map named ls n)
    ∙ mapped_twice (λ (l : Named). l.name) named (slice_get ls n))

-- the label that a loop has reached
pub ranked-at : (n : ℕ) (ls : List NamedLabel) (i : ℕ) (l : NamedLabel) → AllByRecursion (HasLevel n) (map named ls)
    → i < length ls → l ≡ get_or ls i l → HasLevel n (named l)
ranked-at n [] i l all within is = absurd (omega arith)
ranked-at n (x ∷ ls) zero l all within is = rw is all.0
ranked-at n (x ∷ ls) (suc i) l all within is = ranked-at n ls i l all.1 (omega (arith, within)) is

pub label_lines-taken : (levels categories : List Name) (ls : List NamedLabel) (i : ℕ) → length ls ≤ i
    → flat_map (λ l. label_line levels categories (named l)) (take i ls) ≡ flat_map (label_line levels categories)
    (map named ls)
label_lines-taken levels categories ls i all =
    ap (flat_map (λ (l : NamedLabel). label_line levels categories (named l))) (take_all i ls all)
    ∙ sym (flat_map-map (label_line levels categories) named ls)

module _ (names : List Name) (i : ℕ) (name : Name) (cats : Categories) (within : i < length names) (is : name
    ≡ get_or names i name) where
  -- a category that the set has, and one that it lacks
  pub names-more : set.contains cats i ≡ true → names_of i (drop i names) cats ≡ name ∷ names_of (i + 1)
      (drop (i + 1) names) cats
  names-more has = rw (drop_more names i name within, has)
      (ap (λ (x : Name). x ∷ names_of (i + 1) (drop (i + 1) names) cats) (sym is))

  pub names-past : set.contains cats i ≡ false → names_of i (drop i names) cats ≡ names_of (i + 1)
      (drop (i + 1) names) cats
  names-past has = rw (drop_more names i name within, has) refl

pub ruleset names = (label_name-named)

pub ruleset names_steps = (names-more, names-past)
