-- The tables of a policy, seen through the view of its labels.
use Rattle.std.proofs.Common.{◌≡◌, ℕ, ◌<◌, Bool, List, [], ◌∷◌, length, map, get_or, cond, not, nat_lt, ◌+◌, Some, None, refl, ap, ◌∙◌, position, bytes_eq}
use Rattle.std.specs.List.{prefix_len}
use Rattle.std.proofs.lemmas.List.{get_or-map, length-map}
use Rattle.mls_lattice.specs.Lattice.{pair_of, bottom}
use Rattle.mls_lattice.specs.Labels.{label_of}
use Rattle.mls_lattice.specs.Policy.{Name, Named, named}
use Rattle.mls_lattice.specs.declared.tables.NamedLabel.{NamedLabel}

-- a label by its number
pub label_of-named : (ls : List NamedLabel) (i : ℕ) (d : NamedLabel) → i < length ls
    → label_of (map (λ l. l.value) (map named ls)) i ≡ pair_of (get_or ls i d).label
label_of-named ls i d lt =
    get_or-map (λ (l : Named). l.value) (map named ls) i (named d) bottom (rw (length-map ls named) lt)
    ∙ ap (λ (l : Named). l.value) (get_or-map named ls i d (named d) lt)

prefix_len-map : {X Y : Type 0} (f : X → Y) (p : Y → Bool) (xs : List X) → prefix_len p (map f xs)
    ≡ prefix_len (λ x. p (f x)) xs
prefix_len-map f p [] = refl
prefix_len-map f p (x ∷ xs) = ap (λ n. cond (p (f x)) (1 + n) 0) (prefix_len-map f p xs)

-- the place of a name
pub position-named : (ls : List NamedLabel) (name : Name) → position (λ l. bytes_eq l.name name) (map named ls)
    ≡ position (λ l. bytes_eq l.name name) ls
position-named ls name =
    let same = prefix_len-map named (λ l. not (bytes_eq l.name name)) ls in
    λ i. cond (nat_lt (same i) (length-map ls named i)) (Some (same i)) None

pub length-named : (ls : List NamedLabel) → length (map named ls) ≡ length ls
length-named ls = length-map ls named
