-- The lines of attributes, one after another.
use Rattle.std.proofs.Common.{◌≡◌, ℕ, zero, suc, ◌+◌, ◌<◌, List, [], ◌∷◌, ◌++◌, length, get_or, take, slice_get, option_map, Option, Some, None, sym, ap, ◌∙◌, subst, flat_map}
use Rattle.std.specs.List.{AllByRecursion}
use Rattle.std.proofs.lemmas.List.{flat_map_more, take_more}
use Rattle.std.proofs.lemmas.Option.{slice_get_within, get_or_from_slice_get, same_Some, none-some}
use Rattle.mls_lattice.specs.Policy.{Name}
use Rattle.mls_scheme.specs.declared.attributes.Column.{Column}
use Rattle.mls_scheme.specs.Scheme.{Attribute, IsAmongLabels, column_of}

-- an attribute is its name and the rest
whole : (o : Option Attribute) (name : Name) (c : Column) → option_map (λ a. a.0) o ≡ Some name → option_map column_of o
    ≡ Some c → o ≡ Some (name, c)
whole None name c e f = absurd cc
whole (Some a) name c e f =
    let named : a.0 ≡ name = cc in
    let rest : column_of a ≡ c = cc in
    λ i. Some ((named i), (rest i))

pub lines_more : (f : Attribute → List ℕ) (attributes : List Attribute) (k : ℕ) (name : Name) (c : Column)
    (start : List ℕ)
    → option_map (λ a. a.0) (slice_get attributes k) ≡ Some name → option_map column_of (slice_get attributes k)
    ≡ Some c
    → (start ++ flat_map f (take k attributes)) ++ f (name, c) ≡ start ++ flat_map f (take (k + 1) attributes)
lines_more f attributes k name c start e g =
    let here = whole (slice_get attributes k) name c e g in
    let a : Attribute = (name, c) in
    flat_map_more f start (take k attributes) a
    ∙ ap (λ xs. start ++ flat_map f xs) (sym (take_more attributes k a (slice_get_within attributes k a here)
    ∙ ap (λ x. take k attributes ++ x ∷ []) (get_or_from_slice_get attributes k a a here)))

-- the attribute of a place, from its name and the rest
pub attribute_there : (attributes : List Attribute) (k : ℕ) (name : Name) (c : Column)
    → option_map (λ a. a.0) (slice_get attributes k) ≡ Some name → option_map column_of (slice_get attributes k)
    ≡ Some c
    → ((name, c) ≡ get_or attributes k (name, c)) × (k < length attributes)
attribute_there attributes k name c e g =
    let a : Attribute = (name, c) in
    let here = whole (slice_get attributes k) name c e g in
    (sym (get_or_from_slice_get attributes k a a here), slice_get_within attributes k a here)

-- what is kept of an attribute speaks of labels that there are
pub column_among : (n : ℕ) (attributes : List Attribute) (k : ℕ) (c : Column)
    → AllByRecursion (IsAmongLabels n) attributes → option_map column_of (slice_get attributes k) ≡ Some c → (c.low < n)
    × (c.high < n)
column_among n [] zero c h e = absurd (none-some c e)
column_among n [] (suc k) c h e = absurd (none-some c e)
column_among n (a ∷ rest) zero c h e =
    let q = same_Some (column_of a) c e in
    (subst (λ (x : Column). x.low < n) q h.0.low, subst (λ (x : Column). x.high < n) q h.0.high)
column_among n (a ∷ rest) (suc k) c h e = column_among n rest k c h.1 e
