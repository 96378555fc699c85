-- The pattern of a tuple that was found.
use Rattle.std.proofs.Common.{◌≡◌, ℕ, zero, suc, not, List, [], ◌∷◌, Option, Some, None, refl, sym, ap, ◌∙◌, is_some, nat_eq, slice_index_or, option_map, unwrap_or}
use Rattle.std.specs.List.{list_any}
use Rattle.std.proofs.lemmas.Option.{none-some, same_Some}
use Rattle.mls_scheme.specs.declared.tuple.Element.{Element}
use Rattle.mls_scheme.specs.Tuple.{at}
use Rattle.mls_filterview.specs.Fragment.{classes}
use Rattle.mls_updates.specs.Writes.{Sets}

-- ---- classes by number

class_of : (es : List Element) (i : ℕ) → slice_index_or (classes es) i 0 ≡ (at es i).class
class_of [] i = refl
class_of (e ∷ es) zero = refl
class_of (e ∷ es) (suc i) = class_of es i

-- a tuple was found, with this pattern
pub found_pattern : (o : Option (List Element)) (xs : List ℕ) → Some xs ≡ option_map classes o → (es : List Element)
    × (o ≡ Some es) × (xs ≡ classes es)
found_pattern None xs h = absurd (none-some xs (sym h))
found_pattern (Some es) xs h = (es, refl, same_Some xs (classes es) h)

pub some_found : (o : Option (List Element)) → is_some (option_map classes o) ≡ is_some o
some_found None = refl
some_found (Some es) = refl

pattern_class : (o : Option (List Element)) (xs : List ℕ) → Some xs ≡ option_map classes o → (i : ℕ)
    → slice_index_or xs i 0 ≡ (at (unwrap_or o []) i).class
pattern_class o xs h i = let r = found_pattern o xs h in ap (λ ys. slice_index_or ys i 0) r.2 ∙ class_of r.0 i
    ∙ sym (ap (λ k. (at (unwrap_or k []) i).class) r.1)

-- whether a named attribute is of another class, by the pattern
pub other_named : (o : Option (List Element)) (xs : List ℕ) → Some xs ≡ option_map classes o → (w : ℕ) (sets : Sets)
    → list_any (λ s. not (nat_eq (slice_index_or xs s.0 0) w)) sets
    ≡ list_any (λ s. not (nat_eq (at (unwrap_or o []) s.0).class w)) sets
other_named o xs h w sets = λ i. list_any (λ s. not (nat_eq (pattern_class o xs h s.0 i) w)) sets
