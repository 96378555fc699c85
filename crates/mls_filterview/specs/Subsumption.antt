-- Subsumption: which tuples say all that others say (Jajodia and Sandhu 1991).
use Rattle.std.specs.Prelude.{◌≡◌, ⊤, ℕ, ◌<◌, Bool, true, false, not, ◌&&◌, ◌||◌, nat_eq, List, [], ◌∷◌, length}
use Rattle.std.specs.Prelude.{is_some, ◌⊎◌, if◌then◌else◌}
use Rattle.std.specs.List.{list_any, AllByRecursion}
use Rattle.std.specs.Ordering.{nat_cmp, on, then_cmp}
use Rattle.std.specs.Cmp.Lexicographic.{slice_cmp}
use Rattle.std.specs.declared.cmp.Ordering.{Ordering}
use Rattle.std.specs.declared.cmp.Ordering.TheVariants.{Greater}
use Rattle.std.specs.Option.{option_eq}
use Rattle.mls_scheme.specs.declared.tuple.Element.{Element}
use Rattle.mls_scheme.specs.declared.tuple.Tuple.{Tuple}
use Rattle.mls_scheme.specs.Value.{value_eq, value_cmp}
use Rattle.mls_scheme.specs.Tuple.{at}
use Rattle.mls_scheme.specs.declared.place.Place.{Place}
use Rattle.mls_filterview.specs.Stored.{is_entity}

-- a is b, or has a value where b has none
abbrev pub Covers : Element → Element → Type 0
Covers a b = (a ≡ b) ⊎ ((is_some a.value ≡ true) × (is_some b.value ≡ false))

-- s subsumes t: it says all that t says
pub record Subsumes (s t : Tuple) : Type 0 where
  pub key : s.key ≡ t.key
  pub key_class : s.key_class ≡ t.key_class
  pub count : length s.elements ≡ length t.elements
  pub each : (i : ℕ) → i < length t.elements → Covers (at s.elements i) (at t.elements i)

-- a tuple of X that no other tuple of X subsumes
abbrev pub IsMax : (Tuple → Type 0) → Tuple → Type 0
IsMax X t = X t × ((s : Tuple) → X s → Subsumes s t → s ≡ t)

-- ---- the tests of Covers and Subsumes

abbrev pub same_element : Element → Element → Bool
same_element a b = option_eq value_eq a.value b.value && nat_eq a.class b.class

abbrev pub covers : Element → Element → Bool
covers a b = same_element a b || (is_some a.value && not (is_some b.value))

abbrev pub all_cover : List Element → List Element → Bool
all_cover [] [] = true
all_cover [] (b ∷ bs) = false
all_cover (a ∷ as') [] = false
all_cover (a ∷ as') (b ∷ bs) = covers a b && all_cover as' bs

-- whether an entry of a table subsumes another
abbrev pub subsumes_entry : Place × List Element → Place × List Element → Bool
subsumes_entry d e = is_entity d.0 e.0 && all_cover d.1 e.1

-- whether this entry subsumes each entry that subsumes it: such an entry stays, in `view` and in `filter`
abbrev pub is_max_among : List (Place × List Element) → Place × List Element → Bool
is_max_among es e = not (list_any (λ d. subsumes_entry d e && not (subsumes_entry e d)) es)

-- the rows whose flag is set
abbrev pub flagged : {A : Type 0} → List Bool → List A → List A
flagged [] es = []
flagged (b ∷ bs) [] = []
flagged (b ∷ bs) (e ∷ es) = if b then e ∷ flagged bs es else flagged bs es

-- ---- entities in order

-- by key and number of the key class
abbrev pub entity_cmp : Place → Place → Ordering
entity_cmp = then_cmp (on (λ p. p.key) (slice_cmp value_cmp)) (on (λ p. p.key_class) nat_cmp)

-- no entry is of an entity before that of an earlier entry
abbrev pub AreByEntity : List (Place × List Element) → Type 0
AreByEntity [] = ⊤
AreByEntity (e ∷ es) = AllByRecursion (λ d. entity_cmp e.0 d.0 ≡ Greater → ⊥) es × AreByEntity es
