-- Worked rows, which compute: small relations, and which of their tuples no other one subsumes.
use Rattle.std.proofs.Common.{◌≡◌, ℕ, List, [], ◌∷◌, Option, Some, None, refl, codes}
use Rattle.mls_scheme.specs.declared.value.Value.{Value}
use Rattle.mls_scheme.specs.declared.value.Value.TheVariants.{Text}
use Rattle.mls_scheme.specs.Table.{place_cmp}
use Rattle.mls_filterview.proofs.EntryLemmas.{Entry}
use Rattle.mls_filterview.proofs.EntityLemmas.{maximal}

abbrev word : List ℕ → Option Value
word text = Some (Text text)

-- the tuple of a class: the name and its class, and two elements with theirs
abbrev entry : ℕ → List ℕ → ℕ → Option Value → ℕ → Option Value → ℕ → Entry
entry class name key_class v k w m = (
  record { key = Text name ∷ []; key_class = key_class; class = class },
  record { value = v; class = k } ∷ record { value = w; class = m } ∷ [],
)

voyager : List Entry
voyager =
    entry 0 (codes "Voyager") 0 None 0 None 0 ∷
    entry 2 (codes "Voyager") 0 None 0 (word (codes "Rigel")) 2 ∷ []

a_value_shows_over_a_null : maximal voyager ≡ entry 2 (codes "Voyager") 0 None 0 (word (codes "Rigel")) 2 ∷ []
unfolding place_cmp voyager
a_value_shows_over_a_null = refl

enterprise : List Entry
enterprise =
    entry 0 (codes "Enterprise") 0 (word (codes "Exploration")) 0 (word (codes "Talos")) 0 ∷
    entry 1 (codes "Enterprise") 0 (word (codes "Mapping")) 1 (word (codes "Talos")) 0 ∷
    entry 2 (codes "Enterprise") 0 (word (codes "Spying")) 2 (word (codes "Talos")) 0 ∷
    entry 3 (codes "Enterprise") 0 (word (codes "Spying")) 2 (word (codes "Rigel")) 3 ∷ []

other_values_show_beside_each_other : maximal enterprise ≡ enterprise
unfolding place_cmp enterprise
other_values_show_beside_each_other = refl

-- one key at two key classes
two_entities : List Entry
two_entities =
    entry 0 (codes "Enterprise") 0 (word (codes "Trade")) 0 (word (codes "Talos")) 0 ∷
    entry 2 (codes "Enterprise") 2 (word (codes "Trade")) 2 None 2 ∷ []

other_entities_show_beside_each_other : maximal two_entities ≡ two_entities
unfolding place_cmp two_entities
other_entities_show_beside_each_other = refl

-- one value at two classes
values_at_two_classes : List Entry
values_at_two_classes =
    entry 0 (codes "Enterprise") 0 (word (codes "Diplomacy")) 0 None 0 ∷
    entry 1 (codes "Enterprise") 0 (word (codes "Diplomacy")) 1 None 0 ∷ []

a_value_of_another_class_shows : maximal values_at_two_classes ≡ values_at_two_classes
unfolding place_cmp values_at_two_classes
a_value_of_another_class_shows = refl
