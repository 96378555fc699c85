-- What one label holds of a relation, and of one entity: tuples without values, and the elements of that class in them.
use Rattle.std.specs.Prelude.{◌≡◌, ◌≢◌, ℕ, suc, ◌<◌, Bool, true, ◌&&◌, if◌then◌else◌, nat_eq, List, [], ◌∷◌, map}
use Rattle.std.specs.Prelude.{length, Option, Some, IfSome, IsPermutation, filter, flat_map}
use Rattle.std.specs.List.{list_any}
use Rattle.std.specs.Ordering.{eq_by_cmp}
use Rattle.std.specs.FinMap.{get, entries}
use Rattle.mls_scheme.specs.declared.value.Value.{Value}
use Rattle.mls_scheme.specs.declared.tuple.Element.{Element}
use Rattle.mls_scheme.specs.Spelling.{HasSpelling}
use Rattle.mls_scheme.specs.Tuple.{at}
use Rattle.mls_scheme.specs.Table.{place_cmp, Table}
use Rattle.mls_scheme.specs.declared.place.Place.{Place}
use Rattle.mls_filterview.specs.Stored.{with_class, is_entity}
use Rattle.mls_filterview.specs.declared.fragment.Node.{Node}
use Rattle.mls_filterview.specs.declared.fragment.Cell.{Cell}
use Rattle.mls_filterview.specs.declared.fragment.Fragment.{Fragment}

-- the tuples of a class, in the order of places
abbrev pub of_class : ℕ → Table → List (Place × List Element)
of_class m T = filter (λ e. nat_eq e.0.class m) (entries T)

-- a tuple is of one of these classes
abbrev pub is_of_any : List ℕ → Place × List Element → Bool
is_of_any ms e = list_any (λ m. nat_eq e.0.class m) ms

-- the tuples of these classes, in the order of places
abbrev pub of_classes : List ℕ → Table → List (Place × List Element)
of_classes ms T = filter (is_of_any ms) (entries T)

-- the tuple of an entity and a class, where there is one
abbrev pub at_place : Place → Table → List (Place × List Element)
at_place p T = filter (λ e. eq_by_cmp place_cmp e.0 p) (entries T)

-- the pattern of a tuple
abbrev pub classes : List Element → List ℕ
classes es = map (λ e. e.class) es

-- a tuple without its values
abbrev pub node_of : Place × List Element → Node
node_of e = record { key = e.0.key; key_class = e.0.key_class; label = e.0.class; pattern = classes e.1 }

abbrev pub cell_at : Place → ℕ → Element → Cell
cell_at p i e = record { key = p.key; key_class = p.key_class; attr = i; label = e.class; value = e.value }

-- the elements of a tuple's own class, numbered from k
abbrev pub cells_from : ℕ → Place → List Element → List Cell
cells_from k p [] = []
cells_from k p (e ∷ es) = if nat_eq e.class p.class then cell_at p k e ∷ cells_from (suc k) p es else cells_from
    (suc k) p es

abbrev pub cells_of : Place × List Element → List Cell
cells_of e = cells_from 0 e.0 e.1

-- what tuples are without their values, and the elements of their own classes, in any order
pub record ArePartsOf (es : List (Place × List Element)) (f : Fragment) : Type 0 where
  pub nodes : IsPermutation (map node_of es) f.nodes
  pub cells : IsPermutation (flat_map cells_of es) f.cells

-- the fragment of a label
abbrev pub IsFragment : Table → ℕ → Fragment → Type 0
IsFragment T m = ArePartsOf (of_class m T)

-- the fragments of these labels, as one
abbrev pub AreFragments : Table → List ℕ → Fragment → Type 0
AreFragments T ms = ArePartsOf (of_classes ms T)

-- the part of a fragment that belongs to one entity
abbrev pub IsEntityPart : Table → Place → Fragment → Type 0
IsEntityPart T p = ArePartsOf (at_place p T)

abbrev pub place_of_node : Node → Place
place_of_node n = record { key = n.key; key_class = n.key_class; class = n.label }

-- the node and the cells of its label are those of a tuple with the elements es, whose other elements the entity's
-- tuples
-- of their classes have
pub record IsMadeOf (T : Table) (n : Node) (cells : List Cell) (es : List Element) : Type 0 where
  pub pattern : n.pattern ≡ classes es
  pub own : cells ≡ cells_from 0 (place_of_node n) es
  pub others : (i : ℕ) → i < length es → (at es i).class ≢ n.label → (fs : List Element)
      × (get T (with_class (place_of_node n) (at es i).class) ≡ Some fs) × (at fs i ≡ at es i) × (i < length fs)

-- an element of the node's tuple, of its class, whose value has a spelling
pub record IsCellOf (n : Node) (c : Cell) : Type 0 where
  pub key : c.key ≡ n.key
  pub key_class : c.key_class ≡ n.key_class
  pub label : c.label ≡ n.label
  pub attr : c.attr < length n.pattern
  pub value : IfSome c.value HasSpelling

-- ---- the changes of one cell and of one tuple

-- the element of attribute attr, numbered from k, gets the value where its class is label
abbrev pub set_from : ℕ → ℕ → Option Value → ℕ → List Element → List Element
set_from attr label v k [] = []
set_from attr label v k (e ∷ es) =
    (if nat_eq k attr && nat_eq e.class label then record { value = v; class = label } else e) ∷ set_from attr label v
    (suc k) es

-- so in each tuple of the entity of p that has the cell
abbrev pub set_in : Place → ℕ → Option Value → Place → List Element → List Element
set_in p attr v q es = if is_entity p q then set_from attr p.class v 0 es else es

-- the entity of p has a cell of its class at attr
abbrev pub HasCell : Table → Place → ℕ → Type 0
HasCell T p attr =
    (q : Place) × (es : List Element) × (is_entity p q ≡ true) × (get T q ≡ Some es) × (attr < length es)
    × ((at es attr).class ≡ p.class)

-- no other tuple of the entity has an element of the class of p
abbrev pub IsAlone : Table → Place → Type 0
IsAlone T p =
    (q : Place) (es : List Element) → get T q ≡ Some es → is_entity p q ≡ true → q.class ≢ p.class
    → (i : ℕ) → i < length es → (at es i).class ≢ p.class
