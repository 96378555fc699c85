-- Tuples put together from fragments.
use Rattle.std.specs.Prelude.{◌≡◌, ℕ, suc, ◌<◌, true, if◌then◌else◌, nat_eq, List, [], ◌∷◌, find, Option, Some, None}
use Rattle.std.specs.Prelude.{option_and_then, ◌↔◌, unwrap_or}
use Rattle.std.specs.Ordering.{nat_cmp, ordering_then}
use Rattle.std.specs.FinMap.{get, from_sorted}
use Rattle.std.specs.declared.cmp.Ordering.{Ordering}
use Rattle.mls_lattice.specs.Labels.{Labels, below}
use Rattle.mls_scheme.specs.declared.value.Value.{Value}
use Rattle.mls_scheme.specs.declared.tuple.Element.{Element}
use Rattle.mls_scheme.specs.declared.place.Place.{Place}
use Rattle.mls_scheme.specs.Tuple.{at}
use Rattle.mls_scheme.specs.Table.{place_cmp, Table}
use Rattle.mls_filterview.specs.declared.fragment.Node.{Node}
use Rattle.mls_filterview.specs.declared.fragment.Cell.{Cell}
use Rattle.mls_filterview.specs.View.{IsAmong}
use Rattle.mls_filterview.specs.Stored.{with_class}
use Rattle.mls_filterview.specs.Fragment.{node_of, cells_of, place_of_node}

-- a place, and an attribute
abbrev pub CellPlace : Type 0
CellPlace = Place × ℕ

-- places, and at one place attributes by number
abbrev pub cell_place_cmp : CellPlace → CellPlace → Ordering
cell_place_cmp s t = ordering_then (place_cmp s.0 t.0) (nat_cmp s.1 t.1)

abbrev pub place_of_cell : Cell → CellPlace
place_of_cell c = (record { key = c.key; key_class = c.key_class; class = c.label }, c.attr)

-- the values of cells, found by their places and attributes
pub record AreValues (cells : List Cell) (held : CellPlace → Option (Option Value)) : Type 0 where
  pub sound : (s : CellPlace) (v : Option Value) → held s ≡ Some v → (c : Cell) × IsAmong c cells
      × (place_of_cell c ≡ s) × (c.value ≡ v)
  pub complete : (c : Cell) → IsAmong c cells → (v : Option Value) × (held (place_of_cell c) ≡ Some v)

-- the elements of a pattern, numbered from k: at each attribute the entity's value of that class, null where there is
-- none
abbrev pub elements_from : (CellPlace → Option (Option Value)) → Place → ℕ → List ℕ → List Element
elements_from held p k [] = []
elements_from held p k (m ∷ ms) = record { value = unwrap_or (held (with_class p m, k)) None; class = m }
    ∷ elements_from held p (suc k) ms

abbrev pub elements_of : (CellPlace → Option (Option Value)) → Node → List Element
elements_of held n = elements_from held (place_of_node n) 0 n.pattern

-- the value at an attribute among the cells of one tuple, null where there is none
abbrev pub value_in : ℕ → List Cell → Option Value
value_in i cells = option_and_then (λ c. c.value) (find (λ c. nat_eq c.attr i) cells)

-- the values of an entity of which one tuple is new: those of its class are among its cells, and all others in the
-- tuples found
abbrev pub value_held : (Place → Option (List Element)) → ℕ → List Cell → CellPlace → Option (Option Value)
value_held found class cells s = Some (if nat_eq s.0.class class then value_in s.1 cells else
    (at (unwrap_or (found s.0) []) s.1).value)

-- the elements of that tuple
abbrev pub made_of : (Place → Option (List Element)) → Node → List Cell → List Element
made_of found n cells = elements_of (value_held found n.label cells) n

-- the tuples of nodes, found by their places
pub record AreRows (held : CellPlace → Option (Option Value)) (nodes : List Node) (found : Place
    → Option (List Element)) : Type 0 where
  pub sound : (p : Place) (es : List Element) → found p ≡ Some es → (n : Node) × IsAmong n nodes × (place_of_node n ≡ p)
      × (elements_of held n ≡ es)
  pub complete : (n : Node) → IsAmong n nodes → (es : List Element) × (found (place_of_node n) ≡ Some es)

-- the table of the entries of a map
abbrev pub table_of : List (Place × List Element) → Table
table_of es = from_sorted es

-- a tuple of the table, of a class below k that c dominates
abbrev pub IsLowEntry : Labels → Table → ℕ → ℕ → Place × List Element → Type 0
IsLowEntry ls T c k e = (get T e.0 ≡ Some e.1) × (e.0.class < k) × (below ls e.0.class c ≡ true)

-- the nodes and the cells of tuples, in any order
pub record AreOf (In : Place × List Element → Type 0) (ns : List Node) (ds : List Cell) : Type 0 where
  pub nodes : (n : Node) → IsAmong n ns ↔ ((e : Place × List Element) × In e × (n ≡ node_of e))
  pub cells : (d : Cell) → IsAmong d ds ↔ ((e : Place × List Element) × In e × IsAmong d (cells_of e))

-- those of the tuples of these classes
abbrev pub AreLow : Labels → Table → ℕ → ℕ → List Node → List Cell → Type 0
AreLow ls T c k = AreOf (IsLowEntry ls T c k)
