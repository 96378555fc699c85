-- What the stored form asks of the rows of a list of tuples, rule by rule.
use Rattle.std.specs.Prelude.{◌≡◌, ℕ, ◌<◌, true, List, length, slice_index_or, None, ◌⊎◌, ◌↔◌}
use Rattle.mls_lattice.specs.Labels.{Labels, label_of, below}
use Rattle.mls_scheme.specs.declared.tuple.Element.{Element}
use Rattle.mls_scheme.specs.declared.tuple.Tuple.{Tuple}
use Rattle.mls_scheme.specs.Tuple.{at, tuple_class, no_tuple}
use Rattle.mls_scheme.specs.Table.{Table, IsIn, place_of}
use Rattle.mls_scheme.specs.Scheme.{Scheme}
use Rattle.mls_scheme.specs.Fits.{Fits}
use Rattle.mls_filterview.specs.declared.rule.Rule.{Rule}
use Rattle.mls_filterview.specs.declared.rule.Rule.TheVariants.{Entity, Null, Interval, Poly, Closure}
use Rattle.mls_filterview.specs.View.{IsAmong}
use Rattle.mls_filterview.specs.Stored.{Occurs, IsContent}
use Rattle.mls_filterview.specs.Filtering.{EachOnce}

-- a row of the list, by its number
abbrev pub row_at : List Tuple → ℕ → Tuple
row_at ts i = slice_index_or ts i no_tuple

-- m is one of the classes of a tuple
abbrev pub OccursIn : Tuple → ℕ → Type 0
OccursIn t m = Occurs (place_of 0 t) t.elements m

-- two tuples have one key and one key class
abbrev pub AreOfOneEntity : Tuple → Tuple → Type 0
AreOfOneEntity s t = (s.key ≡ t.key) × (s.key_class ≡ t.key_class)

-- s is a tuple of the entity of t, of class m
abbrev pub IsOfClass : Labels → Tuple → Tuple → ℕ → Type 0
IsOfClass ls s t m = AreOfOneEntity s t × (tuple_class ls s ≡ label_of ls m)

-- row j is the first tuple of the entity of t of class m
pub record IsFirstOfClass (ls : Labels) (ts : List Tuple) (t : Tuple) (m j : ℕ) : Type 0 where
  pub within : j < length ts
  pub here : IsOfClass ls (row_at ts j) t m
  pub none_before : (k : ℕ) → k < j → IsOfClass ls (row_at ts k) t m → ⊥

-- fs has the elements of es wherever m dominates the class in es
abbrev pub HasBelow : Labels → ℕ → List Element → List Element → Type 0
HasBelow ls m es fs = (i : ℕ) → i < length es → below ls (at es i).class m ≡ true → (i < length fs)
    × (at fs i ≡ at es i)

-- no earlier row has the entity and the class of row i, and the entity's first tuple of each class of the row agrees
-- with it
pub record IsDetermined (ls : Labels) (ts : List Tuple) (i : ℕ) : Type 0 where
  pub alone : (j : ℕ) → j < i → AreOfOneEntity (row_at ts j) (row_at ts i) → tuple_class ls (row_at ts j)
      ≡ tuple_class ls (row_at ts i) → ⊥
  pub agrees : (m j : ℕ) → OccursIn (row_at ts i) m → IsFirstOfClass ls ts (row_at ts i) m j
      → HasBelow ls m (row_at ts i).elements (row_at ts j).elements

-- the classes of a tuple are comparable, so that the greatest of them is the tuple's, and for each of them the entity
-- has
-- a tuple of that class
pub record IsClosed (ls : Labels) (ts : List Tuple) (t : Tuple) : Type 0 where
  pub comparable : (a b : ℕ) → OccursIn t a → OccursIn t b → (below ls a b ≡ true) ⊎ (below ls b a ≡ true)
  pub each : (m : ℕ) → OccursIn t m → (s : Tuple) × IsAmong s ts × IsOfClass ls s t m

-- Row i of the list keeps a rule. Entity and Null are asked of whatever elements the row has, before Interval
-- asks how many there are, of which kinds and of which classes. After Entity, that a null has the key class is
-- the same as that it is not above it. The class of a tuple is the join of its classes, so Poly has a meaning
-- before Closure is asked.
abbrev pub Keeps : Labels → Scheme → List Tuple → ℕ → Rule → Type 0
Keeps ls scheme ts i Entity = (k : ℕ) → k < length (row_at ts i).elements → below ls (row_at ts i).key_class
    (at (row_at ts i).elements k).class ≡ true
Keeps ls scheme ts i Null = (k : ℕ) → k < length (row_at ts i).elements → (at (row_at ts i).elements k).value ≡ None
    → (at (row_at ts i).elements k).class ≡ (row_at ts i).key_class
Keeps ls scheme ts i Interval = Fits ls scheme (place_of 0 (row_at ts i)) (row_at ts i).elements
Keeps ls scheme ts i Poly = IsDetermined ls ts i
Keeps ls scheme ts i Closure = IsClosed ls ts (row_at ts i)

-- the order of the rules
abbrev pub rank : Rule → ℕ
rank Entity = 0
rank Null = 1
rank Interval = 2
rank Poly = 3
rank Closure = 4

-- row i breaks the rule, and keeps the rules before it; no earlier row breaks any rule
pub record IsFirstBroken (ls : Labels) (scheme : Scheme) (ts : List Tuple) (i : ℕ) (r : Rule) : Type 0 where
  pub within : i < length ts
  pub breaks : Keeps ls scheme ts i r → ⊥
  pub rules_before : (q : Rule) → rank q < rank r → Keeps ls scheme ts i q
  pub rows_before : (j : ℕ) → j < i → (q : Rule) → Keeps ls scheme ts j q

-- the list has the tuples of a table of the stored form, each once, with the kinds and intervals of the scheme
abbrev pub IsStoredList : Labels → Scheme → List Tuple → Type 0
IsStoredList ls scheme ts = EachOnce ts × ((T : Table) × ((t : Tuple) → IsAmong t ts ↔ IsIn T t)
    × IsContent ls scheme T)
