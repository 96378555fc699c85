-- Elements and tuples, and the class of a tuple.
use Rattle.std.specs.Prelude.{ℕ, ◌<◌, Bool, is_none, List, [], ◌∷◌, None, slice_index_or}
use Rattle.std.specs.List.{AllByRecursion}
use Rattle.mls_lattice.specs.Lattice.{Pair, join}
use Rattle.mls_lattice.specs.Labels.{Labels, label_of}
use Rattle.mls_scheme.specs.declared.tuple.Element.{Element}
use Rattle.mls_scheme.specs.declared.tuple.Tuple.{Tuple}

abbrev pub is_null : Element → Bool
is_null e = is_none e.value

abbrev pub null_element : Element
null_element = record { value = None; class = 0 }

-- the element of an attribute, by its number
abbrev pub at : List Element → ℕ → Element
at es i = slice_index_or es i null_element

-- each class is the number of one of count labels
pub record HasClassesBelow (count : ℕ) (t : Tuple) : Type 0 where
  pub key_class : t.key_class < count
  pub elements : AllByRecursion (λ e. e.class < count) t.elements

-- a pair joined with the classes of elements
abbrev pub join_of : Labels → Pair → List Element → Pair
join_of ls p [] = p
join_of ls p (e ∷ es) = join_of ls (join p (label_of ls e.class)) es

-- the join of all classes of a tuple
abbrev pub tuple_class : Labels → Tuple → Pair
tuple_class ls t = join_of ls (label_of ls t.key_class) t.elements

abbrev pub no_tuple : Tuple
no_tuple = record { key = []; key_class = 0; elements = [] }
