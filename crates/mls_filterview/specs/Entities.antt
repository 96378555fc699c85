-- Views, entity by entity.
use Rattle.std.specs.Prelude.{◌≡◌, ℕ, ◌<◌, Bool, true, false, List, ◌++◌, Some, filter}
use Rattle.std.specs.Ordering.{is_lt, is_gt}
use Rattle.std.specs.FinMap.{get, retain_keys}
use Rattle.mls_lattice.specs.Labels.{Labels, below}
use Rattle.mls_scheme.specs.declared.value.Value.{Value}
use Rattle.mls_scheme.specs.declared.tuple.Element.{Element}
use Rattle.mls_scheme.specs.declared.tuple.Tuple.{Tuple}
use Rattle.mls_scheme.specs.declared.place.Place.{Place}
use Rattle.mls_scheme.specs.Table.{Table, place_of}
use Rattle.mls_filterview.specs.Subsumption.{entity_cmp}
use Rattle.mls_filterview.specs.Stored.{is_entity}

-- ---- one entity of a table

-- its tuples
abbrev pub of_entity : Place → Table → Table
of_entity p T = retain_keys T (is_entity p)

-- outside of it two tables have the same tuples
abbrev pub AgreeOutside : Place → Table → Table → Type 0
AgreeOutside p S T = (q : Place) → is_entity p q ≡ false → get S q ≡ get T q

module _ (ls : Labels) (T : Table) (c : ℕ) (values : List Value) where
  -- a tuple of the key with these values and the key class kc, of a class below m that c dominates
  pub record IsOfEntity (kc m : ℕ) (e : Place × List Element) : Type 0 where
    pub has : get T e.0 ≡ Some e.1
    pub key : e.0.key ≡ values
    pub key_class : e.0.key_class ≡ kc
    pub class : e.0.class < m
    pub low : below ls e.0.class c ≡ true

-- ---- its rows in a view

-- a tuple is of the entity
abbrev pub is_of : Place → Tuple → Bool
is_of p t = is_entity p (place_of 0 t)

-- it is of an entity that comes before it, or behind it
abbrev pub is_before : Place → Tuple → Bool
is_before p t = is_lt (entity_cmp (place_of 0 t) p)

abbrev pub is_behind : Place → Tuple → Bool
is_behind p t = is_gt (entity_cmp (place_of 0 t) p)

-- rows, with others in place of those of the entity
abbrev pub mended : Place → List Tuple → List Tuple → List Tuple
mended p own ts = filter (is_before p) ts ++ own ++ filter (is_behind p) ts
