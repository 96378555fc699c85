-- The four integrity properties of a multilevel relation (Jajodia and Sandhu 1991), said of its views.
use Rattle.std.specs.Prelude.{◌≡◌, ℕ, ◌<◌, true, length, None, ◌↔◌}
use Rattle.mls_lattice.specs.Labels.{Labels, below}
use Rattle.mls_scheme.specs.declared.tuple.Tuple.{Tuple}
use Rattle.mls_scheme.specs.Tuple.{at}
use Rattle.mls_scheme.specs.Table.{Table, IsIn}
use Rattle.mls_filterview.specs.Subsumption.{Subsumes}
use Rattle.mls_filterview.specs.View.{View}

-- no class of an element lies below the key class (a key has no nulls by its type)
abbrev pub EntityIntegrity : Labels → Table → Type 0
EntityIntegrity ls T =
    (c : ℕ) (t : Tuple) → View ls (IsIn T) c t → (i : ℕ) → i < length t.elements
    → below ls t.key_class (at t.elements i).class ≡ true

-- a null has the key class, and no tuple subsumes another
pub record NullIntegrity (ls : Labels) (T : Table) : Type 0 where
  pub null_class : (c : ℕ) (t : Tuple) → View ls (IsIn T) c t → (i : ℕ) → i < length t.elements
      → (at t.elements i).value ≡ None → (at t.elements i).class ≡ t.key_class
  pub no_subsumed : (c : ℕ) (s t : Tuple) → View ls (IsIn T) c s → View ls (IsIn T) c t → Subsumes s t → s ≡ t

-- what a lower level sees is what it sees of a higher level's view
abbrev pub InterInstanceIntegrity : Labels → Table → Type 0
InterInstanceIntegrity ls T =
    (c d : ℕ) → below ls d c ≡ true → (t : Tuple) → View ls (IsIn T) d t ↔ View ls (View ls (IsIn T) c) d t

-- at each attribute the key, its class and the element's class determine the value, null being a value
abbrev pub PolyinstantiationIntegrity : Labels → Table → Type 0
PolyinstantiationIntegrity ls T =
    (c : ℕ) (s t : Tuple) → View ls (IsIn T) c s → View ls (IsIn T) c t → s.key ≡ t.key → s.key_class ≡ t.key_class
    → (i : ℕ) → i < length s.elements → i < length t.elements → (at s.elements i).class ≡ (at t.elements i).class
    → (at s.elements i).value ≡ (at t.elements i).value

pub record HasIntegrity (ls : Labels) (T : Table) : Type 0 where
  pub entity : EntityIntegrity ls T
  pub nulls : NullIntegrity ls T
  pub between : InterInstanceIntegrity ls T
  pub determined : PolyinstantiationIntegrity ls T
