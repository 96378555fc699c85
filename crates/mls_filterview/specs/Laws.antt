-- The laws of views and of the stored form.
use Rattle.std.specs.Prelude.{◌≡◌, ℕ, ◌<◌, true, length, ◌↔◌}
use Rattle.mls_lattice.specs.Labels.{Labels, label_of, below, AreDistinct}
use Rattle.mls_scheme.specs.declared.tuple.Tuple.{Tuple}
use Rattle.mls_scheme.specs.Tuple.{tuple_class}
use Rattle.mls_scheme.specs.declared.place.Place.{Place}
use Rattle.mls_scheme.specs.Table.{Table, Has, IsIn}
use Rattle.mls_filterview.specs.Subsumption.{IsMax}
use Rattle.mls_filterview.specs.View.{View, low, rows, IsAmong, AreInOrder}
use Rattle.mls_filterview.specs.Stored.{IsStored}
use Rattle.mls_filterview.specs.Integrity.{HasIntegrity}
use Rattle.mls_filterview.specs.Entities.{of_entity, AgreeOutside, mended}

-- the stored form has the four integrity properties
abbrev pub StoredHasIntegrity : Type 0
StoredHasIntegrity = (ls : Labels) (n : ℕ) (T : Table) → IsStored ls n T → HasIntegrity ls T

-- the view at c is what is not subsumed among the tuples of classes that c dominates
abbrev pub ViewIsMaxOfLow : Type 0
ViewIsMaxOfLow = (ls : Labels) (n : ℕ) (T : Table) → IsStored ls n T → (c : ℕ) (t : Tuple) → View ls (IsIn T) c t
    ↔ IsMax (IsIn (low ls c T)) t

-- the tuples of a class m that c dominates are those of class m in the view at m of the view at c
abbrev pub ViewTellsLow : Type 0
ViewTellsLow =
    (ls : Labels) → AreDistinct ls → (n : ℕ) (T : Table) → IsStored ls n T → (c m : ℕ) (t : Tuple) → m < length ls
    → below ls m c ≡ true
    → Has T m t ↔ (View ls (View ls (IsIn T) c) m t × (tuple_class ls t ≡ label_of ls m))

-- the view at c and the tuples of classes that c dominates determine each other
abbrev pub ViewsAndLowAgree : Type 0
ViewsAndLowAgree =
    (ls : Labels) → AreDistinct ls → (n : ℕ) (S T : Table) → IsStored ls n S → IsStored ls n T → (c : ℕ)
    → ((t : Tuple) → View ls (IsIn S) c t ↔ View ls (IsIn T) c t) ↔ (low ls c S ≡ low ls c T)

-- the rows are just the tuples of the view, in the order of places
abbrev pub RowsAreTheView : Type 0
RowsAreTheView =
    (ls : Labels) → AreDistinct ls → (n : ℕ) (T : Table) → IsStored ls n T → (c : ℕ)
    → ((t : Tuple) → IsAmong t (rows ls c T) ↔ View ls (IsIn T) c t)
    × AreInOrder T (rows ls c T)

-- where tables agree outside of an entity, the rows of the one are those of the other, in their order, but for the rows
-- of
-- the entity, which are those of its tuples alone
abbrev pub ViewsAreMended : Type 0
ViewsAreMended =
    (ls : Labels) (c : ℕ) (p : Place) (S T : Table) → AgreeOutside p S T
    → rows ls c T ≡ mended p (rows ls c (of_entity p T)) (rows ls c S)
