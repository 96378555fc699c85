-- The form in which tuples are stored.
use Rattle.std.specs.Prelude.{◌≡◌, ℕ, ◌<◌, Bool, true, List, length, Some, None, ◌⊎◌}
use Rattle.std.specs.Ordering.{eq_by_cmp}
use Rattle.std.specs.FinMap.{get}
use Rattle.mls_lattice.specs.Labels.{Labels, below}
use Rattle.mls_scheme.specs.declared.tuple.Element.{Element}
use Rattle.mls_scheme.specs.Tuple.{at}
use Rattle.mls_scheme.specs.Table.{place_cmp, Table, Database}
use Rattle.mls_scheme.specs.declared.place.Place.{Place}
use Rattle.mls_scheme.specs.Scheme.{Scheme, Schemes, scheme_of}
use Rattle.mls_scheme.specs.Fits.{Fits}

-- m is one of the classes of a tuple, its key class among them
abbrev pub Occurs : Place → List Element → ℕ → Type 0
Occurs p es m = (m ≡ p.key_class) ⊎ ((i : ℕ) × (i < length es) × (m ≡ (at es i).class))

-- the place of the entity's tuple of class m
abbrev pub with_class : Place → ℕ → Place
with_class p m = record { key = p.key; key_class = p.key_class; class = m }

-- two places differ in class at most
abbrev pub is_entity : Place → Place → Bool
is_entity p q = eq_by_cmp place_cmp p (with_class q p.class)

-- fs agrees with es wherever m dominates the class in es
abbrev pub AgreesBelow : Labels → ℕ → List Element → List Element → Type 0
AgreesBelow ls m es fs = (i : ℕ) → i < length es → below ls (at es i).class m ≡ true → at fs i ≡ at es i

-- a stored tuple of a relation with n attributes outside its key: its class is the greatest of its classes and one of
-- them, and for each of its classes the entity has a tuple of that class that agrees with it below
pub record IsStoredTuple (ls : Labels) (n : ℕ) (T : Table) (p : Place) (es : List Element) : Type 0 where
  pub count : length es ≡ n
  pub declared : (m : ℕ) → Occurs p es m → m < length ls
  pub above_key : (m : ℕ) → Occurs p es m → below ls p.key_class m ≡ true
  pub null_at_key : (i : ℕ) → i < length es → (at es i).value ≡ None → (at es i).class ≡ p.key_class
  pub comparable : (a b : ℕ) → Occurs p es a → Occurs p es b → (below ls a b ≡ true) ⊎ (below ls b a ≡ true)
  pub greatest : (m : ℕ) → Occurs p es m → below ls m p.class ≡ true
  pub own : Occurs p es p.class
  pub closed : (m : ℕ) → Occurs p es m → (fs : List Element) × (get T (with_class p m) ≡ Some fs)
      × AgreesBelow ls m es fs

abbrev pub IsStored : Labels → ℕ → Table → Type 0
IsStored ls n T = (p : Place) (es : List Element) → get T p ≡ Some es → IsStoredTuple ls n T p es

-- the stored form of a relation, with the kinds and intervals of its scheme
pub record IsContent (ls : Labels) (scheme : Scheme) (T : Table) : Type 0 where
  pub stored : IsStored ls (length scheme.others) T
  pub fits : (p : Place) (es : List Element) → get T p ≡ Some es → Fits ls scheme p es

-- so in each relation of a database
abbrev pub AreContent : Labels → Schemes → Database → Type 0
AreContent ls schemes db = (relation : ℕ) → IsContent ls (scheme_of schemes relation) (db relation)
