-- Widening: the tuples of a relation that gains attributes get null at their key class for each of them.
use Rattle.std.specs.Prelude.{◌≡◌, ℕ, ◌<◌, true, List, ◌++◌, length, take, replicate, Some, None, ◌↔◌, option_map}
use Rattle.std.specs.List.{AllByRecursion}
use Rattle.std.specs.FinMap.{get}
use Rattle.mls_lattice.specs.Labels.{Labels, below}
use Rattle.mls_scheme.specs.declared.tuple.Element.{Element}
use Rattle.mls_scheme.specs.declared.tuple.Tuple.{Tuple}
use Rattle.mls_scheme.specs.declared.place.Place.{Place}
use Rattle.mls_scheme.specs.Table.{Table, IsIn}
use Rattle.mls_scheme.specs.Scheme.{Attribute, Scheme, IsUnder, first_key}
use Rattle.mls_filterview.specs.View.{View}
use Rattle.mls_filterview.specs.Stored.{Occurs, IsContent}

-- n nulls at the key class
abbrev pub nulls : ℕ → ℕ → List Element
nulls n key_class = replicate n (record { value = None; class = key_class })

-- a tuple with n attributes more, null at its key class
abbrev pub widened : ℕ → Tuple → Tuple
widened n t = record { key = t.key; key_class = t.key_class; elements = t.elements ++ nulls n t.key_class }

-- each tuple of X, widened; X need not be in the stored form
abbrev pub Widen : ℕ → (Tuple → Type 0) → Tuple → Type 0
Widen n X t = (s : Tuple) × X s × (t ≡ widened n s)

-- ---- tables

-- the tuple at a place, widened
abbrev pub widened_entry : ℕ → Place × List Element → Place × List Element
widened_entry n e = (e.0, e.1 ++ nulls n e.0.key_class)

-- W has the tuples of T, widened, each at its place, which is looked up and not computed again
abbrev pub IsWidened : ℕ → Table → Table → Type 0
IsWidened n T W = (p : Place) → get W p ≡ option_map (λ es. es ++ nulls n p.key_class) (get T p)

-- the classes of the tuples, and those of their places, are below k
abbrev pub AreClassesBelow : ℕ → Table → Type 0
AreClassesBelow k T = (p : Place) (es : List Element) → get T p ≡ Some es → (p.class < k) × ((m : ℕ) → Occurs p es m
    → m < k)

-- ---- schemes

-- the interval of an attribute contains that of the keys
abbrev pub ContainsKeys : Labels → Scheme → Attribute → Type 0
ContainsKeys ls scheme a = (below ls a.1.low (first_key scheme).1.low ≡ true)
    × (below ls (first_key scheme).1.high a.1.high ≡ true)

-- new has the attributes of old and behind them n more, whose intervals contain that of the keys
pub record IsWiderScheme (ls : Labels) (n : ℕ) (old new : Scheme) : Type 0 where
  pub keys : new.keys ≡ old.keys
  pub more : List Attribute
  pub others : new.others ≡ old.others ++ more
  pub count : length more ≡ n
  pub around : AllByRecursion (ContainsKeys ls new) more

-- ---- laws

-- what is seen of a table's tuples, widened, is what is seen of the table, widened
abbrev pub ViewOfWidened : Type 0
ViewOfWidened = (ls : Labels) (n : ℕ) (T : Table) (c : ℕ) (t : Tuple) → View ls (Widen n (IsIn T)) c t
    ↔ Widen n (View ls (IsIn T) c) t

-- so of a table that has these tuples
abbrev pub ViewOfWidenedTable : Type 0
ViewOfWidenedTable = (ls : Labels) (n : ℕ) (T W : Table) → IsWidened n T W → (c : ℕ) (t : Tuple) → View ls (IsIn W) c t
    ↔ Widen n (View ls (IsIn T) c) t

-- widening keeps the stored form, though labels be declared behind the first k
abbrev pub WideningKeepsContent : Type 0
WideningKeepsContent =
    (ls : Labels) (k n : ℕ) (old new : Scheme) (T W : Table) → 0 < length old.keys → IsUnder k old
    → IsWiderScheme ls n old new → IsWidened n T W
    → IsContent (take k ls) old T → IsContent ls new W

-- what was widened had the stored form under the first k labels, where its classes are among these
abbrev pub WidenedWasContent : Type 0
WidenedWasContent =
    (ls : Labels) (k n : ℕ) (old new : Scheme) (T W : Table) → IsUnder k old → IsWiderScheme ls n old new
    → IsWidened n T W → AreClassesBelow k T
    → ((p : Place) (es : List Element) → get T p ≡ Some es → length es ≡ length old.others)
    → IsContent ls new W → IsContent (take k ls) old T

-- content whose classes are among the first k labels is content under these alone
abbrev pub ContentNeedsItsLabels : Type 0
ContentNeedsItsLabels =
    (ls : Labels) (k : ℕ) (scheme : Scheme) (T : Table) → IsUnder k scheme → AreClassesBelow k T → IsContent ls scheme T
    → IsContent (take k ls) scheme T
