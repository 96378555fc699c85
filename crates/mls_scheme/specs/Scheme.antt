-- Multilevel schemes (Jajodia and Sandhu 1991): relations, their attributes and the intervals of these.
use Rattle.std.specs.Prelude.{◌≡◌, true, ℕ, ◌<◌, ◌≤◌, List, [], ◌++◌, map, length, slice_index_or, bytes_eq}
use Rattle.std.specs.List.{AllByRecursion, IsDistinct}
use Rattle.mls_lattice.specs.Labels.{Labels, below}
use Rattle.mls_lattice.specs.Name.{is_name}
use Rattle.mls_lattice.specs.Policy.{Name, AreNames}
use Rattle.mls_scheme.specs.declared.value.Kind.TheVariants.{Int}
use Rattle.mls_scheme.specs.declared.attributes.Column.{Column}

-- a name, and what is said beside it
abbrev pub Attribute : Type 0
Attribute = Name × Column

-- a relation: its name, its key attributes and the others
pub record Scheme : Type 0 where
  pub name : Name
  pub keys : List Attribute
  pub others : List Attribute

-- relations in the order of their file
abbrev pub Schemes : Type 0
Schemes = List Scheme

abbrev pub no_scheme : Scheme
no_scheme = record { name = []; keys = []; others = [] }

-- a relation by its number
abbrev pub scheme_of : Schemes → ℕ → Scheme
scheme_of schemes relation = slice_index_or schemes relation no_scheme

abbrev pub no_attribute : Attribute
no_attribute = ([], record { kind = Int; low = 0; high = 0 })

-- an attribute outside the key, by its number
abbrev pub other_of : Scheme → ℕ → Attribute
other_of scheme i = slice_index_or scheme.others i no_attribute

-- what is said of an attribute beside its name
abbrev pub column_of : Attribute → Column
column_of a = a.1

-- ---- what holds of all schemes

-- the attribute whose interval all key attributes have
abbrev pub first_key : Scheme → Attribute
first_key scheme = slice_index_or scheme.keys 0 no_attribute

abbrev pub HasInterval : Attribute → Attribute → Type 0
HasInterval a b = (b.1.low ≡ a.1.low) × (b.1.high ≡ a.1.high)

-- the names are NAMEs, and no attribute has that of another
pub record IsScheme (scheme : Scheme) : Type 0 where
  pub named : is_name scheme.name ≡ true
  pub some_key : 0 < length scheme.keys
  pub few_keys : length scheme.keys ≤ 4
  pub few_others : length scheme.others ≤ 15
  pub names : AreNames (map (λ a. a.0) (scheme.keys ++ scheme.others))
  pub distinct : IsDistinct bytes_eq (map (λ a. a.0) (scheme.keys ++ scheme.others))
  pub one_interval : AllByRecursion (HasInterval (first_key scheme)) scheme.keys

pub record AreSchemes (schemes : Schemes) : Type 0 where
  pub some : 0 < length schemes
  pub few : length schemes ≤ 64
  pub each : AllByRecursion IsScheme schemes
  pub distinct : IsDistinct bytes_eq (map (λ s. s.name) schemes)

-- low and high are numbers of count labels
pub record IsAmongLabels (count : ℕ) (a : Attribute) : Type 0 where
  pub low : a.1.low < count
  pub high : a.1.high < count

pub record IsUnder (count : ℕ) (scheme : Scheme) : Type 0 where
  pub keys : AllByRecursion (IsAmongLabels count) scheme.keys
  pub others : AllByRecursion (IsAmongLabels count) scheme.others

-- schemes that speak of count labels
abbrev pub AreUnder : ℕ → Schemes → Type 0
AreUnder count = AllByRecursion (IsUnder count)

-- no attribute has an empty interval
pub record HasIntervals (ls : Labels) (scheme : Scheme) : Type 0 where
  pub keys : AllByRecursion (λ a. below ls a.1.low a.1.high ≡ true) scheme.keys
  pub others : AllByRecursion (λ a. below ls a.1.low a.1.high ≡ true) scheme.others

abbrev pub HaveIntervals : Labels → Schemes → Type 0
HaveIntervals ls = AllByRecursion (HasIntervals ls)
