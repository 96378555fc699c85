-- The document of a policy: how each table stands in it, with no word of how it is read.
use Rattle.std.specs.Prelude.{◌≡◌, ◌⊎◌, ℕ, pos, ◌<◌, ◌≤◌, true, false, ◌==◌, bit_and, List, [], ◌∷◌, ◌++◌, length, map}
use Rattle.std.specs.Prelude.{codes, nat_eq, Option, Some, None, Ok, position, ⊤, bit_or, fold, bytes_eq, flat_map}
use Rattle.std.specs.List.{list_any, IsDistinct}
use Rattle.std.specs.FinSet as set
use Rattle.toml.specs.Data.{Data, Items, no_items, item, Members, get_member, string, integer, array, table}
use Rattle.mls_lattice.specs.declared.tables.User.{User}
use Rattle.mls_lattice.specs.declared.tables.Right.{Right}
use Rattle.mls_lattice.specs.declared.tables.Grant.{Grant}
use Rattle.mls_lattice.specs.Lattice.{Pair, same_pair}
use Rattle.mls_lattice.specs.Labels.{below}
use Rattle.mls_lattice.specs.Name.{is_name}
use Rattle.mls_lattice.specs.Version.{version_number}
use Rattle.mls_lattice.specs.Policy.{Name, Named, Policy, same_entry, rights_of}
use Rattle.mls_lattice.specs.PolicyReading.{mode_of}

-- the items say the rows, one each, where a row may depend on those before it
abbrev pub Rows : {B : Type 0} → (List B → Data → B → Type 0) → List B → Items → List B → Type 0
Rows Says before no_items [] = ⊤
Rows Says before no_items (row ∷ rows) = ⊥
Rows Says before (item d ds) [] = ⊥
Rows Says before (item d ds) (row ∷ rows) = Says before d row × Rows Says (before ++ row ∷ []) ds rows

-- an array of these items stands at the key
abbrev pub HasItems : List ℕ → Members → Items → Type 0
HasItems key fields ds = get_member key fields ≡ Some (array ds)

-- the same, where the field may be missing
abbrev pub MayHaveItems : List ℕ → Members → Items → Type 0
MayHaveItems key fields ds = HasItems key fields ds ⊎ ((get_member key fields ≡ None) × (ds ≡ no_items))

-- a name stands at the key
pub record HasName (key : List ℕ) (fields : Members) (name : Name) : Type 0 where
  pub text : get_member key fields ≡ Some (string name)
  pub is_name : is_name name ≡ true

-- a name that none before is equal to
pub record SaysName (before : List Name) (d : Data) (name : Name) : Type 0 where
  pub text : d ≡ string name
  pub is_name : is_name name ≡ true
  pub new : list_any (bytes_eq name) before ≡ false

-- ---- labels

-- a name of the declared category with this place, which is none of those before
pub record SaysCategory (categories : List Name) (before : List ℕ) (d : Data) (k : ℕ) : Type 0 where
  pub name : Name
  pub text : d ≡ string name
  pub is_name : is_name name ≡ true
  pub place : position (λ other. bytes_eq other name) categories ≡ Some k
  pub new : list_any (λ other. nat_eq other k) before ≡ false

pub record SaysValue (levels categories : List Name) (fields : Members) (value : Pair) : Type 0 where
  pub level : Name
  pub has_level : HasName (codes "level") fields level
  pub rank : position (λ other. bytes_eq other level) levels ≡ Some value.rank
  pub items : Items
  pub has_items : MayHaveItems (codes "categories") fields items
  pub places : List ℕ
  pub says_places : Rows (SaysCategory categories) [] items places
  pub cats : value.cats ≡ set.from_list places

pub record SaysLabel (levels categories : List Name) (before : List Named) (d : Data) (l : Named) : Type 0 where
  pub fields : Members
  pub is_table : d ≡ table fields
  pub name : HasName (codes "name") fields l.name
  pub new_name : list_any (λ other. bytes_eq other.name l.name) before ≡ false
  pub value : SaysValue levels categories fields l.value
  pub new_value : list_any (λ other. same_pair other.value l.value) before ≡ false

-- ---- users

-- a name of a declared label
pub record SaysPlace (labels : List Named) (d : Data) (k : ℕ) : Type 0 where
  pub name : Name
  pub text : d ≡ string name
  pub is_name : is_name name ≡ true
  pub place : position (λ l. bytes_eq l.name name) labels ≡ Some k

-- no field, or the names of two labels, of which the second dominates the first
abbrev pub SaysTrusted : List Named → Option Data → Option (ℕ × ℕ) → Type 0
SaysTrusted labels field None = field ≡ None
SaysTrusted labels field (Some i) =
    (low : Data) × (high : Data) × (field ≡ Some (array (item low (item high no_items)))) × SaysPlace labels low i.0
    × SaysPlace labels high i.1
    × (below (map (λ l. l.value) labels) i.0 i.1 ≡ true)

pub record SaysUser (labels : List Named) (before : List User) (d : Data) (u : User) : Type 0 where
  pub fields : Members
  pub is_table : d ≡ table fields
  pub name : HasName (codes "name") fields u.name
  pub new_name : list_any (λ other. bytes_eq other.name u.name) before ≡ false
  pub cleared : Name
  pub has_clearance : HasName (codes "clearance") fields cleared
  pub clearance : position (λ l. bytes_eq l.name cleared) labels ≡ Some u.clearance
  pub trusted : SaysTrusted labels (get_member (codes "trusted") fields) u.trusted

-- ---- the matrix

-- the modes of a list together
abbrev pub together : List ℕ → ℕ
together modes = fold bit_or 0 modes

-- the word of a mode that those before lack
pub record SaysMode (before : List ℕ) (d : Data) (mode : ℕ) : Type 0 where
  pub word : List ℕ
  pub text : d ≡ string word
  pub is_word : mode_of word ≡ Ok mode
  pub new : (bit_and (together before) mode == mode) ≡ false

-- the user of a name, who is none of those before
pub record SaysUserNo (users : List User) (before : List ℕ) (d : Data) (k : ℕ) : Type 0 where
  pub name : Name
  pub text : d ≡ string name
  pub is_name : is_name name ≡ true
  pub place : position (λ u. bytes_eq u.name name) users ≡ Some k
  pub new : list_any (λ other. nat_eq other k) before ≡ false

-- one of two keys is there: the first has the one item, or the second an array of these items
abbrev pub HasOneOrMore : List ℕ → List ℕ → Members → Items → Type 0
HasOneOrMore one many fields ds =
    ((d : Data) × (get_member one fields ≡ Some d) × (get_member many fields ≡ None) × (ds ≡ item d no_items))
    ⊎ ((get_member one fields ≡ None) × HasItems many fields ds)

pub record SaysGrant (users : List User) (d : Data) (g : Grant) : Type 0 where
  pub fields : Members
  pub is_table : d ≡ table fields
  pub subjects : Items
  pub has_users : HasOneOrMore (codes "user") (codes "users") fields subjects
  pub says_users : Rows (SaysUserNo users) [] subjects g.users
  pub some_user : 0 < length g.users
  pub things : Items
  pub has_objects : HasOneOrMore (codes "object") (codes "objects") fields things
  pub says_objects : Rows SaysName [] things g.objects
  pub some_object : 0 < length g.objects
  pub items : Items
  pub has_items : HasItems (codes "modes") fields items
  pub modes : List ℕ
  pub says_modes : Rows SaysMode [] items modes
  pub all_modes : g.modes.0 ≡ together modes

-- the tables say grants, whose entries are the matrix: no user has two for one object
pub record SaysMatrix (users : List User) (document : Members) (matrix : List Right) : Type 0 where
  pub grants : List Grant
  pub has : (ds : Items) × MayHaveItems (codes "matrix") document ds × Rows (λ before. SaysGrant users) [] ds grants
  pub entries : matrix ≡ flat_map rights_of grants
  pub apart : IsDistinct same_entry matrix
  pub few : length matrix ≤ 16384

-- ---- all of it

-- the rows that stand at a key
abbrev pub HasRows : {B : Type 0} → (List B → Data → B → Type 0) → List ℕ → Members → List B → Type 0
HasRows Says key document rows = (ds : Items) × HasItems key document ds × Rows Says [] ds rows

abbrev pub MayHaveRows : {B : Type 0} → (List B → Data → B → Type 0) → List ℕ → Members → List B → Type 0
MayHaveRows Says key document rows = (ds : Items) × MayHaveItems key document ds × Rows Says [] ds rows

-- the document is that of the policy
pub record Says (document : Members) (p : Policy) : Type 0 where
  pub version : get_member (codes "version") document ≡ Some (integer (pos (version_number p.version)))
  pub levels : HasRows SaysName (codes "levels") document p.levels
  pub some_level : 0 < length p.levels
  pub few_levels : length p.levels ≤ 16
  pub categories : MayHaveRows SaysName (codes "categories") document p.categories
  pub few_categories : length p.categories ≤ 32
  pub labels : HasRows (SaysLabel p.levels p.categories) (codes "label") document p.labels
  pub some_label : 0 < length p.labels
  pub few_labels : length p.labels ≤ 64
  pub users : MayHaveRows (SaysUser p.labels) (codes "user") document p.users
  pub few_users : length p.users ≤ 1024
  pub matrix : SaysMatrix p.users document p.matrix
