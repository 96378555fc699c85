-- What a policy is: its version, levels, categories, labels and users, and the matrix of rights.
use Rattle.std.specs.Prelude.{◌≡◌, ℕ, ◌<◌, ◌≤◌, Bool, true, ◌&&◌, List, [], ◌∷◌, map, length, if◌then◌else◌, nat_eq}
use Rattle.std.specs.Prelude.{flat_map}
use Rattle.std.specs.Prelude.{IfSome, bytes_eq}
use Rattle.std.specs.List.{AllByRecursion, IsDistinct}
use Rattle.mls_lattice.specs.Lattice.{Pair, pair_of}
use Rattle.mls_lattice.specs.Labels.{Labels, AreDistinct, below}
use Rattle.mls_lattice.specs.Name.{is_name}
use Rattle.mls_lattice.specs.declared.version.Version.{Version}
use Rattle.mls_lattice.specs.declared.tables.NamedLabel.{NamedLabel}
use Rattle.mls_lattice.specs.declared.tables.User.{User}
use Rattle.mls_lattice.specs.declared.tables.Right.{Right}
use Rattle.mls_lattice.specs.declared.tables.Grant.{Grant}
use Rattle.mls_lattice.specs.declared.modes.Modes.{Modes}

-- the bytes of a name
abbrev pub Name : Type 0
Name = List ℕ

-- a declared label
pub record Named : Type 0 where
  pub name : Name
  pub value : Pair

-- all that a policy says, in the order of its file
pub record Policy : Type 0 where
  pub version : Version
  pub levels : List Name
  pub categories : List Name
  pub labels : List Named
  pub users : List User
  pub matrix : List Right

abbrev pub named : NamedLabel → Named
named l = record { name = l.name; value = pair_of l.label }

-- the declared labels, by number
abbrev pub labels_of : Policy → Labels
labels_of p = map (λ l. l.value) p.labels

-- each is a NAME
abbrev pub AreNames : List Name → Type 0
AreNames = AllByRecursion (λ name. is_name name ≡ true)

-- the level is a declared one
pub record HasLevel (count : ℕ) (l : Named) : Type 0 where
  pub rank : l.value.rank < count

-- the clearance and the trusted interval are declared labels
pub record IsCleared (count : ℕ) (u : User) : Type 0 where
  pub clearance : u.clearance < count
  pub trusted : IfSome u.trusted (λ i. (i.0 < count) × (i.1 < count))

-- the high end of the trusted interval dominates the low end
abbrev pub IsTrusted : Labels → User → Type 0
IsTrusted ls u = IfSome u.trusted (λ i. below ls i.0 i.1 ≡ true)

-- the user is a declared one
pub record HasUser (count : ℕ) (r : Right) : Type 0 where
  pub user : r.user < count

-- no bit stands for no mode
pub record HasKnownModes (r : Right) : Type 0 where
  pub modes : r.modes.0 < 16

-- the entry is one for this user and object
abbrev pub is_entry : ℕ → Name → Right → Bool
is_entry user object r = nat_eq r.user user && bytes_eq r.object object

-- both entries are for one user and object
abbrev pub same_entry : Right → Right → Bool
same_entry r s = is_entry r.user r.object s

-- an entry of a grant, and all of them: users outside, in the order of both lists
abbrev pub right_of : ℕ → Modes → Name → Right
right_of user modes object = record { user = user; object = object; modes = modes }

abbrev pub rights_of : Grant → List Right
rights_of g = flat_map (λ user. map (right_of user g.modes) g.objects) g.users

-- What holds of every policy: names are NAMEs, none is twice where it names a thing, no two labels have one value, what
-- a row
-- names is declared, and a trusted interval isn't empty.
pub record IsPolicy (p : Policy) : Type 0 where
  pub some_level : 0 < length p.levels
  pub few_levels : length p.levels ≤ 16
  pub level_names : AreNames p.levels
  pub levels : IsDistinct bytes_eq p.levels
  pub few_categories : length p.categories ≤ 32
  pub category_names : AreNames p.categories
  pub categories : IsDistinct bytes_eq p.categories
  pub some_label : 0 < length p.labels
  pub few_labels : length p.labels ≤ 64
  pub label_names : AreNames (map (λ l. l.name) p.labels)
  pub names : IsDistinct bytes_eq (map (λ l. l.name) p.labels)
  pub distinct : AreDistinct (labels_of p)
  pub ranked : AllByRecursion (HasLevel (length p.levels)) p.labels
  pub few_users : length p.users ≤ 1024
  pub user_names : AreNames (map (λ u. u.name) p.users)
  pub users : IsDistinct bytes_eq (map (λ u. u.name) p.users)
  pub cleared : AllByRecursion (IsCleared (length p.labels)) p.users
  pub trusted : AllByRecursion (IsTrusted (labels_of p)) p.users
  pub few_rights : length p.matrix ≤ 16384
  pub object_names : AreNames (map (λ r. r.object) p.matrix)
  pub held : AllByRecursion (HasUser (length p.users)) p.matrix
  pub known : AllByRecursion HasKnownModes p.matrix
  pub entries : IsDistinct same_entry p.matrix

-- the modes of the entry for a user and an object, or none
abbrev pub granted_modes : List Right → ℕ → Name → ℕ
granted_modes [] user object = 0
granted_modes (r ∷ rs) user object = if is_entry user object r then r.modes.0 else granted_modes rs user object
