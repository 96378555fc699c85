-- The policy that a document says, or its first fault.
use Rattle.std.specs.Prelude.{ℕ, Bool, ◌==◌, bit_and, List, [], ◌∷◌, ◌++◌, map, codes, if◌then◌else◌, Option, Some}
use Rattle.std.specs.Prelude.{None, Result, Ok, Err, ok_or, position, bit_or, bytes_eq, length, nat_eq, nat_le}
use Rattle.std.specs.Ordering.{nat_cmp}
use Rattle.std.specs.List.{list_any}
use Rattle.std.specs.FinSet as set
use Rattle.toml.specs.Data.{Data, Items, no_items, item, Members, get_member}
use Rattle.mls_lattice.specs.declared.fault.FieldFault.{FieldFault}
use Rattle.mls_lattice.specs.declared.fault.FieldFault.TheVariants.{MissingField, WrongKind, Repeated, UnknownName}
use Rattle.mls_lattice.specs.declared.fault.FieldFault.TheVariants.{TooMany, EmptyInterval}
use Rattle.mls_lattice.specs.declared.tables.User.{User}
use Rattle.mls_lattice.specs.declared.tables.Right.{Right}
use Rattle.mls_lattice.specs.declared.tables.Grant.{Grant}
use Rattle.mls_lattice.specs.Lattice.{Pair, same_pair}
use Rattle.mls_lattice.specs.Labels.{below}
use Rattle.mls_lattice.specs.Policy.{Name, Named, Policy, same_entry, rights_of}
use Rattle.mls_lattice.specs.Reading.{◌>>=◌, wanted, text_at, table_at, version_at, name_at, name_field, texts_at}
use Rattle.mls_lattice.specs.Reading.{tables_at, optional, bounded, some_of, items_len}

-- the rows of the items, after those in front, which each row may depend on
abbrev pub rows_at : {B : Type 0} → (List B → Data → Result B FieldFault) → List B → Items → Result (List B) FieldFault
rows_at read front no_items = Ok front
rows_at read front (item d ds) = read front d >>= λ row. rows_at read (front ++ row ∷ []) ds

-- a test that nothing is repeated
abbrev pub once : Bool → Result (Unit {0}) FieldFault
once repeated = if repeated then Err Repeated else Ok tt

-- where a name stands
abbrev pub place_in : List Name → Name → Result ℕ FieldFault
place_in names name = ok_or (position (λ other. bytes_eq other name) names) UnknownName

abbrev pub label_place : List Named → Name → Result ℕ FieldFault
label_place labels name = ok_or (position (λ l. bytes_eq l.name name) labels) UnknownName

abbrev pub user_place : List User → Name → Result ℕ FieldFault
user_place users name = ok_or (position (λ u. bytes_eq u.name name) users) UnknownName

-- ---- levels, categories

-- those in front and a name that is none of them
abbrev pub with_name : List Name → Name → Result (List Name) FieldFault
with_name front name = once (list_any (bytes_eq name) front) >>= λ new. Ok (front ++ name ∷ [])

-- a name that is none of those in front
unfoldable pub new_name_at : List Name → Data → Result Name FieldFault
new_name_at front d = do
  name ← name_at d
  new ← once (list_any (bytes_eq name) front)
  Ok name

unfoldable pub levels_at : Members → Result (List Name) FieldFault
levels_at document = do
  d ← wanted (codes "levels") document
  all ← texts_at d
  ds ← some_of 16 all
  rows_at new_name_at [] ds

unfoldable pub categories_at : Members → Result (List Name) FieldFault
categories_at document = do
  all ← optional texts_at (get_member (codes "categories") document)
  ds ← bounded 32 all
  rows_at new_name_at [] ds

-- ---- labels

-- the categories of the items, with those so far, each of them new
abbrev pub more_categories : List Name → set.FinSet nat_cmp → Items → Result (set.FinSet nat_cmp) FieldFault
more_categories categories cats no_items = Ok cats
more_categories categories cats (item d ds) =
    name_at d >>= λ name. place_in categories name >>= λ k.
    if set.contains cats k then Err Repeated else more_categories categories (set.insert cats k) ds

-- the rank and the categories that the fields of a label say
unfoldable pub value_at : List Name → List Name → Members → Result Pair FieldFault
value_at levels categories fields = do
  level ← name_field (codes "level") fields
  rank ← place_in levels level
  ds ← optional texts_at (get_member (codes "categories") fields)
  cats ← more_categories categories set.empty ds
  Ok (record { rank = rank; cats = cats })

unfoldable pub label_at : List Name → List Name → List Named → Data → Result Named FieldFault
label_at levels categories front d = do
  fields ← table_at d
  name ← name_field (codes "name") fields
  new_name ← once (list_any (λ l. bytes_eq l.name name) front)
  value ← value_at levels categories fields
  new_value ← once (list_any (λ l. same_pair l.value value) front)
  Ok (record { name = name; value = value })

unfoldable pub labels_at : List Name → List Name → Members → Result (List Named) FieldFault
labels_at levels categories document = do
  d ← wanted (codes "label") document
  all ← tables_at d
  ds ← some_of 64 all
  rows_at (label_at levels categories) [] ds

-- ---- users

abbrev pub label_name_at : List Named → Data → Result ℕ FieldFault
label_name_at labels d = name_at d >>= label_place labels

abbrev pub interval_at : List Named → Items → Result (Option (ℕ × ℕ)) FieldFault
interval_at labels (item low (item high no_items)) =
    label_name_at labels low >>= λ l. label_name_at labels high >>= λ h.
    if below (map (λ x. x.value) labels) l h then Ok (Some (l, h)) else Err EmptyInterval
interval_at labels _ = Err WrongKind

abbrev pub trusted_at : List Named → Option Data → Result (Option (ℕ × ℕ)) FieldFault
trusted_at labels None = Ok None
trusted_at labels (Some d) = texts_at d >>= interval_at labels

unfoldable pub user_at : List Named → List User → Data → Result User FieldFault
user_at labels front d = do
  fields ← table_at d
  name ← name_field (codes "name") fields
  new ← once (list_any (λ u. bytes_eq u.name name) front)
  cleared ← name_field (codes "clearance") fields
  clearance ← label_place labels cleared
  trusted ← trusted_at labels (get_member (codes "trusted") fields)
  Ok (record { name = name; clearance = clearance; trusted = trusted })

unfoldable pub users_at : List Named → Members → Result (List User) FieldFault
users_at labels document = do
  all ← optional tables_at (get_member (codes "user") document)
  ds ← bounded 1024 all
  rows_at (user_at labels) [] ds

-- ---- the matrix

abbrev pub mode_of : Name → Result ℕ FieldFault
mode_of word =
    if bytes_eq word (codes "execute") then Ok 1 else
    if bytes_eq word (codes "read") then Ok 2 else
    if bytes_eq word (codes "append") then Ok 4 else
    if bytes_eq word (codes "write") then Ok 8 else Err UnknownName

-- the modes of the items, with those so far, each of them new
abbrev pub more_modes : ℕ → Items → Result ℕ FieldFault
more_modes modes no_items = Ok modes
more_modes modes (item d ds) =
    text_at d >>= λ word. mode_of word >>= λ mode.
    if bit_and modes mode == mode then Err Repeated else more_modes (bit_or modes mode) ds

-- the items at one of two keys: a name at the first, or a list of them at the second, one at least
abbrev pub one_or_more : Option Data → Option Data → Result Items FieldFault
one_or_more None None = Err MissingField
one_or_more None (Some many) = texts_at many >>= λ ds. if items_len ds == 0 then Err MissingField else Ok ds
one_or_more (Some one) None = Ok (item one no_items)
one_or_more (Some one) (Some many) = Err WrongKind

abbrev pub is_named : List ℕ → ℕ → Bool
is_named front user = list_any (λ other. nat_eq other user) front

-- a user that is none of those in front
unfoldable pub user_no_at : List User → List ℕ → Data → Result ℕ FieldFault
user_no_at users front d = do
  name ← name_at d
  user ← user_place users name
  new ← once (is_named front user)
  Ok user

abbrev pub user_nos_at : List User → Members → Result (List ℕ) FieldFault
user_nos_at users fields =
    one_or_more (get_member (codes "user") fields) (get_member (codes "users") fields) >>= rows_at (user_no_at users) []

abbrev pub objects_at : Members → Result (List Name) FieldFault
objects_at fields = one_or_more (get_member (codes "object") fields) (get_member (codes "objects") fields) >>=
    rows_at new_name_at []

unfoldable pub grant_at : List User → Data → Result Grant FieldFault
grant_at users d = do
  fields ← table_at d
  nos ← user_nos_at users fields
  objects ← objects_at fields
  words ← wanted (codes "modes") fields
  ds ← texts_at words
  modes ← more_modes 0 ds
  Ok (record { users = nos; objects = objects; modes = record { 0 = modes } })

-- the entries after those in front, one by one: each of them is new, and there are 16,384 at most
abbrev pub more_rights : List Right → List Right → Result (List Right) FieldFault
more_rights front [] = Ok front
more_rights front (r ∷ rs) =
    if list_any (same_entry r) front then Err Repeated else
    if nat_le 16384 (length front) then Err TooMany else more_rights (front ++ r ∷ []) rs

-- the entries of all grants, which are read and added one by one
abbrev pub rights_at : List User → List Right → Items → Result (List Right) FieldFault
rights_at users front no_items = Ok front
rights_at users front (item d ds) =
    grant_at users d >>= λ grant. more_rights front (rights_of grant) >>= λ more. rights_at users more ds

unfoldable pub matrix_at : List User → Members → Result (List Right) FieldFault
matrix_at users document = do
  all ← optional tables_at (get_member (codes "matrix") document)
  ds ← bounded 16384 all
  rights_at users [] ds

-- ---- all of it

unfoldable pub policy_at : Members → Result Policy FieldFault
policy_at document = do
  version ← version_at document
  levels ← levels_at document
  categories ← categories_at document
  labels ← labels_at levels categories document
  users ← users_at labels document
  matrix ← matrix_at users document
  Ok (record {
    version = version;
    levels = levels;
    categories = categories;
    labels = labels;
    users = users;
    matrix =
        matrix;
  })
