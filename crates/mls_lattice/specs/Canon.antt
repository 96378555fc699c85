-- The canonical text of a policy: one line each, single spaces, in the order of its file.
use Rattle.std.specs.Prelude.{ℕ, ◌+◌, ◌==◌, bit_and, List, [], ◌∷◌, ◌++◌, codes, if◌then◌else◌, Option, Some, None}
use Rattle.std.specs.Prelude.{option_map, slice_get, slice_index_or, unwrap_or, flat_map}
use Rattle.std.specs.FinSet as set
use Rattle.mls_lattice.specs.declared.tables.User.{User}
use Rattle.mls_lattice.specs.declared.tables.Right.{Right}
use Rattle.mls_lattice.specs.Lattice.{Categories}
use Rattle.mls_lattice.specs.Version.{version_text}
use Rattle.mls_lattice.specs.Policy.{Name, Named, Policy}

-- the names of a level, of a label and of a user by number
abbrev pub name_at : List Name → ℕ → Name
name_at names n = slice_index_or names n []

abbrev pub label_name : List Named → ℕ → Name
label_name labels n = unwrap_or (option_map (λ l. l.name) (slice_get labels n)) []

abbrev pub user_name : List User → ℕ → Name
user_name users n = unwrap_or (option_map (λ u. u.name) (slice_get users n)) []

-- a word after a space
abbrev pub spaced : Name → List ℕ
spaced word = codes " " ++ word

-- the names of a set's categories, in declared order; the first name has place k
abbrev pub names_of : ℕ → List Name → Categories → List Name
names_of k [] cats = []
names_of k (name ∷ names) cats = if set.contains cats k then name ∷ names_of (k + 1) names cats else names_of
    (k + 1) names cats

abbrev pub level_line : Name → List ℕ
level_line name = codes "level " ++ name ++ codes "\n"

abbrev pub category_line : Name → List ℕ
category_line name = codes "category " ++ name ++ codes "\n"

abbrev pub label_line : List Name → List Name → Named → List ℕ
label_line levels categories l =
    codes "label " ++ l.name ++ spaced (name_at levels l.value.rank) ++ flat_map spaced
    (names_of 0 categories l.value.cats) ++ codes "\n"

-- the levels, categories and labels
abbrev pub lattice_of : Policy → List ℕ
lattice_of p =
    flat_map level_line p.levels ++ flat_map category_line p.categories
    ++ flat_map (label_line p.levels p.categories) p.labels

-- the ends of an interval, after spaces
abbrev pub interval_text : List Named → Option (ℕ × ℕ) → List ℕ
interval_text labels None = []
interval_text labels (Some i) = spaced (label_name labels i.0) ++ spaced (label_name labels i.1)

abbrev pub user_line : List Named → User → List ℕ
user_line labels u =
    codes "user " ++ u.name ++ spaced (label_name labels u.clearance) ++ interval_text labels u.trusted ++ codes "\n"

-- the word of a mode, where it is one of the modes
abbrev pub word_if : ℕ → ℕ → Name → List ℕ
word_if modes mode word = if bit_and modes mode == mode then spaced word else []

abbrev pub modes_text : ℕ → List ℕ
modes_text modes =
    word_if modes 1 (codes "execute") ++ word_if modes 2 (codes "read") ++ word_if modes 4 (codes "append")
    ++ word_if modes 8 (codes "write")

abbrev pub right_line : List User → Right → List ℕ
right_line users r = codes "matrix " ++ user_name users r.user ++ spaced r.object ++ modes_text r.modes.0 ++ codes "\n"

abbrev pub canon_of : Policy → List ℕ
canon_of p =
    codes "policy " ++ version_text p.version ++ codes "\n" ++ lattice_of p ++ flat_map (user_line p.labels) p.users
    ++ flat_map (right_line p.users) p.matrix
