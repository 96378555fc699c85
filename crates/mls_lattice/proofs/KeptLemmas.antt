-- What holds of every policy, since a document says it.
use Rattle.std.proofs.Common.{◌≡◌, ◌≢◌, ℕ, zero, suc, ◌<◌, ◌^◌, Bool, true, false, List, [], ◌∷◌, ◌++◌, append_assoc, length, map, Option, None, Some, Ok, refl, sym, ap, subst, ◌∙◌, arith, cond, Err, position, bit_or, IfSome, fold, bytes_eq, append-nil, flat_map}
use Rattle.std.specs.List.{list_any, AllByRecursion, IsDistinct}
use Rattle.std.specs.Cmp.Lexicographic.{nat_list_eq_equiv}
use Rattle.std.proofs.lemmas.Bool.{or_parts}
use Rattle.std.proofs.lemmas.Nat.{or_lt}
use Rattle.std.proofs.lemmas.List.{map_push}
use Rattle.std.proofs.lemmas.List.Quantifiers.{position-Some}
use Rattle.std.proofs.lemmas.Map.Keys.{IsDistinct-push}
use Rattle.toml.specs.Data.{Data, Items, no_items, item, Members}
use Rattle.mls_lattice.specs.declared.fault.FieldFault.TheVariants.{UnknownName}
use Rattle.mls_lattice.specs.declared.version.Version.{Version}
use Rattle.mls_lattice.specs.declared.tables.User.{User}
use Rattle.mls_lattice.specs.declared.tables.Right.{Right}
use Rattle.mls_lattice.specs.declared.tables.Grant.{Grant}
use Rattle.mls_lattice.specs.Lattice.{Pair, same_pair}
use Rattle.mls_lattice.specs.Labels.{label_of, AreDistinct, below}
use Rattle.mls_lattice.specs.Name.{is_name}
use Rattle.mls_lattice.specs.Policy.{Name, Named, Policy, labels_of, HasLevel, IsCleared, IsTrusted, HasUser, HasKnownModes, right_of, rights_of, AreNames, IsPolicy}
use Rattle.mls_lattice.specs.Says.{Rows, SaysName, SaysLabel, SaysUser, SaysTrusted, SaysMode, SaysUserNo, SaysGrant, Says}
use Rattle.mls_lattice.specs.Reading.{version_at}
use Rattle.mls_lattice.specs.PolicyReading.{levels_at, categories_at, labels_at, users_at, matrix_at, policy_at}
use Rattle.mls_lattice.proofs.EachLemmas.{all, all_if, all_map, each_flat}
use Rattle.mls_lattice.proofs.ReadsPolicyLemmas.{says_found}
use Rattle.mls_lattice.proofs.LatticeLemmas.{same_pair-refl}
use Rattle.mls_lattice.proofs.ReadingLemmas.{ok_is}
use Rattle.mls_lattice.proofs.TablesLemmas.{distinct_more, distinct-none}

-- ---- of all rows

-- what each row has
each-row : {B : Type 0} (R : List B → Data → B → Type 0) (P : B → Type 0) → ((before : List B) (d : Data) (row : B)
    → R before d row → P row)
    → (before : List B) (ds : Items) (rows : List B) → Rows R before ds rows → AllByRecursion P rows
each-row R P has before no_items [] h = tt
each-row R P has before no_items (row ∷ rows) h = absurd h
each-row R P has before (item d ds) [] h = absurd h
each-row R P has before (item d ds) (row ∷ rows) h = (
  has before d row h.0,
  each-row R P has (before ++ row ∷ []) ds rows h.1,
)

-- what holds of the rows so far, and stays so with each row
all-rows : {B : Type 0} (R : List B → Data → B → Type 0) (P : List B → Type 0) → ((before : List B) (d : Data) (row : B)
    → R before d row → P before → P (before ++ row ∷ []))
    → (before : List B) (ds : Items) (rows : List B) → Rows R before ds rows → P before → P (before ++ rows)
all-rows R P more before no_items [] h holds = subst P (sym (append-nil before)) holds
all-rows R P more before no_items (row ∷ rows) h holds = absurd h
all-rows R P more before (item d ds) [] h holds = absurd h
all-rows R P more before (item d ds) (row ∷ rows) h holds =
    subst P (append_assoc before (row ∷ []) rows) (all-rows R P more (before ++ row ∷ []) ds rows h.1
    (more before d row h.0 holds))

none-distinct : {K : Type 0} (eq : K → K → Bool) → IsDistinct eq []
unfolding IsDistinct
none-distinct eq = tt

-- rows with a name that no row before has
module _ {B : Type 0} (name : B → Name) where
  named-rows : (R : List B → Data → B → Type 0) → ((before : List B) (d : Data) (row : B) → R before d row
      → is_name (name row) ≡ true)
      → (before : List B) (ds : Items) (rows : List B) → Rows R before ds rows → AreNames (map name rows)
  named-rows R has before no_items [] h = tt
  named-rows R has before no_items (row ∷ rows) h = absurd h
  named-rows R has before (item d ds) [] h = absurd h
  named-rows R has before (item d ds) (row ∷ rows) h = (
    has before d row h.0,
    named-rows R has (before ++ row ∷ []) ds rows h.1,
  )

  new-name : (rows : List B) (row : B) → list_any (λ other. bytes_eq (name other) (name row)) rows ≡ false
      → list_any (bytes_eq (name row)) (map name rows) ≡ false
  new-name [] row h = refl
  new-name (r ∷ rows) row h =
      let p = or_parts (bytes_eq (name r) (name row)) (list_any (λ other. bytes_eq (name other) (name row)) rows) h in
      rw (nat_list_eq_equiv.symm (name row) (name r) ∙ p.0) (new-name rows row p.1)

  more-names : (rows : List B) (row : B) → list_any (λ other. bytes_eq (name other) (name row)) rows ≡ false
      → IsDistinct bytes_eq (map name rows) → IsDistinct bytes_eq (map name (rows ++ row ∷ []))
  more-names rows row new apart = rw (map_push name rows row) (IsDistinct-push nat_list_eq_equiv (map name rows)
      (name row) apart (new-name rows row new))

-- ---- levels and categories

names-named : (ds : Items) (names : List Name) → Rows SaysName [] ds names → AreNames names
names-named = each-row SaysName (λ name. is_name name ≡ true) (λ before d name h. h.is_name) []

names-distinct : (ds : Items) (names : List Name) → Rows SaysName [] ds names → IsDistinct bytes_eq names
names-distinct ds names h =
    all-rows SaysName (IsDistinct bytes_eq) (λ before d name says apart. IsDistinct-push nat_list_eq_equiv before name apart says.new) [] ds names h (none-distinct bytes_eq)

kept-level_names : (document : Members) (p : Policy) → Says document p → AreNames p.levels
kept-level_names document p says = names-named says.levels.0 p.levels says.levels.2

kept-levels_distinct : (document : Members) (p : Policy) → Says document p → IsDistinct bytes_eq p.levels
kept-levels_distinct document p says = names-distinct says.levels.0 p.levels says.levels.2

kept-category_names : (document : Members) (p : Policy) → Says document p → AreNames p.categories
kept-category_names document p says = names-named says.categories.0 p.categories says.categories.2

kept-categories_distinct : (document : Members) (p : Policy) → Says document p → IsDistinct bytes_eq p.categories
kept-categories_distinct document p says = names-distinct says.categories.0 p.categories says.categories.2

-- ---- labels

kept-label_names : (document : Members) (p : Policy) → Says document p → AreNames (map (λ l. l.name) p.labels)
kept-label_names document p says =
    named-rows (λ (l : Named). l.name) (SaysLabel p.levels p.categories)
    (λ before d l h. h.name.is_name) [] says.labels.0 p.labels says.labels.2

kept-names : (document : Members) (p : Policy) → Says document p → IsDistinct bytes_eq (map (λ l. l.name) p.labels)
kept-names document p says =
    all-rows (SaysLabel p.levels p.categories) (λ ls. IsDistinct bytes_eq (map (λ l. l.name) ls))
    (λ before d l h apart. more-names (λ (x : Named). x.name) before l h.new_name apart)
    [] says.labels.0 p.labels says.labels.2 (none-distinct bytes_eq)

-- a value that no test finds is that of none
new-value : (ls : List Named) (p : Pair) → list_any (λ other. same_pair other.value p) ls ≡ false → (a : ℕ)
    → a < length (map (λ (l : Named). l.value) ls) → label_of (map (λ l. l.value) ls) a ≢ p
new-value [] p h a lt e = absurd (omega arith)
new-value (l ∷ ls) p h zero lt e =
    let off = (or_parts (same_pair l.value p) (list_any (λ other. same_pair other.value p) ls) h).0 in
    let bad : true ≡ false = sym (ap (λ (q : Pair). same_pair q p) e ∙ same_pair-refl p) ∙ off in
    cc
new-value (l ∷ ls) p h (suc a) lt e = new-value ls p (or_parts (same_pair l.value p) _ h).1 a (omega (arith, lt)) e

kept-distinct : (document : Members) (p : Policy) → Says document p → AreDistinct (labels_of p)
kept-distinct document p says =
    all-rows (SaysLabel p.levels p.categories) (λ ls. AreDistinct (map (λ l. l.value) ls))
    (λ before d l h apart. rw (map_push (λ (x : Named). x.value) before l)
    (distinct_more (map (λ (x : Named). x.value) before) l.value apart (new-value before l.value h.new_value)))
    [] says.labels.0 p.labels says.labels.2 distinct-none

kept-ranked : (document : Members) (p : Policy) → Says document p → AllByRecursion (HasLevel (length p.levels)) p.labels
kept-ranked document p says =
    each-row (SaysLabel p.levels p.categories) (HasLevel (length p.levels)) (λ before d l h. record {
      rank =
          (position-Some _ p.levels l.value.rank [] h.value.rank).0;
    })
    [] says.labels.0 p.labels says.labels.2

-- ---- users

kept-user_names : (document : Members) (p : Policy) → Says document p → AreNames (map (λ u. u.name) p.users)
kept-user_names document p says =
    named-rows (λ (u : User). u.name) (SaysUser p.labels)
    (λ before d u h. h.name.is_name) [] says.users.0 p.users says.users.2

kept-users_distinct : (document : Members) (p : Policy) → Says document p
    → IsDistinct bytes_eq (map (λ u. u.name) p.users)
kept-users_distinct document p says =
    all-rows (SaysUser p.labels) (λ us. IsDistinct bytes_eq (map (λ u. u.name) us)) (λ before d u h apart. more-names
    (λ (x : User). x.name) before u h.new_name apart)
    [] says.users.0 p.users says.users.2 (none-distinct bytes_eq)

within : (labels : List Named) (name : Name) (k : ℕ) → position (λ l. bytes_eq l.name name) labels ≡ Some k
    → k < length labels
within [] name k e = absurd cc
within (l ∷ ls) name k e = (position-Some (λ x. bytes_eq x.name name) (l ∷ ls) k l e).0

trusted-declared : (labels : List Named) (field : Option Data) (o : Option (ℕ × ℕ)) → SaysTrusted labels field o
    → IfSome o (λ i. (i.0 < length labels) × (i.1 < length labels))
trusted-declared labels field None h = tt
trusted-declared labels field (Some i) (low, high, is, l, h, order) = (
  within labels l.name i.0 l.place,
  within labels h.name i.1 h.place,
)

trusted-ordered : (labels : List Named) (field : Option Data) (o : Option (ℕ × ℕ)) → SaysTrusted labels field o
    → IfSome o (λ i. below (map (λ l. l.value) labels) i.0 i.1 ≡ true)
trusted-ordered labels field None h = tt
trusted-ordered labels field (Some i) (low, high, is, l, h, order) = order

kept-cleared : (document : Members) (p : Policy) → Says document p
    → AllByRecursion (IsCleared (length p.labels)) p.users
kept-cleared document p says =
    each-row (SaysUser p.labels) (IsCleared (length p.labels))
    (λ before d u h. record {
      clearance = within p.labels h.cleared u.clearance h.clearance;
      trusted =
          trusted-declared p.labels _ u.trusted h.trusted;
    })
    [] says.users.0 p.users says.users.2

kept-trusted : (document : Members) (p : Policy) → Says document p → AllByRecursion (IsTrusted (labels_of p)) p.users
kept-trusted document p says =
    each-row (SaysUser p.labels) (IsTrusted (labels_of p))
    (λ before d u h. trusted-ordered p.labels _ u.trusted h.trusted) [] says.users.0 p.users says.users.2

-- ---- the matrix

user-within : (users : List User) (name : Name) (k : ℕ) → position (λ u. bytes_eq u.name name) users ≡ Some k
    → k < length users
user-within [] name k e = absurd cc
user-within (u ∷ us) name k e = (position-Some (λ x. bytes_eq x.name name) (u ∷ us) k u e).0

-- what holds of each entry of the matrix, since it holds of each entry of a grant
each-entry : (document : Members) (p : Policy) → Says document p → (P : Right → Type 0)
    → ((d : Data) (g : Grant) → SaysGrant p.users d g
    → AllByRecursion (λ user. AllByRecursion (λ object. P (right_of user g.modes object)) g.objects) g.users)
    → AllByRecursion P p.matrix
each-entry document p says P has =
    let m = says.matrix in
    let entries : AllByRecursion P (flat_map rights_of m.grants) =
    each_flat P rights_of m.grants
    (each-row (λ before. SaysGrant p.users) (λ g. AllByRecursion P (rights_of g)) (λ before d g h. of-grant P g
    (has d g h)) [] m.has.0 m.grants m.has.2) in
    subst (λ (rs : List Right). AllByRecursion P rs) (sym m.entries) entries
  where
    of-grant : (P : Right → Type 0) (g : Grant)
        → AllByRecursion (λ user. AllByRecursion (λ object. P (right_of user g.modes object)) g.objects) g.users
        → AllByRecursion P (rights_of g)
    of-grant P g h =
        each_flat P (λ user. map (right_of user g.modes) g.objects) g.users
        (all_if (λ user. AllByRecursion (λ object. P (right_of user g.modes object)) g.objects)
        (λ user. AllByRecursion P (map (right_of user g.modes) g.objects))
        (λ user. all_map P (right_of user g.modes) g.objects) g.users h)

kept-held : (document : Members) (p : Policy) → Says document p → AllByRecursion (HasUser (length p.users)) p.matrix
kept-held document p says =
    each-entry document p says (HasUser (length p.users))
    (λ d g h. all_if (λ user. user < length p.users) (λ user. AllByRecursion (λ object. HasUser (length p.users)
    (right_of user g.modes object)) g.objects)
    (λ user declared. all (λ object. HasUser (length p.users) (right_of user g.modes object))
    (λ object. record { user = declared }) g.objects) g.users
    (each-row (SaysUserNo p.users) (λ k. k < length p.users)
    (λ before d k says. user-within p.users says.name k says.place) [] h.subjects g.users h.says_users))

kept-object_names : (document : Members) (p : Policy) → Says document p → AreNames (map (λ r. r.object) p.matrix)
kept-object_names document p says =
    all_map (λ name. is_name name ≡ true) (λ (r : Right). r.object) p.matrix
    (each-entry document p says (λ r. is_name r.object ≡ true)
    (λ d g h. all (λ user. AllByRecursion (λ object. is_name object ≡ true) g.objects)
    (λ user. names-named h.things g.objects h.says_objects) g.users))

mode-small : (b c d e : Bool) (m : ℕ) → cond b (Ok 1) (cond c (Ok 2) (cond d (Ok 4) (cond e (Ok 8) (Err UnknownName))))
    ≡ Ok m → m < 2 ^ 4
mode-small true c d e m h = let same = ok_is 1 m h in omega (arith, same)
mode-small false true d e m h = let same = ok_is 2 m h in omega (arith, same)
mode-small false false true e m h = let same = ok_is 4 m h in omega (arith, same)
mode-small false false false true m h = let same = ok_is 8 m h in omega (arith, same)
mode-small false false false false m h = absurd cc

together-small : (n : ℕ) (modes : List ℕ) → n < 2 ^ 4 → AllByRecursion (λ m. m < 2 ^ 4) modes → fold bit_or n modes
    < 2 ^ 4
together-small n [] small all = small
together-small n (m ∷ modes) small all = together-small (bit_or n m) modes (or_lt 4 n m small all.0) all.1

kept-modes : (document : Members) (p : Policy) → Says document p → AllByRecursion HasKnownModes p.matrix
kept-modes document p says =
    each-entry document p says HasKnownModes
    (λ d g h.
    let known : g.modes.0 < 16 = subst (λ (n : ℕ). n < 16) (sym h.all_modes) (together-small 0 h.modes (omega arith)
    (each-row SaysMode (λ m. m < 2 ^ 4) (λ before d m h. mode-small _ _ _ _ m h.is_word) [] h.items h.modes h.says_modes)) in
    all (λ user. AllByRecursion (λ object. HasKnownModes (right_of user g.modes object)) g.objects)
    (λ user. all (λ object. HasKnownModes (right_of user g.modes object))
    (λ object. record { modes = known }) g.objects) g.users)

pub policy-kept : (document : Members) (p : Policy) → Says document p → IsPolicy p
policy-kept document p says = record {
  some_level = says.some_level;
  few_levels = says.few_levels;
  level_names = kept-level_names document p says;
  levels = kept-levels_distinct document p says;
  few_categories = says.few_categories;
  category_names = kept-category_names document p says;
  categories = kept-categories_distinct document p says;
  some_label = says.some_label;
  few_labels = says.few_labels;
  label_names = kept-label_names document p says;
  names = kept-names document p says;
  distinct = kept-distinct document p says;
  ranked = kept-ranked document p says;
  few_users = says.few_users;
  user_names = kept-user_names document p says;
  users = kept-users_distinct document p says;
  cleared = kept-cleared document p says;
  trusted = kept-trusted document p says;
  few_rights = says.matrix.few;
  object_names = kept-object_names document p says;
  held = kept-held document p says;
  known = kept-modes document p says;
  entries = says.matrix.apart;
}

-- a policy that reading gives part by part
pub policy-read : (document : Members) (version : Version) (levels categories : List Name) (labels : List Named)
    (users : List User) (matrix : List Right)
    → version_at document ≡ Ok version → levels_at document ≡ Ok levels → categories_at document ≡ Ok categories
    → labels_at levels categories document ≡ Ok labels
    → users_at labels document ≡ Ok users → matrix_at users document ≡ Ok matrix
    → IsPolicy (record {
      version = version;
      levels = levels;
      categories = categories;
      labels = labels;
      users = users;
      matrix = matrix;
    })
unfolding policy_at
policy-read document version levels categories labels users matrix v l c b u m =
    let p : Policy = record {
      version = version;
      levels = levels;
      categories = categories;
      labels = labels;
      users =
          users;
      matrix = matrix;
    } in
    let read : policy_at document ≡ Ok p = rw (v, l, c, b, u, m) refl in
    policy-kept document p (says_found document p read)
