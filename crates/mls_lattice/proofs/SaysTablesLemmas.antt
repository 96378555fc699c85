-- Table by table: the rows that reading gives are those that the items say.
use Rattle.std.proofs.Common.{◌≡◌, ℕ, ℤ, Bool, true, cond, ◌==◌, List, [], ◌∷◌, ◌++◌, append_assoc, is_some, false, map, codes, pos, Option, None, Some, Ok, Err, refl, sym, ap, ◌∙◌, subst, bit_and, position, bit_or, bytes_eq, int_eq, append-nil, ◌<◌, length, Result, inl, inr, arith, nat_eq, ne_eqb}
use Rattle.std.specs.List.{list_any}
use Rattle.std.specs.FinSet as set
use Rattle.std.proofs.lemmas.Bool.Decides.{Decides-int_eq}
use Rattle.std.proofs.lemmas.List.Sums.{fold_push}
use Rattle.std.specs.FinSet.{nat_cmp-IsAntisymmetric}
use Rattle.std.proofs.lemmas.Cmp.{nat_cmp_total}
use Rattle.toml.specs.Data.{Data, Items, no_items, item, Members, get_member, integer, array, table, as_str, as_integer, as_table}
use Rattle.std.proofs.lemmas.Bool.{eqb-false}
use Rattle.mls_lattice.specs.declared.fault.FieldFault.{FieldFault}
use Rattle.mls_lattice.specs.declared.fault.FieldFault.TheVariants.{MissingField, WrongKind, Repeated, UnknownName, EmptyInterval}
use Rattle.mls_lattice.specs.declared.version.Version.{Version}
use Rattle.mls_lattice.specs.declared.version.Version.TheVariants.{One, Two}
use Rattle.mls_lattice.specs.declared.tables.User.{User}
use Rattle.mls_lattice.specs.declared.tables.Grant.{Grant}
use Rattle.mls_lattice.specs.Lattice.{Categories, Pair, same_pair}
use Rattle.mls_lattice.specs.Labels.{below}
use Rattle.mls_lattice.specs.Version.{version_number}
use Rattle.mls_lattice.specs.Policy.{Name, Named}
use Rattle.mls_lattice.specs.Reading.{◌>>=◌, wanted, text_at, integer_at, table_at, name_at, name_field, texts_at, optional, version_at, items_len, all_items}
use Rattle.mls_lattice.specs.PolicyReading.{once, place_in, label_place, user_place, new_name_at, more_categories, value_at, label_at, label_name_at, interval_at, trusted_at, user_at, mode_of, more_modes, rows_at, one_or_more, user_no_at, user_nos_at, objects_at, grant_at}
use Rattle.mls_lattice.specs.Says.{Rows, SaysName, SaysCategory, SaysValue, SaysLabel, SaysPlace, SaysTrusted, SaysUser, SaysMode, together, SaysUserNo, HasOneOrMore, SaysGrant}
use Rattle.mls_lattice.proofs.ReadingLemmas.{ok_is, bind_ok, guard_ok, pass_ok, found_ok, string_from_as_str, integer_from_as_integer, table_from_as_table}
use Rattle.mls_lattice.proofs.SaysLemmas.{rows_found, rows_again, rows_len, rows_all, once_ok, name_found, field_found, field_again, kind_found, optional_found, optional_again}

pub table_found : (d : Data) (fields : Members) → table_at d ≡ Ok fields → d ≡ table fields
table_found d fields e = table_from_as_table d fields (found_ok (as_table d) WrongKind fields e)

-- ---- names

pub new_name_found : (before : List Name) (d : Data) (name : Name) → new_name_at before d ≡ Ok name
    → SaysName before d name
unfolding new_name_at
new_name_found before d name e =
    let a = bind_ok (name_at d) _ name e in
    let b = bind_ok (once (list_any (bytes_eq a.0) before)) _ name a.2 in
    let n = name_found d a.0 a.1 in
    subst (λ (x : Name). SaysName before d x) (ok_is a.0 name b.2) (record {
      text = n.0;
      is_name = n.1;
      new = once_ok _ b.0 b.1;
    })

pub new_name_again : (before : List Name) (d : Data) (name : Name) → SaysName before d name → new_name_at before d
    ≡ Ok name
unfolding new_name_at
new_name_again before d name h = rw (h.text, h.is_name, h.new) refl

pub name_kind : (before : List Name) (d : Data) (name : Name) → SaysName before d name → is_some (as_str d) ≡ true
name_kind before d name h = rw h.text refl

-- ---- labels

categories_found : (categories : List Name) (before : List ℕ) (ds : Items) (all : Categories)
    → more_categories categories (set.from_list before) ds ≡ Ok all
    → (places : List ℕ) × Rows (SaysCategory categories) before ds places × (all ≡ set.from_list (before ++ places))
categories_found categories before no_items all e = (
  [],
  tt,
  sym (ok_is (set.from_list before) all e) ∙ ap (λ (ks : List ℕ). set.from_list ks)
      (sym (append-nil before)),
)
categories_found categories before (item d ds) all e =
    let a = bind_ok (name_at d) _ all e in
    let b = bind_ok (place_in categories a.0) _ all a.2 in
    let k = b.0 in
    let c = guard_ok (set.contains (set.from_list before) k) Repeated (more_categories categories
    (set.insert (set.from_list before) k) ds) all b.2 in
    let n = name_found d a.0 a.1 in
    let pushed = set.from_list_push nat_cmp_total nat_cmp-IsAntisymmetric before k in
    let more = categories_found categories (before ++ k ∷ []) ds all (ap (λ s. more_categories categories s ds) pushed
    ∙ c.1) in
    let place = found_ok (position (λ other. bytes_eq other a.0) categories) UnknownName k b.1 in (
      k ∷ more.0,
      (
        record {
          name = a.0;
          text = n.0;
          is_name = n.1;
          place = place;
          new = sym (set.contains-from_list_nat before k)
              ∙ c.0;
        },
        more.1,
      ),
      more.2 ∙ ap (λ (ks : List ℕ). set.from_list ks) (append_assoc before (k ∷ []) more.0),
    )

categories_again : (categories : List Name) (before : List ℕ) (ds : Items) (places : List ℕ)
    → Rows (SaysCategory categories) before ds places
    → more_categories categories (set.from_list before) ds ≡ Ok (set.from_list (before ++ places))
categories_again categories before no_items [] h = ap (λ (ks : List ℕ). Ok (set.from_list ks)) (sym (append-nil before))
categories_again categories before no_items (k ∷ places) h = absurd h
categories_again categories before (item d ds) [] h = absurd h
categories_again categories before (item d ds) (k ∷ places) h =
    let c = h.0 in
    let pushed = set.from_list_push nat_cmp_total nat_cmp-IsAntisymmetric before k in
    let lacks : set.contains (set.from_list before) k ≡ false = set.contains-from_list_nat before k ∙ c.new in
    rw (c.text, c.is_name, c.place, lacks)
    (ap (λ s. more_categories categories s ds) (sym pushed)
    ∙ categories_again categories (before ++ k ∷ []) ds places h.1
    ∙ ap (λ (ks : List ℕ). Ok (set.from_list ks)) (append_assoc before (k ∷ []) places))

category_kind : (categories : List Name) (before : List ℕ) (d : Data) (k : ℕ) → SaysCategory categories before d k
    → is_some (as_str d) ≡ true
category_kind categories before d k h = rw h.text refl

value_found : (levels categories : List Name) (fields : Members) (value : Pair) → value_at levels categories fields
    ≡ Ok value → SaysValue levels categories fields value
unfolding value_at
value_found levels categories fields value e =
    let a = bind_ok (name_field (codes "level") fields) _ value e in
    let b = bind_ok (place_in levels a.0) _ value a.2 in
    let c = bind_ok (optional texts_at (get_member (codes "categories") fields)) _ value b.2 in
    let d = bind_ok (more_categories categories set.empty c.0) _ value c.2 in
    let made : Pair = record { rank = b.0; cats = d.0 } in
    let cats = categories_found categories [] c.0 d.0 d.1 in
    subst (λ (x : Pair). SaysValue levels categories fields x) (ok_is made value d.2)
    (record {
      level = a.0;
      has_level = field_found (codes "level") fields a.0 a.1;
      rank = found_ok (position (λ other. bytes_eq other a.0) levels) UnknownName b.0 b.1;
      items = c.0;
      has_items = optional_found (λ x. is_some (as_str x)) (codes "categories") fields c.0 c.1;
      places = cats.0;
      says_places = cats.1;
      cats = cats.2;
    })

value_again : (levels categories : List Name) (fields : Members) (value : Pair)
    → SaysValue levels categories fields value → value_at levels categories fields ≡ Ok value
unfolding value_at
value_again levels categories fields value h =
    let kinds = rows_all (SaysCategory categories) (λ x. is_some (as_str x))
    (category_kind categories) [] h.items h.places h.says_places in
    let cats : more_categories categories set.empty h.items ≡ Ok value.cats =
    categories_again categories [] h.items h.places h.says_places ∙ ap (λ (s : Categories). Ok s) (sym h.cats) in
    rw (
      field_again (codes "level") fields h.level h.has_level,
      h.rank,
      optional_again (λ x. is_some (as_str x))
          (codes "categories") fields h.items h.has_items kinds,
      cats,
    ) refl

pub label_found : (levels categories : List Name) (before : List Named) (d : Data) (l : Named)
    → label_at levels categories before d ≡ Ok l → SaysLabel levels categories before d l
unfolding label_at
label_found levels categories before d l e =
    let t = bind_ok (table_at d) _ l e in
    let a = bind_ok (name_field (codes "name") t.0) _ l t.2 in
    let b = bind_ok (once (list_any (λ other. bytes_eq other.name a.0) before)) _ l a.2 in
    let c = bind_ok (value_at levels categories t.0) _ l b.2 in
    let f = bind_ok (once (list_any (λ other. same_pair other.value c.0) before)) _ l c.2 in
    let made : Named = record { name = a.0; value = c.0 } in
    subst (λ (x : Named). SaysLabel levels categories before d x) (ok_is made l f.2)
    (record {
      fields = t.0;
      is_table = table_found d t.0 t.1;
      name = field_found (codes "name") t.0 a.0 a.1;
      new_name = once_ok _ b.0 b.1;
      value = value_found levels categories t.0 c.0 c.1;
      new_value = once_ok _ f.0 f.1;
    })

pub label_again : (levels categories : List Name) (before : List Named) (d : Data) (l : Named)
    → SaysLabel levels categories before d l → label_at levels categories before d ≡ Ok l
unfolding label_at
label_again levels categories before d l h =
    rw (
      h.is_table,
      field_again (codes "name") h.fields l.name h.name,
      h.new_name,
      value_again levels categories h.fields l.value h.value,
      h.new_value,
    ) refl

pub label_kind : (levels categories : List Name) (before : List Named) (d : Data) (l : Named)
    → SaysLabel levels categories before d l → is_some (as_table d) ≡ true
label_kind levels categories before d l h = rw h.is_table refl

-- ---- users

place_found : (labels : List Named) (d : Data) (k : ℕ) → label_name_at labels d ≡ Ok k → SaysPlace labels d k
place_found labels d k e =
    let a = bind_ok (name_at d) _ k e in
    let n = name_found d a.0 a.1 in
    record {
      name = a.0;
      text = n.0;
      is_name = n.1;
      place =
          found_ok (position (λ l. bytes_eq l.name a.0) labels) UnknownName k a.2;
    }

trusted_found : (labels : List Named) (field : Option Data) (o : Option (ℕ × ℕ)) → trusted_at labels field ≡ Ok o
    → SaysTrusted labels field o
trusted_found labels None o e = subst (λ (x : Option (ℕ × ℕ)). SaysTrusted labels None x) (ok_is None o e) refl
trusted_found labels (Some d) o e =
    let a = bind_ok (texts_at d) (interval_at labels) o e in
    let is : d ≡ array a.0 = kind_found (λ x. is_some (as_str x)) d a.0 a.1 in
    subst (λ (x : Data). SaysTrusted labels (Some x) o) (sym is) (go a.0 a.2)
  where
    go : (ds : Items) → interval_at labels ds ≡ Ok o → SaysTrusted labels (Some (array ds)) o
    go no_items e = absurd cc
    go (item low no_items) e = absurd cc
    go (item low (item high no_items)) e =
        let l = bind_ok (label_name_at labels low) _ o e in
        let h = bind_ok (label_name_at labels high) _ o l.2 in
        let t = pass_ok (below (map (λ x. x.value) labels) l.0 h.0) EmptyInterval (Ok (Some (l.0, h.0))) o h.2 in
        subst (λ (x : Option (ℕ × ℕ)). SaysTrusted labels (Some (array (item low (item high no_items)))) x)
        (ok_is (Some (l.0, h.0)) o t.1)
        (low, high, refl, place_found labels low l.0 l.1, place_found labels high h.0 h.1, t.0)
    go (item low (item high (item more ds))) e = absurd cc

trusted_again : (labels : List Named) (field : Option Data) (o : Option (ℕ × ℕ)) → SaysTrusted labels field o
    → trusted_at labels field ≡ Ok o
trusted_again labels field None h = rw h refl
trusted_again labels field (Some i) (low, high, is, l, h, order) =
    rw (is, l.text, h.text, l.is_name, h.is_name, l.place, h.place, order) refl

pub user_found : (labels : List Named) (before : List User) (d : Data) (u : User) → user_at labels before d ≡ Ok u
    → SaysUser labels before d u
unfolding user_at
user_found labels before d u e =
    let t = bind_ok (table_at d) _ u e in
    let a = bind_ok (name_field (codes "name") t.0) _ u t.2 in
    let b = bind_ok (once (list_any (λ other. bytes_eq other.name a.0) before)) _ u a.2 in
    let c = bind_ok (name_field (codes "clearance") t.0) _ u b.2 in
    let f = bind_ok (label_place labels c.0) _ u c.2 in
    let g = bind_ok (trusted_at labels (get_member (codes "trusted") t.0)) _ u f.2 in
    let made : User = record { name = a.0; clearance = f.0; trusted = g.0 } in
    subst (λ (x : User). SaysUser labels before d x) (ok_is made u g.2)
    (record {
      fields = t.0;
      is_table = table_found d t.0 t.1;
      name = field_found (codes "name") t.0 a.0 a.1;
      new_name = once_ok _ b.0 b.1;
      cleared = c.0;
      has_clearance = field_found (codes "clearance") t.0 c.0 c.1;
      clearance = found_ok (position (λ l. bytes_eq l.name c.0) labels) UnknownName f.0 f.1;
      trusted = trusted_found labels (get_member (codes "trusted") t.0) g.0 g.1;
    })

pub user_again : (labels : List Named) (before : List User) (d : Data) (u : User) → SaysUser labels before d u
    → user_at labels before d ≡ Ok u
unfolding user_at
user_again labels before d u h =
    rw (
      h.is_table,
      field_again (codes "name") h.fields u.name h.name,
      h.new_name,
      field_again (codes "clearance") h.fields h.cleared h.has_clearance,
      h.clearance,
      trusted_again labels (get_member (codes "trusted") h.fields) u.trusted h.trusted,
    ) refl

pub user_kind : (labels : List Named) (before : List User) (d : Data) (u : User) → SaysUser labels before d u
    → is_some (as_table d) ≡ true
user_kind labels before d u h = rw h.is_table refl

-- ---- the matrix

modes_found : (before : List ℕ) (ds : Items) (all : ℕ) → more_modes (together before) ds ≡ Ok all → (modes : List ℕ)
    × Rows SaysMode before ds modes × (all ≡ together (before ++ modes))
modes_found before no_items all e =
    ([], tt, sym (ok_is (together before) all e) ∙ ap together (sym (append-nil before)))
modes_found before (item d ds) all e =
    let a = bind_ok (text_at d) _ all e in
    let b = bind_ok (mode_of a.0) _ all a.2 in
    let m = b.0 in
    let c = guard_ok (bit_and (together before) m == m) Repeated (more_modes (bit_or (together before) m) ds) all b.2 in
    let more = modes_found (before ++ m ∷ []) ds all (ap (λ (n : ℕ). more_modes n ds) (fold_push bit_or 0 before m)
    ∙ c.1) in (
      m ∷ more.0,
      (
        record {
          word = a.0;
          text = string_from_as_str d a.0 (found_ok (as_str d) WrongKind a.0 a.1);
          is_word = b.1;
          new = c.0;
        },
        more.1,
      ),
      more.2 ∙ ap together (append_assoc before (m ∷ []) more.0),
    )

modes_again : (before : List ℕ) (ds : Items) (modes : List ℕ) → Rows SaysMode before ds modes
    → more_modes (together before) ds ≡ Ok (together (before ++ modes))
modes_again before no_items [] h = ap (λ (ms : List ℕ). Ok (together ms)) (sym (append-nil before))
modes_again before no_items (m ∷ modes) h = absurd h
modes_again before (item d ds) [] h = absurd h
modes_again before (item d ds) (m ∷ modes) h =
    let c = h.0 in
    rw (c.text, c.is_word, c.new)
    (ap (λ (n : ℕ). more_modes n ds) (sym (fold_push bit_or 0 before m))
    ∙ modes_again (before ++ m ∷ []) ds modes h.1
    ∙ ap (λ (ms : List ℕ). Ok (together ms)) (append_assoc before (m ∷ []) modes))

mode_kind : (before : List ℕ) (d : Data) (mode : ℕ) → SaysMode before d mode → is_some (as_str d) ≡ true
mode_kind before d mode h = rw h.text refl

-- ---- users and objects of a grant

one_found : (one many : List ℕ) (fields : Members) (ds : Items) → one_or_more (get_member one fields)
    (get_member many fields) ≡ Ok ds → HasOneOrMore one many fields ds × (0 < items_len ds)
one_found one many fields ds e = go (get_member one fields) (get_member many fields) refl refl e
  where
    go : (o p : Option Data) → get_member one fields ≡ o → get_member many fields ≡ p → one_or_more o p ≡ Ok ds
        → HasOneOrMore one many fields ds × (0 < items_len ds)
    go None None is are e = absurd cc
    go None (Some d) is are e =
        let a = bind_ok (texts_at d) _ ds e in
        let b = guard_ok (items_len a.0 == 0) MissingField (Ok a.0) ds a.2 in
        let same : a.0 ≡ ds = ok_is a.0 ds b.1 in
        let not_none : items_len a.0 ≡ 0 → ⊥ = eqb-false (items_len a.0) 0 b.0 in
        let len : items_len a.0 ≡ items_len ds = ap items_len same in (
          inr (is, are ∙ ap (λ (x : Data). Some x) (kind_found (λ x. is_some (as_str x)) d a.0 a.1 ∙ ap array same)),
          omega (arith, not_none, len),
        )
    go (Some d) None is are e =
        let same : item d no_items ≡ ds = ok_is (item d no_items) ds e in
        (inl (d, is, are, sym same), subst (λ (x : Items). 0 < items_len x) same (omega arith))
    go (Some d) (Some ds) is are e = absurd cc

one_again : (one many : List ℕ) (fields : Members) (ds : Items) → HasOneOrMore one many fields ds
    → all_items (λ x. is_some (as_str x)) ds ≡ true → 0 < items_len ds
    → one_or_more (get_member one fields) (get_member many fields) ≡ Ok ds
one_again one many fields ds (inl (d, is, are, same)) all some = rw (is, are) (ap (λ (x : Items). Ok x) (sym same))
one_again one many fields ds (inr (is, are)) all some =
    rw (is, are, all, ne_eqb (items_len ds) 0 (λ e. omega (arith, some, e))) refl

user_no_found : (users : List User) (before : List ℕ) (d : Data) (k : ℕ) → user_no_at users before d ≡ Ok k
    → SaysUserNo users before d k
unfolding user_no_at
user_no_found users before d k e =
    let a = bind_ok (name_at d) _ k e in
    let b = bind_ok (user_place users a.0) _ k a.2 in
    let c = bind_ok (once (list_any (λ other. nat_eq other b.0) before)) _ k b.2 in
    let n = name_found d a.0 a.1 in
    subst (λ (x : ℕ). SaysUserNo users before d x) (ok_is b.0 k c.2)
    (record {
      name = a.0;
      text = n.0;
      is_name = n.1;
      place = found_ok (position (λ u. bytes_eq u.name a.0) users) UnknownName b.0 b.1;
      new = once_ok _ c.0 c.1;
    })

user_no_again : (users : List User) (before : List ℕ) (d : Data) (k : ℕ) → SaysUserNo users before d k
    → user_no_at users before d ≡ Ok k
unfolding user_no_at
user_no_again users before d k h = rw (h.text, h.is_name, h.place, h.new) refl

user_no_kind : (users : List User) (before : List ℕ) (d : Data) (k : ℕ) → SaysUserNo users before d k
    → is_some (as_str d) ≡ true
user_no_kind users before d k h = rw h.text refl

-- the rows that stand at one of two keys
module _ {B : Type 0} (read : List B → Data → Result B FieldFault) (R : List B → Data → B → Type 0) (one many : List ℕ)
    (fields : Members) where
  some_rows_found : ((before : List B) (d : Data) (row : B) → read before d ≡ Ok row → R before d row)
      → (all : List B) → (one_or_more (get_member one fields) (get_member many fields) >>= rows_at read []) ≡ Ok all
      → (ds : Items) × HasOneOrMore one many fields ds × Rows R [] ds all × (0 < length all)
  some_rows_found found all e =
      let a = bind_ok (one_or_more (get_member one fields) (get_member many fields)) _ all e in
      let has = one_found one many fields a.0 a.1 in
      let r = rows_found read R found [] a.0 all a.2 in
      let rows : Rows R [] a.0 all = subst (λ (x : List B). Rows R [] a.0 x) (sym r.1) r.2 in
      let len = rows_len R [] a.0 all rows in
      let some = has.1 in
      (a.0, has.0, rows, omega (arith, some, len))

  some_rows_again : ((before : List B) (d : Data) (row : B) → R before d row → read before d ≡ Ok row)
      → ((before : List B) (d : Data) (row : B) → R before d row → is_some (as_str d) ≡ true)
      → (ds : Items) (all : List B) → HasOneOrMore one many fields ds → Rows R [] ds all → 0 < length all
      → (one_or_more (get_member one fields) (get_member many fields) >>= rows_at read []) ≡ Ok all
  some_rows_again again kind ds all has rows some =
      let len = rows_len R [] ds all rows in
      let texts = rows_all R (λ x. is_some (as_str x)) kind [] ds all rows in
      rw (one_again one many fields ds has texts (omega (arith, some, len))) (rows_again read R again [] ds all rows)

-- ---- grants

pub grant_found : (users : List User) (d : Data) (g : Grant) → grant_at users d ≡ Ok g → SaysGrant users d g
unfolding grant_at
grant_found users d g e =
    let t = bind_ok (table_at d) _ g e in
    let a = bind_ok (user_nos_at users t.0) _ g t.2 in
    let c = bind_ok (objects_at t.0) _ g a.2 in
    let f = bind_ok (wanted (codes "modes") t.0) _ g c.2 in
    let h = bind_ok (texts_at f.0) _ g f.2 in
    let m = bind_ok (more_modes 0 h.0) _ g h.2 in
    let modes = modes_found [] h.0 m.0 m.1 in
    let subjects = some_rows_found (user_no_at users) (SaysUserNo users) (codes "user") (codes "users") t.0
    (user_no_found users) a.0 a.1 in
    let things = some_rows_found new_name_at SaysName (codes "object") (codes "objects") t.0 new_name_found c.0 c.1 in
    let made : Grant = record { users = a.0; objects = c.0; modes = record { 0 = m.0 } } in
    subst (λ (x : Grant). SaysGrant users d x) (ok_is made g m.2)
    (record {
      fields = t.0;
      is_table = table_found d t.0 t.1;
      subjects = subjects.0;
      has_users = subjects.1;
      says_users = subjects.2;
      some_user = subjects.3;
      things = things.0;
      has_objects = things.1;
      says_objects = things.2;
      some_object = things.3;
      items = h.0;
      has_items = found_ok (get_member (codes "modes") t.0) MissingField f.0 f.1 ∙ ap (λ (x : Data). Some x)
          (kind_found (λ x. is_some (as_str x)) f.0 h.0 h.1);
      modes = modes.0;
      says_modes = modes.1;
      all_modes = modes.2;
    })

pub grant_again : (users : List User) (d : Data) (g : Grant) → SaysGrant users d g → grant_at users d ≡ Ok g
unfolding grant_at
grant_again users d g h =
    let kinds = rows_all SaysMode (λ x. is_some (as_str x)) mode_kind [] h.items h.modes h.says_modes in
    let modes : more_modes 0 h.items ≡ Ok g.modes.0 = modes_again [] h.items h.modes h.says_modes ∙ ap (λ (n : ℕ). Ok n)
    (sym h.all_modes) in
    let subjects : user_nos_at users h.fields ≡ Ok g.users =
    some_rows_again (user_no_at users) (SaysUserNo users) (codes "user") (codes "users") h.fields (user_no_again users)
    (user_no_kind users) h.subjects g.users h.has_users h.says_users h.some_user in
    let things : objects_at h.fields ≡ Ok g.objects =
    some_rows_again new_name_at SaysName (codes "object")
    (codes "objects") h.fields new_name_again name_kind h.things g.objects h.has_objects h.says_objects h.some_object in
    rw (h.is_table, subjects, things, h.has_items, kinds, modes) refl

pub grant_kind : (users : List User) (d : Data) (g : Grant) → SaysGrant users d g → is_some (as_table d) ≡ true
grant_kind users d g h = rw h.is_table refl

-- ---- all of it

numbered : (one two : Bool) (n : ℤ) (v : Version) → (one ≡ true → n ≡ pos 1) → (two ≡ true → n ≡ pos 2)
    → cond one (Ok One) (cond two (Ok Two) (Err WrongKind)) ≡ Ok v → n ≡ pos (version_number v)
numbered true two n v first second e = first refl ∙ ap (λ (x : Version). pos (version_number x)) (ok_is One v e)
numbered false true n v first second e = second refl ∙ ap (λ (x : Version). pos (version_number x)) (ok_is Two v e)
numbered false false n v first second e = absurd cc

pub version_found : (document : Members) (v : Version) → version_at document ≡ Ok v
    → get_member (codes "version") document ≡ Some (integer (pos (version_number v)))
unfolding version_at
version_found document v e =
    let a = bind_ok (wanted (codes "version") document) _ v e in
    let b = bind_ok (integer_at a.0) _ v a.2 in
    let n = numbered (int_eq b.0 (pos 1)) (int_eq b.0 (pos 2)) b.0 v (λ is. (Decides-int_eq b.0 (pos 1)).0 is)
    (λ is. (Decides-int_eq b.0 (pos 2)).0 is) b.2 in
    found_ok (get_member (codes "version") document) MissingField a.0 a.1
    ∙ ap (λ (d : Data). Some d) (integer_from_as_integer a.0 b.0 (found_ok (as_integer a.0) WrongKind b.0 b.1)
    ∙ ap integer n)

pub version_again : (document : Members) (v : Version) → get_member (codes "version") document
    ≡ Some (integer (pos (version_number v))) → version_at document ≡ Ok v
unfolding version_at
version_again document One e = rw e refl
version_again document Two e = rw e refl
