-- Reading gives the tables that the document says, and refuses no document that says some.
use Rattle.std.proofs.Common.{◌≡◌, ℕ, suc, ◌<◌, ◌≤◌, Bool, true, false, ◌==◌, cond, List, [], ◌∷◌, ◌++◌, length, Option, None, Some, Result, Ok, Err, refl, sym, ap, ◌∙◌, inl, inr, append_assoc, arith, nat_lt, subst, ne_eqb, le-ltb, ltb-false, append-nil}
use Rattle.std.proofs.lemmas.Bool.{eqb-false}
use Rattle.toml.specs.Data.{Data, Items, no_items, item, Members, get_member, string, array, as_str, as_array}
use Rattle.mls_lattice.specs.declared.fault.FieldFault.{FieldFault}
use Rattle.mls_lattice.specs.declared.fault.FieldFault.TheVariants.{MissingField, WrongKind, TooMany, BadName}
use Rattle.mls_lattice.specs.Name.{is_name}
use Rattle.mls_lattice.specs.Policy.{Name}
use Rattle.mls_lattice.specs.Reading.{◌>>=◌, wanted, text_at, array_at, name_at, name_field, items_len, all_items, optional, bounded, some_of}
use Rattle.mls_lattice.specs.PolicyReading.{rows_at, once}
use Rattle.mls_lattice.specs.Says.{Rows, MayHaveItems, HasName, HasRows, MayHaveRows}
use Rattle.mls_lattice.proofs.ReadingLemmas.{ok_is, bind_ok, guard_ok, pass_ok, found_ok, string_from_as_str, array_from_as_array}

pub once_ok : (b : Bool) (u : Unit {0}) → once b ≡ Ok u → b ≡ false
once_ok true u e = absurd cc
once_ok false u e = refl

-- ---- fields

pub name_found : (d : Data) (name : Name) → name_at d ≡ Ok name → (d ≡ string name) × (is_name name ≡ true)
name_found d name e =
    let a = bind_ok (text_at d) _ name e in
    let b = pass_ok (is_name a.0) BadName (Ok a.0) name a.2 in
    let same : a.0 ≡ name = ok_is a.0 name b.1 in
    let P : Name → Type 0 = λ n. (d ≡ string n) × (is_name n ≡ true) in
    subst P same (string_from_as_str d a.0 (found_ok (as_str d) WrongKind a.0 a.1), b.0)

pub field_found : (key : List ℕ) (fields : Members) (name : Name) → name_field key fields ≡ Ok name
    → HasName key fields name
field_found key fields name e =
    let a = bind_ok (wanted key fields) _ name e in
    let b = name_found a.0 name a.2 in
    record {
      text = found_ok (get_member key fields) MissingField a.0 a.1 ∙ ap (λ (d : Data). Some d) b.0;
      is_name =
          b.1;
    }

pub field_again : (key : List ℕ) (fields : Members) (name : Name) → HasName key fields name → name_field key fields
    ≡ Ok name
field_again key fields name h = rw (h.text, h.is_name) refl

-- ---- rows

pub rows_found : {B : Type 0} (read : List B → Data → Result B FieldFault) (R : List B → Data → B → Type 0)
    → ((before : List B) (d : Data) (row : B) → read before d ≡ Ok row → R before d row)
    → (front : List B) (ds : Items) (all : List B) → rows_at read front ds ≡ Ok all → (rows : List B)
    × (all ≡ front ++ rows) × Rows R front ds rows
rows_found read R found front no_items all e = ([], sym (ok_is front all e) ∙ sym (append-nil front), tt)
rows_found read R found front (item d ds) all e =
    let a = bind_ok (read front d) _ all e in
    let more = rows_found read R found (front ++ a.0 ∷ []) ds all a.2 in
    (a.0 ∷ more.0, more.1 ∙ append_assoc front (a.0 ∷ []) more.0, (found front d a.0 a.1, more.2))

pub rows_again : {B : Type 0} (read : List B → Data → Result B FieldFault) (R : List B → Data → B → Type 0)
    → ((before : List B) (d : Data) (row : B) → R before d row → read before d ≡ Ok row)
    → (front : List B) (ds : Items) (rows : List B) → Rows R front ds rows → rows_at read front ds ≡ Ok (front ++ rows)
rows_again read R again front no_items [] h = ap (λ x. Ok x) (sym (append-nil front))
rows_again read R again front no_items (row ∷ rows) h = absurd h
rows_again read R again front (item d ds) [] h = absurd h
rows_again read R again front (item d ds) (row ∷ rows) h =
    rw (again front d row h.0) (rows_again read R again (front ++ row ∷ []) ds rows h.1 ∙ ap (λ x. Ok x)
    (append_assoc front (row ∷ []) rows))

pub rows_len : {B : Type 0} (R : List B → Data → B → Type 0) (front : List B) (ds : Items) (rows : List B)
    → Rows R front ds rows → items_len ds ≡ length rows
rows_len R front no_items [] h = refl
rows_len R front no_items (row ∷ rows) h = absurd h
rows_len R front (item d ds) [] h = absurd h
rows_len R front (item d ds) (row ∷ rows) h = ap suc (rows_len R (front ++ row ∷ []) ds rows h.1)

pub rows_all : {B : Type 0} (R : List B → Data → B → Type 0) (p : Data → Bool) → ((before : List B) (d : Data) (row : B)
    → R before d row → p d ≡ true)
    → (front : List B) (ds : Items) (rows : List B) → Rows R front ds rows → all_items p ds ≡ true
rows_all R p each front no_items rows h = refl
rows_all R p each front (item d ds) [] h = absurd h
rows_all R p each front (item d ds) (row ∷ rows) h = rw (each front d row h.0)
    (rows_all R p each (front ++ row ∷ []) ds rows h.1)

-- ---- arrays of one kind

abbrev pub kind_at : (Data → Bool) → Data → Result Items FieldFault
kind_at p d = array_at d >>= λ ds. cond (all_items p ds) (Ok ds) (Err WrongKind)

pub kind_found : (p : Data → Bool) (d : Data) (ds : Items) → kind_at p d ≡ Ok ds → d ≡ array ds
kind_found p d ds e =
    let a = bind_ok (array_at d) _ ds e in
    let b = pass_ok (all_items p a.0) WrongKind (Ok a.0) ds a.2 in
    let same : a.0 ≡ ds = ok_is a.0 ds b.1 in
    array_from_as_array d a.0 (found_ok (as_array d) WrongKind a.0 a.1) ∙ ap array same

pub optional_found : (p : Data → Bool) (key : List ℕ) (fields : Members) (ds : Items)
    → optional (kind_at p) (get_member key fields) ≡ Ok ds → MayHaveItems key fields ds
optional_found p key fields ds e = go (get_member key fields) refl e
  where
    go : (o : Option Data) → get_member key fields ≡ o → optional (kind_at p) o ≡ Ok ds → MayHaveItems key fields ds
    go None is e = inr (is, sym (ok_is no_items ds e))
    go (Some d) is e = inl (is ∙ ap (λ (x : Data). Some x) (kind_found p d ds e))

pub optional_again : (p : Data → Bool) (key : List ℕ) (fields : Members) (ds : Items) → MayHaveItems key fields ds
    → all_items p ds ≡ true → optional (kind_at p) (get_member key fields) ≡ Ok ds
optional_again p key fields ds (inl h) all = rw (h, all) refl
optional_again p key fields ds (inr h) all = rw h.0 (ap (λ (x : Items). Ok x) (sym h.1))

pub most_found : (most : ℕ) (all ds : Items) → bounded most all ≡ Ok ds → (all ≡ ds) × (items_len ds ≤ most)
most_found most all ds e =
    let a = guard_ok (nat_lt most (items_len all)) TooMany (Ok all) ds e in
    let same : all ≡ ds = ok_is all ds a.1 in
    (same, rw (← same) (ltb-false most (items_len all) a.0))

pub most_again : (most : ℕ) (ds : Items) → items_len ds ≤ most → bounded most ds ≡ Ok ds
most_again most ds few = rw (le-ltb most (items_len ds) few) refl

some_found : (most : ℕ) (all ds : Items) → some_of most all ≡ Ok ds → (all ≡ ds) × (0 < items_len ds)
    × (items_len ds ≤ most)
some_found most all ds e =
    let a = guard_ok (items_len all == 0) MissingField (bounded most all) ds e in
    let b = most_found most all ds a.1 in
    let not_none : items_len all ≡ 0 → ⊥ = eqb-false (items_len all) 0 a.0 in
    let len : items_len all ≡ items_len ds = ap items_len b.0 in
    (b.0, omega (arith, not_none, len), b.1)

some_again : (most : ℕ) (ds : Items) → 0 < items_len ds → items_len ds ≤ most → some_of most ds ≡ Ok ds
some_again most ds some few = rw (ne_eqb (items_len ds) 0 (λ e. omega (arith, some, e))) (most_again most ds few)

-- ---- a table of the document

pub record IsTable {B : Type 0} (Has : List B → Type 0) (least most : ℕ) (rows : List B) : Type 0 where
  pub has : Has rows
  pub some : least ≤ length rows
  pub few : length rows ≤ most

module _ {B : Type 0} (read : List B → Data → Result B FieldFault) (R : List B → Data → B → Type 0) (p : Data → Bool)
    (key : List ℕ) (document : Members) (most : ℕ) where
  pub required_found : ((before : List B) (d : Data) (row : B) → read before d ≡ Ok row → R before d row)
      → (all : List B) → (wanted key document >>= λ d. kind_at p d >>= λ ds. some_of most ds >>= rows_at read [])
      ≡ Ok all → IsTable (HasRows R key document) 1 most all
  required_found found all e =
      let a = bind_ok (wanted key document) _ all e in
      let b = bind_ok (kind_at p a.0) _ all a.2 in
      let c = bind_ok (some_of most b.0) _ all b.2 in
      let s = some_found most b.0 c.0 c.1 in
      let r = rows_found read R found [] c.0 all c.2 in
      let rows : Rows R [] c.0 all = subst (λ (x : List B). Rows R [] c.0 x) (sym r.1) r.2 in
      let len = rows_len R [] c.0 all rows in
      let kind = kind_found p a.0 b.0 b.1 in
      record {
        has = (
          c.0,
          found_ok (get_member key document) MissingField a.0 a.1 ∙ ap (λ (d : Data). Some d)
              (kind ∙ ap array s.0),
          rows,
        );
        some = omega (arith, s.1, len);
        few = omega (arith, s.2, len);
      }

  pub required_again : ((before : List B) (d : Data) (row : B) → R before d row → read before d ≡ Ok row)
      → ((before : List B) (d : Data) (row : B) → R before d row → p d ≡ true)
      → (all : List B) → HasRows R key document all → 0 < length all → length all ≤ most
      → (wanted key document >>= λ d. kind_at p d >>= λ ds. some_of most ds >>= rows_at read []) ≡ Ok all
  required_again again kind all h some few =
      let len = rows_len R [] h.0 all h.2 in
      rw (
        h.1,
        rows_all R p kind [] h.0 all h.2,
        some_again most h.0 (omega (arith, some, len))
            (omega (arith, few, len)),
      ) (rows_again read R again [] h.0 all h.2)

  pub optional_rows_found : ((before : List B) (d : Data) (row : B) → read before d ≡ Ok row → R before d row)
      → (all : List B) → (optional (kind_at p) (get_member key document) >>= λ ds. bounded most ds >>= rows_at read [])
      ≡ Ok all → IsTable (MayHaveRows R key document) 0 most all
  optional_rows_found found all e =
      let a = bind_ok (optional (kind_at p) (get_member key document)) _ all e in
      let b = bind_ok (bounded most a.0) _ all a.2 in
      let s = most_found most a.0 b.0 b.1 in
      let r = rows_found read R found [] b.0 all b.2 in
      let rows : Rows R [] b.0 all = subst (λ (x : List B). Rows R [] b.0 x) (sym r.1) r.2 in
      let len = rows_len R [] b.0 all rows in
      record {
        has = (
          b.0,
          subst (λ (x : Items). MayHaveItems key document x) s.0 (optional_found p key document a.0 a.1),
          rows,
        );
        some = omega arith;
        few = omega (arith, s.1, len);
      }

  pub optional_rows_again : ((before : List B) (d : Data) (row : B) → R before d row → read before d ≡ Ok row)
      → ((before : List B) (d : Data) (row : B) → R before d row → p d ≡ true)
      → (all : List B) → MayHaveRows R key document all → length all ≤ most
      → (optional (kind_at p) (get_member key document) >>= λ ds. bounded most ds >>= rows_at read []) ≡ Ok all
  optional_rows_again again kind all h few =
      let len = rows_len R [] h.0 all h.2 in
      rw (
        optional_again p key document h.0 h.1 (rows_all R p kind [] h.0 all h.2),
        most_again most h.0 (omega (arith, few, len)),
      ) (rows_again read R again [] h.0 all h.2)
