-- What the fields say that were read without a fault.
use Rattle.std.proofs.Common.{◌≡◌, ℕ, ◌<◌, ◌≤◌, Bool, true, false, cond, List, [], ◌∷◌, codes, pos, Option, None, Some, is_some, Result, Ok, Err, refl, ap, ◌∙◌, inl, inr, arith, ◌==◌, ◌⊎◌, position, bytes_eq, ne_eqb}
use Rattle.std.specs.Cmp.Lexicographic.{bytes_decides}
use Rattle.std.proofs.lemmas.Bool.{eqb-false}
use Rattle.toml.specs.Data.{Data, string, integer, array, table, Items, no_items, Members, get_member, as_str, as_table}
use Rattle.mls_lattice.specs.declared.fault.FieldFault.{FieldFault}
use Rattle.mls_lattice.specs.declared.fault.FieldFault.TheVariants.{MissingField, WrongKind, UnknownName}
use Rattle.mls_lattice.specs.Name.{is_name}
use Rattle.mls_lattice.specs.Policy.{Name, Policy}
use Rattle.mls_lattice.specs.declared.version.Version.{Version}
use Rattle.mls_lattice.specs.Version.{version_number}
use Rattle.mls_lattice.specs.Reading.{◌>>=◌, wanted, text_at, version_at, table_at, name_at, tables_at, optional, items_len, all_items, bounded, some_of}
use Rattle.mls_lattice.proofs.ReadingLemmas.{bind_ok, guard_ok, found_ok, string_from_as_str}
use Rattle.mls_lattice.proofs.SaysLemmas.{field_found, field_again, kind_found as array_of_kind_found, most_found, most_again}
use Rattle.mls_lattice.proofs.SaysTablesLemmas.{table_found as table_at_found, version_found as policy_version_found, version_again as policy_version_again}
use Rattle.mls_scheme.specs.declared.fault.FileFault.TheVariants.{Field, NoKey}
use Rattle.mls_scheme.specs.declared.value.Kind.{Kind}
use Rattle.mls_scheme.specs.declared.value.Kind.TheVariants.{Int, Text}
use Rattle.mls_scheme.specs.Reading.{lift, name_field, text_field, kind_named, label_named, label_field, key_items, other_items, relation_items}
use Rattle.mls_scheme.specs.Document.{tables_of, HoldsTables, kind_word, NamesLabel}

pub lift_ok : {X : Type 0} (r : Result X FieldFault) (x : X) → lift Field r ≡ Ok x → r ≡ Ok x
lift_ok (Ok y) x e = cc
lift_ok (Err f) x e = absurd cc

pub table_found : (d : Data) (t : Members) → lift Field (table_at d) ≡ Ok t → d ≡ table t
table_found d t e = table_at_found d t (lift_ok (table_at d) t e)

text_found : (d : Data) (text : Name) → text_at d ≡ Ok text → d ≡ string text
text_found d text e = string_from_as_str d text (found_ok (as_str d) WrongKind text e)

wanted_found : (key : Name) (fields : Members) (d : Data) → wanted key fields ≡ Ok d → get_member key fields ≡ Some d
wanted_found key fields d e = found_ok (get_member key fields) MissingField d e

pub name_found : (key : Name) (fields : Members) (n : Name) → name_field key fields ≡ Ok n
    → (get_member key fields ≡ Some (string n)) × (is_name n ≡ true)
name_found key fields n e = let found = field_found key fields n (lift_ok (wanted key fields >>= name_at) n e)
    in (found.text, found.is_name)

pub name_again : (key : Name) (fields : Members) (n : Name) → get_member key fields ≡ Some (string n) → is_name n ≡ true
    → name_field key fields ≡ Ok n
name_again key fields n h name = ap (lift Field) (field_again key fields n (record { text = h; is_name = name }))

pub text_field_found : (key : Name) (fields : Members) (n : Name) → text_field key fields ≡ Ok n → get_member key fields
    ≡ Some (string n)
text_field_found key fields n e =
    let a = bind_ok (wanted key fields) text_at n (lift_ok (wanted key fields >>= text_at) n e) in
    wanted_found key fields a.0 a.1 ∙ ap (λ (d : Data). Some d) (text_found a.0 n a.2)

pub text_field_again : (key : Name) (fields : Members) (n : Name) → get_member key fields ≡ Some (string n)
    → text_field key fields ≡ Ok n
text_field_again key fields n h = rw h refl

pub kind_found : (word : Name) (k : Kind) → kind_named word ≡ Ok k → word ≡ kind_word k
kind_found word k e = by_int (bytes_eq word (codes "int")) refl e
  where
    by_text : (b : Bool) → bytes_eq word (codes "text") ≡ b → cond b (Ok Text) (Err (Field UnknownName)) ≡ Ok k
        → word ≡ kind_word k
    by_text true is e = let same : Text ≡ k = cc in (bytes_decides word (codes "text")).0 is ∙ ap kind_word same
    by_text false is e = absurd cc

    by_int : (b : Bool) → bytes_eq word (codes "int") ≡ b
        → cond b (Ok Int) (cond (bytes_eq word (codes "text")) (Ok Text) (Err (Field UnknownName))) ≡ Ok k
        → word ≡ kind_word k
    by_int true is e = let same : Int ≡ k = cc in (bytes_decides word (codes "int")).0 is ∙ ap kind_word same
    by_int false is e = by_text (bytes_eq word (codes "text")) refl e

pub kind_again : (k : Kind) → kind_named (kind_word k) ≡ Ok k
kind_again Int = refl
kind_again Text = refl

pub label_found : (p : Policy) (key : Name) (fields : Members) (label : ℕ) → label_field p.labels key fields ≡ Ok label
    → NamesLabel p (get_member key fields) label
label_found p key fields label e =
    let a = bind_ok (name_field key fields) (label_named p.labels) label e in
    let b = name_found key fields a.0 a.1 in
    record {
      name = a.0;
      field_is = b.0;
      named = b.1;
      declared = found_ok (position (λ l. bytes_eq l.name a.0) p.labels)
          (Field UnknownName) label a.2;
    }

pub label_again : (p : Policy) (key : Name) (fields : Members) (label : ℕ) → NamesLabel p (get_member key fields) label
    → label_field p.labels key fields ≡ Ok label
label_again p key fields label h = rw (name_again key fields h.name h.field_is h.named, h.declared) refl

pub version_found : (document : Members) (v : Version) → lift Field (version_at document) ≡ Ok v
    → get_member (codes "version") document ≡ Some (integer (pos (version_number v)))
version_found document v e = policy_version_found document v (lift_ok (version_at document) v e)

pub version_again : (document : Members) (v : Version) → get_member (codes "version") document
    ≡ Some (integer (pos (version_number v))) → lift Field (version_at document) ≡ Ok v
version_again document v e = ap (lift Field) (policy_version_again document v e)

-- ---- lists of tables

are_tables : (ts : List Members) → all_items (λ x. is_some (as_table x)) (tables_of ts) ≡ true
are_tables [] = refl
are_tables (t ∷ ts) = are_tables ts

tables_at_found : (d : Data) (ds : Items) → tables_at d ≡ Ok ds → d ≡ array ds
tables_at_found = array_of_kind_found (λ x. is_some (as_table x))

pub record KeyTables (fields : Members) (ds : Items) : Type 0 where
  pub field_is : get_member (codes "key") fields ≡ Some (array ds)
  pub some : 0 < items_len ds
  pub few : items_len ds ≤ 4

optional_found : (o : Option Data) (ds : Items) → optional tables_at o ≡ Ok ds → (o ≡ Some (array ds))
    ⊎ ((o ≡ None) × (ds ≡ no_items))
optional_found None ds e = inr (refl, cc)
optional_found (Some d) ds e = inl (ap (λ (x : Data). Some x) (tables_at_found d ds e))

pub key_found : (fields : Members) (ds : Items) → key_items fields ≡ Ok ds → KeyTables fields ds
unfolding key_items
key_found fields ds e =
    let a = bind_ok (lift Field (optional tables_at (get_member (codes "key") fields))) _ ds e in
    let b = guard_ok (items_len a.0 == 0) NoKey (lift Field (bounded 4 a.0)) ds a.2 in
    let c = most_found 4 a.0 ds (lift_ok (bounded 4 a.0) ds b.1) in
    let not_none : items_len a.0 ≡ 0 → ⊥ = eqb-false (items_len a.0) 0 b.0 in
    let len : items_len a.0 ≡ items_len ds = ap items_len c.0 in
    let few = c.1 in
    elim (optional_found (get_member (codes "key") fields) a.0
    (lift_ok (optional tables_at (get_member (codes "key") fields)) a.0 a.1)) [
      | inl there ↦ record {
        field_is = there ∙ ap (λ (x : Items). Some (array x)) c.0;
        some = omega arith;
        few = omega arith;
      }
      | inr missing ↦ absurd (not_none (ap items_len missing.1))
    ]

pub key_again : (fields : Members) (ts : List Members) → HoldsTables (get_member (codes "key") fields) ts
    → 0 < items_len (tables_of ts) → items_len (tables_of ts) ≤ 4 → key_items fields ≡ Ok (tables_of ts)
unfolding key_items
key_again fields ts h some few =
    rw (h, are_tables ts, ne_eqb (items_len (tables_of ts)) 0 (λ e. omega arith), most_again 4 (tables_of ts) few) refl

pub record OtherTables (fields : Members) (ds : Items) : Type 0 where
  pub field_is : (get_member (codes "attribute") fields ≡ Some (array ds))
      ⊎ ((get_member (codes "attribute") fields ≡ None) × (ds ≡ no_items))
  pub few : items_len ds ≤ 15

pub other_found : (fields : Members) (ds : Items) → other_items fields ≡ Ok ds → OtherTables fields ds
unfolding other_items
other_found fields ds e =
    let a = bind_ok (optional tables_at (get_member (codes "attribute") fields)) (bounded 15) ds
    (lift_ok (optional tables_at (get_member (codes "attribute") fields) >>= bounded 15) ds e) in
    let c = most_found 15 a.0 ds a.2 in
    let field : optional tables_at (get_member (codes "attribute") fields) ≡ Ok ds = a.1 ∙ ap (λ (x : Items). Ok x) c.0
    in
    record { field_is = optional_found (get_member (codes "attribute") fields) ds field; few = c.1 }

pub other_again : (fields : Members) (ts : List Members) → (HoldsTables (get_member (codes "attribute") fields) ts
    ⊎ ((get_member (codes "attribute") fields ≡ None) × (ts ≡ []))) → items_len (tables_of ts) ≤ 15
    → other_items fields ≡ Ok (tables_of ts)
unfolding other_items
other_again fields ts (inl there) few = rw (there, are_tables ts, most_again 15 (tables_of ts) few) refl
other_again fields ts (inr missing) few = rw (missing.0, missing.1) refl

pub record RelationTables (document : Members) (ds : Items) : Type 0 where
  pub field_is : get_member (codes "relation") document ≡ Some (array ds)
  pub some : 0 < items_len ds
  pub few : items_len ds ≤ 64

pub relation_found : (document : Members) (ds : Items) → relation_items document ≡ Ok ds → RelationTables document ds
unfolding relation_items
relation_found document ds e =
    let a = bind_ok (wanted (codes "relation") document >>= tables_at) (some_of 64) ds
    (lift_ok (wanted (codes "relation") document >>= tables_at >>= some_of 64) ds e) in
    let b = bind_ok (wanted (codes "relation") document) tables_at a.0 a.1 in
    let c = guard_ok (items_len a.0 == 0) MissingField (bounded 64 a.0) ds a.2 in
    let d = most_found 64 a.0 ds c.1 in
    let not_none : items_len a.0 ≡ 0 → ⊥ = eqb-false (items_len a.0) 0 c.0 in
    let len : items_len a.0 ≡ items_len ds = ap items_len d.0 in
    let few = d.1 in
    record {
      field_is = wanted_found (codes "relation") document b.0 b.1 ∙ ap (λ (x : Data). Some x)
          (tables_at_found b.0 a.0 b.2) ∙ ap (λ (x : Items). Some (array x)) d.0;
      some = omega arith;
      few = omega arith;
    }

pub relation_again : (document : Members) (ts : List Members) → HoldsTables (get_member (codes "relation") document) ts
    → 0 < items_len (tables_of ts) → items_len (tables_of ts) ≤ 64 → relation_items document ≡ Ok (tables_of ts)
unfolding relation_items
relation_again document ts h some few =
    rw (h, are_tables ts, ne_eqb (items_len (tables_of ts)) 0 (λ e. omega arith), most_again 64 (tables_of ts) few) refl
