-- What setting a value and dropping a tuple have in common: which rows are about a tuple, and the rows of other
-- relations.
use Rattle.std.proofs.Common.{◌≡◌, ℕ, ◌+◌, Bool, true, false, cond, not, ◌&&◌, List, [], ◌∷◌, ◌++◌, map, refl, sym, ap, ◌∙◌, subst, inl, inr, IsPermutation, true≢false, nat_eq, bytes_eq, filter, flat_map, eqb-true, eq-eqb}
use Rattle.std.specs.Cmp.Lexicographic.{bytes_decides}
use Rattle.std.specs.FinMap.{entries}
use Rattle.std.proofs.lemmas.Bool.{and_parts, and_from, false_from_ne_true, not_from_false}
use Rattle.std.proofs.lemmas.Bool.Decides.{same_from_decides}
use Rattle.std.proofs.lemmas.List.Elements.{filter-append}
use Rattle.std.proofs.lemmas.List.Sorted.{IsPermutation-trans}
use Rattle.sqlite_trees.proofs.ListLemmas.{filter-map, filter-filter, filter_all, filter_none}
use Rattle.mls_scheme.specs.declared.place.Place.{Place}
use Rattle.mls_scheme.specs.Spelling.{key_spelling, IsSpelledKey}
use Rattle.mls_scheme.specs.Tuple.{at}
use Rattle.mls_scheme.specs.Table.{Table}
use Rattle.mls_scheme.proofs.KeyLemmas.{unambiguous}
use Rattle.mls_scheme.proofs.OrderLemmas.{is_place, is_place-true, is_place-same}
use Rattle.mls_filterview.specs.declared.fragment.Cell.{Cell}
use Rattle.mls_filterview.specs.Stored.{is_entity, with_class}
use Rattle.mls_filterview.specs.Fragment.{cell_at, cells_of}
use Rattle.mls_filterview.specs.Content.{Content, with_table}
use Rattle.mls_filterview.specs.View.{IsAmong}
use Rattle.mls_filterview.proofs.AmongLemmas.{each_among}
use Rattle.mls_filterview.proofs.EntityTests.{entity_decides, entity_is}
use Rattle.mls_filterview.proofs.EntryLemmas.{Entry, among_entries}
use Rattle.mls_filterview.proofs.FragmentLemmas.{cell_found}
use Rattle.mls_tables.specs.Rows.{Tables, numbered, is_cell_in}
use Rattle.mls_rows.specs.Holding.{Holds, HoldsTable, cell_row, cells_in, tuple_key}

-- ---- lists

-- a test that goes by the item that gave the items
pub filter_each : {A B : Type 0} (f : A → List B) (test : B → Bool) (q : A → Bool) (xs : List A)
    → ((x : A) → IsAmong x xs → (y : B) → IsAmong y (f x) → test y ≡ q x) → filter test (flat_map f xs)
    ≡ flat_map f (filter q xs)
filter_each f test q [] h = refl
filter_each {A} {B} f test q (x ∷ xs) h =
    filter-append test (f x) (flat_map f xs)
    ∙ (λ i. one (q x) refl i ++ filter_each f test q xs (λ y k. h y (inr k)) i)
    ∙ elim (q x) as (λ b. cond b (f x) [] ++ flat_map f (filter q xs)
    ≡ flat_map f (cond b (x ∷ filter q xs) (filter q xs))) [ true ↦ refl | false ↦ refl ]
  where
    one : (b : Bool) → q x ≡ b → filter test (f x) ≡ cond b (f x) []
    one true e = filter_all test (f x) (each_among (λ y. test y ≡ true) (f x) (λ y k. h x (inl refl) y k ∙ e))
    one false e = filter_none test (f x) (each_among (λ y. test y ≡ false) (f x) (λ y k. h x (inl refl) y k ∙ e))

-- ---- tests on places

-- the row of a tuple of q is about the entity of p, and passes another test
pub entity_test : (relation : ℕ) (p q : Place) (b : Bool) → IsSpelledKey p.key → IsSpelledKey q.key
    → (nat_eq relation relation && (bytes_eq (key_spelling q.key) (key_spelling p.key)
    && (nat_eq q.key_class p.key_class && b))) ≡ (is_entity p q && b)
entity_test relation p q b hp hq =
    ap (λ x. x && (same && (classes && b))) (eq-eqb relation relation refl)
    ∙ grouped same classes
    ∙ ap (λ x. x && b) (entity_is p q (same && classes) (
      (λ h. (let c = and_parts same classes h in (
        sym (unambiguous.keys q.key p.key hq hp ((bytes_decides _ _).0 c.0)),
        sym (eqb-true _ _ c.1),
      ))),
      (λ h. and_from same classes ((bytes_decides _ _).1 (ap key_spelling (sym h.0))) (eq-eqb _ _ (sym h.1))),
    ))
  where
    same : Bool
    same = bytes_eq (key_spelling q.key) (key_spelling p.key)

    classes : Bool
    classes = nat_eq q.key_class p.key_class

    grouped : (x y : Bool) → (x && (y && b)) ≡ ((x && y) && b)
    grouped true y = refl
    grouped false y = refl

-- a place is known by its entity and its class
pub of_entity : (p q : Place) → is_entity p q ≡ true → q ≡ with_class p q.class
of_entity p q h = let d = (entity_decides p q).0 h in λ i. record {
  key = sym d.0 i;
  key_class = sym d.1 i;
  class =
      q.class;
}

pub place_test : (p q : Place) → (is_entity p q && nat_eq q.class p.class) ≡ is_place q p
place_test p q = same_from_decides {P = q ≡ p} _ _ (
  (λ h. (let c = and_parts (is_entity p q) (nat_eq q.class p.class) h in of_entity p q c.0 ∙ ap (with_class p)
      (eqb-true q.class p.class c.1))),
  (λ e. and_from (is_entity p q) (nat_eq q.class p.class) ((entity_decides p q).1 (
    sym (ap (λ x. x.key) e),
    sym (ap (λ x. x.key_class) e),
  )) (eq-eqb q.class p.class (ap (λ x. x.class) e))),
) (is_place-true q p, is_place-same q p)

-- ---- the cells of one tuple

module _ (relation : ℕ) (T : Table) (p : Place) (spelled : IsSpelledKey p.key) (keys : (e : Entry)
    → IsAmong e (entries T) → IsSpelledKey e.0.key) where
  cell_test : (e : Entry) → IsAmong e (entries T) → (d : Cell) → IsAmong d (cells_of e)
      → is_cell_in (tuple_key relation p) (cell_row relation d) ≡ is_place e.0 p
  cell_test e i d k =
      let f = cell_found 0 e.0 e.1 d k in
      let about : Cell → Bool = λ d. is_cell_in (tuple_key relation p) (cell_row relation d) in
      ap about f.1.1
      ∙ ap (λ m. about (cell_at e.0 (0 + f.0) (record { value = (at e.1 f.0).value; class = m }))) f.1.2
      ∙ entity_test relation p e.0 (nat_eq e.0.class p.class) spelled (keys e i)
      ∙ place_test p e.0

  -- of the rows of cells, those of some places are those of the tuples there
  pub cells_where : (keep : Bool → Bool)
      → filter (λ x. keep (is_cell_in (tuple_key relation p) x)) (map (cell_row relation) (cells_in T))
      ≡ map (cell_row relation) (flat_map cells_of (filter (λ e. keep (is_place e.0 p)) (entries T)))
  cells_where keep =
      filter-map _ (cell_row relation) (cells_in T)
      ∙ ap (map (cell_row relation)) (filter_each cells_of _ (λ e. keep (is_place e.0 p)) (entries T)
      (λ e i d k. ap keep (cell_test e i d k)))

-- ---- the rows of a relation

pub spelled_keys : (t : Tables) (relation : ℕ) (T : Table) → HoldsTable t relation T → (e : Entry)
    → IsAmong e (entries T) → IsSpelledKey e.0.key
spelled_keys t relation T held e i = (held.shared e.0 e.1 (among_entries T e i)).key

-- where only rows of one relation are left out, those of another stay
pub others_stay : {X : Type 0} (rel_of : X → ℕ) (test : X → Bool) (relation r : ℕ) → ((x : X) → test x ≡ true
    → nat_eq (rel_of x) relation ≡ true) → nat_eq r relation ≡ false → (xs : List X)
    → filter (λ x. nat_eq (rel_of x) r) (filter (λ x. not (test x)) xs) ≡ filter (λ x. nat_eq (rel_of x) r) xs
others_stay rel_of test relation r of other =
    filter-filter (λ x. nat_eq (rel_of x) r) (λ x. not (test x)) (λ x here. not_from_false (test x)
    (false_from_ne_true (test x) (λ t.
    true≢false (sym (eq-eqb r relation (sym (eqb-true (rel_of x) r here) ∙ eqb-true (rel_of x) relation (of x t)))
    ∙ other))))

-- a relation whose rows are the same in another order
pub holds_same : (t u : Tables) (r : ℕ) (T : Table) → HoldsTable t r T
    → IsPermutation (filter (λ n. nat_eq n.rel r) t.nodes) (filter (λ n. nat_eq n.rel r) u.nodes)
    → IsPermutation (filter (λ x. nat_eq x.rel r) t.cells) (filter (λ x. nat_eq x.rel r) u.cells) → HoldsTable u r T
holds_same t u r T h nodes cells = record {
  nodes = IsPermutation-trans _ _ _ h.nodes nodes;
  cells =
      IsPermutation-trans _ _ _ h.cells cells;
  shared = h.shared;
}

-- one relation is changed
pub holds_with : (t u : Tables) (c : Content) (relation : ℕ) (T : Table) → Holds t c → u.audit ≡ t.audit
    → HoldsTable u relation T → ((r : ℕ) → nat_eq r relation ≡ false → HoldsTable u r (c.db r))
    → Holds u (record c { db = with_table c.db relation T })
holds_with t u c relation T h same here others = record {
  tables = λ r. by r (nat_eq r relation) refl;
  audit = subst (IsPermutation (numbered 1 c.audit)) (sym same) h.audit;
}
  where
    by : (r : ℕ) (b : Bool) → nat_eq r relation ≡ b → HoldsTable u r (cond b T (c.db r))
    by r true e = subst (λ k. HoldsTable u k T) (sym (eqb-true r relation e)) here
    by r false e = others r e
