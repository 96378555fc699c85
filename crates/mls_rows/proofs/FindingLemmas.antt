-- Tuples that are put together from a store's rows, and that have just these rows, are what the rows hold.
use Rattle.std.proofs.Common.{◌≡◌, ◌⊎◌, inl, inr, ℕ, zero, suc, ◌+◌, ◌<◌, ◌≤◌, Bool, cond, List, [], ◌∷◌, ◌++◌, map, filter, flat_map, length, Option, None, Some, take, get_or, refl, sym, ap, subst, ◌∙◌, append-nil, append_assoc, zero-add, add-one, take-suc, arith, IsPermutation, nat_eq, slice_index_or, IfSome, unwrap_or, ne_eqb, eq-eqb, length-take}
use Rattle.std.specs.List.{AllByRecursion}
use Rattle.std.specs.FinMap.{get, entries}
use Rattle.std.specs.List.Sorted.{IsStrictlySortedBy}
use Rattle.std.specs.Map.{keys_of}
use Rattle.std.proofs.lemmas.List.{map-append, length-map}
use Rattle.std.proofs.lemmas.List.Elements.{filter-append}
use Rattle.std.proofs.lemmas.List.Sorted.{IsPermutation-trans, IsPermutation-sym}
use Rattle.sqlite_trees.proofs.ListLemmas.{IsPermutation-filter}
use Rattle.mls_lattice.specs.Labels.{Labels}
use Rattle.mls_lattice.proofs.LatticeLemmas.{below-refl}
use Rattle.mls_scheme.specs.declared.value.Value.{Value}
use Rattle.mls_scheme.specs.declared.tuple.Element.{Element}
use Rattle.mls_scheme.specs.declared.place.Place.{Place}
use Rattle.mls_scheme.specs.Spelling.{HasSpelling, IsSpelledKey}
use Rattle.mls_scheme.specs.Scheme.{Scheme, Schemes, scheme_of}
use Rattle.mls_scheme.specs.Tuple.{at}
use Rattle.mls_scheme.specs.Table.{place_cmp, Table}
use Rattle.mls_filterview.specs.Assembly.{CellPlace, elements_from, table_of}
use Rattle.mls_filterview.specs.Stored.{with_class, IsStored, IsContent, AreContent}
use Rattle.mls_filterview.specs.Fragment.{node_of, cells_of, place_of_node}
use Rattle.mls_filterview.specs.View.{IsAmong}
use Rattle.mls_filterview.proofs.AmongLemmas.{each_among, all_at, among_flat_map}
use Rattle.mls_filterview.proofs.FragmentLemmas.{cell_found}
use Rattle.mls_filterview.proofs.ListedLemmas.{in_map}
use Rattle.mls_filterview.proofs.RecoveringLemmas.{entries-table_of, in_table_of}
use Rattle.mls_filterview.proofs.MapLemmas.{none_sorted}
use Rattle.mls_tables.specs.declared.rows.NodeRow.{NodeRow}
use Rattle.mls_tables.specs.declared.rows.CellRow.{CellRow}
use Rattle.mls_tables.specs.declared.adopting.AllRows.{AllRows}
use Rattle.mls_tables.specs.Adopting.{AreAll}
use Rattle.mls_tables.specs.Rows.{Tables, numbered}
use Rattle.mls_rows.specs.Changes.{Entries, table_in, found}
use Rattle.mls_rows.specs.Finding.{IsAssembled, AreAssembled, AreTables, IsSpelledEntry, node_rows, cell_rows}
use Rattle.mls_rows.specs.Holding.{Holds, IsSharedTuple, node_row, cell_row, IsSpelledCell}

-- ---- what is put together has spellings

module _ (relation : ℕ) (nodes : List NodeRow) (cells : List CellRow) (es : Entries)
    (made : IsAssembled relation nodes cells es) where
  spelled_value : (s : CellPlace) (o : Option (Option Value)) → made.held s ≡ o → IfSome (unwrap_or o None) HasSpelling
  spelled_value s None h = tt
  spelled_value s (Some v) h = (let r = made.values.sound s v h in subst (λ x. IfSome x HasSpelling) r.3
      (all_at IsSpelledCell made.cs made.cells_spelled r.0 r.1).1)

  spelled_elements : (p : Place) (k : ℕ) (ms : List ℕ) → AllByRecursion (λ x. IfSome x.value HasSpelling)
      (elements_from made.held p k ms)
  spelled_elements p k [] = tt
  spelled_elements p k (m ∷ ms) = (
    spelled_value (with_class p m, k) (made.held (with_class p m, k)) refl,
    spelled_elements p (suc k) ms,
  )

  spelled_entry : (e : Place × List Element) → IsAmong e es → IsSpelledEntry e
  spelled_entry e i =
      let r = made.rows.sound e.0 e.1 ((in_map es made.sorted e).0 i) in (
        subst (λ p. IsSpelledKey p.key) r.2 (all_at (λ n. IsSpelledKey n.key) made.ns made.nodes_spelled r.0 r.1),
        subst (AllByRecursion (λ x. IfSome x.value HasSpelling)) r.3
            (spelled_elements (place_of_node r.0) 0 r.0.pattern),
      )

  pub spelled_entries : AllByRecursion IsSpelledEntry es
  spelled_entries = each_among IsSpelledEntry es spelled_entry

-- ---- the rows of one relation among those of all

-- rows of tables, whose relations are numbered from k
module _ {R : Type 0} (rel_of : R → ℕ) (rows : ℕ → Entries → List R) (none : (k : ℕ) → rows k [] ≡ [])
    (own : (k : ℕ) (es : Entries) → AllByRecursion (λ r. rel_of r ≡ k) (rows k es)) where
  abbrev pub rows_from : ℕ → List Entries → List R
  rows_from k [] = []
  rows_from k (es ∷ tables) = rows k es ++ rows_from (suc k) tables

  abbrev is_of : ℕ → R → Bool
  is_of relation r = nat_eq (rel_of r) relation

  all_of_rel : (k : ℕ) (xs : List R) → AllByRecursion (λ r. rel_of r ≡ k) xs → filter (is_of k) xs ≡ xs
  all_of_rel k [] h = refl
  all_of_rel k (x ∷ xs) h = ap (λ b. cond b (x ∷ filter (is_of k) xs) (filter (is_of k) xs)) (eq-eqb (rel_of x) k h.0)
      ∙ ap (λ l. x ∷ l) (all_of_rel k xs h.1)

  none_of_rel : (k relation : ℕ) (xs : List R) → (k ≡ relation → ⊥) → AllByRecursion (λ r. rel_of r ≡ k) xs
      → filter (is_of relation) xs ≡ []
  none_of_rel k relation [] n h = refl
  none_of_rel k relation (x ∷ xs) n h = ap (λ b. cond b (x ∷ filter (is_of relation) xs) (filter (is_of relation) xs))
      (ne_eqb (rel_of x) relation (λ e. n (sym h.0 ∙ e))) ∙ none_of_rel k relation xs n h.1

  none_before : (k relation : ℕ) (tables : List Entries) → relation < k → filter (is_of relation) (rows_from k tables)
      ≡ []
  none_before k relation [] l = refl
  none_before k relation (es ∷ tables) l =
      filter-append (is_of relation) (rows k es) (rows_from (suc k) tables)
      ∙ ap (λ xs. xs ++ filter (is_of relation) (rows_from (suc k) tables)) (none_of_rel k relation (rows k es)
      (λ e. omega (arith, l, e)) (own k es))
      ∙ none_before (suc k) relation tables (omega (arith, l))

  -- those of one relation are the rows of its table
  pub rows_of_rel : (k j : ℕ) (tables : List Entries) → filter (is_of (k + j)) (rows_from k tables)
      ≡ rows (k + j) (slice_index_or tables j [])
  rows_of_rel k j [] = sym (none (k + j))
  rows_of_rel k zero (es ∷ tables) =
      filter-append (is_of (k + 0)) (rows k es) (rows_from (suc k) tables)
      ∙ ap (λ xs. xs ++ filter (is_of (k + 0)) (rows_from (suc k) tables)) (ap (λ n. filter (is_of n) (rows k es))
      (omega arith) ∙ all_of_rel k (rows k es) (own k es))
      ∙ ap (λ xs. rows k es ++ xs) (none_before (suc k) (k + 0) tables (omega arith))
      ∙ append-nil (rows k es) ∙ ap (λ n. rows n es) (omega arith)
  rows_of_rel k (suc j) (es ∷ tables) =
      filter-append (is_of (k + suc j)) (rows k es) (rows_from (suc k) tables)
      ∙ ap (λ xs. xs ++ filter (is_of (k + suc j)) (rows_from (suc k) tables)) (none_of_rel k (k + suc j) (rows k es)
      (λ e. omega (arith, e)) (own k es))
      ∙ subst (λ n. filter (is_of n) (rows_from (suc k) tables) ≡ rows n (slice_index_or tables j [])) (omega arith)
      (rows_of_rel (suc k) j tables)

  rows_push : (k : ℕ) (tables : List Entries) (es : Entries) → rows_from k (tables ++ es ∷ []) ≡ rows_from k tables
      ++ rows (k + length tables) es
  rows_push k [] es = append-nil (rows k es) ∙ ap (λ n. rows n es) (omega arith)
  rows_push k (fs ∷ tables) es =
      ap (λ l. rows k fs ++ l) (rows_push (suc k) tables es ∙ ap (λ n. rows_from (suc k) tables ++ rows n es)
      (omega arith))
      ∙ sym (append_assoc (rows k fs) (rows_from (suc k) tables) (rows (k + length (fs ∷ tables)) es))

  -- the rows of the first tables, and of the one after them
  pub rows_next : {B : Type 0} (f : B → Entries) (tables : List B) (i : ℕ) (t : B) → i < length tables
      → t ≡ get_or tables i t → rows_from 0 (map f (take (i + 1) tables)) ≡ rows_from 0 (map f (take i tables))
      ++ rows i (f t)
  rows_next f tables i t l is =
      let count : length (map f (take i tables)) ≡ i = omega (
        arith,
        l,
        length-map (take i tables) f,
        length-take i tables,
      ) in
      ap (rows_from 0) (ap (λ n. map f (take n tables)) (add-one i) ∙ ap (map f) (take-suc tables i t l) ∙ map-append f
      (take i tables) (get_or tables i t ∷ []) ∙ ap (λ x. map f (take i tables) ++ f x ∷ []) (sym is))
      ∙ rows_push 0 (map f (take i tables)) (f t) ∙ ap (λ n. rows_from 0 (map f (take i tables)) ++ rows n (f t))
      (omega (arith, count))

-- ---- tables by their numbers

pub table_at : {B : Type 0} (f : B → Entries) (tables : List B) (i : ℕ) (t : B) → i < length tables
    → t ≡ get_or tables i t → slice_index_or (map f tables) i [] ≡ f t
table_at f [] i t l is = absurd (omega (arith, l))
table_at f (u ∷ tables) zero t l is = ap f (sym is)
table_at f (u ∷ tables) (suc i) t l is = table_at f tables i t (omega (arith, l)) is

-- up to a number, and at it
pub up_to : (P : ℕ → Type 0) (n : ℕ) → ((i : ℕ) → i < n → P i) → P n → (i : ℕ) → i < n + 1 → P i
up_to P n before here i l = elim (cases_lt i n) [ inl m ↦ before i m | inr m ↦ subst P (omega (arith, l, m)) here ]
  where
    cases_lt : (i n : ℕ) → (i < n) ⊎ (n ≤ i)
    cases_lt i zero = inr (omega arith)
    cases_lt zero (suc n) = inl (omega arith)
    cases_lt (suc i) (suc n) = elim (cases_lt i n) [ inl h ↦ inl (omega (arith, h)) | inr h ↦ inr (omega (arith, h)) ]

-- one more at the end
pub at_last : (P : ℕ → Entries → Type 0) (tables : List Entries) (es : Entries) → ((i : ℕ) → i < length tables
    → P i (slice_index_or tables i [])) → P (length tables) es
    → (i : ℕ) → i < length (tables ++ es ∷ []) → P i (slice_index_or (tables ++ es ∷ []) i [])
at_last P [] es before here zero l = here
at_last P [] es before here (suc i) l = absurd (omega (arith, l))
at_last P (fs ∷ tables) es before here zero l = before 0 (omega arith)
at_last P (fs ∷ tables) es before here (suc i) l = at_last (λ n. P (suc n)) tables es
    (λ n m. before (suc n) (omega (arith, m))) here i (omega (arith, l))

-- ---- spellings of nodes and cells

value_at : (es : List Element) → AllByRecursion (λ x. IfSome x.value HasSpelling) es → (i : ℕ) → i < length es
    → IfSome (at es i).value HasSpelling
value_at [] h i l = absurd (omega (arith, l))
value_at (x ∷ es) h zero l = h.0
value_at (x ∷ es) h (suc i) l = value_at es h.1 i (omega (arith, l))

pub nodes_spelled : (es : Entries) → AllByRecursion IsSpelledEntry es → AllByRecursion (λ n. IsSpelledKey n.key)
    (map node_of es)
nodes_spelled [] h = tt
nodes_spelled (e ∷ es) h = (h.0.0, nodes_spelled es h.1)

pub cells_spelled : (es : Entries) → AllByRecursion IsSpelledEntry es → AllByRecursion IsSpelledCell
    (flat_map cells_of es)
cells_spelled es h = each_among IsSpelledCell (flat_map cells_of es) (λ d k.
    let r = among_flat_map cells_of es d k in
    let f = cell_found 0 r.0.0 r.0.1 d r.2 in
    let spelled = all_at IsSpelledEntry es h r.0 r.1 in
    subst IsSpelledCell (sym f.1.1) (spelled.0, value_at r.0.1 spelled.1 f.0 f.1.0))

-- an item of a list of which all are so
pub item_is : {A : Type 0} (P : A → Type 0) (xs : List A) (i : ℕ) (x : A) → AllByRecursion P xs → i < length xs
    → x ≡ get_or xs i x → P x
item_is P [] i x h l is = absurd (omega (arith, l))
item_is P (y ∷ xs) zero x h l is = subst P (sym is) h.0
item_is P (y ∷ xs) (suc i) x h l is = item_is P xs i x h.1 (omega (arith, l)) is

-- ---- so the tables found are held

all_same_rel : {A R : Type 0} (rel_of : R → ℕ) (f : A → R) (k : ℕ) → ((a : A) → rel_of (f a) ≡ k) → (xs : List A)
    → AllByRecursion (λ r. rel_of r ≡ k) (map f xs)
all_same_rel rel_of f k same [] = tt
all_same_rel rel_of f k same (x ∷ xs) = (same x, all_same_rel rel_of f k same xs)

pub nodes_of_rel : (tables : List Entries) (relation : ℕ) → filter (λ r. nat_eq r.rel relation) (node_rows 0 tables)
    ≡ map (node_row relation) (map node_of (slice_index_or tables relation []))
nodes_of_rel tables relation =
    subst (λ n. filter (λ r. nat_eq r.rel n) (node_rows 0 tables) ≡ map (node_row n)
    (map node_of (slice_index_or tables relation []))) (zero-add relation)
    (rows_of_rel (λ r. r.rel) (λ k es. map (node_row k) (map node_of es)) (λ k. refl) (λ k es. all_same_rel (λ r. r.rel)
    (node_row k) k (λ n. refl) (map node_of es)) 0 relation tables)

pub cells_of_rel : (tables : List Entries) (relation : ℕ) → filter (λ r. nat_eq r.rel relation) (cell_rows 0 tables)
    ≡ map (cell_row relation) (flat_map cells_of (slice_index_or tables relation []))
cells_of_rel tables relation =
    subst (λ n. filter (λ r. nat_eq r.rel n) (cell_rows 0 tables) ≡ map (cell_row n)
    (flat_map cells_of (slice_index_or tables relation []))) (zero-add relation)
    (rows_of_rel (λ r. r.rel) (λ k es. map (cell_row k) (flat_map cells_of es)) (λ k. refl)
    (λ k es. all_same_rel (λ r. r.rel) (cell_row k) k (λ n. refl) (flat_map cells_of es)) 0 relation tables)

pub node_rows_next : {B : Type 0} (f : B → Entries) (tables : List B) (i : ℕ) (t : B) → i < length tables
    → t ≡ get_or tables i t
    → node_rows 0 (map f (take (i + 1) tables)) ≡ node_rows 0 (map f (take i tables)) ++ map (node_row i)
    (map node_of (f t))
node_rows_next = rows_next (λ r. r.rel) (λ k es. map (node_row k) (map node_of es)) (λ k. refl)
    (λ k es. all_same_rel (λ r. r.rel) (node_row k) k (λ n. refl) (map node_of es))

pub cell_rows_next : {B : Type 0} (f : B → Entries) (tables : List B) (i : ℕ) (t : B) → i < length tables
    → t ≡ get_or tables i t
    → cell_rows 0 (map f (take (i + 1) tables)) ≡ cell_rows 0 (map f (take i tables)) ++ map (cell_row i)
    (flat_map cells_of (f t))
cell_rows_next = rows_next (λ r. r.rel) (λ k es. map (cell_row k) (flat_map cells_of es)) (λ k. refl)
    (λ k es. all_same_rel (λ r. r.rel) (cell_row k) k (λ n. refl) (flat_map cells_of es))

-- in a table of the stored form each element is kept with the tuple of its class
shared : (ls : Labels) (n : ℕ) (T : Table) → IsStored ls n T → (p : Place) (es : List Element) → get T p ≡ Some es
    → IsSpelledEntry (p, es) → IsSharedTuple T p es
shared ls n T stored p es h spelled = record {
  key = spelled.0;
  values = λ i l. value_at es spelled.1 i l;
  own = λ i l.
      let st = stored p es h in
      let m : ℕ = (at es i).class in
      let cl = st.closed m (inr (i, l, refl)) in
      let agree : at cl.0 i ≡ at es i = cl.2 i l (below-refl ls m) in
      let within : i < length cl.0 = omega (arith, (stored (with_class p m) cl.0 cl.1).count, st.count) in
      (cl.0, cl.1, within, agree);
}

module _ (ls : Labels) (tables : List Entries) (audit : List (List ℕ)) (t : Tables)
    (sorted : (relation : ℕ) → IsStrictlySortedBy place_cmp (keys_of (slice_index_or tables relation [])))
    (spelled : (relation : ℕ) → AllByRecursion IsSpelledEntry (slice_index_or tables relation []))
    (stored : (relation : ℕ) → (n : ℕ) × IsStored ls n (table_in tables relation))
    (nodes : IsPermutation (node_rows 0 tables) t.nodes) (cells : IsPermutation (cell_rows 0 tables) t.cells)
    (listed : IsPermutation (numbered 1 audit) t.audit) where
  same_entries : (relation : ℕ) → entries (table_in tables relation) ≡ slice_index_or tables relation []
  same_entries relation = entries-table_of (slice_index_or tables relation []) (sorted relation)

  pub holds_found : Holds t (found tables audit)
  holds_found = record {
    tables = λ relation. record {
      nodes = subst (λ xs. IsPermutation xs (filter (λ r. nat_eq r.rel relation) t.nodes)) (nodes_of_rel tables relation
          ∙ ap (λ xs. map (node_row relation) (map node_of xs)) (sym (same_entries relation)))
          (IsPermutation-filter (λ r. nat_eq r.rel relation) (node_rows 0 tables) t.nodes nodes);
      cells = subst (λ xs. IsPermutation xs (filter (λ r. nat_eq r.rel relation) t.cells)) (cells_of_rel tables relation
          ∙ ap (λ xs. map (cell_row relation) (flat_map cells_of xs)) (sym (same_entries relation)))
          (IsPermutation-filter (λ r. nat_eq r.rel relation) (cell_rows 0 tables) t.cells cells);
      shared = λ p es h.
          shared ls (stored relation).0 (table_in tables relation) (stored relation).1 p es h
          (all_at IsSpelledEntry (slice_index_or tables relation []) (spelled relation) (p, es)
          ((in_table_of (slice_index_or tables relation []) (sorted relation) (p, es)).1 h));
    };
    audit = listed;
  }

-- ---- what is found

-- what holds of each table that is there, and of none, holds of each number
at_each : (P : Entries → Type 0) → P [] → (tables : List Entries) → ((relation : ℕ) → relation < length tables
    → P (slice_index_or tables relation [])) → (relation : ℕ) → P (slice_index_or tables relation [])
at_each P none [] h relation = none
at_each P none (es ∷ tables) h zero = h 0 (omega arith)
at_each P none (es ∷ tables) h (suc relation) = at_each P none tables (λ r l. h (suc r) (omega (arith, l))) relation

pub nothing : (p : Place) (es : List Element) → get (table_of []) p ≡ Some es → ⊥
nothing p es h = (in_table_of [] none_sorted (p, es)).1 h

empty_content : (ls : Labels) (scheme : Scheme) → IsContent ls scheme (table_of [])
empty_content ls scheme = record {
  stored = λ p es h. absurd (nothing p es h);
  fits = λ p es h. absurd (nothing p es h);
}

-- a number of a table, or one past all of them
pub within : (relation : ℕ) (tables : List Entries) → (relation < length tables) ⊎ ((length tables ≤ relation)
    × (slice_index_or tables relation [] ≡ []))
within relation [] = inr (omega arith, refl)
within zero (es ∷ tables) = inl (omega arith)
within (suc relation) (es ∷ tables) = elim (within relation tables) [
  | inl l ↦ inl (omega (arith, l))
  | inr e ↦ inr
      (omega (arith, e.0), e.1)
]

pub are_content : (ls : Labels) (schemes : Schemes) (tables : List Entries) → AreTables ls schemes tables
    → AreContent ls schemes (table_in tables)
are_content ls schemes tables h relation = elim (within relation tables) [
  | inl l ↦ h relation l
  | inr e ↦ subst (λ es. IsContent ls (scheme_of schemes relation) (table_of es)) (sym e.1)
      (empty_content ls (scheme_of schemes relation))
]

pub finds : (ls : Labels) (schemes : Schemes) (rows : AllRows) (tables : List Entries) (audit : List (List ℕ))
    → AreAssembled rows.nodes.items rows.cells.items tables → AreTables ls schemes tables
    → IsPermutation (node_rows 0 tables) rows.nodes.items → IsPermutation (cell_rows 0 tables) rows.cells.items
    → IsPermutation (numbered 1 audit) rows.entries.items
    → (t : Tables) → AreAll t rows → Holds t (found tables audit)
finds ls schemes rows tables audit made content nodes cells listed t all =
    holds_found ls tables audit t
    (at_each (λ es. IsStrictlySortedBy place_cmp (keys_of es)) none_sorted tables
    (λ relation l. (made relation l).sorted))
    (at_each (AllByRecursion IsSpelledEntry) tt tables
    (λ relation l. spelled_entries relation rows.nodes.items rows.cells.items (slice_index_or tables relation [])
    (made relation l)))
    (λ relation. (length (scheme_of schemes relation).others, (are_content ls schemes tables content relation).stored))
    (IsPermutation-trans _ _ _ nodes (IsPermutation-sym _ _ all.0))
    (IsPermutation-trans _ _ _ cells (IsPermutation-sym _ _ all.1.0))
    (IsPermutation-trans _ _ _ listed (IsPermutation-sym _ _ all.1.1))

-- what holds of tables by their numbers holds of each
pub tables_each : {B : Type 0} (P : Entries → Type 0) (f : B → Entries) (tables : List B)
    → ((relation : ℕ) → relation < length (map f tables) → P (slice_index_or (map f tables) relation []))
    → AllByRecursion (λ t. P (f t)) tables
tables_each P f [] h = tt
tables_each P f (t ∷ tables) h = (
  h 0 (omega arith),
  tables_each P f tables (λ relation l. h (suc relation)
      (omega (arith, l))),
)

-- the tables found are spelled
pub tables_spelled : {B : Type 0} (f : B → Entries) (nodes : List NodeRow) (cells : List CellRow) (tables : List B)
    → AreAssembled nodes cells (map f tables) → AllByRecursion (λ t. AllByRecursion IsSpelledEntry (f t)) tables
tables_spelled f nodes cells tables made = tables_each (AllByRecursion IsSpelledEntry) f tables
    (λ relation l. spelled_entries relation nodes cells (slice_index_or (map f tables) relation []) (made relation l))
