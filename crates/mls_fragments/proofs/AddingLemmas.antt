-- A tuple is added, or an entry.
use Rattle.std.proofs.Common.{◌≡◌, ℕ, ◌+◌, ◌<◌, pos, Bool, true, false, cond, List, [], ◌∷◌, ◌++◌, map, length, Some, None, refl, sym, ap, ◌∙◌, subst, arith, IsPermutation, nat_eq, ◌≢◌, IfSome, filter, flat_map, is_eq, true≢false, eqb-true, eq-eqb}
use Rattle.std.specs.List.{AllByRecursion}
use Rattle.std.specs.declared.cmp.Ordering.TheVariants.{Less, Equal, Greater}
use Rattle.std.specs.FinMap.{empty, get, insert, entries, get-empty, get-entries, entries-insert, len-empty, len-entries, find}
use Rattle.std.specs.FinMap.Entries.{put, by_order}
use Rattle.std.proofs.lemmas.Bool.{cond-true, cond-false, false_from_ne_true}
use Rattle.std.proofs.lemmas.List.{map-append, nil_from_length}
use Rattle.std.proofs.lemmas.List.Elements.{filter-append}
use Rattle.std.proofs.lemmas.List.Sorted.{IsPermutation-refl, IsPermutation-trans, IsPermutation-cons, IsPermutation-middle, IsPermutation-map, IsPermutation-to_front, IsPermutation-append_right}
use Rattle.std.proofs.lemmas.Option.{none-some, same_Some}
use Rattle.sqlite_trees.proofs.ListLemmas.{all_of, all-map, filter_all, filter_none, IsPermutation-filter, IsPermutation-flat_map, IsPermutation-same}
use Rattle.mls_scheme.specs.declared.tuple.Element.{Element}
use Rattle.mls_scheme.specs.declared.place.Place.{Place}
use Rattle.mls_scheme.specs.Spelling.{HasSpelling, IsSpelledKey}
use Rattle.mls_scheme.specs.Tuple.{at}
use Rattle.mls_scheme.specs.Table.{place_cmp, Table}
use Rattle.mls_scheme.proofs.OrderLemmas.{place_total, is_place, is_place-true, is_place-same}
use Rattle.mls_scheme.proofs.TableLemmas.{get_put}
use Rattle.mls_filterview.specs.declared.fragment.Node.{Node}
use Rattle.mls_filterview.specs.declared.fragment.Cell.{Cell}
use Rattle.mls_filterview.specs.Stored.{with_class}
use Rattle.mls_filterview.specs.Content.{Content, no_content, with_table}
use Rattle.mls_filterview.specs.Fragment.{node_of, cells_of, cell_at, cells_from, place_of_node, IsMadeOf, IsCellOf}
use Rattle.mls_filterview.specs.View.{IsAmong}
use Rattle.mls_filterview.proofs.AmongLemmas.{all_at}
use Rattle.mls_filterview.proofs.EntryLemmas.{Entry}
use Rattle.mls_filterview.proofs.FragmentLemmas.{cell_among}
use Rattle.mls_tables.specs.declared.rows.AuditRow.{AuditRow}
use Rattle.mls_tables.specs.Rows.{Tables, described, numbered}
use Rattle.mls_tables.specs.Statements.{AddsEntry, ClearsEntries}
use Rattle.mls_rows.specs.Holding.{Holds, HoldsTable, IsSharedTuple, AddsTuple, node_row, cell_row, nodes_in, cells_in}
use Rattle.mls_rows.proofs.WrittenLemmas.{holds_same, holds_with}

-- ---- nothing

no_entries : entries (empty {X = List Element} {R = place_cmp}) ≡ []
no_entries = nil_from_length (entries (empty {R = place_cmp})) (sym (len-entries empty) ∙ len-empty place_cmp
    (List Element))

-- a new store holds no content
pub holds_none : (version : ℕ) (lattice schemes : List ℕ) → Holds (described version lattice schemes) no_content
holds_none version lattice schemes = record {
  tables = λ relation. record {
    nodes = IsPermutation-same _ _ (ap (λ es. map (node_row relation) (map node_of es)) no_entries);
    cells = IsPermutation-same _ _ (ap (λ es. map (cell_row relation) (flat_map cells_of es)) no_entries);
    shared = λ p es e. absurd (none-some es (sym (get-empty place_cmp p) ∙ e));
  };
  audit = IsPermutation-refl [];
}

-- ---- an entry

numbered_push : (k : ℕ) (bs : List (List ℕ)) (b : List ℕ) → numbered k (bs ++ b ∷ []) ≡ numbered k bs
    ++ record { number = pos (length bs + k); bytes = b } ∷ []
numbered_push k [] b = ap (λ m. record { number = pos m; bytes = b } ∷ []) (omega arith)
numbered_push k (d ∷ bs) b =
    ap (λ l. record { number = pos k; bytes = d } ∷ l)
    (numbered_push (k + 1) bs b ∙ ap (λ m. numbered (k + 1) bs ++ record { number = pos m; bytes = b } ∷ [])
    (omega arith))

pub holds_entry : (t u : Tables) (c : Content) (bytes : List ℕ)
    → Holds t c → AddsEntry (record { number = pos (length c.audit + 1); bytes = bytes }) t u
    → Holds u (record c { audit = c.audit ++ bytes ∷ [] })
holds_entry t u c bytes held adds =
    let entry : AuditRow = record { number = pos (length c.audit + 1); bytes = bytes } in
    record {
      tables = λ relation. holds_same t u relation (c.db relation) (held.tables relation)
          (IsPermutation-same _ _ (ap (λ w. filter (λ n. nat_eq n.rel relation) w.nodes) (sym adds.0)))
          (IsPermutation-same _ _ (ap (λ w. filter (λ x. nat_eq x.rel relation) w.cells) (sym adds.0)));
      audit =
          subst (λ l. IsPermutation l u.audit) (sym (numbered_push 1 c.audit bytes))
          (IsPermutation-trans _ _ _ (IsPermutation-to_front (numbered 1 c.audit) entry) (IsPermutation-trans _ _ _
          (IsPermutation-cons entry _ _ held.audit) adds.1));
    }

pub holds_no_entries : (t u : Tables) (c : Content) → Holds t c → ClearsEntries t u → Holds u (record c { audit = [] })
holds_no_entries t u c held clears = record {
  tables = λ relation. holds_same t u relation (c.db relation) (held.tables relation)
      (IsPermutation-same _ _ (ap (λ w. filter (λ n. nat_eq n.rel relation) w.nodes) (sym clears)))
      (IsPermutation-same _ _ (ap (λ w. filter (λ x. nat_eq x.rel relation) w.cells) (sym clears)));
  audit = IsPermutation-same _ _ (ap (λ w. w.audit) (sym clears));
}

-- ---- rows that are added

module _ {X : Type 0} (test : X → Bool) (more old new : List X) (adds : IsPermutation (more ++ old) new) where
  added_here : (kept : List X) → AllByRecursion (λ x. test x ≡ true) more → IsPermutation kept (filter test old)
      → IsPermutation (more ++ kept) (filter test new)
  added_here kept here held =
      IsPermutation-trans _ _ _ (IsPermutation-append_right more _ _ held)
      (subst (λ l. IsPermutation l (filter test new)) (filter-append test more old ∙ ap (λ l. l ++ filter test old)
      (filter_all test more here)) (IsPermutation-filter test _ _ adds))

  added_elsewhere : AllByRecursion (λ x. test x ≡ false) more → IsPermutation (filter test old) (filter test new)
  added_elsewhere elsewhere =
      subst (λ l. IsPermutation l (filter test new)) (filter-append test more old ∙ ap (λ l. l ++ filter test old)
      (filter_none test more elsewhere)) (IsPermutation-filter test _ _ adds)

-- ---- the entries of a table with a tuple more

put_new : (p : Place) (es : List Element) (ds : List Entry) → find place_cmp p ds ≡ None
    → IsPermutation (put place_cmp p es ds) ((p, es) ∷ ds)
put_new p es [] none = IsPermutation-refl _
put_new p es (d ∷ ds) none =
    elim (place_cmp p d.0) as (λ o. cond (is_eq o) (Some d.1) (find place_cmp p ds) ≡ None
    → IsPermutation (by_order o ((p, es) ∷ d ∷ ds) ((d.0, es) ∷ ds) (d ∷ put place_cmp p es ds))
    ((p, es) ∷ d ∷ ds)) [
      | Less ↦ λ h. IsPermutation-refl _
      | Equal ↦ λ h. absurd (none-some d.1 (sym h))
      | Greater ↦ λ h. IsPermutation-trans _ _ _ (IsPermutation-cons d _ _ (put_new p es ds h))
          (IsPermutation-middle (d ∷ []) (p, es) ds)
    ] none

module _ (T : Table) (p : Place) (es : List Element) (none : get T p ≡ None) where
  abbrev with_tuple : Table
  with_tuple = insert T p es

  pub entries_new : IsPermutation (entries with_tuple) ((p, es) ∷ entries T)
  entries_new = subst (λ l. IsPermutation l ((p, es) ∷ entries T)) (sym (entries-insert place_total T p es))
      (put_new p es (entries T) (sym (get-entries T p) ∙ none))

  pub get_new : (q : Place) → q ≡ p → get with_tuple q ≡ Some es
  get_new q e = get_put T p es q ∙ cond-true _ _ _ (is_place-same q p e)

  pub get_old : (q : Place) (us : List Element) → get T q ≡ Some us → get with_tuple q ≡ Some us
  get_old q us e = get_put T p es q ∙ cond-false _ _ _ (false_from_ne_true (is_place q p)
      (λ b. none-some us (sym none ∙ ap (get T) (sym (is_place-true q p b)) ∙ e))) ∙ e

  -- tuples stay shared
  shared_still : (q : Place) (us : List Element) → IsSharedTuple T q us → IsSharedTuple with_tuple q us
  shared_still q us s = record {
    key = s.key;
    values = s.values;
    own = λ i l. (let o = s.own i l in (o.0, get_old (with_class q (at us i).class) o.0 o.1, o.2, o.3));
  }

  all_shared : ((q : Place) (us : List Element) → get T q ≡ Some us → IsSharedTuple T q us)
      → IsSharedTuple with_tuple p es
      → (q : Place) (us : List Element) → get with_tuple q ≡ Some us → IsSharedTuple with_tuple q us
  all_shared old new q us g = by (is_place q p) refl (sym (get_put T p es q) ∙ g)
    where
      by : (b : Bool) → is_place q p ≡ b → cond b (Some es) (get T q) ≡ Some us → IsSharedTuple with_tuple q us
      by true e k = subst (λ (d : Entry). IsSharedTuple with_tuple d.0 d.1) (λ i. (
        sym (is_place-true q p e) i,
        same_Some es us k i,
      )) new
      by false e k = shared_still q us (old q us k)

-- a tuple put together from cells that have spellings and from the entity's tuples
module _ (T : Table) (n : Node) (cells : List Cell) (es : List Element) (none : get T (place_of_node n) ≡ None)
    (spelled : IsSpelledKey n.key) (each : AllByRecursion (IsCellOf n) cells) (own : cells
    ≡ cells_from 0 (place_of_node n) es)
    (others : (i : ℕ) → i < length es → (at es i).class ≢ n.label → (fs : List Element)
    × (get T (with_class (place_of_node n) (at es i).class) ≡ Some fs) × (at fs i ≡ at es i) × (i < length fs))
    (shared : (q : Place) (us : List Element) → get T q ≡ Some us → IsSharedTuple T q us) where
  abbrev place : Place
  place = place_of_node n

  spelled_value : (i : ℕ) → i < length es → (b : Bool) → nat_eq (at es i).class n.label ≡ b
      → IfSome (at es i).value HasSpelling
  spelled_value i l true e =
      (all_at (IsCellOf n) cells each (cell_at place i (at es i)) (subst (IsAmong (cell_at place i (at es i))) (sym own)
      (cell_among 0 place es i i l (omega arith) (eqb-true _ _ e)))).value
  spelled_value i l false e =
      let o = others i l (λ s. true≢false (sym (eq-eqb _ _ s) ∙ e)) in
      subst (λ (x : Element). IfSome x.value HasSpelling) o.2
      ((shared (with_class place (at es i).class) o.0 o.1).values i o.3)

  owned : (i : ℕ) → i < length es → (b : Bool) → nat_eq (at es i).class n.label ≡ b
      → (fs : List Element) × (get (insert T place es) (with_class place (at es i).class) ≡ Some fs) × (i < length fs)
      × (at fs i ≡ at es i)
  owned i l true e = (
    es,
    get_new T place es none (with_class place (at es i).class)
        (ap (with_class place) (eqb-true _ _ e)),
    l,
    refl,
  )
  owned i l false e =
      let o = others i l (λ s. true≢false (sym (eq-eqb _ _ s) ∙ e)) in
      (o.0, get_old T place es none (with_class place (at es i).class) o.0 o.1, o.3, o.2)

  made_shared : IsSharedTuple (insert T place es) place es
  made_shared = record { key = spelled; values = λ i l. spelled_value i l _ refl; own = λ i l. owned i l _ refl }

-- ---- a tuple and its rows

module _ (t u : Tables) (c : Content) (relation : ℕ) (n : Node) (cells : List Cell) (es : List Element)
    (held : Holds t c) (none : get (c.db relation) (place_of_node n) ≡ None) (pattern : n.pattern
    ≡ map (λ e. e.class) es) (own : cells ≡ cells_from 0 (place_of_node n) es)
    (adds : AddsTuple (node_row relation n) (map (cell_row relation) cells) t u) where
  abbrev p : Place
  p = place_of_node n

  abbrev T : Table
  T = c.db relation

  node_is : node_of (p, es) ≡ n
  node_is = λ i. record n { pattern = sym pattern i }

  nodes_here : IsPermutation (map (node_row relation) (nodes_in (insert T p es)))
      (filter (λ m. nat_eq m.rel relation) u.nodes)
  nodes_here =
      IsPermutation-trans _ _ _ (IsPermutation-map (node_row relation) _ _ (IsPermutation-map node_of _ _
      (entries_new T p es none)))
      (subst (λ m. IsPermutation (node_row relation m ∷ map (node_row relation) (nodes_in T))
      (filter (λ m. nat_eq m.rel relation) u.nodes)) (sym node_is)
      (added_here (λ m. nat_eq m.rel relation) (node_row relation n ∷ []) t.nodes u.nodes adds.nodes _
      (eq-eqb relation relation refl, tt) (held.tables relation).nodes))

  cells_here : IsPermutation (map (cell_row relation) (cells_in (insert T p es)))
      (filter (λ x. nat_eq x.rel relation) u.cells)
  cells_here =
      IsPermutation-trans _ _ _ (IsPermutation-map (cell_row relation) _ _ (IsPermutation-flat_map cells_of _ _
      (entries_new T p es none)))
      (subst (λ l. IsPermutation l (filter (λ x. nat_eq x.rel relation) u.cells))
      (sym (map-append (cell_row relation) (cells_of (p, es)) (cells_in T) ∙ ap (λ ds. map (cell_row relation) ds
      ++ map (cell_row relation) (cells_in T)) (sym own)))
      (added_here (λ x. nat_eq x.rel relation) (map (cell_row relation) cells) t.cells u.cells adds.cells _
      (all-map _ (cell_row relation) cells (all_of (λ d. nat_eq relation relation ≡ true)
      (λ d. eq-eqb relation relation refl) cells)) (held.tables relation).cells))

  others_same : (r : ℕ) → nat_eq r relation ≡ false → HoldsTable u r (c.db r)
  others_same r other = holds_same t u r (c.db r) (held.tables r)
      (added_elsewhere (λ m. nat_eq m.rel r) (node_row relation n ∷ []) t.nodes u.nodes adds.nodes (differs, tt))
      (added_elsewhere (λ x. nat_eq x.rel r) (map (cell_row relation) cells) t.cells u.cells adds.cells
      (all-map _ (cell_row relation) cells (all_of (λ d. nat_eq relation r ≡ false) (λ d. differs) cells)))
    where
      differs : nat_eq relation r ≡ false
      differs = false_from_ne_true (nat_eq relation r)
          (λ b. true≢false (sym (eq-eqb r relation (sym (eqb-true relation r b))) ∙ other))

  holds_shared : IsSharedTuple (insert T p es) p es
      → Holds u (record c { db = with_table c.db relation (insert T p es) })
  holds_shared new = holds_with t u c relation (insert T p es) held (ap (λ w. w.audit) adds.rest)
      (record {
        nodes = nodes_here;
        cells = cells_here;
        shared = all_shared T p es none
            (held.tables relation).shared new;
      }) others_same

pub holds_tuple : (t u : Tables) (c : Content) (relation : ℕ) (n : Node) (cells : List Cell) (es : List Element)
    → Holds t c → IsSpelledKey n.key → AllByRecursion (IsCellOf n) cells → get (c.db relation) (place_of_node n) ≡ None
    → IsMadeOf (c.db relation) n cells es
    → AddsTuple (node_row relation n) (map (cell_row relation) cells) t u
    → Holds u (record c { db = with_table c.db relation (insert (c.db relation) (place_of_node n) es) })
holds_tuple t u c relation n cells es held spelled each none made adds =
    holds_shared t u c relation n cells es held none made.pattern made.own adds
    (made_shared (c.db relation) n cells es none spelled each made.own made.others (held.tables relation).shared)
