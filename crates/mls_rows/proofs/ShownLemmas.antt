-- The rows of a relation and some labels show their fragments, and those of a place what belongs to its entity.
use Rattle.std.proofs.Common.{◌≡◌, ℕ, Bool, true, false, cond, ◌&&◌, List, [], ◌∷◌, map, filter, flat_map, Option, Some, None, refl, sym, ap, ◌∙◌, subst, append-nil, arith, IsPermutation, nat_eq, IfSome, slice_get, option_map}
use Rattle.std.specs.List.{AllByRecursion}
use Rattle.std.specs.FinMap.{get, entries}
use Rattle.std.proofs.lemmas.Bool.{and_parts}
use Rattle.std.proofs.lemmas.List.Sorted.{IsPermutation-refl, IsPermutation-map, IsPermutation-trans, length_permutation}
use Rattle.sqlite_trees.proofs.ListLemmas.{filter-map, filter-filter, filter_same, all-map, all-permutation, pull_back, IsPermutation-filter}
use Rattle.mls_scheme.specs.declared.value.Value.{Value}
use Rattle.mls_scheme.specs.declared.value.Value.TheVariants.{Int, Text}
use Rattle.mls_scheme.specs.Spelling.{value_spelling, HasSpelling, IsSpelledKey}
use Rattle.mls_scheme.specs.declared.tuple.Element.{Element}
use Rattle.mls_scheme.specs.declared.place.Place.{Place}
use Rattle.mls_scheme.specs.Table.{Table}
use Rattle.mls_scheme.proofs.KeyLemmas.{unambiguous}
use Rattle.mls_scheme.proofs.OrderLemmas.{is_place}
use Rattle.mls_filterview.specs.declared.fragment.Node.{Node}
use Rattle.mls_filterview.specs.declared.fragment.Cell.{Cell}
use Rattle.mls_filterview.specs.declared.fragment.Fragment.{Fragment}
use Rattle.mls_filterview.specs.Content.{Content}
use Rattle.mls_filterview.specs.Fragment.{ArePartsOf, IsEntityPart, at_place, classes, node_of, cells_of}
use Rattle.mls_filterview.specs.View.{IsAmong}
use Rattle.mls_filterview.proofs.AmongLemmas.{each_among, among_filter, among_flat_map}
use Rattle.mls_filterview.proofs.EntryLemmas.{Entry, among_entries}
use Rattle.mls_filterview.proofs.FragmentLemmas.{cell_found}
use Rattle.mls_filterview.proofs.PlaceLemmas.{tuples, at_place-get, nil_permuted, one_permuted}
use Rattle.mls_tables.specs.declared.rows.NodeRow.{NodeRow}
use Rattle.mls_tables.specs.Rows.{Tables, is_node, is_cell_in}
use Rattle.mls_rows.specs.Holding.{Holds, HoldsTable, IsSpelledNode, IsSpelledCell, value_bytes, node_row, cell_row, tuple_key}
use Rattle.mls_rows.proofs.WrittenLemmas.{filter_each, spelled_keys, entity_test, place_test, cells_where}

-- ---- rows that are the same

same_value : (v w : Option Value) → IfSome v HasSpelling → IfSome w HasSpelling → value_bytes v ≡ value_bytes w → v ≡ w
same_value None None a b e = refl
same_value None (Some (Int n)) a b e = absurd cc
same_value None (Some (Text s)) a b e = absurd cc
same_value (Some (Int n)) None a b e = absurd cc
same_value (Some (Text s)) None a b e = absurd cc
same_value (Some v) (Some w) a b e = ap Some (unambiguous.values v w [] [] a b (append-nil (value_spelling v) ∙ e
    ∙ sym (append-nil (value_spelling w)))).0

pub same_node : (relation : ℕ) (n m : Node) → IsSpelledNode n → IsSpelledNode m → node_row relation n
    ≡ node_row relation m → n ≡ m
same_node relation n m a b e =
    let key = unambiguous.keys n.key m.key a b (ap (λ r. r.ent) e) in
    λ i. record { key = key i; key_class = (e i).kclass; label = (e i).label; pattern = (e i).pattern }

pub same_cell : (relation : ℕ) (c d : Cell) → IsSpelledCell c → IsSpelledCell d → cell_row relation c
    ≡ cell_row relation d → c ≡ d
same_cell relation c d a b e =
    let key = unambiguous.keys c.key d.key a.0 b.0 (ap (λ r. r.ent) e) in
    let value = same_value c.value d.value a.1 b.1 (ap (λ r. r.value) e) in
    λ i. record { key = key i; key_class = (e i).kclass; attr = (e i).attr; label = (e i).label; value = value i }

-- ---- lists

-- two tests, one after the other
pub filter_both : {A : Type 0} (p q : A → Bool) (xs : List A) → filter p (filter q xs) ≡ filter (λ x. q x && p x) xs
filter_both p q [] = refl
filter_both p q (x ∷ xs) =
    elim (q x) as (λ b. filter p (cond b (x ∷ filter q xs) (filter q xs))
    ≡ cond (b && p x) (x ∷ filter (λ y. q y && p y) xs) (filter (λ y. q y && p y) xs)) [
      | true ↦ ap (λ l. cond (p x) (x ∷ l) l) (filter_both p q xs)
      | false ↦ filter_both p q xs
    ]

-- a function that tells apart what P holds of
module _ {A B : Type 0} (P : A → Type 0) (f : A → B) (apart : (x y : A) → P x → P y → f x ≡ f y → x ≡ y) where
  same_list : (xs ys : List A) → AllByRecursion P xs → AllByRecursion P ys → map f xs ≡ map f ys → xs ≡ ys
  same_list [] [] a b e = refl
  same_list [] (y ∷ ys) a b e = absurd cc
  same_list (x ∷ xs) [] a b e = absurd cc
  same_list (x ∷ xs) (y ∷ ys) a b e =
      let head : f x ≡ f y = cc in
      let rest : map f xs ≡ map f ys = cc in
      λ i. apart x y a.0 b.0 head i ∷ same_list xs ys a.1 b.1 rest i

  -- so lists whose images are permutations of one another are so too
  pub reflects : (xs ys : List A) → AllByRecursion P xs → AllByRecursion P ys → IsPermutation (map f xs) (map f ys)
      → IsPermutation xs ys
  reflects xs ys a b h =
      let back = pull_back f (map f xs) (map f ys) h xs refl in
      subst (IsPermutation xs) (same_list back.0 ys (all-permutation P xs back.0 back.1 a) b (sym back.2)) back.1

-- ---- some tuples of a table

module _ (t : Tables) (relation : ℕ) (T : Table) (held : HoldsTable t relation T) (test : Entry → Bool) where
  stored : (e : Entry) → IsAmong e (filter test (entries T)) → IsAmong e (entries T)
  stored e i = (among_filter test (entries T) e i).0

  nodes_spelled : AllByRecursion IsSpelledNode (map node_of (filter test (entries T)))
  nodes_spelled = all-map IsSpelledNode node_of (filter test (entries T)) (each_among (λ e. IsSpelledKey e.0.key)
      (filter test (entries T)) (λ e i. spelled_keys t relation T held e (stored e i)))

  cells_spelled : AllByRecursion IsSpelledCell (flat_map cells_of (filter test (entries T)))
  cells_spelled = each_among IsSpelledCell (flat_map cells_of (filter test (entries T))) (λ d k.
      let r = among_flat_map cells_of (filter test (entries T)) d k in
      let f = cell_found 0 r.0.0 r.0.1 d r.2 in
      let shared = held.shared r.0.0 r.0.1 (among_entries T r.0 (stored r.0 r.1)) in
      subst IsSpelledCell (sym f.1.1) (shared.key, shared.values f.0 f.1.0))

  -- rows that are theirs show their parts
  pub show_parts : (f : Fragment) → AllByRecursion IsSpelledNode f.nodes → AllByRecursion IsSpelledCell f.cells
      → IsPermutation (map (node_row relation) (map node_of (filter test (entries T))))
      (map (node_row relation) f.nodes)
      → IsPermutation (map (cell_row relation) (flat_map cells_of (filter test (entries T))))
      (map (cell_row relation) f.cells)
      → ArePartsOf (filter test (entries T)) f
  show_parts f ns cs nodes cells = record {
    nodes = reflects IsSpelledNode (node_row relation) (same_node relation) _ f.nodes nodes_spelled ns nodes;
    cells = reflects IsSpelledCell (cell_row relation) (same_cell relation) _ f.cells cells_spelled cs cells;
  }

-- ---- the rows of some labels

module _ (t : Tables) (relation : ℕ) (has : ℕ → Bool) (T : Table) (held : HoldsTable t relation T) where
  nodes_where : IsPermutation (map (node_row relation) (map node_of (filter (λ e. has e.0.class) (entries T))))
      (filter (λ n. nat_eq n.rel relation && has n.label) t.nodes)
  nodes_where =
      subst (IsPermutation (map (node_row relation) (map node_of (filter (λ e. has e.0.class) (entries T)))))
      (filter_both (λ n. has n.label) (λ n. nat_eq n.rel relation) t.nodes)
      (subst (λ l. IsPermutation l (filter (λ n. has n.label) (filter (λ n. nat_eq n.rel relation) t.nodes)))
      (filter-map (λ n. has n.label) (node_row relation) (map node_of (entries T)) ∙ ap (map (node_row relation))
      (filter-map (λ n. has n.label) node_of (entries T)))
      (IsPermutation-filter (λ n. has n.label) _ _ held.nodes))

  -- the cells of a tuple have its class
  label_test : (e : Entry) → IsAmong e (entries T) → (d : Cell) → IsAmong d (cells_of e) → has d.label ≡ has e.0.class
  label_test e i d k = let f = cell_found 0 e.0 e.1 d k in ap has (ap (λ x. x.label) f.1.1 ∙ f.1.2)

  cells_at : IsPermutation (map (cell_row relation) (flat_map cells_of (filter (λ e. has e.0.class) (entries T))))
      (filter (λ c. nat_eq c.rel relation && has c.label) t.cells)
  cells_at =
      subst (IsPermutation (map (cell_row relation) (flat_map cells_of (filter (λ e. has e.0.class) (entries T)))))
      (filter_both (λ c. has c.label) (λ c. nat_eq c.rel relation) t.cells)
      (subst (λ l. IsPermutation l (filter (λ c. has c.label) (filter (λ c. nat_eq c.rel relation) t.cells)))
      (filter-map (λ c. has c.label) (cell_row relation) (flat_map cells_of (entries T))
      ∙ ap (map (cell_row relation)) (filter_each cells_of (λ d. has d.label) (λ e. has e.0.class)
      (entries T) label_test))
      (IsPermutation-filter (λ c. has c.label) _ _ held.cells))

pub shows_labels : (t : Tables) (c : Content) (relation : ℕ) (has : ℕ → Bool) (f : Fragment) → Holds t c
    → AllByRecursion IsSpelledNode f.nodes → AllByRecursion IsSpelledCell f.cells
    → IsPermutation (filter (λ n. nat_eq n.rel relation && has n.label) t.nodes) (map (node_row relation) f.nodes)
    → IsPermutation (filter (λ d. nat_eq d.rel relation && has d.label) t.cells) (map (cell_row relation) f.cells)
    → ArePartsOf (filter (λ e. has e.0.class) (entries (c.db relation))) f
shows_labels t c relation has f holds ns cs nodes cells =
    let T = c.db relation in
    let held = holds.tables relation in
    show_parts t relation T held (λ e. has e.0.class) f ns cs (IsPermutation-trans _ _ _
    (nodes_where t relation has T held) nodes) (IsPermutation-trans _ _ _ (cells_at t relation has T held) cells)

-- ---- the rows of a place

module _ (t : Tables) (relation : ℕ) (p : Place) (spelled : IsSpelledKey p.key) (T : Table)
    (held : HoldsTable t relation T) where
  keys : (e : Entry) → IsAmong e (entries T) → IsSpelledKey e.0.key
  keys = spelled_keys t relation T held

  there_nodes : IsPermutation (map (node_row relation) (map node_of (at_place p T)))
      (filter (is_node (tuple_key relation p)) t.nodes)
  there_nodes =
      subst (IsPermutation (map (node_row relation) (map node_of (at_place p T))))
      (filter-filter (is_node (tuple_key relation p)) (λ n. nat_eq n.rel relation)
      (λ n h. (and_parts _ _ h).0) t.nodes)
      (subst (λ l. IsPermutation l (filter (is_node (tuple_key relation p))
      (filter (λ n. nat_eq n.rel relation) t.nodes)))
      (filter-map _ (node_row relation) (map node_of (entries T))
      ∙ ap (map (node_row relation)) (filter-map _ node_of (entries T)
      ∙ ap (map node_of) (filter_same _ (λ e. is_place e.0 p) (entries T) (each_among _ (entries T) (λ e i.
      entity_test relation p e.0 (nat_eq e.0.class p.class) spelled (keys e i) ∙ place_test p e.0)))))
      (IsPermutation-filter _ _ _ held.nodes))

  there_cells : IsPermutation (map (cell_row relation) (flat_map cells_of (at_place p T)))
      (filter (is_cell_in (tuple_key relation p)) t.cells)
  there_cells =
      subst (IsPermutation (map (cell_row relation) (flat_map cells_of (at_place p T))))
      (filter-filter (is_cell_in (tuple_key relation p)) (λ x. nat_eq x.rel relation)
      (λ x h. (and_parts _ _ h).0) t.cells)
      (subst (λ l. IsPermutation l (filter (is_cell_in (tuple_key relation p))
      (filter (λ x. nat_eq x.rel relation) t.cells)))
      (cells_where relation T p spelled keys (λ b. b))
      (IsPermutation-filter _ _ _ held.cells))

pub shows_entity : (t : Tables) (c : Content) (relation : ℕ) (p : Place) (f : Fragment) → Holds t c → IsSpelledKey p.key
    → AllByRecursion IsSpelledNode f.nodes → AllByRecursion IsSpelledCell f.cells
    → IsPermutation (filter (is_node (tuple_key relation p)) t.nodes) (map (node_row relation) f.nodes)
    → IsPermutation (filter (is_cell_in (tuple_key relation p)) t.cells) (map (cell_row relation) f.cells)
    → IsEntityPart (c.db relation) p f
shows_entity t c relation p f holds spelled ns cs nodes cells =
    let T = c.db relation in
    let held = holds.tables relation in
    show_parts t relation T held (λ e. is_place e.0 p) f ns cs (IsPermutation-trans _ _ _
    (there_nodes t relation p spelled T held) nodes) (IsPermutation-trans _ _ _
    (there_cells t relation p spelled T held) cells)

-- the node at a place shows the pattern of the tuple there
pattern_there : (relation : ℕ) (p : Place) (o : Option (List Element)) (patterns : List (List ℕ))
    → IsPermutation (map (λ n. n.pattern) (map (node_row relation) (map node_of (tuples p o)))) patterns
    → slice_get patterns 0 ≡ option_map classes o
pattern_there relation p None patterns h = ap (λ l. slice_get l 0) (nil_permuted patterns h)
pattern_there relation p (Some es) patterns h = ap (λ l. slice_get l 0) (one_permuted (classes es) patterns h)

pub shows_pattern : (t : Tables) (c : Content) (relation : ℕ) (p : Place) → Holds t c → IsSpelledKey p.key
    → (patterns : List (List ℕ))
    → IsPermutation (map (λ n. n.pattern) (filter (is_node (tuple_key relation p)) t.nodes)) patterns
    → slice_get patterns 0 ≡ option_map classes (get (c.db relation) p)
shows_pattern t c relation p holds spelled patterns h =
    let T = c.db relation in
    let there = IsPermutation-map (λ (n : NodeRow). n.pattern) _ _ (there_nodes t relation p spelled T
    (holds.tables relation)) in
    pattern_there relation p (get T p) patterns
    (subst (λ (es : List Entry). IsPermutation (map (λ (n : NodeRow). n.pattern)
    (map (node_row relation) (map node_of es))) patterns) (at_place-get T p)
    (IsPermutation-trans _ _ _ there h))

no_tuple : (relation : ℕ) (es : List Entry) → IsPermutation (map (node_row relation) (map node_of es)) [] → es ≡ []
no_tuple relation [] none = refl
no_tuple relation (e ∷ es) none = absurd (let long = length_permutation _ _ none in omega (arith, long))

-- where a place has no node, it has no tuple, and so no cells
pub shows_nothing : (t : Tables) (c : Content) (relation : ℕ) (p : Place) (f : Fragment) → Holds t c
    → IsSpelledKey p.key
    → IsPermutation (filter (is_node (tuple_key relation p)) t.nodes) [] → f.nodes ≡ [] → f.cells ≡ []
    → IsEntityPart (c.db relation) p f
shows_nothing t c relation p f holds spelled none no_nodes no_cells =
    let T = c.db relation in
    let gone : at_place p T ≡ [] = no_tuple relation (at_place p T) (IsPermutation-trans _ _ _
    (there_nodes t relation p spelled T (holds.tables relation)) none) in
    record { nodes = rw (gone, no_nodes) (IsPermutation-refl []); cells = rw (gone, no_cells) (IsPermutation-refl []) }
