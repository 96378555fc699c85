-- Rows of two parts hold together what each holds, and that is sound where each is.
use Rattle.std.proofs.Common.{◌≡◌, ◌⊎◌, inl, inr, ℕ, Bool, true, false, cond, List, [], ◌∷◌, ◌++◌, map, filter, Option, None, Some, refl, sym, ap, subst, ◌∙◌, true≢false, IsPermutation, nat_eq, flat_map, is_lt}
use Rattle.std.specs.List.{AllByRecursion}
use Rattle.std.specs.FinMap.{get, entries, entries_sorted, is_sorted}
use Rattle.std.specs.FinMap.Entries.{below_all}
use Rattle.std.proofs.lemmas.Bool.{and_parts}
use Rattle.std.proofs.lemmas.Cmp.{tied_itself}
use Rattle.std.proofs.lemmas.Option.{same_Some, none-some}
use Rattle.std.proofs.lemmas.Grind.{flat_map-append}
use Rattle.std.proofs.lemmas.List.{map-append}
use Rattle.std.proofs.lemmas.List.Elements.{filter-append}
use Rattle.std.proofs.lemmas.List.Sorted.{IsPermutation-refl, IsPermutation-trans, IsPermutation-cons, IsPermutation-map, IsPermutation-append}
use Rattle.sqlite_trees.proofs.ListLemmas.{IsPermutation-filter, IsPermutation-flat_map}
use Rattle.mls_lattice.specs.Labels.{Labels}
use Rattle.mls_scheme.specs.declared.tuple.Element.{Element}
use Rattle.mls_scheme.specs.declared.place.Place.{Place}
use Rattle.mls_scheme.specs.Spelling.{key_spelling}
use Rattle.mls_scheme.specs.Scheme.{Scheme}
use Rattle.mls_scheme.specs.Tuple.{at}
use Rattle.mls_scheme.specs.Table.{Table, place_cmp}
use Rattle.mls_scheme.proofs.OrderLemmas.{place_total, is_place, is_place-true}
use Rattle.mls_scheme.proofs.TableLemmas.{get_put}
use Rattle.mls_filterview.specs.Fragment.{node_of, cells_of}
use Rattle.mls_filterview.specs.Stored.{with_class, IsStoredTuple, IsContent}
use Rattle.mls_filterview.specs.View.{IsAmong}
use Rattle.mls_filterview.proofs.AmongLemmas.{all_at, among_filter, map_among, among_permutation}
use Rattle.mls_filterview.proofs.EntryLemmas.{Entry, among_entries, entries_among, so_true}
use Rattle.mls_filterview.proofs.MovedLemmas.{moved}
use Rattle.mls_tables.specs.Rows.{Tables}
use Rattle.mls_rows.specs.Changes.{Entries, with_entries}
use Rattle.mls_rows.specs.Finding.{AreWithin}
use Rattle.mls_rows.specs.Holding.{HoldsTable, IsSharedTuple, node_row, cell_row, nodes_in}
use Rattle.mls_fragments.specs.Parts.{Part}
use Rattle.mls_fragments.proofs.AddingLemmas.{entries_new, get_new, get_old}

-- ---- a table with more tuples

none_from : {A : Type 0} (o : Option A) → ((a : A) → o ≡ Some a → ⊥) → o ≡ None
none_from None h = refl
none_from (Some a) h = absurd (h a refl)

below : (p : Place) (es : Entries) → below_all place_cmp p es ≡ true → (e : Entry) → IsAmong e es
    → is_lt (place_cmp p e.0) ≡ true
below p [] h e i = absurd i
below p (d ∷ es) h e (inl s) = ap (λ x. is_lt (place_cmp p x.0)) s ∙ (and_parts _ _ h).0
below p (d ∷ es) h e (inr i) = below p es (and_parts _ _ h).1 e i

module _ (T : Table) where
  -- what is found there is new, or was there
  cases : (es : Entries) (p : Place) (us : List Element) → get (with_entries T es) p ≡ Some us → IsAmong (p, us) es
      ⊎ (get T p ≡ Some us)
  cases [] p us g = inr g
  cases (e ∷ es) p us g = by (is_place p e.0) refl (sym (get_put (with_entries T es) e.0 e.1 p) ∙ g) (cases es p us)
    where
      by : (b : Bool) → is_place p e.0 ≡ b → cond b (Some e.1) (get (with_entries T es) p) ≡ Some us
          → (get (with_entries T es) p ≡ Some us → IsAmong (p, us) es ⊎ (get T p ≡ Some us)) → IsAmong (p, us) (e ∷ es)
          ⊎ (get T p ≡ Some us)
      by true h k more = inl (inl (λ i. (is_place-true p e.0 h i, sym (same_Some e.1 us k) i)))
      by false h k more = elim (more k) [ inl m ↦ inl (inr m) | inr m ↦ inr m ]

  -- no place is taken
  abbrev AreNew : Entries → Type 0
  AreNew [] = Unit {0}
  AreNew (e ∷ es) = (get (with_entries T es) e.0 ≡ None) × AreNew es

  are_new : (es : Entries) → is_sorted place_cmp es ≡ true → ((e : Entry) → IsAmong e es → get T e.0 ≡ None) → AreNew es
  are_new [] s h = tt
  are_new (e ∷ es) s h =
      let parts = and_parts (below_all place_cmp e.0 es) (is_sorted place_cmp es) s in (
        none_from (get (with_entries T es) e.0) (λ us g. elim (cases es e.0 us g) [
          | inl i ↦ true≢false (sym (below e.0 es parts.0 (e.0, us) i) ∙ ap is_lt (tied_itself place_total e.0))
          | inr k ↦ none-some us (sym (h e (inl refl)) ∙ k)
        ]),
        are_new es parts.1 (λ d i. h d (inr i)),
      )

  stays : (es : Entries) → AreNew es → (p : Place) (us : List Element) → get T p ≡ Some us → get (with_entries T es) p
      ≡ Some us
  stays [] new p us g = g
  stays (e ∷ es) new p us g = get_old (with_entries T es) e.0 e.1 new.0 p us (stays es new.1 p us g)

  comes : (es : Entries) → AreNew es → (e : Entry) → IsAmong e es → get (with_entries T es) e.0 ≡ Some e.1
  comes [] new e i = absurd i
  comes (d ∷ es) new e (inl s) = get_new (with_entries T es) d.0 d.1 new.0 e.0 (ap (λ x. x.0) s) ∙ ap (λ x. Some x.1)
      (sym s)
  comes (d ∷ es) new e (inr i) = get_old (with_entries T es) d.0 d.1 new.0 e.0 e.1 (comes es new.1 e i)

  entries_joined : (es : Entries) → AreNew es → IsPermutation (entries (with_entries T es)) (es ++ entries T)
  entries_joined [] new = IsPermutation-refl (entries T)
  entries_joined (e ∷ es) new = IsPermutation-trans _ _ _ (entries_new (with_entries T es) e.0 e.1 new.0)
      (IsPermutation-cons e _ _ (entries_joined es new.1))

-- ---- what lasts where tuples come in

module _ (T B : Table) (stay : (p : Place) (us : List Element) → get T p ≡ Some us → get B p ≡ Some us) where
  shared_still : (p : Place) (es : List Element) → IsSharedTuple T p es → IsSharedTuple B p es
  shared_still p es s = record {
    key = s.key;
    values = s.values;
    own = λ i l. (let o = s.own i l
        in (o.0, stay (with_class p (at es i).class) o.0 o.1, o.2, o.3));
  }

  stored_still : (ls : Labels) (n : ℕ) (p : Place) (es : List Element) → IsStoredTuple ls n T p es
      → IsStoredTuple ls n B p es
  stored_still ls n p es s = moved ls n T B p es s (λ m fs o g. stay (with_class p m) fs g)

-- ---- two parts of a relation

-- each tuple of a table is in the part in which its rows are
tested : (q : Part) (b : Bool) (v : Tables) (relation : ℕ) (V : Table) → HoldsTable v relation V
    → AllByRecursion (λ r. q r.rel r.ent ≡ b) v.nodes
    → (e : Entry) → get V e.0 ≡ Some e.1 → q relation (key_spelling e.0.key) ≡ b
tested q b v relation V held all e g =
    let listed = map_among (node_row relation) (nodes_in V) (node_of e) (map_among node_of (entries V) e
    (entries_among V e.0 e.1 g)) in
    let kept = among_filter (λ n. nat_eq n.rel relation) v.nodes _
    ((among_permutation _ _ held.nodes (node_row relation (node_of e))).0 listed) in
    all_at (λ r. q r.rel r.ent ≡ b) v.nodes all (node_row relation (node_of e)) kept.0

module _ (q : Part) (relation : ℕ) (s t u : Tables) (T U : Table) (before : HoldsTable s relation T)
    (more : HoldsTable t relation U)
    (outside : AllByRecursion (λ r. q r.rel r.ent ≡ false) s.nodes) (inside : AllByRecursion (λ r. q r.rel r.ent
    ≡ true) t.nodes) where
  abbrev both : Table
  both = with_entries T (entries U)

  new : AreNew T (entries U)
  new = are_new T (entries U) (so_true _ (entries_sorted U)) (λ e i. none_from (get T e.0) (λ us g.
      true≢false (sym (tested q true t relation U more inside e (among_entries U e i))
      ∙ tested q false s relation T before outside (e.0, us) g)))

  first : (p : Place) (us : List Element) → get T p ≡ Some us → get both p ≡ Some us
  first = stays T (entries U) new

  second : (p : Place) (us : List Element) → get U p ≡ Some us → get both p ≡ Some us
  second p us g = comes T (entries U) new (p, us) (entries_among U p us g)

  -- what holds of the tuples of each holds of all
  each : (Q : Place → List Element → Type 0) → ((p : Place) (es : List Element) → get T p ≡ Some es → Q p es)
      → ((p : Place) (es : List Element) → get U p ≡ Some es → Q p es)
      → (p : Place) (es : List Element) → get both p ≡ Some es → Q p es
  each Q a b p es g = elim (cases T (entries U) p es g) [
    | inl i ↦ b p es
        (among_entries U (p, es) i)
    | inr k ↦ a p es k
  ]

  pub joined_content : (ls : Labels) (scheme : Scheme) → IsContent ls scheme T → IsContent ls scheme U
      → IsContent ls scheme both
  joined_content ls scheme a b = record {
    stored = each _ (λ p es g. stored_still T both first ls _ p es (a.stored p es g))
        (λ p es g. stored_still U both second ls _ p es (b.stored p es g));
    fits = each _ a.fits b.fits;
  }

  pub joined_within : (labels : ℕ) → AreWithin labels T → AreWithin labels U → AreWithin labels both
  joined_within labels a b = each _ a b

  module _ (nodes : IsPermutation (t.nodes ++ s.nodes) u.nodes)
      (cells : IsPermutation (t.cells ++ s.cells) u.cells) where
    -- rows of entries, which each relation's part has
    rows_joined : {R : Type 0} (rel_of : R → ℕ) (rows : Entries → List R) → ((xs ys : Entries) → rows (xs ++ ys)
        ≡ rows xs ++ rows ys) → ((xs ys : Entries) → IsPermutation xs ys → IsPermutation (rows xs) (rows ys))
        → (xs ys zs : List R) → IsPermutation (ys ++ xs) zs → IsPermutation (rows (entries T))
        (filter (λ r. nat_eq (rel_of r) relation) xs)
        → IsPermutation (rows (entries U)) (filter (λ r. nat_eq (rel_of r) relation) ys)
        → IsPermutation (rows (entries both)) (filter (λ r. nat_eq (rel_of r) relation) zs)
    rows_joined rel_of rows split moved xs ys zs same left right =
        IsPermutation-trans _ _ _ (moved _ _ (entries_joined T (entries U) new))
        (subst (λ l. IsPermutation l (filter (λ r. nat_eq (rel_of r) relation) zs))
        (sym (split (entries U) (entries T)))
        (IsPermutation-trans _ _ _ (IsPermutation-append _ _ _ _ right left)
        (subst (λ l. IsPermutation l (filter (λ r. nat_eq (rel_of r) relation) zs))
        (filter-append (λ r. nat_eq (rel_of r) relation) ys xs)
        (IsPermutation-filter (λ r. nat_eq (rel_of r) relation) _ _ same))))

    pub joined_table : HoldsTable u relation both
    joined_table = record {
      nodes = rows_joined (λ r. r.rel) (λ es. map (node_row relation) (map node_of es))
          (λ xs ys. ap (map (node_row relation)) (map-append node_of xs ys) ∙ map-append (node_row relation)
          (map node_of xs) (map node_of ys))
          (λ xs ys p. IsPermutation-map (node_row relation) _ _
          (IsPermutation-map node_of _ _ p)) s.nodes t.nodes u.nodes nodes before.nodes more.nodes;
      cells = rows_joined (λ r. r.rel) (λ es. map (cell_row relation) (flat_map cells_of es))
          (λ xs ys. ap (map (cell_row relation)) (flat_map-append cells_of xs ys) ∙ map-append (cell_row relation)
          (flat_map cells_of xs) (flat_map cells_of ys))
          (λ xs ys p. IsPermutation-map (cell_row relation) _ _
          (IsPermutation-flat_map cells_of _ _ p)) s.cells t.cells u.cells cells before.cells more.cells;
      shared = each _ (λ p es g. shared_still T both first p es (before.shared p es g))
          (λ p es g. shared_still U both second p es (more.shared p es g));
    }
