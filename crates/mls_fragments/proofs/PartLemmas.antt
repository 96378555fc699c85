-- The rows of a part hold the content of the part, and that of sound content is sound.
use Rattle.std.proofs.Common.{◌≡◌, ℕ, Bool, true, List, [], map, filter, length, Some, sym, ap, subst, ◌∙◌, nat_eq, flat_map}
use Rattle.std.specs.FinMap.{get, entries, entries_sorted, entries-from_sorted}
use Rattle.std.proofs.lemmas.List.Sorted.{IsPermutation-refl}
use Rattle.sqlite_trees.proofs.ListLemmas.{filter-map, IsPermutation-filter}
use Rattle.mls_lattice.specs.Labels.{Labels}
use Rattle.mls_lattice.specs.Policy.{Policy}
use Rattle.mls_scheme.specs.declared.tuple.Element.{Element}
use Rattle.mls_scheme.specs.declared.place.Place.{Place}
use Rattle.mls_scheme.specs.Spelling.{key_spelling}
use Rattle.mls_scheme.specs.Scheme.{Scheme, Schemes}
use Rattle.mls_scheme.specs.Tuple.{at}
use Rattle.mls_scheme.specs.Table.{Table, place_cmp}
use Rattle.mls_filterview.proofs.FilteredLemmas.{filter_turned}
use Rattle.mls_filterview.specs.Assembly.{table_of}
use Rattle.mls_filterview.specs.Content.{Content}
use Rattle.mls_filterview.specs.Fragment.{node_of, cells_of}
use Rattle.mls_filterview.specs.Stored.{with_class, IsContent}
use Rattle.mls_filterview.specs.View.{IsAmong}
use Rattle.mls_filterview.proofs.AmongLemmas.{among_filter, filter_among}
use Rattle.mls_filterview.proofs.EntryLemmas.{Entry, among_entries, entries_among, sorted_filter, so_true, so_from}
use Rattle.mls_filterview.proofs.FragmentLemmas.{cell_found}
use Rattle.mls_filterview.proofs.MovedLemmas.{moved}
use Rattle.mls_tables.specs.Rows.{Tables}
use Rattle.mls_rows.specs.Finding.{IsSoundWithin}
use Rattle.mls_rows.specs.Holding.{Holds, HoldsTable, IsSharedTuple, node_row, cell_row, nodes_in, cells_in}
use Rattle.mls_fragments.specs.Parts.{Part, rows_of, content_of}
use Rattle.mls_rows.proofs.WrittenLemmas.{filter_each}

-- ---- one relation

module _ (q : Part) (rel : ℕ) (T : Table) where
  abbrev here : Entry → Bool
  here e = q rel (key_spelling e.0.key)

  abbrev P : Table
  P = table_of (filter here (entries T))

  entries_part : entries P ≡ filter here (entries T)
  entries_part = entries-from_sorted place_cmp (filter here (entries T))
      (so_from _ (sorted_filter here (entries T) (so_true _ (entries_sorted T))))

  of_part : (p : Place) (es : List Element) → get P p ≡ Some es → (get T p ≡ Some es) × (here (p, es) ≡ true)
  of_part p es g =
      let i = among_filter here (entries T) (p, es) (subst (IsAmong (p, es)) entries_part (entries_among P p es g)) in
      (among_entries T (p, es) i.0, i.1)

  in_part : (p : Place) (es : List Element) → get T p ≡ Some es → here (p, es) ≡ true → get P p ≡ Some es
  in_part p es g h = among_entries P (p, es) (subst (IsAmong (p, es)) (sym entries_part) (filter_among here (entries T)
      (p, es) (entries_among T p es g) h))

  -- ---- its rows

  node_rows : filter (λ r. q r.rel r.ent) (map (node_row rel) (nodes_in T)) ≡ map (node_row rel) (nodes_in P)
  node_rows = filter-map _ (node_row rel) (nodes_in T) ∙ ap (map (node_row rel)) (filter-map _ node_of (entries T)
      ∙ ap (map node_of) (sym entries_part))

  cell_rows : filter (λ r. q r.rel r.ent) (map (cell_row rel) (cells_in T)) ≡ map (cell_row rel) (cells_in P)
  cell_rows =
      filter-map _ (cell_row rel) (cells_in T)
      ∙ ap (map (cell_row rel)) (filter_each cells_of (λ d. q rel (key_spelling d.key)) here (entries T) (λ e i d k.
      ap (λ x. q rel (key_spelling x.key)) (cell_found 0 e.0 e.1 d k).1.1)
      ∙ ap (flat_map cells_of) (sym entries_part))

  shared_part : ((p : Place) (es : List Element) → get T p ≡ Some es → IsSharedTuple T p es)
      → (p : Place) (es : List Element) → get P p ≡ Some es → IsSharedTuple P p es
  shared_part shared p es g =
      let i = of_part p es g in
      let s = shared p es i.0 in
      record {
        key = s.key;
        values = s.values;
        own = λ k l. (let o = s.own k l
            in (o.0, in_part (with_class p (at es k).class) o.0 o.1 i.1, o.2, o.3));
      }

  table_part : (t : Tables) → HoldsTable t rel T → HoldsTable (rows_of q t) rel P
  table_part t held = record {
    nodes = rw (← node_rows, filter_turned (λ n. nat_eq n.rel rel) (λ n. q n.rel n.ent) t.nodes)
        (IsPermutation-filter _ _ _ held.nodes);
    cells = rw (← cell_rows, filter_turned (λ x. nat_eq x.rel rel) (λ x. q x.rel x.ent) t.cells)
        (IsPermutation-filter _ _ _ held.cells);
    shared = shared_part held.shared;
  }

  -- ---- its form

  content_part : (ls : Labels) (scheme : Scheme) → IsContent ls scheme T → IsContent ls scheme P
  content_part ls scheme content = record {
    stored = λ p es g. (let i = of_part p es g in moved ls (length scheme.others) T P p es (content.stored p es i.0)
        (λ m fs o k. in_part (with_class p m) fs k i.1));
    fits = λ p es g. content.fits p es (of_part p es g).0;
  }

-- ---- all relations

pub part_holds : (q : Part) (t : Tables) (c : Content) → Holds t c → Holds (rows_of q t) (content_of q c)
part_holds q t c holds = record {
  tables = λ rel. table_part q rel (c.db rel) t (holds.tables rel);
  audit =
      IsPermutation-refl [];
}

pub part_sound : (q : Part) (policy : Policy) (schemes : Schemes) (labels : ℕ) (c : Content)
    → IsSoundWithin policy schemes labels c → IsSoundWithin policy schemes labels (content_of q c)
part_sound q policy schemes labels c sound = record {
  content = λ rel. content_part q rel (c.db rel) _ _ (sound.content rel);
  classes = λ rel p es g. sound.classes rel p es (of_part q rel (c.db rel) p es g).0;
  entries = tt;
}
