-- Rows put together from all nodes and all cells of a table are the table.
use Rattle.std.proofs.Common.{◌≡◌, ℕ, List, map, Option, Some, sym, ◌∙◌, ◌↔◌, IsPermutation, flat_map}
use Rattle.std.specs.List.Sorted.{IsStrictlySortedBy}
use Rattle.std.specs.Map.{lookup, keys_of}
use Rattle.std.specs.BTreeMap.{is_at}
use Rattle.std.specs.FinMap.{get, entries, entries-from_sorted, get-from_sorted, same_entries_map}
use Rattle.mls_lattice.specs.Labels.{Labels}
use Rattle.mls_scheme.specs.declared.value.Value.{Value}
use Rattle.mls_scheme.specs.Table.{place_cmp, Table}
use Rattle.mls_filterview.specs.declared.fragment.Node.{Node}
use Rattle.mls_filterview.specs.declared.fragment.Cell.{Cell}
use Rattle.mls_filterview.specs.View.{IsAmong}
use Rattle.mls_filterview.specs.Stored.{IsStored}
use Rattle.mls_filterview.specs.Fragment.{node_of, cells_of}
use Rattle.mls_filterview.specs.Assembly.{CellPlace, AreValues, AreRows, table_of}
use Rattle.mls_filterview.proofs.EntryLemmas.{Entry, found_in, among_found, so_from, entries_are}
use Rattle.mls_filterview.proofs.FragmentLemmas.{all_of}
use Rattle.mls_filterview.proofs.AssemblyLemmas.{rows_all}
use Rattle.mls_filterview.proofs.ListedLemmas.{sorted_keys, in_map}

-- ---- the table of entries in order

module _ (es : List Entry) (sorted : IsStrictlySortedBy place_cmp (keys_of es)) where
  pub entries-table_of : entries (table_of es) ≡ es
  entries-table_of = entries-from_sorted place_cmp es (so_from _ (sorted_keys es sorted))

  pub in_table_of : (e : Entry) → IsAmong e es ↔ (get (table_of es) e.0 ≡ Some e.1)
  in_table_of e =
      let s = so_from _ (sorted_keys es sorted) in (
        (λ i. get-from_sorted place_cmp es e.0 s ∙ found_in es s e i),
        (λ h. among_found es e.0 e.1 (sym (get-from_sorted place_cmp es e.0 s) ∙ h)),
      )

  -- it is the table that has just these entries
  pub table_of_is : (T : Table) → es ≡ entries T → table_of es ≡ T
  table_of_is T e = same_entries_map (table_of es) T (entries-table_of ∙ e)

-- ---- rows put together from all nodes and all cells

module _ (ls : Labels) (n : ℕ) (T : Table) (stored : IsStored ls n T) (ns : List Node) (ds : List Cell)
    (nodes : IsPermutation (map node_of (entries T)) ns) (cells : IsPermutation (flat_map cells_of (entries T)) ds)
    (held : CellPlace → Option (Option Value)) (values : AreValues ds held) where
  -- so are the entries of a map of them, and its table
  module _ (es : List Entry) (sorted : IsStrictlySortedBy place_cmp (keys_of es))
      (rows : AreRows held ns (λ q. lookup (is_at (place_cmp q)) es)) where
    pub entries_all : es ≡ entries T
    entries_all = entries_are T es (so_from _ (sorted_keys es sorted)) (λ e.
        let r = rows_all ls n T stored ns ds (all_of T ns ds nodes cells) held values
        (λ q. lookup (is_at (place_cmp q)) es) rows e in
        let m = in_map es sorted e in
        ((λ i. r.0 (m.0 i)), (λ h. m.1 (r.1 h))))

    pub table_all : table_of es ≡ T
    table_all = table_of_is es sorted T entries_all
