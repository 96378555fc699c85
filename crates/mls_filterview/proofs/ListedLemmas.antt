-- The tuples listed from a map of rows are the rows of the table.
use Rattle.std.proofs.Common.{◌≡◌, ℕ, true, cond, List, [], ◌∷◌, length, map, Option, Some, refl, sym, ap, ◌∙◌, subst, ◌↔◌, filter, flat_map, is_lt}
use Rattle.std.specs.List.{AllByRecursion}
use Rattle.std.specs.List.Sorted.{IsStrictlySortedBy}
use Rattle.std.specs.Map.{lookup, keys_of}
use Rattle.std.specs.BTreeMap.{is_at}
use Rattle.std.specs.declared.cmp.Ordering.TheVariants.{Less}
use Rattle.std.specs.FinMap.{find, entries, is_sorted}
use Rattle.std.specs.FinMap.Entries.{below_all}
use Rattle.std.proofs.lemmas.Bool.{and_from}
use Rattle.std.proofs.lemmas.Map.Keys.{sorted_head, sorted_tail}
use Rattle.mls_lattice.specs.Labels.{Labels, AreDistinct}
use Rattle.mls_scheme.specs.declared.value.Value.{Value}
use Rattle.mls_scheme.specs.declared.tuple.Tuple.{Tuple}
use Rattle.mls_scheme.specs.declared.place.Place.{Place}
use Rattle.mls_scheme.specs.Table.{place_cmp, Table, IsIn, tuple_at}
use Rattle.mls_scheme.proofs.OrderLemmas.{is_place}
use Rattle.mls_filterview.specs.declared.fragment.Node.{Node}
use Rattle.mls_filterview.specs.declared.fragment.Cell.{Cell}
use Rattle.mls_filterview.specs.Subsumption.{is_max_among}
use Rattle.mls_filterview.specs.View.{View, low, rows, IsAmong, AreInOrder}
use Rattle.mls_filterview.specs.Stored.{IsStored}
use Rattle.mls_filterview.specs.Assembly.{CellPlace, AreValues, AreRows, AreLow}
use Rattle.mls_filterview.specs.Reach.{upward, of_class, low_tuples}
use Rattle.mls_filterview.proofs.EntryLemmas.{Entry, found_in, among_found, so_from}
use Rattle.mls_filterview.proofs.RowLemmas.{low-listed, rows-listed, rows_are_the_view}
use Rattle.mls_filterview.proofs.AssemblyLemmas.{rows_low}

-- ---- the entries of a map in order

below_keys : (p : Place) (es : List Entry) → AllByRecursion (λ k. place_cmp p k ≡ Less) (keys_of es)
    → below_all place_cmp p es ≡ true
below_keys p [] h = refl
below_keys p (e ∷ es) h = and_from _ _ (ap is_lt h.0) (below_keys p es h.1)

pub sorted_keys : (es : List Entry) → IsStrictlySortedBy place_cmp (keys_of es) → is_sorted place_cmp es ≡ true
sorted_keys [] h = refl
sorted_keys (e ∷ es) h = and_from _ _ (below_keys e.0 es (sorted_head place_cmp e.0 (keys_of es) h))
    (sorted_keys es (sorted_tail place_cmp e.0 (keys_of es) h))

pub find-lookup : (q : Place) (es : List Entry) → find place_cmp q es ≡ lookup (is_at (place_cmp q)) es
find-lookup q [] = refl
find-lookup q (e ∷ es) = ap (λ o. cond (is_place q e.0) (Some e.1) o) (find-lookup q es)

pub in_map : (es : List Entry) → IsStrictlySortedBy place_cmp (keys_of es) → (e : Entry) → IsAmong e es
    ↔ (lookup (is_at (place_cmp e.0)) es ≡ Some e.1)
in_map es s e = (
  (λ i. sym (find-lookup e.0 es) ∙ found_in es (so_from _ (sorted_keys es s)) e i),
  (λ h. among_found es e.0 e.1 (find-lookup e.0 es ∙ h)),
)

-- ---- the rows

module _ (ls : Labels) (n : ℕ) (T : Table) (c : ℕ) (ns : List Node) (ds : List Cell) (held : CellPlace
    → Option (Option Value)) (es : List Entry) (stored : IsStored ls n T) (are : AreLow ls T c (length ls) ns ds)
    (values : AreValues ds held)
    (s : IsStrictlySortedBy place_cmp (keys_of es))
    (found : AreRows held ns (λ q. lookup (is_at (place_cmp q)) es)) where
  listed_low : es ≡ entries (low ls c T)
  listed_low =
      low-listed ls c T es (sorted_keys es s) (λ e.
      let r = rows_low ls n T stored c ns ds are held values (λ q. lookup (is_at (place_cmp q)) es) found e in
      ((λ i. r.0 ((in_map es s e).0 i)), (λ h. (in_map es s e).1 (r.1 h))))

  pub listed_rows : map (λ e. tuple_at e.0 e.1) (filter (is_max_among es) es) ≡ rows ls c T
  listed_rows = rows-listed ls c T es listed_low

  -- and class by class they are the low tuples
  pub listed_by_reach : flat_map (of_class es) (upward ls) ≡ low_tuples ls c T
  unfolding low_tuples
  listed_by_reach = ap (λ xs. flat_map (of_class xs) (upward ls)) listed_low

-- so they are just the tuples of the view, each once, in the order of places
pub listed_view : (ls : Labels) → AreDistinct ls → (n : ℕ) (T : Table) → IsStored ls n T → (c : ℕ) (ts : List Tuple)
    → ts ≡ rows ls c T → (t : Tuple) → IsAmong t ts ↔ View ls (IsIn T) c t
listed_view ls distinct n T stored c ts same t = subst (λ xs. IsAmong t xs ↔ View ls (IsIn T) c t) (sym same)
    ((rows_are_the_view ls distinct n T stored c).0 t)

pub listed_order : (ls : Labels) → AreDistinct ls → (n : ℕ) (T : Table) → IsStored ls n T → (c : ℕ) (ts : List Tuple)
    → ts ≡ rows ls c T → AreInOrder T ts
listed_order ls distinct n T stored c ts same = subst (AreInOrder T) (sym same)
    (rows_are_the_view ls distinct n T stored c).1
