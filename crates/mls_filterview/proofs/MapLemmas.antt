-- The tuples of a map, and the table that it is.
use Rattle.std.proofs.Common.{◌≡◌, ◌<◌, ◌+◌, ◌&&◌, ℕ, zero, suc, arith, Bool, true, false, cond, length, List, [], ◌∷◌, ◌++◌, map, Option, Some, None, refl, sym, ap, ◌∙◌, subst, append_assoc, inl, nat_eq, slice_index_or, slice_set, filter, flat_map, eq-eqb, ne_eqb}
use Rattle.std.specs.List.Sorted.{IsStrictlySortedBy}
use Rattle.std.specs.Map.{lookup, keys_of}
use Rattle.std.specs.BTreeMap.{insert_entry, is_at}
use Rattle.std.specs.Cmp.{eq_by_cmp_equiv}
use Rattle.std.specs.Ordering.{match_ordering, ordering_reverse}
use Rattle.std.specs.declared.cmp.Ordering.TheVariants.{Less, Greater}
use Rattle.std.specs.FinMap.{empty, empty_of_len, len-entries, get, insert, remove, get-remove, get-from_sorted}
use Rattle.std.proofs.lemmas.List.Elements.{filter-append}
use Rattle.std.proofs.lemmas.Map.Keys.{sorted_head, sorted_tail}
use Rattle.mls_scheme.specs.declared.value.Value.{Value}
use Rattle.mls_scheme.specs.declared.tuple.Element.{Element}
use Rattle.mls_scheme.specs.declared.place.Place.{Place}
use Rattle.mls_scheme.specs.Table.{place_cmp, change}
use Rattle.mls_scheme.proofs.OrderLemmas.{place_total, is_place}
use Rattle.mls_scheme.proofs.TableLemmas.{same_table, get_put}
use Rattle.mls_filterview.specs.declared.fragment.Fragment.{Fragment}
use Rattle.mls_filterview.specs.Fragment.{AreFragments, node_of, cells_of, is_of_any, set_from}
use Rattle.mls_filterview.specs.Assembly.{table_of}
use Rattle.mls_filterview.proofs.AmongLemmas.{all_at, map_among, among_right}
use Rattle.mls_filterview.proofs.EntryLemmas.{Entry, so_from}
use Rattle.mls_filterview.proofs.ListedLemmas.{sorted_keys, find-lookup}
use Rattle.mls_filterview.proofs.PlaceLemmas.{same_permuted}
use Rattle.mls_filterview.proofs.RecoveringLemmas.{entries-table_of}

-- ---- no entries

pub none_sorted : IsStrictlySortedBy place_cmp (keys_of {K = Place} {X = List Element} [])
unfolding IsStrictlySortedBy
none_sorted = tt

pub no_table : table_of [] ≡ empty
no_table = empty_of_len (table_of []) (len-entries (table_of []) ∙ ap length (entries-table_of [] none_sorted))

-- ---- what stands at a place

pub get_in : (es : List Entry) → IsStrictlySortedBy place_cmp (keys_of es) → (p : Place) → get (table_of es) p
    ≡ lookup (is_at (place_cmp p)) es
get_in es s p = get-from_sorted place_cmp es p (so_from _ (sorted_keys es s)) ∙ find-lookup p es

-- of a map with something else at one place
module _ (es fs : List Entry) (s : IsStrictlySortedBy place_cmp (keys_of es)) (t : IsStrictlySortedBy place_cmp
    (keys_of fs)) (p : Place) where
  abbrev Puts : Option (List Element) → Type 0
  Puts w = (q : Place) → lookup (is_at (place_cmp q)) fs ≡ cond (is_at (place_cmp p) q) w
      (lookup (is_at (place_cmp q)) es)

  there : (w : Option (List Element)) → Puts w → (q : Place) → get (table_of fs) q ≡ cond (is_place q p) w
      (get (table_of es) q)
  there w h q = get_in fs t q ∙ h q ∙ (λ i. cond ((eq_by_cmp_equiv place_total).symm p q i) w (sym (get_in es s q) i))

  pub table_put : (us : List Element) → Puts (Some us) → table_of fs ≡ insert (table_of es) p us
  table_put us h = same_table _ _ (λ q. there (Some us) h q ∙ sym (get_put (table_of es) p us q))

  pub table_removed : Puts None → table_of fs ≡ remove (table_of es) p
  table_removed h = same_table _ _ (λ q. there None h q ∙ sym (get-remove place_total (table_of es) p q))

-- ---- each tuple changed, one after another

-- an entry behind all others
insert_next : (es : List Entry) (e : Entry) (rest : List Entry) → IsStrictlySortedBy place_cmp
    (keys_of (es ++ e ∷ rest)) → insert_entry place_cmp es e.0 e.1 ≡ es ++ e ∷ []
insert_next [] e rest s = refl
insert_next (d ∷ es) e rest s =
    let after = sorted_head place_cmp d.0 (keys_of (es ++ e ∷ rest)) s in
    let less : place_cmp d.0 e.0 ≡ Less =
    all_at (λ k. place_cmp d.0 k ≡ Less) (keys_of (es ++ e ∷ rest)) after e.0 (map_among (λ (x : Entry). x.0)
    (es ++ e ∷ rest) e (among_right es (e ∷ rest) e (inl refl))) in
    let greater : place_cmp e.0 d.0 ≡ Greater = place_total.antisymm e.0 d.0 ∙ ap ordering_reverse less in
    ap (λ o. match_ordering o (e ∷ d ∷ es) ((d.0, e.1) ∷ es) (d ∷ insert_entry place_cmp es e.0 e.1)) greater
    ∙ ap (λ xs. d ∷ xs) (insert_next es e rest (sorted_tail place_cmp d.0 (keys_of (es ++ e ∷ rest)) s))

module _ (f : Place → List Element → List Element) where
  abbrev changed : List Entry → List Entry
  changed es = map (λ e. (e.0, f e.0 e.1)) es

  keys-changed : (es : List Entry) → keys_of (changed es) ≡ keys_of es
  keys-changed [] = refl
  keys-changed (e ∷ es) = ap (λ ks. e.0 ∷ ks) (keys-changed es)

  pub changed_more : (all front : List Entry) (e : Entry) (rest : List Entry) → IsStrictlySortedBy place_cmp
      (keys_of all) → front ++ changed (e ∷ rest) ≡ changed all
      → insert_entry place_cmp front e.0 (f e.0 e.1) ++ changed rest ≡ changed all
  changed_more all front e rest s h =
      let d : Entry = (e.0, f e.0 e.1) in
      let t : IsStrictlySortedBy place_cmp (keys_of (front ++ d ∷ changed rest)) = subst (IsStrictlySortedBy place_cmp)
      (sym (ap keys_of h ∙ keys-changed all)) s in
      ap (λ es. es ++ changed rest) (insert_next front d (changed rest) t) ∙ append_assoc front (d ∷ []) (changed rest)
      ∙ h

  pub table_changed : (es fs : List Entry) → IsStrictlySortedBy place_cmp (keys_of es) → fs ≡ changed es → table_of fs
      ≡ change f (table_of es)
  unfolding change
  table_changed es fs s h = ap table_of (h ∙ ap changed (sym (entries-table_of es s)))

-- ---- one element set

module _ (attr label : ℕ) (v : Option Value) where
  abbrev set : Element
  set = record { value = v; class = label }

  pub set_none : (k : ℕ) (es : List Element) → ((i : ℕ) → i < length es → k + i ≡ attr → ⊥) → set_from attr label v k es
      ≡ es
  set_none k [] h = refl
  set_none k (e ∷ es) h = λ j.
      cond (ne_eqb k attr (λ s. h 0 (omega arith) (omega (arith, s))) j && nat_eq e.class label) set e
      ∷ set_none (suc k) es (λ i l s. h (suc i) (omega (arith, l)) (omega (arith, s))) j

  pub set_one : (i k : ℕ) → attr ≡ k + i → (es : List Element) → i < length es → (x : Element)
      → x ≡ slice_index_or es i x → set_from attr label v k es ≡ cond (nat_eq x.class label) (slice_set es i set) es
  set_one i k q [] l x is = absurd (omega (arith, l))
  set_one zero k q (e ∷ es) l x is =
      (λ j. cond (eq-eqb k attr (omega (arith, q)) j && nat_eq (sym is j).class label) set e ∷ set_none (suc k) es
      (λ i l s. omega (arith, q, s)) j)
      ∙ elim (nat_eq x.class label) as (λ b. cond b set e ∷ es ≡ cond b (set ∷ es)
      (e ∷ es)) [ true ↦ refl | false ↦ refl ]
  set_one (suc i) k q (e ∷ es) l x is =
      (λ j. cond (ne_eqb k attr (λ s. omega (arith, q, s)) j && nat_eq e.class label) set e ∷ set_one i (suc k)
      (omega (arith, q)) es (omega (arith, l)) x is j)
      ∙ elim (nat_eq x.class label) as (λ b. e ∷ cond b (slice_set es i set) es ≡ cond b (e ∷ slice_set es i set)
      (e ∷ es)) [ true ↦ refl | false ↦ refl ]

-- ---- parts of some tuples, one after another

pub parts_more : {B : Type 0} (F : List Entry → List B) → ((xs ys : List Entry) → F (xs ++ ys) ≡ F xs ++ F ys)
    → (p : Entry → Bool) (front new : List B) (e : Entry) (rest all : List Entry)
    → new ≡ front ++ F (filter p (e ∷ [])) → all ≡ e ∷ rest → new ++ F (filter p rest) ≡ front ++ F (filter p all)
parts_more F app p front new e rest all h is =
    ap (λ bs. bs ++ F (filter p rest)) h ∙ append_assoc front (F (filter p (e ∷ []))) (F (filter p rest))
    ∙ ap (λ bs. front ++ bs) (sym (app (filter p (e ∷ [])) (filter p rest)) ∙ ap F (sym (filter-append p (e ∷ []) rest))
    ∙ ap (λ es. F (filter p es)) (sym is))

pub fragment_is : (es : List Entry) → IsStrictlySortedBy place_cmp (keys_of es) → (ms : List ℕ) (f : Fragment)
    → f.nodes ≡ map node_of (filter (is_of_any ms) es) → f.cells ≡ flat_map cells_of (filter (is_of_any ms) es)
    → AreFragments (table_of es) ms f
fragment_is es s ms f nodes cells =
    let same = sym (entries-table_of es s) in
    record {
      nodes = same_permuted _ f.nodes (nodes ∙ ap (λ xs. map node_of (filter (is_of_any ms) xs)) same);
      cells = same_permuted _ f.cells (cells ∙ ap (λ xs. flat_map cells_of (filter (is_of_any ms) xs)) same);
    }
