-- Content of older stores, widened: it is sound, and the rows of its tables hold it.
use Rattle.std.proofs.Common.{◌≡◌, ℕ, zero, suc, ◌+◌, ◌<◌, ◌≤◌, List, [], ◌∷◌, ◌++◌, map, length, drop, append_assoc, refl, sym, ap, subst, ◌∙◌, arith, slice_index_or, IfSome, length-drop, take-append-drop, take_all}
use Rattle.std.specs.List.{AllByRecursion}
use Rattle.std.specs.List.Sorted.{IsStrictlySortedBy}
use Rattle.std.specs.Map.{keys_of}
use Rattle.std.proofs.lemmas.List.{map-append}
use Rattle.mls_lattice.specs.Policy.{Policy, labels_of}
use Rattle.mls_scheme.specs.declared.tuple.Element.{Element}
use Rattle.mls_scheme.specs.Spelling.{HasSpelling}
use Rattle.mls_scheme.specs.Scheme.{Scheme, Schemes, scheme_of, IsUnder}
use Rattle.mls_scheme.specs.Table.{place_cmp}
use Rattle.mls_scheme.specs.Extending.{scheme_before, HadOthers}
use Rattle.mls_audit.specs.Spelling.{IsEntryOf}
use Rattle.mls_filterview.specs.Stored.{IsContent}
use Rattle.mls_filterview.specs.Widen.{nulls, widened_entry, IsWidened}
use Rattle.mls_filterview.proofs.WideningLemmas.{widening_keeps_content}
use Rattle.mls_filterview.proofs.WidenedRowLemmas.{table_widened}
use Rattle.mls_rows.specs.Changes.{Entries, table_in}
use Rattle.mls_rows.specs.Finding.{IsSpelledEntry}
use Rattle.mls_fragments.specs.Migrating.{more, wide_tables}

-- ---- items by their numbers

-- what holds of each table holds by number, and of none
pub each_table : (P : Entries → Type 0) → P [] → (tables : List Entries) → AllByRecursion P tables → (relation : ℕ)
    → P (slice_index_or tables relation [])
each_table P none [] h relation = none
each_table P none (es ∷ tables) h zero = h.0
each_table P none (es ∷ tables) h (suc relation) = each_table P none tables h.1 relation

-- ---- entries of one relation

keys_widened : (n : ℕ) (es : Entries) → keys_of (map (widened_entry n) es) ≡ keys_of es
keys_widened n [] = refl
keys_widened n (e ∷ es) = ap (λ ps. e.0 ∷ ps) (keys_widened n es)

spelled_nulls : (n m : ℕ) → AllByRecursion (λ x. IfSome x.value HasSpelling) (nulls n m)
spelled_nulls zero m = tt
spelled_nulls (suc n) m = (tt, spelled_nulls n m)

spelled_more : (n m : ℕ) (es : List Element) → AllByRecursion (λ x. IfSome x.value HasSpelling) es
    → AllByRecursion (λ x. IfSome x.value HasSpelling) (es ++ nulls n m)
spelled_more n m [] h = spelled_nulls n m
spelled_more n m (e ∷ es) h = (h.0, spelled_more n m es h.1)

spelled_widened : (n : ℕ) (es : Entries) → AllByRecursion IsSpelledEntry es → AllByRecursion IsSpelledEntry
    (map (widened_entry n) es)
spelled_widened n [] h = tt
spelled_widened n (e ∷ es) h = ((h.0.0, spelled_more n e.0.key_class e.1 h.0.1), spelled_widened n es h.1)

-- ---- all relations

module _ (schemes : Schemes) (counts : List ℕ) where
  entries_from : (k : ℕ) (tables : List Entries) (relation : ℕ)
      → slice_index_or (wide_tables schemes counts k tables) relation []
      ≡ map (widened_entry (more schemes counts (k + relation))) (slice_index_or tables relation [])
  entries_from k [] relation = refl
  entries_from k (es ∷ tables) zero = ap (λ n. map (widened_entry (more schemes counts n)) es) (omega arith)
  entries_from k (es ∷ tables) (suc relation) =
      entries_from (suc k) tables relation ∙ ap (λ n. map (widened_entry (more schemes counts n))
      (slice_index_or tables relation [])) (omega arith)

  pub wide_length : (k : ℕ) (tables : List Entries) → length (wide_tables schemes counts k tables) ≡ length tables
  wide_length k [] = refl
  wide_length k (es ∷ tables) = ap suc (wide_length (suc k) tables)

module _ (schemes : Schemes) (counts : List ℕ) (tables wide : List Entries) (are : wide
    ≡ wide_tables schemes counts 0 tables) where
  entries_wide : (relation : ℕ) → slice_index_or wide relation [] ≡ map (widened_entry (more schemes counts relation))
      (slice_index_or tables relation [])
  entries_wide relation = ap (λ ws. slice_index_or ws relation []) are ∙ entries_from schemes counts 0 tables relation
      ∙ ap (λ n. map (widened_entry (more schemes counts n)) (slice_index_or tables relation [])) (omega arith)

  module _ (sorted : (relation : ℕ) → IsStrictlySortedBy place_cmp (keys_of (slice_index_or tables relation []))) where
    pub sorted_wide : (relation : ℕ) → IsStrictlySortedBy place_cmp (keys_of (slice_index_or wide relation []))
    sorted_wide relation =
        subst (IsStrictlySortedBy place_cmp) (sym (ap keys_of (entries_wide relation) ∙ keys_widened
        (more schemes counts relation) (slice_index_or tables relation []))) (sorted relation)

    pub tables_wide : (relation : ℕ) → IsWidened (more schemes counts relation) (table_in tables relation)
        (table_in wide relation)
    tables_wide relation = table_widened (more schemes counts relation) (slice_index_or tables relation [])
        (slice_index_or wide relation []) (sorted relation) (entries_wide relation)

    -- a relation that is sound with fewer attributes is sound, widened
    pub content_wide : (policy : Policy) (relation : ℕ) → relation < length schemes
        → 0 < length (scheme_of schemes relation).keys → HadOthers policy (slice_index_or counts relation 0)
        (scheme_of schemes relation)
        → IsUnder (length (labels_of policy)) (scheme_before (slice_index_or counts relation 0)
        (scheme_of schemes relation))
        → IsContent (labels_of policy) (scheme_before (slice_index_or counts relation 0) (scheme_of schemes relation))
        (table_in tables relation)
        → IsContent (labels_of policy) (scheme_of schemes relation) (table_in wide relation)
    content_wide policy relation l some had under content =
        let ls = labels_of policy in
        let k = slice_index_or counts relation 0 in
        let new = scheme_of schemes relation in
        widening_keeps_content ls (length ls) (more schemes counts relation) (scheme_before k new) new
        (table_in tables relation) (table_in wide relation) some under
        (record {
          keys = refl;
          more = drop k new.others;
          others = sym (take-append-drop k new.others);
          count =
              length-drop k new.others;
          around = had.1;
        })
        (tables_wide relation)
        (subst (λ xs. IsContent xs (scheme_before k new) (table_in tables relation))
        (sym (take_all (length ls) ls (omega arith))) content)

  pub spelled_wide : ((relation : ℕ) → AllByRecursion IsSpelledEntry (slice_index_or tables relation []))
      → (relation : ℕ) → AllByRecursion IsSpelledEntry (slice_index_or wide relation [])
  spelled_wide spelled relation = subst (AllByRecursion IsSpelledEntry) (sym (entries_wide relation))
      (spelled_widened (more schemes counts relation) (slice_index_or tables relation []) (spelled relation))

-- ---- relations and entries

pub scheme_each : (P : Scheme → Type 0) (schemes : Schemes) → AllByRecursion P schemes → (relation : ℕ)
    → relation < length schemes → P (scheme_of schemes relation)
scheme_each P [] h relation l = absurd (omega (arith, l))
scheme_each P (s ∷ schemes) h zero l = h.0
scheme_each P (s ∷ schemes) h (suc relation) l = scheme_each P schemes h.1 relation (omega (arith, l))

-- an entry of one of some labels is one of more
pub entries_more : (k n : ℕ) → k ≤ n → (audit : List (List ℕ)) → AllByRecursion (IsEntryOf k) audit
    → AllByRecursion (IsEntryOf n) audit
entries_more k n few [] h = tt
entries_more k n few (b ∷ audit) h = let d = h.0.declared
    in (
      record { entry = h.0.entry; spelled = h.0.spelled; declared = omega (arith, d, few); is = h.0.is },
      entries_more k n few audit h.1,
    )

-- one table more is widened
pub table_wide : {T : Type 0} (entries : T → Entries) (schemes : Schemes) (counts : List ℕ) (k : ℕ) (wide : List T)
    (t u : T) (rest : List T)
    → entries u ≡ map (widened_entry (more schemes counts k)) (entries t)
    → map entries (wide ++ u ∷ []) ++ wide_tables schemes counts (k + 1) (map entries rest) ≡ map entries wide
    ++ wide_tables schemes counts k (map entries (t ∷ rest))
table_wide entries schemes counts k wide t u rest same =
    let next : k + 1 ≡ suc k = omega arith in
    ap (λ es. es ++ wide_tables schemes counts (k + 1) (map entries rest)) (map-append entries wide (u ∷ []))
    ∙ append_assoc (map entries wide) (entries u ∷ []) (wide_tables schemes counts (k + 1) (map entries rest))
    ∙ ap (λ es. map entries wide ++ es ∷ wide_tables schemes counts (k + 1) (map entries rest)) same
    ∙ ap (λ n. map entries wide ++ map (widened_entry (more schemes counts k)) (entries t)
    ∷ wide_tables schemes counts n (map entries rest)) next
