-- No line feed stands in what is written of rows and entries, where none stands in a name.
use Rattle.std.proofs.Common.{ℕ, zero, suc, Bool, true, false, cond, List, [], ◌∷◌, ◌++◌, map, Option, Some, None, refl, codes, is_some, flat_map, decimal}
use Rattle.std.specs.List.{AllByRecursion}
use Rattle.std.proofs.lemmas.List.Folds.{list_any-append}
use Rattle.mls_lattice.proofs.EachLemmas.{all, all_if, all_append, all_map}
use Rattle.mls_tokens.specs.Writing.{printable}
use Rattle.mls_tokens.specs.Table.{padded, ruled}
use Rattle.mls_lattice.specs.Lattice.{Pair, same_pair}
use Rattle.mls_lattice.specs.Policy.{Name, Named, Policy, labels_of}
use Rattle.mls_lattice.specs.Canon.{label_name}
use Rattle.mls_scheme.specs.declared.value.Value.{Value}
use Rattle.mls_scheme.specs.declared.value.Value.TheVariants as values
use Rattle.mls_scheme.specs.declared.tuple.Tuple.{Tuple}
use Rattle.mls_scheme.specs.Tuple.{tuple_class}
use Rattle.mls_scheme.specs.Scheme.{Scheme, Schemes, scheme_of}
use Rattle.mls_translang.specs.declared.query.Query.{Query}
use Rattle.mls_audit.specs.declared.entry.Entry.{Entry}
use Rattle.mls_audit.specs.declared.entry.Deed.{Deed}
use Rattle.mls_audit.specs.declared.entry.Deed.TheVariants as deeds
use Rattle.mls_machine.specs.Parting.{IsOneLine, HasPlainNames}
use Rattle.mls_translang.specs.Writing.{value_text, cell_text}
use Rattle.mls_machine.specs.Output.{name_of, cell_entry, row_text, word_if, query_words, asked, heading, count_text, table_cell, tuple_cells, name_cells, table_row, table_of, entry_front, deed_word, deed_text, time_text, entry_text}
use Rattle.mls_machine.proofs.OneLineLemmas.{one_line-append, one_line-flat_map, one_line-at, one_line-printable, one_line-quoted, one_line-decimal, one_line-signed, one_line-escaped, one_line-padded, one_line-ruled}

-- ---- values

value_line : (v : Value) → IsOneLine (value_text v)
value_line (values.Int n) = one_line-signed n
value_line (values.Text s) = one_line-quoted s

pub cell_line : (v : Option Value) → IsOneLine (cell_text v)
cell_line None = refl
cell_line (Some v) = value_line v

-- a relation by its number
pub scheme_line : (schemes : Schemes) (relation : ℕ) → AllByRecursion HasPlainNames schemes
    → HasPlainNames (scheme_of schemes relation)
scheme_line [] relation h = record { name = refl; keys = tt; others = tt }
scheme_line (s ∷ schemes) zero h = h.0
scheme_line (s ∷ schemes) (suc relation) h = scheme_line schemes relation h.1

-- ---- rows

module _ (p : Policy) (labels : AllByRecursion (λ l. IsOneLine l.name) p.labels) where
  pub label_line : (n : ℕ) → IsOneLine (label_name p.labels n)
  label_line n = one_line-at (λ l. l.name) p.labels n labels

  named : (ls : List Named) (q : Pair) → AllByRecursion (λ l. IsOneLine l.name) ls → IsOneLine (name_of ls q)
  named [] q h = refl
  named (l ∷ ls) q h = elim (same_pair l.value q) as (λ b. IsOneLine (cond b l.name (name_of ls q))) [
    | true ↦ h.0
    | false ↦ named ls q h.1
  ]

  class_line : (t : Tuple) → IsOneLine (name_of p.labels (tuple_class (labels_of p) t))
  class_line t = named p.labels (tuple_class (labels_of p) t) labels

  entry_cell_line : (class : ℕ) (v : Option Value) → IsOneLine (cell_entry p.labels class v)
  entry_cell_line class v = simp (list_any-append, cell_line v, label_line class)

  pub row_line : (t : Tuple) → IsOneLine (row_text p t)
  row_line t =
      let keys = one_line-flat_map (λ v. cell_entry p.labels t.key_class (Some v)) t.key
      (all (λ v. IsOneLine (cell_entry p.labels t.key_class (Some v))) (λ v. entry_cell_line t.key_class
      (Some v)) t.key) in
      let others = one_line-flat_map (λ e. cell_entry p.labels e.class e.value) t.elements
      (all (λ e. IsOneLine (cell_entry p.labels e.class e.value)) (λ e. entry_cell_line e.class e.value) t.elements)
      in
      simp (list_any-append, keys, others, class_line t)

  spaced_line : (s : Scheme) → HasPlainNames s → IsOneLine (flat_map (λ a. codes " " ++ a.0) s.keys)
      × IsOneLine (flat_map (λ a. codes " " ++ a.0) s.others)
  spaced_line s h = (
    one_line-flat_map (λ a. codes " " ++ a.0) s.keys (all_if (λ a. IsOneLine a.0) (λ a. IsOneLine (codes " " ++ a.0))
        (λ a k. k) s.keys h.keys),
    one_line-flat_map (λ a. codes " " ++ a.0) s.others (all_if (λ a. IsOneLine a.0) (λ a. IsOneLine (codes " " ++ a.0))
        (λ a k. k) s.others h.others),
  )

  -- ---- what was asked

  word_line : (has : Bool) (word : List ℕ) → IsOneLine word → IsOneLine (word_if has word)
  word_line true word h = one_line-append (codes " ") word refl h
  word_line false word h = refl

  words_line : (q : Query) → IsOneLine (query_words q)
  words_line q =
      simp (
        list_any-append,
        word_line q.highest (codes "highest") refl,
        word_line (is_some q.class)
            (codes "class") refl,
        word_line (is_some q.first) (codes "first") refl,
        word_line (is_some q.test)
            (codes "where") refl,
      )

  asked_line : (verb : List ℕ) (s : Scheme) (label : ℕ) (q : Query) → IsOneLine verb → HasPlainNames s
      → IsOneLine (asked p verb s label q)
  asked_line verb s label q v h =
      let whole = verb ++ codes " " ++ s.name ++ codes " at " ++ label_name p.labels label in
      let named : IsOneLine whole = simp (list_any-append, v, h.name, label_line label) in
      one_line-append (whole ++ query_words q) (codes ":") (one_line-append whole (query_words q) named
      (words_line q)) refl

  pub heading_line : (s : Scheme) (label : ℕ) (q : Query) → HasPlainNames s → IsOneLine (heading p s label q)
  heading_line s label q h =
      let k = spaced_line s h in
      let keys = flat_map (λ a. codes " " ++ a.0) s.keys in
      let front = asked p (codes "view") s label q ++ keys in
      one_line-append front (flat_map (λ a. codes " " ++ a.0) s.others)
      (one_line-append (asked p (codes "view") s label q) keys (asked_line (codes "view") s label q refl h) k.0) k.1

  pub count_line : (s : Scheme) (label : ℕ) (q : Query) (n : ℕ) → HasPlainNames s → IsOneLine (count_text p s label q n)
  count_line s label q n h =
      let front = asked p (codes "count") s label q in
      one_line-append (front ++ codes " ") (decimal n) (one_line-append front (codes " ")
      (asked_line (codes "count") s label q refl h) refl) (one_line-decimal n)

  -- ---- rows as a table

  table_cell_line : (class : ℕ) (v : Option Value) → IsOneLine (table_cell p.labels class v)
  table_cell_line class v = one_line-escaped (cell_text v ++ codes " " ++ label_name p.labels class)
      (simp (list_any-append, cell_line v, label_line class))

  tuple_cells_line : (t : Tuple) → AllByRecursion IsOneLine (tuple_cells p t)
  tuple_cells_line t =
      all_append IsOneLine (map (λ v. table_cell p.labels t.key_class (Some v)) t.key)
      (map (λ e. table_cell p.labels e.class e.value) t.elements)
      (all_map IsOneLine (λ v. table_cell p.labels t.key_class (Some v)) t.key
      (all (λ v. IsOneLine (table_cell p.labels t.key_class (Some v))) (λ v. table_cell_line t.key_class
      (Some v)) t.key))
      (all_map IsOneLine (λ e. table_cell p.labels e.class e.value) t.elements
      (all (λ e. IsOneLine (table_cell p.labels e.class e.value))
      (λ e. table_cell_line e.class e.value) t.elements))

  name_cells_line : (s : Scheme) → HasPlainNames s → AllByRecursion IsOneLine (name_cells s)
  name_cells_line s h =
      all_append IsOneLine (map (λ a. a.0) s.keys) (map (λ a. a.0) s.others)
      (all_map IsOneLine (λ a. a.0) s.keys h.keys) (all_map IsOneLine (λ a. a.0) s.others h.others)

  pub table_lines : (s : Scheme) (label : ℕ) (q : Query) (widths : List ℕ) (tuples : List Tuple) → HasPlainNames s
      → AllByRecursion IsOneLine (table_of p s label q widths tuples)
  table_lines s label q widths tuples h =
      let row = λ (t : Tuple). one_line-append (padded widths 0 (tuple_cells p t))
      (name_of p.labels (tuple_class (labels_of p) t)) (one_line-padded widths 0 (tuple_cells p t)
      (tuple_cells_line t)) (class_line t) in (
        asked_line (codes "view") s label q refl h,
        (
          one_line-append (padded widths 0 (name_cells s)) (codes "class") (one_line-padded widths 0 (name_cells s)
              (name_cells_line s h)) refl,
          (
            one_line-append (flat_map ruled widths) (codes "-----") (one_line-ruled widths) refl,
            all_map IsOneLine (table_row p widths) tuples (all (λ t. IsOneLine (table_row p widths t)) row tuples),
          ),
        ),
      )

  -- ---- entries

  front_line : (label : ℕ) (deed : List ℕ) (user session : Name) → IsOneLine deed
      → IsOneLine (entry_front p label deed user session)
  front_line label deed user session h = simp (
    list_any-append,
    label_line label,
    h,
    one_line-printable user,
    one_line-printable session,
  )

  deed_word_line : (d : Deed) → IsOneLine (deed_word d)
  deed_word_line (deeds.Called transaction) = refl
  deed_word_line (deeds.Denied code) = refl
  deed_word_line (deeds.Released value) = refl

  deed_line : (d : Deed) → IsOneLine (deed_text d)
  deed_line (deeds.Called transaction) = one_line-printable transaction
  deed_line (deeds.Denied code) = one_line-decimal code
  deed_line (deeds.Released value) = cell_line value

  time_line : (time : Option (List ℕ)) → IsOneLine (time_text time)
  time_line None = refl
  time_line (Some time) = one_line-append (codes " ") (printable time) refl (one_line-printable time)

  pub entry_line : (e : Entry) → IsOneLine (entry_text p e)
  entry_line e =
      one_line-append (entry_front p e.label (deed_word e.deed) e.user e.session) (deed_text e.deed ++ time_text e.time)
      (front_line e.label (deed_word e.deed) e.user e.session (deed_word_line e.deed))
      (one_line-append (deed_text e.deed) (time_text e.time) (deed_line e.deed) (time_line e.time))
