-- Rows that a query of a whole table gives one at a time, and what is kept of them.
use Rattle.std.proofs.Common.{◌≡◌, ℕ, ℤ, List, [], ◌∷◌, ◌++◌, map, codes, Bool, true, false, Ok, Err, Result, Vec, int_lt, Option, Some, None, IfSome, refl, sym, ap, subst, ◌∙◌, IsPermutation, arith}
use Rattle.std.specs.List.{AllByRecursion}
use Rattle.std.specs.declared.alloc.Global.{Global}
use Rattle.std.proofs.lemmas.Bool.Decides.{nat_tests}
use Rattle.std.proofs.lemmas.Int.{ints}
use Rattle.std.proofs.lemmas.List.{map-append}
use Rattle.sqlite_value.specs.Order.{Row, column}
use Rattle.sqlite_value.specs.declared.keys.Key.{Key}
use Rattle.sqlite_trees.specs.Tree.{Trees, rowid}
use Rattle.sqlite_trees.specs.View.{is_int}
use Rattle.sqlite_rules.specs.Edit.{id_in}
use Rattle.sqlite.specs.Term.{Term, col, eval_all}
use Rattle.sqlite.specs.Command.TheVariants.{Select}
use Rattle.sqlite.specs.Program.{overlay}
use Rattle.sqlite.specs.Clock.{timed}
use Rattle.sqlite.specs.Effect.{Database}
use Rattle.sqlite.specs.Listing.{understood, reads_listing, IsSourceOf}
use Rattle.sqlite.specs.State.{State, IsUnchanged, ShowsRows, Shown}
use Rattle.sqlite.proofs.Callers.{IsPlain, command_of, EndsIn, begins_shown, unchanged_then}
use Rattle.sqlite_resolve.specs.declared.compiled.Compiled.{Compiled}
use Rattle.mls_tables.specs.declared.adopting.AdoptFault.{AdoptFault}
use Rattle.mls_tables.specs.Rows.{Tables, tables_of, node_columns, shown_node, shows_node, is_node_row, cell_columns, shown_cell, shows_cell, is_cell_row, audit_columns, shown_entry, shows_entry, is_audit_row}
use Rattle.mls_tables.specs.Schema.{Others, HasTables, schema}
use Rattle.mls_tables.specs.Statements.{AreRows}
use Rattle.mls_tables.specs.Adopting.{AreRising, Blames, HaveIds, IsInteger, ReadsNode, ReadsCell, ReadsEntry, AreNodes, AreCells, AreEntries, IsWholeTable, ShowsAll, BlamesOne, ReadsAll, ReadsTables}
use Rattle.mls_tables.proofs.DecodeLemmas.{more}
use Rattle.mls_tables.proofs.EditParts.{alone}
use Rattle.mls_tables.proofs.Finds.{by_rowid, shows_all}
use Rattle.mls_tables.proofs.QueryAnswers.{rows_sorted}
use Rattle.mls_tables.proofs.Texts.{Asks, node_names, node_shown, all_nodes, all_nodes_is, cell_names, cell_shown, all_cells, all_cells_is, audit_names, audit_shown, all_entries, all_entries_is}
use Rattle.mls_tables.proofs.WholeRows.{all_shown, are_rows, items_shown}

-- ---- what is kept

-- no rowid is above the last
abbrev pub IsLast : ℕ → Option ℤ → List Row → Type 0
IsLast at None rows = rows ≡ []
IsLast at (Some low) rows = AllByRecursion (λ r. int_lt low (id_in (column r at)) ≡ false) rows

not_above : (a b c : ℤ) → int_lt a b ≡ false → int_lt a c ≡ true → int_lt b c ≡ true
not_above a b c h k = grind (arith, ints, nat_tests)

not_below : (a b : ℤ) → int_lt a b ≡ true → int_lt b a ≡ false
not_below a b h = grind (arith, ints, nat_tests)

not_itself : (a : ℤ) → int_lt a a ≡ false
not_itself a = grind (arith, ints, nat_tests)

module _ (at : ℕ) (row : Row) (is : is_int (column row at) ≡ true) where
  abbrev id : ℤ
  id = id_in (column row at)

  below : (low : ℤ) (rows : List Row) → IsLast at (Some low) rows → int_lt low id ≡ true
      → AllByRecursion (λ r. int_lt (id_in (column r at)) id ≡ true) rows
  below low [] all above = tt
  below low (r ∷ rows) all above = (not_above low (id_in (column r at)) id all.0 above, below low rows all.1 above)

  all_below : (last : Option ℤ) (rows : List Row) → IsLast at last rows → IfSome last (λ low. int_lt low id ≡ true)
      → AllByRecursion (λ r. int_lt (id_in (column r at)) id ≡ true) rows
  all_below None rows none above = rw none tt
  all_below (Some low) rows all above = below low rows all above

  now_last : (rows : List Row) → AllByRecursion (λ r. int_lt (id_in (column r at)) id ≡ true) rows
      → IsLast at (Some id) (rows ++ row ∷ [])
  now_last [] all = (not_itself id, tt)
  now_last (r ∷ rows) all = (not_below (id_in (column r at)) id all.0, now_last rows all.1)

  rises_on : (rows : List Row) → AreRising at rows → AllByRecursion (λ r. int_lt (id_in (column r at)) id ≡ true) rows
      → AreRising at (rows ++ row ∷ [])
  rises_on [] up all = ((is, tt), (tt, tt))
  rises_on (r ∷ rows) up all =
      let rest = rises_on rows (up.0.1, up.1.1) all.1 in (
        (up.0.0, rest.0),
        (
          more (λ s. int_lt (id_in (column r at)) (id_in (column s at)) ≡ true) rows row up.1.0 all.0,
          rest.1,
        ),
      )

module _ {X : Type 0} (at : ℕ) (show : Row → X) (shows : Row → Bool) where
  pub record IsKept (given : List Row) (found : List X) (last : Option ℤ) : Type 0 where
    pub shown : found ≡ map show given
    pub whole : AllByRecursion (λ r. shows r ≡ true) given
    pub rising : AreRising at given
    pub low : IsLast at last given

  pub none_kept : IsKept [] [] None
  none_kept = record { shown = refl; whole = tt; rising = (tt, tt); low = refl }

  -- one row more is kept
  pub one_kept : (given : List Row) (found after : List X) (last : Option ℤ) (row : Row) (number : ℤ)
      → IsKept given found last → (after ≡ found ++ show row ∷ []) × (shows row ≡ true)
      → (is_int (column row at) ≡ true) × (number ≡ id_in (column row at)) → IfSome last (λ low. int_lt low number
      ≡ true) → IsKept (given ++ row ∷ []) after (Some number)
  one_kept given found after last row number kept this is above =
      let higher = all_below at row is.0 last given kept.low
      (subst (λ n. IfSome last (λ low. int_lt low n ≡ true)) is.1 above) in
      record {
        shown = this.0 ∙ ap (λ xs. xs ++ show row ∷ []) kept.shown ∙ sym (map-append show given (row ∷ []));
        whole = more (λ r. shows r ≡ true) given row kept.whole this.1;
        rising = rises_on at row is.0 given kept.rising higher;
        low = subst (λ n. IsLast at (Some n) (given ++ row ∷ [])) (sym is.1) (now_last at row is.0 given higher);
      }

  -- the answer of a query, of which all is kept
  pub all_kept : (sql : List ℕ) (old new : State) (given : List Row) (found : List X) (last : Option ℤ)
      → Shown sql [] old new given → IsKept given found last → ShowsAll at show shows sql old new found
  all_kept sql old new given found last answer kept = (given, answer, kept.shown, kept.whole, kept.rising)

-- ---- queries that began where nothing was changed

module _ (sql : List ℕ) (first old new : State) (plain : IsPlain (understood first.now.schema sql))
    (same : IsUnchanged first old) where
  -- what was shown since is an answer from there
  pub shown_from : (rows : List Row) → Shown sql [] old new rows → Shown sql [] first new rows
  unfolding Shown
  shown_from rows h =
      let is = same.0.now_is in
      let still : IsPlain (understood old.now.schema sql) = subst (λ (d : Database). IsPlain (understood d.schema sql))
      (sym is) plain in
      let none = (subst IsPlain h.1.is still).0 in
      let full = timed [] h.0.formats h.1.now in
      let it = subst (ShowsRows old new sql h.0 full rows) none h.2 in (
        h.0,
        record {
          is = subst (λ (d : Database). understood d.schema sql ≡ Ok h.0) is h.1.is;
          whole = h.1.whole;
          given =
              h.1.given;
          now = h.1.now;
        },
        subst (ShowsRows first new sql h.0 full rows) (sym none) (
          it.0,
          subst (λ (d : Database). IsSourceOf (reads_listing d.schema sql) d it.0) is it.1,
          it.2,
          unchanged_then first old new same it.3,
        ),
      )

-- ---- whole tables

among : (P : Row → Type 0) (rows : List Row) (row : Row) (tail : List Row)
    → AllByRecursion P ((rows ++ row ∷ []) ++ tail) → P row
among P [] row tail all = all.0
among P (r ∷ rows) row tail all = among P rows row tail all.1

stays : (old new : State) → IsUnchanged old new → IsUnchanged new new
stays old new same = (
  record { was_open = same.0.is_open; is_open = same.0.is_open; now_is = refl; committed_is = refl; mode = refl },
  record { changes = refl; last_rowid = refl },
  refl,
)

module _ (sql : List ℕ) (tree : ℕ) (project : List Term) (names : List (List ℕ)) (order : List (Term × Key))
    (asks : (o : Others) → Asks (schema o) sql (Select (alone (rows_sorted tree [] project order)) names))
    (whole : (trees : Trees) → overlay trees [] tree ≡ trees tree)
    (old new : State) (has : HasTables old.now.schema) (at : ℕ) where
  abbrev columns : Row → Row
  columns r = eval_all project ([] ∷ r ∷ [])

  abbrev rows : List Row
  rows = old.now.trees tree

  asks_plain : IsPlain (understood old.now.schema sql)
  asks_plain = subst (λ d. IsPlain (understood d sql)) (sym has.is) (asks has.others).1

  module _ {X : Type 0} (show : Row → X) (shows is_row : Row → Bool) (place : (r : Row) → column (columns r) at
      ≡ rowid r) (fits : (r : Row) → shows (columns r) ≡ true → is_int (rowid r) ≡ true → is_row r ≡ true) where
    -- what the rows of a table show, whose rowids rise, is the table's
    all_read : (found : List X) → ShowsAll at show shows sql old new found → AreRows is_row rows
        × IsPermutation (map (λ r. show (columns r)) rows) found
    all_read found h =
        let same = shows_all old new has sql tree project names order (asks has.others) (whole old.now.trees) h.0 h.1 in (
          are_rows columns rows h.0 same at place shows is_row fits h.3 h.4,
          subst (IsPermutation (map (λ r. show (columns r)) rows)) (sym h.2) (items_shown columns rows h.0 same show),
        )

  asked : (c : Compiled) → understood new.now.schema sql ≡ Ok c → IsUnchanged old new
      → c.command ≡ Select (alone (rows_sorted tree [] project order)) names
  asked c is same = ap command_of (sym is ∙ ap (λ (d : Database). understood d.schema sql) same.0.now_is
      ∙ ap (λ d. understood d sql) has.is) ∙ (asks has.others).0

  -- where a row does not read, not all of the table do
  one_bad : (Reads : Row → Type 0) (e : AdoptFault) → IsUnchanged old new → BlamesOne at Reads sql new e
      → Blames (AllByRecursion Reads (map columns rows) × HaveIds at (map columns rows)) e
  one_bad Reads e same blames is all =
      let bad = blames is in
      let went = begins_shown sql [] new new (bad.0 ++ bad.1 ∷ []) bad.2 (stays old new same)
      (λ c db it source. subst (λ k. EndsIn k db (timed [] c.formats it.now)) (sym (asked c it.is same)) tt) in
      let answer = (bad.0 ++ bad.1 ∷ []) ++ went.0 in
      let moved = shows_all old new has sql tree project names order (asks has.others) (whole old.now.trees) answer
      (shown_from sql old new new asks_plain same answer went.1) in
      bad.3 (
        among Reads bad.0 bad.1 went.0 (all_shown columns rows answer moved Reads all.0),
        among (λ r. IsInteger (column r at)) bad.0 bad.1 went.0 (all_shown columns rows answer moved
            (λ r. IsInteger (column r at)) all.1),
      )

-- ---- the three tables

module _ (sql : List ℕ) (tree : ℕ) (project : List Term) (names : List (List ℕ))
    (asks : (o : Others) → Asks (schema o) sql (Select (alone (rows_sorted tree [] project by_rowid)) names))
    (whole : (trees : Trees) → overlay trees [] tree ≡ trees tree)
    (at : ℕ) {X : Type 0} (show : Row → X) (shows is_row : Row → Bool) (Reads : Row → Type 0) (place : (r : Row)
    → column (eval_all project ([] ∷ r ∷ [])) at ≡ rowid r)
    (fits : (r : Row) → shows (eval_all project ([] ∷ r ∷ [])) ≡ true → is_int (rowid r) ≡ true → is_row r ≡ true)
    (items : Tables → List X)
    (same : (trees : Trees) → map (λ r. show (eval_all project ([] ∷ r ∷ []))) (trees tree) ≡ items (tables_of trees))
    (old new : State) where
  abbrev AllRead : Database → Type 0
  AllRead db = AllByRecursion Reads (map (λ r. eval_all project ([] ∷ r ∷ [])) (db.trees tree))
      × HaveIds at (map (λ r. eval_all project ([] ∷ r ∷ [])) (db.trees tree))

  pub reads_table : (r : Result (Vec X Global) AdoptFault) → ReadsAll at show shows Reads sql old new r
      → ReadsTables (IsWholeTable is_row tree items) AllRead old new r
  reads_table (Ok xs) all = record {
    clean = all.clean;
    says = λ now has.
        let read = all_read sql tree project names by_rowid asks whole old new has at show shows is_row place fits xs.items (all.all now (asks_plain sql tree project names by_rowid asks whole old new has at)) in
        (read.0, subst (λ rows. IsPermutation rows xs.items) (same old.now.trees) read.1);
    same = λ now has. all.same now (asks_plain sql tree project names by_rowid asks whole old new has at);
    left = λ now has. tt;
    bad = λ now has. tt;
  }
  reads_table (Err e) all = record {
    clean = all.clean;
    says = λ now has. tt;
    same = λ now has. tt;
    left = λ now has. all.left now (asks_plain sql tree project names by_rowid asks whole old new has at);
    bad = λ now has is. let bad = all.bad now (asks_plain sql tree project names by_rowid asks whole old new has at) is
        in one_bad sql tree project names by_rowid asks whole old new has at Reads e bad.0 bad.1 is;
  }

abbrev AreAllRead : List ℕ → {X : Type 0} → ℕ → (Row → X) → (Row → Bool) → (Row → Type 0) → (Row → Bool) → ℕ
    → (Tables → List X) → (Database → Type 0) → Type 1
AreAllRead sql {X} at show shows Reads is_row tree items All =
    (old new : State) (r : Result (Vec X Global) AdoptFault) → ReadsAll at show shows Reads sql old new r
    → ReadsTables (IsWholeTable is_row tree items) All old new r

pub reads_nodes : AreAllRead all_nodes 5 shown_node shows_node ReadsNode is_node_row 0 (λ t. t.nodes)
    (λ db. AreNodes (map node_columns (db.trees 0)))
reads_nodes = reads_table all_nodes 0 (node_shown ++ col 1 0 ∷ []) (node_names ++ codes "rowid" ∷ []) all_nodes_is
    (λ trees. refl) 5 shown_node shows_node is_node_row ReadsNode (λ r. refl) (λ r shows int. rw (int, shows) refl)
    (λ t. t.nodes) (λ trees. refl)

pub reads_cells : AreAllRead all_cells 6 shown_cell shows_cell ReadsCell is_cell_row 2 (λ t. t.cells)
    (λ db. AreCells (map cell_columns (db.trees 2)))
reads_cells = reads_table all_cells 2 (cell_shown ++ col 1 0 ∷ []) (cell_names ++ codes "rowid" ∷ []) all_cells_is
    (λ trees. refl) 6 shown_cell shows_cell is_cell_row ReadsCell (λ r. refl) (λ r shows int. rw (int, shows) refl)
    (λ t. t.cells) (λ trees. refl)

pub reads_entries : AreAllRead all_entries 0 shown_entry shows_entry ReadsEntry is_audit_row 4 (λ t. t.audit)
    (λ db. AreEntries (map audit_columns (db.trees 4)))
reads_entries = reads_table all_entries 4 audit_shown audit_names all_entries_is
    (λ trees. refl) 0 shown_entry shows_entry is_audit_row ReadsEntry (λ r. refl) (λ r shows int. shows) (λ t. t.audit)
    (λ trees. refl)
