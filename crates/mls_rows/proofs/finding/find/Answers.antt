use Rattle.std.proofs.Common.{◌≡◌, [], true, map, true≢false, sym, subst, subst₂, ◌∙◌, rules, IsPermutation}
use Rattle.std.proofs.lemmas.List.{length-map}
use Rattle.std.proofs.lemmas.List.Sorted.{IsPermutation-trans, IsPermutation-refl}
use Rattle.std.specs.List.Sorted.{IsStrictlySortedBy}
use Rattle.std.specs.Map.{keys_of}
use Rattle.std.specs.List.{AllByRecursion, list_all}
use Rattle.mls_lattice.specs.Policy.{labels_of}
use Rattle.mls_rows.specs.Finding.{IsMemory, is_within, IsNodeRow, IsCellRow, AreAlike, AreAssembled, AreTables, IsSpelledEntry, node_rows, cell_rows}
use Rattle.mls_rows.specs.Condemning.{Condemns, CondemnsClasses, CondemnsReading}
use Rattle.mls_rows.proofs.CondemningLemmas.{at_classes, at_reading, at_list, at_tuples}
use Rattle.mls_rows.proofs.ByteLemmas.{content_bytes, few_labels}
use Rattle.mls_rows.proofs.FindingLemmas.{are_content, finds, tables_each, tables_spelled}
use Rattle.mls_scheme.specs.Table.{place_cmp}
use Rattle.mls_tables.specs.Adopting.{AreAll}
use Rattle.mls_tables.specs.Rows.{Tables}
use Rattle.mls_rows.specs.Changes.{found}
use Rattle.mls_rows.specs.Holding.{Holds}
use Rattle.mls_rows.proofs.WithinLemmas.{classes_within, rows_within}
use Rattle.mls_rows.proofs.KnownLemmas.{node_rows_read, cell_rows_read, tables_are, same_node_rows, same_cell_rows}
use Rattle.mls_rows.proofs.finding.find.Goals as goal

pub have_rows-requires-clause-spelled : goal.have_rows-requires-clause-spelled
have_rows-requires-clause-spelled c =
    subst (AllByRecursion (λ t. AllByRecursion IsSpelledEntry t.entries)) (sym c.deref-5.ensures.value)
    (tables_spelled (λ t. t.entries) c.deref-2.result.now c.deref-3.result.now c.in_ok-tables.tables.items c.in_ok-tables.ensures.assembled)

pub returns-clause-found : goal.returns-clause-found
returns-clause-found c =
    let ls = labels_of c.args.policy.now in
    let schemes = c.args.schemes.now in
    let tables = map (λ t. t.entries) c.in_ok-tables.tables.items in
    let content = found tables c.in_ok-entries.entries in
    let same = c.in_ok-have_rows.ensures.same c.if-not-branch-2.false in
    let are : AreTables ls schemes tables = subst (λ ts. AreTables ls schemes
    (map (λ t. t.entries) ts)) c.deref-4.ensures.value (c.in_ok-are_content.ensures.are.0 c.if-not-branch.false) in
    let held : (t : Tables) → AreAll t c.args.rows → Holds t content = λ t all.
    finds ls schemes c.args.rows tables c.in_ok-entries.entries
    (subst₂ (λ nodes cells. AreAssembled nodes cells tables) c.deref-2.ensures.value c.deref-3.ensures.value c.in_ok-tables.ensures.assembled)
    are
    (subst (λ ts. IsPermutation (node_rows 0 (map
    (λ t. t.entries) ts)) c.args.rows.nodes.items) c.deref-5.ensures.value same.0)
    (subst (λ ts. IsPermutation (cell_rows 0 (map
    (λ t. t.entries) ts)) c.args.rows.cells.items) c.deref-5.ensures.value same.1)
    c.in_ok-entries.ensures.numbered t all in
    let all_content = are_content ls schemes tables are in
    record {
      held = held;
      sound = record {
        content = all_content;
        classes = λ relation.
            let t : Tables = record {
              nodes = c.args.rows.nodes.items;
              cells = c.args.rows.cells.items;
              audit =
                  c.args.rows.entries.items;
              meta = [];
            } in
            let all : AreAll t c.args.rows = (
              IsPermutation-refl t.nodes,
              (
                IsPermutation-refl t.cells,
                IsPermutation-refl t.audit,
              ),
            ) in
            classes_within c.args.labels t c.args.rows all content (held t all)
            (subst (λ ns. list_all (is_within c.args.labels) ns ≡ true) c.deref.ensures.value
            (sym c.are_within.ensures.all ∙ c.if-not-are_within.false)) relation;
        entries = c.in_ok-entries.ensures.entries;
      };
      classes = content_bytes ls schemes content
          (few_labels c.args.policy.now c.use_invariant.ensures.few_labels) all_content;
      few = search rules;
      spelled = tables_spelled (λ t. t.entries) c.deref-2.result.now c.deref-3.result.now c.in_ok-tables.tables.items c.in_ok-tables.ensures.assembled;
      sorted = tables_each (λ es. IsStrictlySortedBy place_cmp (keys_of es))
          (λ t. t.entries) c.in_ok-tables.tables.items
          (λ relation l. (c.in_ok-tables.ensures.assembled relation l).sorted);
      count = search rules;
      valid = search rules;
      last = search rules;
    }

pub returns-then-not-are_within-clause-only : goal.returns-then-not-are_within-clause-only
returns-then-not-are_within-clause-only c t all content holds sound =
    absurd (true≢false (sym (subst (λ ns. list_all (is_within c.args.labels) ns ≡ true) (sym c.deref.ensures.value)
    (rows_within c.args.labels t c.args.rows all content holds sound.classes))
    ∙ sym c.are_within.ensures.all ∙ c.if-not-are_within.true))

-- ---- rows that hold sound content are refused only for want of memory

pub returns-in_err-tables-clause-only : goal.returns-in_err-tables-clause-only
returns-in_err-tables-clause-only c t all content holds sound =
    let ls = labels_of c.args.policy.now in
    let few = few_labels c.args.policy.now c.use_invariant.ensures.few_labels in
    let nodes = node_rows_read ls few c.args.schemes.now t c.args.rows all content holds sound.content in
    let cells = cell_rows_read ls few c.args.schemes.now t c.args.rows all content holds sound.content in
    let memory = c.in_err-tables.ensures.only (subst (AllByRecursion IsNodeRow) (sym c.deref-2.ensures.value) nodes)
    (subst (AllByRecursion IsCellRow) (sym c.deref-3.ensures.value) cells) in
    search rules

pub returns-then-not-branch-clause-only : goal.returns-then-not-branch-clause-only
returns-then-not-branch-clause-only c t all content holds sound =
    let tables = map (λ t. t.entries) c.in_ok-tables.tables.items in
    let made = subst₂ (λ nodes cells. AreAssembled nodes cells tables) c.deref-2.ensures.value c.deref-3.ensures.value c.in_ok-tables.ensures.assembled in
    let count = length-map c.in_ok-tables.tables.items (λ t. t.entries) ∙ c.in_ok-tables.ensures.count ∙ c.count.ensures
    in
    let are = tables_are (labels_of c.args.policy.now)
    (few_labels c.args.policy.now c.use_invariant.ensures.few_labels) c.args.schemes.now t c.args.rows all content holds sound.content tables count made in
    absurd (true≢false (sym (c.in_ok-are_content.ensures.are.1
    (subst (λ ts. AreTables (labels_of c.args.policy.now) c.args.schemes.now (map (λ t. t.entries) ts))
    (sym c.deref-4.ensures.value) are)) ∙ c.if-not-branch.true))

pub returns-then-not-branch-2-clause-only : goal.returns-then-not-branch-2-clause-only
returns-then-not-branch-2-clause-only c t all content holds sound =
    let tables = map (λ t. t.entries) c.in_ok-tables.tables.items in
    let made = subst₂ (λ nodes cells. AreAssembled nodes cells tables) c.deref-2.ensures.value c.deref-3.ensures.value c.in_ok-tables.ensures.assembled in
    let count = length-map c.in_ok-tables.tables.items (λ t. t.entries) ∙ c.in_ok-tables.ensures.count ∙ c.count.ensures
    in
    let nodes = same_node_rows (labels_of c.args.policy.now)
    (few_labels c.args.policy.now c.use_invariant.ensures.few_labels) c.args.schemes.now t c.args.rows all content holds sound.content tables count made in
    let cells = same_cell_rows (labels_of c.args.policy.now)
    (few_labels c.args.policy.now c.use_invariant.ensures.few_labels) c.args.schemes.now t c.args.rows all content holds sound.content tables count made in
    let same = c.in_ok-have_rows.ensures.only
    (subst (λ ts. AreAlike (λ r. r.rel) (node_rows 0 (map (λ t. t.entries) ts)) c.args.rows.nodes.items)
    (sym c.deref-5.ensures.value) nodes)
    (subst (λ ts. AreAlike (λ r. r.rel) (cell_rows 0 (map (λ t. t.entries) ts)) c.args.rows.cells.items)
    (sym c.deref-5.ensures.value) cells) in
    absurd (true≢false (sym same ∙ c.if-not-branch-2.true))

pub returns-in_err-entries-clause-only : goal.returns-in_err-entries-clause-only
returns-in_err-entries-clause-only c t all content holds sound =
    let memory = c.in_err-entries.ensures.only content.audit
    (IsPermutation-trans _ _ _ holds.audit all.1.1) sound.entries in
    search rules

-- ---- which row is condemned

pub returns-then-not-are_within-clause-condemned : goal.returns-then-not-are_within-clause-condemned
returns-then-not-are_within-clause-condemned c sorted other =
    let at = c.are_within.new.at in
    let bad = c.are_within.ensures.condemned c.if-not-are_within.true in
    at_classes c.args.labels c.args.rows.nodes.items c.args.rows.cells.items c.args.rows.entries.items at (
      bad.0,
      subst (λ ns. CondemnsClasses c.args.labels ns at.row) c.deref.ensures.value bad.1,
    )

pub returns-in_err-tables-clause-condemned : goal.returns-in_err-tables-clause-condemned
returns-in_err-tables-clause-condemned c sorted =
    let at = c.tables_of.new.at in
    let bad : (¬ IsMemory c.in_err-tables.field-0.0)
    → Condemns c.args.labels c.args.rows.nodes.items c.args.rows.cells.items c.args.rows.entries.items at = λ other.
    at_reading c.args.labels c.args.rows.nodes.items c.args.rows.cells.items c.args.rows.entries.items at
    (subst₂ (λ ns cs. CondemnsReading ns cs at) c.deref-2.ensures.value c.deref-3.ensures.value
    (c.in_err-tables.ensures.condemned other)) in
    search rules

pub returns-then-not-branch-clause-condemned : goal.returns-then-not-branch-clause-condemned
returns-then-not-branch-clause-condemned c sorted other =
    at_tuples c.args.labels c.args.rows.nodes.items c.args.rows.cells.items c.args.rows.entries.items c.are_content.new.at (c.in_ok-are_content.ensures.condemned c.if-not-branch.true)

pub returns-then-not-branch-2-clause-condemned : goal.returns-then-not-branch-2-clause-condemned
returns-then-not-branch-2-clause-condemned c sorted other =
    at_tuples c.args.labels c.args.rows.nodes.items c.args.rows.cells.items c.args.rows.entries.items c.have_rows.new.at
    (c.in_ok-have_rows.ensures.condemned c.if-not-branch-2.true)

pub returns-in_err-entries-clause-condemned : goal.returns-in_err-entries-clause-condemned
returns-in_err-entries-clause-condemned c sorted =
    let at = c.entries_of.new.at in
    let bad : (¬ IsMemory c.in_err-entries.field-0.0)
    → Condemns c.args.labels c.args.rows.nodes.items c.args.rows.cells.items c.args.rows.entries.items at = λ other.
    at_list c.args.labels c.args.rows.nodes.items c.args.rows.cells.items c.args.rows.entries.items at
    (c.in_err-entries.ensures.condemned sorted other) in
    search rules
