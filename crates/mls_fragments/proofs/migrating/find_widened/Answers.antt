use Rattle.std.proofs.Common.{◌≡◌, ℕ, ◌<◌, [], length, map, rules, arith, refl, sym, ap, subst, ◌∙◌, slice_index_or}
use Rattle.std.specs.List.{AllByRecursion}
use Rattle.std.specs.List.Sorted.{IsStrictlySortedBy}
use Rattle.std.specs.Map.{keys_of}
use Rattle.std.proofs.lemmas.List.{length-map}
use Rattle.sqlite_trees.proofs.ListLemmas.{all-map}
use Rattle.mls_lattice.specs.Policy.{labels_of}
use Rattle.mls_scheme.specs.Scheme.{Schemes, scheme_of, IsScheme, IsUnder, AreUnder}
use Rattle.mls_scheme.specs.Table.{place_cmp}
use Rattle.mls_scheme.specs.Extending.{scheme_before, schemes_before, AllFirst, AtMost}
use Rattle.mls_scheme.proofs.OlderLemmas.{before_under, before_at, before_long, extends_few, extends_most, extends_at}
use Rattle.mls_filterview.specs.Stored.{IsContent}
use Rattle.mls_rows.specs.Changes.{table_in, found}
use Rattle.mls_rows.specs.Finding.{IsSpelledEntry, IsSoundWithin}
use Rattle.mls_fragments.specs.Migrating.{wide_tables}
use Rattle.mls_rows.proofs.ByteLemmas.{content_bytes, few_labels}
use Rattle.mls_filterview.proofs.MapLemmas.{none_sorted}
use Rattle.mls_rows.proofs.FindingLemmas.{tables_each, are_content, holds_found}
use Rattle.mls_fragments.proofs.MigratingLemmas.{each_table, scheme_each, wide_length, sorted_wide, tables_wide, content_wide, spelled_wide, entries_more}
use Rattle.mls_fragments.proofs.migrating.find_widened.Goals as goal

pub before-requires-clause-some : goal.before-requires-clause-some
before-requires-clause-some c = subst (λ ns. 0 < length ns) (sym c.deref.ensures.value) c.requires.before.extends.some

pub before-requires-clause-first : goal.before-requires-clause-first
before-requires-clause-first c =
    let b = c.requires.before in
    subst (λ ns. AllFirst AtMost ns c.args.design.now.file.now.schemes) (sym c.deref.ensures.value)
    (extends_most c.args.design.now.policy.now c.args.design.now.file.now.schemes b.text c.args.older.now.counts.items b.extends)

pub find-requires : goal.find-requires
find-requires c = record {
  under = subst (AreUnder (length c.args.design.now.policy.now.labels))
      (sym (c.in_ok-before.ensures ∙ ap (λ ns. schemes_before ns c.args.design.now.file.now.schemes) c.deref.ensures.value))
      (before_under (length c.args.design.now.policy.now.labels) c.args.older.now.counts.items c.args.design.now.file.now.schemes c.args.design.now.under);
}

pub returns-in_err-tables-clause-only : goal.returns-in_err-tables-clause-only
returns-in_err-tables-clause-only c t all content holds sound =
    let before = c.in_ok-before.ensures ∙ ap (λ ns. schemes_before ns c.args.design.now.file.now.schemes) c.deref.ensures.value in
    let memory = c.in_err-tables.ensures.only t all content holds
    (subst (λ (ss : Schemes). IsSoundWithin c.args.design.now.policy.now ss c.args.older.now.labels content)
    (sym before) sound) in
    search rules

pub widened_tables-requires-clause-counts : goal.widened_tables-requires-clause-counts
widened_tables-requires-clause-counts c =
    let b = c.requires.before in
    subst (λ ns. AllFirst AtMost ns c.args.design.now.file.now.schemes) (sym c.deref-2.ensures.value)
    (extends_most c.args.design.now.policy.now c.args.design.now.file.now.schemes b.text c.args.older.now.counts.items b.extends)

pub widened_tables-requires-clause-count : goal.widened_tables-requires-clause-count
widened_tables-requires-clause-count c =
    let b = c.requires.before in
    c.in_ok-tables.ensures.found.count ∙ ap length (c.in_ok-before.ensures
    ∙ ap (λ ns. schemes_before ns c.args.design.now.file.now.schemes) c.deref.ensures.value)
    ∙ before_long c.args.older.now.counts.items c.args.design.now.file.now.schemes
    (extends_few c.args.design.now.policy.now c.args.design.now.file.now.schemes b.text c.args.older.now.counts.items b.extends)
    ∙ ap length (sym c.deref-2.ensures.value)

-- ---- what is found

pub returns-clause-widened : goal.returns-clause-widened
returns-clause-widened c =
    let policy = c.args.design.now.policy.now in
    let ls = labels_of policy in
    let schemes = c.args.design.now.file.now.schemes in
    let counts = c.args.older.now.counts.items in
    let b = c.requires.before in
    let f = c.in_ok-tables.ensures.found in
    let lists = c.in_ok-tables.field-0.tables.items in
    let entries = c.in_ok-tables.field-0.entries in
    let fewer = extends_few policy schemes b.text counts b.extends in
    let tables = map (λ t. t.entries) lists in
    let wide = map (λ t. t.entries) c.in_ok-widened_tables.field-0.items in
    let before : c.in_ok-before.before ≡ schemes_before counts schemes = c.in_ok-before.ensures
    ∙ ap (λ ns. schemes_before ns schemes) c.deref.ensures.value in
    let is : wide ≡ wide_tables schemes counts 0 tables = c.in_ok-widened_tables.ensures
    ∙ ap (λ ns. wide_tables schemes ns 0 tables) c.deref-2.ensures.value in
    let sorted : (relation : ℕ) → IsStrictlySortedBy place_cmp (keys_of (slice_index_or tables relation []))
    = each_table (λ es. IsStrictlySortedBy place_cmp (keys_of es)) none_sorted tables
    (all-map (λ es. IsStrictlySortedBy place_cmp (keys_of es)) (λ t. t.entries) lists f.sorted) in
    let spelled : (relation : ℕ) → AllByRecursion IsSpelledEntry (slice_index_or tables relation [])
    = each_table (AllByRecursion IsSpelledEntry) tt tables (all-map (AllByRecursion IsSpelledEntry)
    (λ t. t.entries) lists f.spelled) in
    let shorter : length c.in_ok-before.before ≡ length counts = ap length before ∙ before_long counts schemes fewer in
    let listed : length wide ≡ length tables = ap length is ∙ wide_length schemes counts 0 tables in
    let counted : length tables ≡ length c.in_ok-before.before = length-map lists (λ t. t.entries) ∙ f.count in
    let count : length wide ≡ length counts = listed ∙ counted ∙ shorter in
    let all_content = are_content ls schemes wide (λ relation l.
    let old : relation < length counts = omega (arith, l, count) in
    let within : relation < length schemes = omega (arith, old, fewer) in
    let at : scheme_of c.in_ok-before.before relation ≡ scheme_before (slice_index_or counts relation 0)
    (scheme_of schemes relation) = ap (λ (ss : Schemes). scheme_of ss relation) before
    ∙ before_at counts schemes relation fewer old in
    content_wide schemes counts tables wide is sorted policy relation within
    (subst (λ s. 0 < length s.keys) at (scheme_each IsScheme c.in_ok-before.before f.valid.each relation
    (omega (arith, old, shorter))).some_key)
    (extends_at policy schemes b.text counts b.extends relation old)
    (subst (λ n. IsUnder n (scheme_before (slice_index_or counts relation 0) (scheme_of schemes relation)))
    (sym (length-map policy.labels (λ l. l.value)))
    (subst (IsUnder (length policy.labels)) (before_at counts schemes relation fewer old)
    (scheme_each (IsUnder (length policy.labels)) (schemes_before counts schemes)
    (before_under (length policy.labels) counts schemes c.args.design.now.under) relation
    (omega (arith, old, before_long counts schemes fewer)))))
    (subst (λ s. IsContent ls s (table_in tables relation)) at (f.sound.content relation))) in
    record {
      widened = (
        found tables entries,
        f.held,
        subst (λ (ss : Schemes). IsSoundWithin policy ss c.args.older.now.labels (found tables entries)) before f.sound,
        record { tables = tables_wide schemes counts tables wide is sorted; audit = refl },
      );
      sound = record {
        content = all_content;
        entries = entries_more c.args.older.now.labels (length policy.labels) b.few_labels entries f.sound.entries;
      };
      classes = content_bytes ls schemes (found wide entries) (few_labels policy f.few) all_content;
      holds = λ t nodes cells audit.
          holds_found ls wide entries t (sorted_wide schemes counts tables wide is sorted)
          (spelled_wide schemes counts tables wide is spelled)
          (λ relation. (length (scheme_of schemes relation).others, (all_content relation).stored)) nodes cells audit;
      listed = λ t all. (f.held t all).audit;
      spelled = tables_each (AllByRecursion IsSpelledEntry) (λ t. t.entries) c.in_ok-widened_tables.field-0.items
          (λ relation l. spelled_wide schemes counts tables wide is spelled relation);
      count = (let few = f.valid.few in omega (
        arith,
        listed,
        counted,
        few,
        length-map c.in_ok-widened_tables.field-0.items (λ t. t.entries),
      ));
      last = search rules;
    }

pub returns-in_err-tables-clause-condemned : goal.returns-in_err-tables-clause-condemned
returns-in_err-tables-clause-condemned c sorted =
    let bad = c.in_err-tables.ensures.condemned sorted in
    search rules
