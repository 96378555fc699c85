use Rattle.std.proofs.Common.{◌≡◌, sym, ap, subst, subst₂, ◌∙◌, [], ◌∷◌, Result, Ok, Err, IfOk, IfSome, string_bytes}
use Rattle.std.proofs.lemmas.Result.{IfErr-weaker}
use Rattle.mls_audit.specs.Sound.{IsSoundContent}
use Rattle.sqlite.specs.Effect.{Database}
use Rattle.sqlite.specs.Held.{state}
use Rattle.mls_tables.specs.Rows.{first_meta, is_meta_row, tables_of}
use Rattle.mls_tables.specs.Statements.{AreRows}
use Rattle.mls_rows.specs.Holding.{Holds}
use Rattle.mls_fragments.specs.Holdings.{HaveOneMeta}
use Rattle.mls_fragments.specs.Migrating.{IsLineage, IsSoundBefore}
use Rattle.mls_fragments.specs.Opening.{HoldsContent, HoldsSound, IsMigrated, IsUntaken, not_sound, not_sound_before}
use Rattle.mls_fragments.specs.Based.{BaseState}
use Rattle.mls_fragments.proofs.HoldingsLemmas.{meta_of_described, base_as_it_was, base_widened}
use Rattle.mls_fragments.proofs.OpeningLemmas.{undescribed, read_refused}
use Rattle.mls_fragments.proofs.opening.opened.Goals as goal

ok_both : {A E : Type 0} (r : Result A E) (P Q R : A → Type 0) → ((a : A) → P a → Q a → R a) → IfOk r P → IfOk r Q
    → IfOk r R
ok_both (Ok a) P Q R f p q = f a p q
ok_both (Err e) P Q R f p q = tt

pub returns-in-Err-clause-unopened : goal.returns-in-Err-clause-unopened
returns-in-Err-clause-unopened g c =
    let read = c.in-Err.ensures.reading in
    undescribed (state g.S.Store c.args.conn)
    (state g.S.Store c.read_description.new.conn) c.args.design.now.policy.now c.args.design.now.file.now c.in-Err.fault _ read.clean read.left read.bad c.from.ensures

pub taken-requires : goal.taken-requires
taken-requires g c = record {
  described = λ disk.
      let described = c.in-Ok.ensures.described disk in
      subst (λ (db : Database). AreRows is_meta_row (db.trees 5) × HaveOneMeta (tables_of db.trees))
      (sym (c.in-Ok.ensures.read disk).same)
      (described.1.0, meta_of_described c.in-Ok.described (state g.S.Store c.args.conn).now described);
}

pub returns-in-Ok-Some-Same-clause-over : goal.returns-in-Ok-Some-Same-clause-over
returns-in-Ok-Some-Same-clause-over g c =
    let lineage = IsLineage c.args.design.now.policy.now c.args.design.now.file.now c.in-Ok.described in
    let texts = subst lineage c.in-Ok-Some-Same.field-0-0-is
    (subst (λ o. IfSome o lineage) c.in-Ok-Some-Same.field-0-is c.in-Ok-Some-Same.ensures.found) in
    ok_both c.taken.result _ _ _ (λ (b : BaseState) rows
    (content : HoldsContent c.args.design.now.policy.now c.args.design.now.file.now.schemes b) clean.
    let is = rows clean in (
      c.in-Ok.ensures.reading.clean is.0,
      base_as_it_was c.args.design.now.policy.now c.args.design.now.file.now
          (state g.S.Store c.args.conn).now b c.in-Ok.described (c.in-Ok.ensures.described is.0) texts
          (is.1 ∙ ap (λ (db : Database). tables_of db.trees) (c.in-Ok.ensures.read is.0).same) (content.holds clean),
    )) c.taken.ensures.rows c.taken.ensures.content

pub returns-in-Ok-Some-Same-clause-unopened : goal.returns-in-Ok-Some-Same-clause-unopened
returns-in-Ok-Some-Same-clause-unopened g c =
    let lineage = IsLineage c.args.design.now.policy.now c.args.design.now.file.now c.in-Ok.described in
    let texts = subst lineage c.in-Ok-Some-Same.field-0-0-is
    (subst (λ o. IfSome o lineage) c.in-Ok-Some-Same.field-0-is c.in-Ok-Some-Same.ensures.found) in
    let old = state g.S.Store c.args.conn in
    let mid = state g.S.Store c.read_description.new.conn in
    let read = c.in-Ok.ensures.read in
    let Sound = IsSoundContent c.args.design.now.policy.now c.args.design.now.file.now.schemes in
    IfErr-weaker c.taken.result _ _ (λ e (untaken : IsUntaken Sound mid (state g.S.Store e.1) e.0). record {
      refused = read_refused old (state g.S.Store e.1) mid c.in-Ok.ensures.reading.clean c.in-Ok.ensures.reading.was_open (λ disk. (read disk).same) (λ disk. (read disk).committed) untaken.refused;
      texts = λ clean is. absurd (untaken.texts is);
      bad = λ clean is.
          let disk = (untaken.refused clean).clean in
          not_sound c.in-Ok.described (c.in-Ok.ensures.described disk) texts
          (subst (λ (db : Database). ¬ HoldsSound Sound db) (read disk).same (untaken.bad clean is));
    }) c.taken.ensures.untaken

pub returns-in-Ok-Some-Older-clause-over : goal.returns-in-Ok-Some-Older-clause-over
returns-in-Ok-Some-Older-clause-over g c =
    let lineage = IsLineage c.args.design.now.policy.now c.args.design.now.file.now c.in-Ok.described in
    let extended = subst lineage c.in-Ok-Some-Older.field-0-0-is
    (subst (λ o. IfSome o lineage) c.in-Ok-Some-Older.field-0-is c.in-Ok-Some-Older.ensures.found) in
    let older = c.in-Ok-Some-Older.older in
    ok_both c.migrated.result _ _ _ (λ (b : BaseState)
    (migrated : IsMigrated c.args.design.now.policy.now c.args.design.now.file.now.schemes older.labels older.counts.items (first_meta 2 (string_bytes c.args.texts.now.0) (string_bytes c.args.texts.now.1)) (state g.S.Store c.read_description.new.conn) b) (content : HoldsContent c.args.design.now.policy.now c.args.design.now.file.now.schemes b) clean.
    let disk = migrated.clean clean in
    let w = migrated.widened clean in (
      c.in-Ok.ensures.reading.clean disk,
      base_widened c.args.design.now.policy.now c.args.design.now.file.now
          (state g.S.Store c.args.conn).now b c.in-Ok.described older.labels older.counts.items w.0
          (c.in-Ok.ensures.described disk) extended
          (subst (λ (db : Database). Holds (tables_of db.trees) w.0) (c.in-Ok.ensures.read disk).same w.1) w.2 w.3
          (subst₂ (λ lattice schemes. b.tables.now.meta ≡ first_meta 2 lattice schemes
          ∷ []) c.requires.texts.labels_are c.requires.texts.schemes_are (migrated.meta clean))
          (content.holds clean),
    )) c.migrated.ensures.migrated c.migrated.ensures.content

pub returns-in-Ok-Some-Older-clause-unopened : goal.returns-in-Ok-Some-Older-clause-unopened
returns-in-Ok-Some-Older-clause-unopened g c =
    let lineage = IsLineage c.args.design.now.policy.now c.args.design.now.file.now c.in-Ok.described in
    let extended = subst lineage c.in-Ok-Some-Older.field-0-0-is
    (subst (λ o. IfSome o lineage) c.in-Ok-Some-Older.field-0-is c.in-Ok-Some-Older.ensures.found) in
    let older = c.in-Ok-Some-Older.older in
    let old = state g.S.Store c.args.conn in
    let mid = state g.S.Store c.read_description.new.conn in
    let read = c.in-Ok.ensures.read in
    let Sound = IsSoundBefore c.args.design.now.policy.now c.args.design.now.file.now.schemes older.labels older.counts.items in
    IfErr-weaker c.migrated.result _ _ (λ e (untaken : IsUntaken Sound mid (state g.S.Store e.1) e.0). record {
      refused = read_refused old (state g.S.Store e.1) mid c.in-Ok.ensures.reading.clean c.in-Ok.ensures.reading.was_open (λ disk. (read disk).same) (λ disk. (read disk).committed) untaken.refused;
      texts = λ clean is. absurd (untaken.texts is);
      bad = λ clean is.
          let disk = (untaken.refused clean).clean in
          not_sound_before c.in-Ok.described older.labels older.counts.items (c.in-Ok.ensures.described disk) extended
          (subst (λ (db : Database). ¬ HoldsSound Sound db) (read disk).same (untaken.bad clean is));
    }) c.migrated.ensures.untaken
