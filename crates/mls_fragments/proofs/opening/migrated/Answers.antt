use Rattle.std.proofs.Common.{inr, false, map, refl, sym, ap, subst, ◌∙◌, IsPermutation}
use Rattle.sqlite.specs.Held.{state}
use Rattle.sqlite.specs.State.{HasCleanDisk}
use Rattle.mls_filterview.specs.Content.{State}
use Rattle.mls_tables.specs.Rows.{Tables, numbered, tables_of}
use Rattle.mls_tables.specs.Store.{TableState, IsClean}
use Rattle.mls_fragments.specs.Based.{state_with}
use Rattle.mls_rows.specs.Changes.{content_of}
use Rattle.mls_rows.specs.Finding.{content_found}
use Rattle.mls_rows.specs.Holding.{Holds}
use Rattle.mls_fragments.specs.Holdings.{HaveOneMeta}
use Rattle.mls_fragments.specs.Migrating.{IsSoundBefore, IsWidenedContent}
use Rattle.mls_fragments.proofs.NotedLemmas.{noted_found}
use Rattle.mls_fragments.proofs.OpeningLemmas.{unread, unfound}
use Rattle.mls_fragments.proofs.opening.migrated.Goals as goal

pub returns-in-Err-clause-untaken : goal.returns-in-Err-clause-untaken
returns-in-Err-clause-untaken g c =
    let a = c.args in
    let read = c.in-Err.ensures.reading in
    unread (state g.S.Store a.conn) (state g.S.Store c.read_store.new.conn)
    (IsSoundBefore a.design.now.policy.now a.design.now.file.now.schemes a.older.now.labels a.older.now.counts.items) c.in-Err.fault _ read.clean read.left read.bad c.from.ensures

pub returns-in-Err-find_widened-clause-untaken : goal.returns-in-Err-find_widened-clause-untaken
returns-in-Err-find_widened-clause-untaken g c =
    let a = c.args in
    let read = c.in-Ok.ensures.reading in
    unfound (state g.S.Store a.conn) (state g.S.Store c.read_store.new.conn)
    (IsSoundBefore a.design.now.policy.now a.design.now.file.now.schemes a.older.now.labels a.older.now.counts.items) c.in-Ok.rows c.in-Err-find_widened.fault _ read.clean read.was_open c.in-Ok.ensures.adopted c.from-in-Err-find_widened.ensures (λ clean sound.
    c.in-Err-find_widened.ensures.only _ (c.in-Ok.ensures.adopted clean).all sound.1.0 sound.1.1 sound.1.2)

pub rewritten-requires-clause-tables : goal.rewritten-requires-clause-tables
rewritten-requires-clause-tables g c =
    let widened = c.in-Ok-find_widened.ensures.widened in
    record { few = widened.count; spelled = widened.spelled }

pub over_found-requires-clause-noted : goal.over_found-requires-clause-noted
over_found-requires-clause-noted g c clean =
    let disk = c.over.ensures.clean clean in
    let f = c.in-Ok-find_widened.found in
    let rewritten = c.in-Ok-rewritten.ensures.rewritten disk in
    let adopted = c.in-Ok.ensures.adopted (c.in-Ok-rewritten.ensures.clean disk) in
    let listed = subst (IsPermutation (numbered 1 f.entries))
    (sym (rewritten.rows.audit ∙ ap (λ db. (tables_of db.trees).audit) adopted.same))
    (c.in-Ok-find_widened.ensures.widened.listed (tables_of (state g.S.Store c.args.conn).now.trees) adopted.all) in
    let holds = c.in-Ok-find_widened.ensures.widened.holds
    (tables_of (state g.S.Store c.rewritten.new.conn).now.trees) rewritten.rows.nodes_are rewritten.rows.cells_are listed in
    noted_found (map (λ t. t.entries) f.tables.items) f.entries c.over.result.now c.find.result c.find.ensures.content
    (c.find.ensures.last ∙ c.in-Ok-find_widened.ensures.widened.last)
    (subst HaveOneMeta (sym (c.over.ensures.rows clean).0) (record {
      row = _;
      one = rewritten.rows.meta;
      version =
          inr refl;
    }))
    c.in-Ok-find_widened.ensures.widened.classes (subst (λ t. Holds t (content_found f))
    (sym (c.over.ensures.rows clean).0) holds)

pub returns-in-Ok-rewritten-clause-migrated : goal.returns-in-Ok-rewritten-clause-migrated
returns-in-Ok-rewritten-clause-migrated g c =
    let tables = c.over_found.ensures.tables in
    let disk : IsClean (c.over_found.result.tables) → HasCleanDisk (state g.S.Store c.rewritten.new.conn) =
    λ clean. c.over.ensures.clean (subst IsClean tables clean) in
    record {
      clean = λ clean. c.in-Ok.ensures.reading.clean (c.in-Ok-rewritten.ensures.clean (disk clean));
      widened = λ clean.
          let w = c.in-Ok-find_widened.ensures.widened.widened in (
            w.0,
            w.1 _ (c.in-Ok.ensures.adopted (c.in-Ok-rewritten.ensures.clean (disk clean))).all,
            w.2,
            subst (λ (s : State). IsWidenedContent c.args.design.now.file.now.schemes c.args.older.now.counts.items w.0 s.now) (sym (c.over_found.ensures.content ∙ ap (λ changes. state_with (content_of changes) (content_of changes) false) c.find.ensures.content)) w.3,
          );
      meta = λ clean.
          ap (λ (t : TableState). t.now.meta) tables
          ∙ (ap (λ (t : Tables). t.meta) (c.over.ensures.rows (subst IsClean tables clean)).0
          ∙ (c.in-Ok-rewritten.ensures.rewritten (disk clean)).rows.meta);
    }
