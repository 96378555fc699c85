use Rattle.std.proofs.Common.{sym, ap, subst, subst₂, ◌∙◌}
use Rattle.sqlite.specs.Effect.{Database}
use Rattle.sqlite.specs.Held.{state}
use Rattle.mls_filterview.specs.Content.{State}
use Rattle.mls_audit.specs.Sound.{IsSoundContent}
use Rattle.mls_tables.specs.Rows.{tables_of}
use Rattle.mls_tables.specs.Store.{TableState, IsClean}
use Rattle.mls_rows.specs.Changes.{content_of}
use Rattle.mls_rows.specs.Finding.{IsSoundWithin}
use Rattle.mls_rows.specs.Holding.{Holds}
use Rattle.mls_fragments.specs.Holdings.{HaveOneMeta}
use Rattle.mls_fragments.proofs.OpeningLemmas.{unread, unfound}
use Rattle.mls_rows.proofs.WithinLemmas.{within_whole, sound_whole}
use Rattle.mls_fragments.proofs.opening.taken.Goals as goal

pub returns-in-Err-judge-clause-untaken : goal.returns-in-Err-judge-clause-untaken
returns-in-Err-judge-clause-untaken g c =
    let read = c.in-Ok.ensures.reading in
    unfound (state g.S.Store c.args.conn) (state g.S.Store c.read_store.new.conn)
    (IsSoundContent c.args.design.now.policy.now c.args.design.now.file.now.schemes) c.in-Ok.rows c.in-Err-judge.fault _ read.clean read.was_open c.in-Ok.ensures.adopted c.from-in-Err-judge.ensures (λ clean sound.
    c.in-Err-judge.ensures.only _ (c.in-Ok.ensures.adopted clean).all sound.1.0 sound.1.1
    (subst (λ n. IsSoundWithin c.args.design.now.policy.now c.args.design.now.file.now.schemes n sound.1.0)
    (sym c.label_count.ensures.count) (within_whole c.args.design.now.policy.now c.args.design.now.file.now.schemes sound.1.0 sound.1.2)))

pub returns-in-Err-clause-untaken : goal.returns-in-Err-clause-untaken
returns-in-Err-clause-untaken g c =
    let read = c.in-Err.ensures.reading in
    unread (state g.S.Store c.args.conn) (state g.S.Store c.read_store.new.conn)
    (IsSoundContent c.args.design.now.policy.now c.args.design.now.file.now.schemes) c.in-Err.fault _ read.clean read.left read.bad c.from.ensures

pub over_found-requires-clause-noted : goal.over_found-requires-clause-noted
over_found-requires-clause-noted g c clean =
    let disk = c.over.ensures.clean clean in
    let adopted = c.in-Ok.ensures.adopted disk in
    let same = (c.over.ensures.rows clean).0 ∙ ap (λ (db : Database). tables_of db.trees) adopted.same in
    record {
      meta = subst HaveOneMeta (sym same) (c.requires.described (c.in-Ok.ensures.reading.clean disk)).1;
      holds = subst (λ t. Holds t (content_of c.in-Ok-judge.noted.content.changes)) (sym same)
          (c.in-Ok-judge.ensures.held.0 _ adopted.all);
      classes = c.in-Ok-judge.ensures.held.1;
      last = c.in-Ok-judge.ensures.last;
    }

pub returns-in-Ok-judge-clause-content : goal.returns-in-Ok-judge-clause-content
returns-in-Ok-judge-clause-content g c =
    let content = content_of c.in-Ok-judge.noted.content.changes in
    let within = subst (λ n. IsSoundWithin c.args.design.now.policy.now c.args.design.now.file.now.schemes n content) c.label_count.ensures.count c.in-Ok-judge.ensures.sound in
    let is = c.over_found.ensures.content in
    record {
      holds = λ clean.
          let inside = subst IsClean c.over_found.ensures.tables clean in
          let adopted = c.in-Ok.ensures.adopted (c.over.ensures.clean inside) in
          let same = ap (λ (t : TableState). t.now) c.over_found.ensures.tables ∙ ((c.over.ensures.rows inside).0
          ∙ ap (λ (db : Database). tables_of db.trees) adopted.same) in
          subst₂ (λ t (s : State). Holds t s.now) (sym same) (sym is) (c.in-Ok-judge.ensures.held.0 _ adopted.all);
      sound = subst (λ (s : State). IsSoundContent c.args.design.now.policy.now c.args.design.now.file.now.schemes s.now) (sym is) (sound_whole c.args.design.now.policy.now c.args.design.now.file.now.schemes content within);
      mode = ap (λ (s : State). s.begun) is;
    }

pub returns-in-Ok-judge-clause-rows : goal.returns-in-Ok-judge-clause-rows
returns-in-Ok-judge-clause-rows g c clean =
    let inside = subst IsClean c.over_found.ensures.tables clean in
    let disk = c.over.ensures.clean inside in (
      c.in-Ok.ensures.reading.clean disk,
      ap (λ (t : TableState). t.now) c.over_found.ensures.tables ∙ ((c.over.ensures.rows inside).0
          ∙ ap (λ (db : Database). tables_of db.trees) (c.in-Ok.ensures.adopted disk).same),
    )
