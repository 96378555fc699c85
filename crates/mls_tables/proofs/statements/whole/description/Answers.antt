use Rattle.std.proofs.Common.{inl, [], sym, subst, arith}
use Rattle.sqlite.specs.Held.{state}
use Rattle.sqlite.specs.Listing.{understood}
use Rattle.sqlite.proofs.Callers.{IsPlain}
use Rattle.mls_tables.specs.Schema.{HasTables}
use Rattle.mls_tables.proofs.DescriptionLemmas.{described, described_badly}
use Rattle.mls_tables.proofs.EndLemmas.{always_ok, always_err, fails_ended, keeps, shown_unchanged}
use Rattle.mls_tables.proofs.Finds.{finds_meta}
use Rattle.mls_tables.proofs.Texts.{all_meta, all_meta_is}
use Rattle.mls_tables.proofs.statements.whole.description.Goals as goal

pub returns-in-Ok : goal.returns-in-Ok
returns-in-Ok g c =
    let old = state g.S.Store c.args.conn.now in
    let new = state g.S.Store c.query_all.new.self in
    let rows = c.in-Ok.rows.items in
    let plain : HasTables old.now.schema → IsPlain (understood old.now.schema all_meta) =
    λ has. subst (λ s. IsPlain (understood s all_meta)) (sym has.is) (all_meta_is has.others).1 in
    record {
      clean = λ clean. omega (arith, c.query_all.ensures.survives.clean);
      says = λ clean has. described (old.now.trees 5) rows (finds_meta old new has rows
          (c.in-Ok.ensures.ok clean)) has c.shown_description.result
          (rw c.deref.ensures.value at c.shown_description.ensures.whole)
          (rw c.deref.ensures.value at c.shown_description.ensures.ok);
      same = λ clean has. always_ok c.shown_description.result _ (shown_unchanged all_meta [] old new rows (plain has)
          (c.in-Ok.ensures.ok clean));
      left = λ clean has. always_err c.shown_description.result _
          (keeps old new (inl (shown_unchanged all_meta [] old new rows (plain has) (c.in-Ok.ensures.ok clean))));
      bad = λ clean has. described_badly (old.now.trees 5) rows (finds_meta old new has rows
          (c.in-Ok.ensures.ok clean)) c.shown_description.result
          (rw c.deref.ensures.value at c.shown_description.ensures.bad);
    }

pub returns-in-Err : goal.returns-in-Err
returns-in-Err g c =
    let old = state g.S.Store c.args.conn.now in
    let new = state g.S.Store c.query_all.new.self in
    record {
      clean = λ clean. omega (arith, c.query_all.ensures.survives.clean);
      says = λ clean has. tt;
      same = λ clean has. tt;
      left = λ clean has. keeps old new (fails_ended old new all_meta [] _ (c.in-Err.ensures.err clean));
      bad = λ clean has is. absurd (c.of_store.ensures is);
    }
